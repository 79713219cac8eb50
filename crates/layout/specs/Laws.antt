use Rattle.std.specs.Prelude.{◌≡◌, ℕ, zero, suc, ◌+◌, ◌*◌, ◌/◌, ◌%◌, ◌^◌, ◌<◌, ◌≤◌, not, ◌⊎◌, List, length, pos, negsuc, ◌+ℤ◌, Some, ◌==◌, bit_and, slice_index}
use Rattle.layout.specs.declared.marks.Marks.{Marks}
use Rattle.layout.specs.Bits.{bit_at, zeros_from}
use Rattle.layout.specs.Words.{byte_at, word_at, signed_of, word_of, put_word}
use Rattle.layout.specs.Marks.{mark_of}
use Rattle.layout.specs.Needs.{counts}

-- f 0 + .. + f (n - 1)
unfoldable pub sum_below : (ℕ → ℕ) → ℕ → ℕ
sum_below f zero = 0
sum_below f (suc n) = sum_below f n + f n

-- a slot is valid where bitmap[j / 8] & (1 << (j % 8)) is not 0, the bitmap starting at the marks' place
abbrev pub ValidWhereBitSet : Type 0
ValidWhereBitSet =
    (m : Marks) (b : List ℕ) (k : ℕ)
    → mark_of (Some m) b k ≡ not (bit_and (slice_index b (m.place + (m.first + k) / 8)) (2 ^ ((m.first + k) % 8)) == 0)

-- a word is the sum of its bytes times powers of 256, lowest first
abbrev pub WordIsSum : Type 0
WordIsSum = (b : List ℕ) (p w : ℕ) → word_at b p w ≡ sum_below (λ i. byte_at b (p + i) * 256 ^ i) w

-- two's complement: a word below half of its range is itself, another is the number that is 256 ^ w less
abbrev pub TwosComplement : Type 0
TwosComplement =
    (w n : ℕ) → n < 256 ^ w
    → ((2 * n < 256 ^ w) → signed_of w n ≡ pos n) × ((256 ^ w ≤ 2 * n) → signed_of w n +ℤ pos (256 ^ w) ≡ pos n)

-- a signed number in the range of w bytes has one word, which reads as that number
abbrev pub SignedIsRead : Type 0
SignedIsRead =
    (w n : ℕ) → ((2 * n < 256 ^ w) → signed_of w (word_of w (pos n)) ≡ pos n)
    × ((2 * suc n ≤ 256 ^ w) → signed_of w (word_of w (negsuc n)) ≡ negsuc n)

-- what is written is read back
abbrev pub WrittenIsRead : Type 0
WrittenIsRead =
    (w : ℕ) (b : List ℕ) (p v : ℕ) → p + w ≤ length b → v < 256 ^ w → word_at (put_word w b p v) p w ≡ v

-- a write changes no other bit, and no length
abbrev pub OthersStay : Type 0
OthersStay =
    (w : ℕ) (b : List ℕ) (p v : ℕ)
    → (length (put_word w b p v) ≡ length b)
    × ((k : ℕ) → (k < 8 * p) ⊎ (8 * (p + w) ≤ k) → bit_at (put_word w b p v) k ≡ bit_at b k)

-- two bodies alike in a word's bits read the same
abbrev pub AlikeReadAlike : Type 0
AlikeReadAlike =
    (b c : List ℕ) (p w : ℕ) → ((k : ℕ) → 8 * p ≤ k → k < 8 * (p + w) → bit_at b k ≡ bit_at c k) → word_at b p w ≡ word_at c p w

-- the zero bits counted are those of the slots whose mark is null
abbrev pub ZerosAreNulls : Type 0
ZerosAreNulls =
    (m : Marks) (b : List ℕ) (n : ℕ) → zeros_from b (8 * m.place + m.first) n ≡ counts (λ k. not (mark_of (Some m) b k)) n
