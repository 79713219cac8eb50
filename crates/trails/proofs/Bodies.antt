-- What writing a number does to the words and bits of a body.
use Rattle.std.proofs.Common.{◌≡◌, ℕ, ◌+◌, ◌*◌, ◌<◌, ◌≤◌, List, length, inl, inr, arith, le-leb}
use Rattle.layout.specs.Bits.{bit_at}
use Rattle.layout.specs.Words.{word_at, put_word, written}
use Rattle.layout.proofs.Sameness.{word_alike}
use Rattle.layout.proofs.WordLaws.{others_stay, written_is_read}

-- a number written at 2 × k is read there, and nothing else changes
pub word_there : (b : List ℕ) (k v : ℕ) → 2 * k + 2 ≤ length b → v < 65536 → word_at (written 2 b (2 * k) v) (2 * k) 2 ≡ v
word_there b k v h l = rw (le-leb (2 * k + 2) (length b) h) (written_is_read 2 b (2 * k) v h l)

pub bits_else : (b : List ℕ) (k v t : ℕ) → 2 * k + 2 ≤ length b → 16 * k + 16 ≤ t → bit_at (written 2 b (2 * k) v) t ≡ bit_at b t
bits_else b k v t h l = rw (le-leb (2 * k + 2) (length b) h) ((others_stay 2 b (2 * k) v).1 t (inr (omega arith)))

pub word_else : (b : List ℕ) (k v j : ℕ) → 2 * k + 2 ≤ length b → j < k → word_at (written 2 b (2 * k) v) (2 * j) 2 ≡ word_at b (2 * j) 2
word_else b k v j h l =
    rw (le-leb (2 * k + 2) (length b) h)
    (word_alike (put_word 2 b (2 * k) v) b (2 * j) 2 (λ t x y. (others_stay 2 b (2 * k) v).1 t (inl (omega arith))))
