use Rattle.std.proofs.Common.{◌≡◌, ℕ, zero, suc, ◌+◌, ◌*◌, ◌/◌, ◌%◌, ◌^◌, ◌<◌, ◌≤◌, List, get_or, sym, refl, ◌∙◌, arith}
use Rattle.std.proofs.lemmas.Nat.{mod-pow-add}
use Rattle.layout.specs.Bits.{bit_at}
use Rattle.layout.specs.Words.{byte_at, word_at}
use Rattle.layout.specs.Laws.{AlikeReadAlike}
use Rattle.layout.proofs.Counting.{bit_of}

-- numbers with the same k lowest bits
low_alike : (x y k : ℕ) → ((j : ℕ) → j < k → x / 2 ^ j % 2 ≡ y / 2 ^ j % 2) → x % 2 ^ k ≡ y % 2 ^ k
low_alike x y zero h = omega arith
low_alike x y (suc k) h =
    let e : x % 2 ^ k ≡ y % 2 ^ k = low_alike x y k (λ j l. h j (omega arith)) in
    let f : x / 2 ^ k % 2 ≡ y / 2 ^ k % 2 = h k (omega arith) in
    let p = mod-pow-add x 1 k in
    let q = mod-pow-add y 1 k in
    let s : 1 + k ≡ suc k = omega arith in
    rw (sym s) (p ∙ (rw (e, f) refl) ∙ sym q)

pub byte_alike : (b c : List ℕ) (p : ℕ) → ((k : ℕ) → 8 * p ≤ k → k < 8 * p + 8 → bit_at b k ≡ bit_at c k) → byte_at b p ≡ byte_at c p
byte_alike b c p h =
    low_alike (get_or b p 0) (get_or c p 0) 8
    (λ j l. sym (bit_of b p j l) ∙ h (8 * p + j) (omega arith) (omega arith) ∙ bit_of c p j l)

pub word_alike : AlikeReadAlike
unfolding word_at
word_alike b c p zero h = refl
word_alike b c p (suc w) h =
    let e : byte_at b p ≡ byte_at c p = byte_alike b c p (λ k l m. h k (omega arith) (omega arith)) in
    let f : word_at b (p + 1) w ≡ word_at c (p + 1) w = word_alike b c (p + 1) w (λ k l m. h k (omega arith) (omega arith)) in
    rw (e, f) refl
