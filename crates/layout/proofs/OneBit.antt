use Rattle.std.proofs.Common.{◌≡◌, ℕ, zero, suc, ◌+◌, ◌-◌, ◌*◌, ◌/◌, ◌%◌, ◌^◌, List, [], ◌∷◌, get_or, refl, ap, arith}
use native.Mathlib.Decide.{ℕ_discrete, dec_le}
use Rattle.std.proofs.lemmas.Nat.{pow-add, shr_high, pow_below, pow_pos}
use Rattle.layout.specs.Bits.{bit_at}

-- n zero bytes and the byte v
alone : ℕ → ℕ → List ℕ
alone zero v = v ∷ []
alone (suc n) v = 0 ∷ alone n v

alone_there : (n v : ℕ) → get_or (alone n v) n 0 ≡ v
unfolding alone
alone_there zero v = refl
alone_there (suc n) v = alone_there n v

alone_else : (n v p : ℕ) → (p ≡ n → ⊥) → get_or (alone n v) p 0 ≡ 0
unfolding alone
alone_else zero v zero h = absurd (h refl)
alone_else zero v (suc p) h = refl
alone_else (suc n) v zero h = refl
alone_else (suc n) v (suc p) h = alone_else n v p (λ e. h (omega arith))

-- a power of two has no other bit
pub power_bit : (x y : ℕ) → (y ≡ x → ⊥) → 2 ^ x / 2 ^ y % 2 ≡ 0
power_bit x y h =
    elim (dec_le x y) [
      | yes l ↦ (let e = shr_high 0 y (2 ^ x) (pow_below x y (omega arith)) in
          let z : 0 * 2 ^ y + 2 ^ x ≡ 2 ^ x = omega arith in
          let f : 2 ^ x / 2 ^ y ≡ 0 = rw z at e in rw f refl)
      | no l ↦ (let s : x ≡ (1 + (x - y - 1)) + y = omega arith in
          let p : 2 ^ ((1 + (x - y - 1)) + y) ≡ 2 ^ (1 + (x - y - 1)) * 2 ^ y = pow-add 2 (1 + (x - y - 1)) y in
          let q : 2 ^ (1 + (x - y - 1)) ≡ 2 * 2 ^ (x - y - 1) = pow-add 2 1 (x - y - 1) in
          let e = shr_high (2 ^ (1 + (x - y - 1))) y 0 (pow_pos y) in
          let t : 2 ^ x ≡ 2 ^ ((1 + (x - y - 1)) + y) = ap (λ u. 2 ^ u) s in
          let z : 2 ^ (1 + (x - y - 1)) * 2 ^ y + 0 ≡ 2 ^ x = omega arith in
          let f : 2 ^ x / 2 ^ y ≡ 2 ^ (1 + (x - y - 1)) = rw z at e in
          rw (f, q) (omega arith))
    ]

-- a body whose bit k alone is 1
pub one_bit : ℕ → List ℕ
one_bit k = alone (k / 8) (2 ^ (k % 8))

pub one_there : (k : ℕ) → bit_at (one_bit k) k ≡ 1
unfolding one_bit
one_there k =
    let e = shr_high 1 (k % 8) 0 (pow_pos (k % 8)) in
    let z : 1 * 2 ^ (k % 8) + 0 ≡ 2 ^ (k % 8) = omega arith in
    let f : 2 ^ (k % 8) / 2 ^ (k % 8) ≡ 1 = rw z at e in
    rw (alone_there (k / 8) (2 ^ (k % 8)), f) refl

pub no_bit : (k : ℕ) → bit_at [] k ≡ 0
no_bit k =
    let e = shr_high 0 (k % 8) 0 (pow_pos (k % 8)) in
    let z : 0 * 2 ^ (k % 8) + 0 ≡ 0 = omega arith in
    let f : 0 / 2 ^ (k % 8) ≡ 0 = rw z at e in
    rw f refl

pub one_else : (k j : ℕ) → (j ≡ k → ⊥) → bit_at (one_bit k) j ≡ bit_at [] j
unfolding one_bit
one_else k j h =
    elim (ℕ_discrete (j / 8) (k / 8)) [
      | yes e ↦ (let n : j % 8 ≡ k % 8 → ⊥ = λ q. h (omega arith) in
          rw (no_bit j, e, alone_there (k / 8) (2 ^ (k % 8))) (power_bit (k % 8) (j % 8) n))
      | no e ↦ ap (λ x. x / 2 ^ (j % 8) % 2) (alone_else (k / 8) (2 ^ (k % 8)) (j / 8) e)
    ]
