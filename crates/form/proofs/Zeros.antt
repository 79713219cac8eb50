-- The low digits that are 0, four bits each.
use Rattle.std.proofs.Common.{◌≡◌, ℕ, zero, suc, ◌+◌, ◌*◌, ◌/◌, ◌%◌, ◌^◌, ◌<◌, refl, ap, ap₂, pow-suc, arith}
use lib.Count.{count_trailing_zeros, under}

-- four times k
abbrev bits : ℕ → ℕ
bits zero = zero
bits (suc k) = suc (suc (suc (suc (bits k))))

zeros_even : (k n : ℕ) → count_trailing_zeros (suc k) (2 * n) ≡ suc (count_trailing_zeros k n)
unfolding count_trailing_zeros
zeros_even k n =
    let e : 2 * n % 2 ≡ 0 = omega arith in
    let h : 2 * n / 2 ≡ n = omega arith in
    ap₂ (λ d m. under d (count_trailing_zeros k m)) e h

zeros_digit : (k n : ℕ) → count_trailing_zeros (bits (suc k)) (2 * (2 * (2 * (2 * n)))) ≡ 4 + count_trailing_zeros (bits k) n
zeros_digit k n = simp zeros_even (omega arith)

under_lt : (d t k : ℕ) → (d ≡ 0 → t < k) → under d t < suc k
under_lt zero t k h = omega (arith, h refl)
under_lt (suc d) t k h = omega arith

zeros_lt : (k n i : ℕ) → (n % 2 ≡ 0 → count_trailing_zeros k (n / 2) < i) → count_trailing_zeros (suc k) n < suc i
unfolding count_trailing_zeros
zeros_lt k n i h = under_lt (n % 2) (count_trailing_zeros k (n / 2)) i h

zeros_last : (k n : ℕ) → (n % 16 ≡ 0 → ⊥) → count_trailing_zeros (bits (suc k)) n < 4
zeros_last k n h =
    zeros_lt _ n 3 (λ a. zeros_lt _ (n / 2) 2 (λ b. zeros_lt _ (n / 2 / 2) 1 (λ c. zeros_lt _ (n / 2 / 2 / 2) 0 (λ d. absurd (h (omega arith))))))

-- a number whose last digit is not 0, with j digits 0 behind it
pub zeros_behind : (j k n : ℕ) → j < k → (n % 16 ≡ 0 → ⊥) → count_trailing_zeros (bits k) (n * 16 ^ j) / 4 ≡ j
zeros_behind j zero n l h = absurd (omega arith)
zeros_behind zero (suc k) n l h =
    let z : n * 1 ≡ n = omega arith in
    rw z (omega (arith, zeros_last k n h))
zeros_behind (suc j) (suc k) n l h =
    let m = n * 16 ^ j in
    let e : n * 16 ^ suc j ≡ 2 * (2 * (2 * (2 * m))) = omega (arith, ap (λ x. n * x) (pow-suc 16 j)) in
    rw e (omega (arith, zeros_digit k m, zeros_behind j k n (omega arith) h))
