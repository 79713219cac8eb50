use Rattle.std.proofs.Common.{◌≡◌, ℕ, zero, suc, ◌+◌, ◌-◌, ◌≤◌, Bool, true, false, cond, not, ℤ, refl, arith}
use native.Mathlib.Decide.{dec_le}
use lib.Signed.{lt_z}
use Rattle.list_trial.specs.Trial.{rises}

pub rises_none : (f : ℕ → ℤ) → rises f 0 ≡ true
unfolding rises
rises_none f = refl

pub rises_more : (f : ℕ → ℤ) (k : ℕ) → 1 ≤ k → rises f (k - 1) ≡ true → lt_z (f k) (f (k - 1)) ≡ false → rises f (k + 1 - 1) ≡ true
unfolding rises
rises_more f (suc k) l h e =
    let p : suc k - 1 ≡ k = omega arith in
    let q : suc k + 1 - 1 ≡ suc k = omega arith in
    let s : k + 1 ≡ suc k = omega arith in
    let h' : rises f k ≡ true = rw p at h in
    let e' : lt_z (f (suc k)) (f k) ≡ false = rw p at e in
    rw (q, h', s, e') refl
rises_more f zero l h e = absurd (omega arith)

pub rises_not : (f : ℕ → ℤ) (k n : ℕ) → 1 ≤ k → k ≤ n → lt_z (f k) (f (k - 1)) ≡ true → rises f n ≡ false
unfolding rises
rises_not f k zero l m h = absurd (omega arith)
rises_not f k (suc n) l m h =
    elim (dec_le k n) as (λ _. rises f (suc n) ≡ false) [
      | yes d ↦ let e = rises_not f k n l d h in rw e refl
      | no d ↦ let p : k ≡ n + 1 = omega arith in
          let q : k - 1 ≡ n = omega arith in
          let t : lt_z (f (n + 1)) (f n) ≡ true = rw (q, p) at h in
          last (rises f n) (lt_z (f (n + 1)) (f n)) t
    ]
  where
    last : (a c : Bool) → c ≡ true → cond a (not c) false ≡ false
    last true c e = rw e refl
    last false c e = refl
