use Rattle.std.proofs.Common.{◌≡◌, ℕ, zero, suc, ◌<◌, Bool, true, false, cond, length, is_ok, Ok, Err, Result, sym, refl, zero-add, arith}
use Rattle.std.specs.Bool.{MatchBool}
use Rattle.std.specs.List.{AllWithin, HoldsAt, range_with_len}
use Rattle.std.proofs.lemmas.List.FromFn.{length-range_with_len, get_or-range_with_len}
use native.Mathlib.Decide.{ℕ_discrete}
use Rattle.ledger.specs.declared.stop.Stop.{Stop}
use Rattle.convert.specs.Turning.{all_ok}

pub all_not : {X : Type 0} (f : ℕ → Result X Stop) (i n : ℕ) → i < n → is_ok (f i) ≡ false → all_ok f n ≡ false
unfolding all_ok
all_not f i zero l e = absurd (omega arith)
all_not f i (suc n) l e =
    elim (ℕ_discrete i n) as (λ _. all_ok f (suc n) ≡ false) [
      | yes q ↦ (let d : is_ok (f n) ≡ false = rw q at e in last (all_ok f n) d)
      | no q ↦ (let d = all_not f i n (omega arith) e in rw d refl)
    ]
  where
    last : (t : Bool) → is_ok (f n) ≡ false → cond t (is_ok (f n)) false ≡ false
    last true d = d
    last false d = refl

all_each : {X : Type 0} (f : ℕ → Result X Stop) (n : ℕ) → ((i : ℕ) → i < n → is_ok (f i) ≡ true) → all_ok f n ≡ true
unfolding all_ok
all_each f zero h = refl
all_each f (suc n) h = rw (all_each f n (λ i l. h i (omega arith))) (h n (omega arith))

-- the answer of a search through a range from 0 up
pub all_by : {X : Type 0} (f : ℕ → Result X Stop) (n : ℕ) (r : Bool)
    → MatchBool r (AllWithin (λ i. is_ok (f i) ≡ true) (range_with_len 0 n) 0 (length (range_with_len 0 n))) ((k : ℕ) × (k < length (range_with_len 0 n)) × HoldsAt (λ i. is_ok (f i) ≡ false) (range_with_len 0 n) k)
    → r ≡ all_ok f n
all_by f n true h = sym (all_each f n (λ i l. let z = length-range_with_len 0 n in rw (get_or-range_with_len 0 n i 0 l, zero-add i) at (h i 0 (omega arith) (omega arith))))
all_by f n false h =
    let z = length-range_with_len 0 n in
    let l : h.0 < n = let k = h.1 in omega arith in
    sym (all_not f h.0 n l (rw (get_or-range_with_len 0 n h.0 0 l, zero-add h.0) at (h.2 0)))

-- a reply among them is taken
pub all_there : {X : Type 0} (f : ℕ → Result X Stop) (n : ℕ) → all_ok f n ≡ true → (i : ℕ) → i < n → (x : X) × (Ok x ≡ f i)
unfolding all_ok
all_there f zero h i l = absurd (omega arith)
all_there {X = X} f (suc n) h i l =
    elim (ℕ_discrete i n) [
      | yes q ↦ rw q (have (f n) (second (all_ok f n) (is_ok (f n)) h))
      | no q ↦ all_there f n (first (all_ok f n) (is_ok (f n)) h) i (omega arith)
    ]
  where
    first : (t u : Bool) → cond t u false ≡ true → t ≡ true
    first true u e = refl
    first false u e = e

    second : (t u : Bool) → cond t u false ≡ true → u ≡ true
    second true u e = e
    second false u e = let z : ◌≡◌ {A = ℕ} 0 1 = cc in absurd (omega arith)

    have : (r : Result X Stop) → is_ok r ≡ true → (x : X) × (Ok x ≡ r)
    have (Ok x) e = (x, refl)
    have (Err s) e = let z : ◌≡◌ {A = ℕ} 0 1 = cc in absurd (omega arith)
