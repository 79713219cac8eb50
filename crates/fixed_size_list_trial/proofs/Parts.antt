use Rattle.std.proofs.Common.{◌≡◌, ℕ, zero, suc, ◌+◌, ◌*◌, ◌<◌, Bool, true, false, cond, List, length, sym, refl, ap, zero-add, arith, le-leb, leb-true}
use Rattle.std.specs.Bool.{MatchBool}
use Rattle.std.specs.List.{AllWithin, HoldsAt, range_with_len}
use Rattle.std.proofs.lemmas.List.FromFn.{length-range_with_len, get_or-range_with_len}
use native.Mathlib.Decide.{ℕ_discrete}
use Rattle.layout.specs.Spans.{Span, Within, reach_of, in_body}
use Rattle.layout.specs.Needs.{counts}
use Rattle.layout.proofs.SpanLaws.{reach_sub}
use Rattle.history.specs.Entry.{Entry, is_absent}
use Rattle.fixed_size_list_trial.specs.Trial.{absent_in, absent_under}

counts_same : (p q : ℕ → Bool) (n : ℕ) → ((j : ℕ) → j < n → p j ≡ q j) → counts p n ≡ counts q n
unfolding counts
counts_same p q zero h = refl
counts_same p q (suc n) h = rw (counts_same p q n (λ j l. h j (omega arith)), h n (omega arith)) refl

-- the absent entries of a part
pub part_absents : (f g : ℕ → Entry) (from n m : ℕ) → m ≡ n → ((j : ℕ) → j < n → g j ≡ f (from + j)) → counts (λ j. is_absent (g j)) m ≡ counts (λ j. is_absent (f (from + j))) n
part_absents f g from n m e h = rw e (counts_same (λ j. is_absent (g j)) (λ j. is_absent (f (from + j))) n (λ j l. ap is_absent (h j l)))

-- bits among bits that lie in the body lie there
pub part_in : (ss ts : List Span) (b : List ℕ) → ((k : ℕ) → Within ts k → Within ss k) → in_body ss b ≡ true → in_body ts b ≡ true
part_in ss ts b h t =
    let l = leb-true (reach_of ss) (8 * length b) t in
    let r = reach_sub ts ss h in
    le-leb (reach_of ts) (8 * length b) (omega arith)

under_all : (mark : ℕ → Bool) (f : ℕ → Entry) (size n : ℕ) → ((i : ℕ) → i < n → cond (mark i) (absent_in f (i * size) size) false ≡ false) → absent_under mark f size n ≡ false
unfolding absent_under
under_all mark f size zero h = refl
under_all mark f size (suc n) h = rw (under_all mark f size n (λ i l. h i (omega arith))) (h n (omega arith))

pub under_found : (mark : ℕ → Bool) (f : ℕ → Entry) (size i n : ℕ) → i < n → cond (mark i) (absent_in f (i * size) size) false ≡ true → absent_under mark f size n ≡ true
unfolding absent_under
under_found mark f size i zero l e = absurd (omega arith)
under_found mark f size i (suc n) l e =
    elim (ℕ_discrete i n) as (λ _. absent_under mark f size (suc n) ≡ true) [
      | yes q ↦ (let d : cond (mark n) (absent_in f (n * size) size) false ≡ true = rw q at e in last (absent_under mark f size n) d)
      | no q ↦ (let d = under_found mark f size i n (omega arith) e in rw d refl)
    ]
  where
    last : (t : Bool) → cond (mark n) (absent_in f (n * size) size) false ≡ true → cond t true (cond (mark n) (absent_in f (n * size) size) false) ≡ true
    last true d = refl
    last false d = d

-- the answer of a search through a range from 0 up
pub under_by : (mark : ℕ → Bool) (f : ℕ → Entry) (size n : ℕ) (r : Bool)
    → MatchBool r ((k : ℕ) × (k < length (range_with_len 0 n)) × HoldsAt (λ i. cond (mark i) (absent_in f (i * size) size) false ≡ true) (range_with_len 0 n) k) (AllWithin (λ i. cond (mark i) (absent_in f (i * size) size) false ≡ false) (range_with_len 0 n) 0 (length (range_with_len 0 n)))
    → r ≡ absent_under mark f size n
under_by mark f size n true h =
    let z = length-range_with_len 0 n in
    let l : h.0 < n = let k = h.1 in omega arith in
    sym (under_found mark f size h.0 n l (rw (get_or-range_with_len 0 n h.0 0 l, zero-add h.0) at (h.2 0)))
under_by mark f size n false h = sym (under_all mark f size n (λ i l. let z = length-range_with_len 0 n in rw (get_or-range_with_len 0 n i 0 l, zero-add i) at (h i 0 (omega arith) (omega arith))))
