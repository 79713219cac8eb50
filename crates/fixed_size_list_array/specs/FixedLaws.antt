use Rattle.std.specs.Prelude.{◌≡◌, ℕ, ◌+◌, ◌-◌, ◌*◌, ◌<◌, ◌≤◌, Bool, true, false, cond, [], Some, None, nat_le, refl}
use Rattle.std.proofs.Common.{ap, ◌∙◌, add-mul, mul-zero, arith, leb-true, leb-false}
use Rattle.std.proofs.Math.Decide.{dec_le}
use Rattle.std.proofs.lemmas.Nat.{mul-le}
use Rattle.history.specs.Entry.{Entry}
use Rattle.history.specs.Entry.Entry.{window}
use Rattle.array.specs.Windows.{Inside, window_in}
use Rattle.array.specs.ItemLaws.{entries_shift}
use Rattle.array.proofs.ListLaws.{Ranged}
use Rattle.fixed_size_list_array.specs.declared.fixed_size_list_array.FixedSizeListArray.{FixedSizeListArray}
use Rattle.fixed_size_list_array.specs.Fixed.{fixed_range, ranges_of, child_start, child_count}

pub fixed_inside : (size entries i : ℕ) → Inside entries (fixed_range size entries i)
fixed_inside size entries i = by (nat_le ((i + 1) * size) entries) refl
  where
    by : (t : Bool) → nat_le ((i + 1) * size) entries ≡ t → Inside entries (cond t (Some (i * size, (i + 1) * size)) None)
    by true p = (let e = add-mul i 1 size in omega arith, leb-true _ _ p)
    by false p = tt

pub ranged : {C : Type 0} (entries : C → ℕ) (a : FixedSizeListArray C) → Ranged a.slots (entries a.child) (ranges_of entries a) []
ranged entries a =
    record { inside = λ b i l. fixed_inside a.size (entries a.child) i; alike = λ b c h i l. refl }

-- the child of a cut lies in the child
pub child_fits : (size entries start n : ℕ) → child_start size entries start + child_count size entries start n ≤ entries
child_fits size entries start n = omega arith

-- slot i of a cut shows what slot start + i showed
pub fixed_window : (size entries start n i : ℕ) → i < n → (f g : ℕ → Entry)
    → ((j : ℕ) → j < child_count size entries start n → g j ≡ f (child_start size entries start + j))
    → window_in g (fixed_range size (child_count size entries start n) i) ≡ window_in f (fixed_range size entries (start + i))
fixed_window size entries start n i l f g h =
    by (nat_le ((i + 1) * size) (child_count size entries start n)) (nat_le ((start + i + 1) * size) entries) refl refl
  where
    e1 : (i + 1) * size ≡ i * size + 1 * size
    e1 = add-mul i 1 size

    e2 : (start + i + 1) * size ≡ (start + i) * size + 1 * size
    e2 = add-mul (start + i) 1 size

    e3 : (start + i) * size ≡ start * size + i * size
    e3 = add-mul start i size

    e4 : (i + 1) * size ≤ n * size
    e4 = mul-le (i + 1) size n size (omega arith) (omega arith)

    by : (t u : Bool) → nat_le ((i + 1) * size) (child_count size entries start n) ≡ t → nat_le ((start + i + 1) * size) entries ≡ u
        → window_in g (cond t (Some (i * size, (i + 1) * size)) None) ≡ window_in f (cond u (Some ((start + i) * size, (start + i + 1) * size)) None)
    by true true p q =
        let p' = leb-true _ _ p in
        let q' = leb-true _ _ q in
        let a = e1 in
        let c = e2 in
        let d = e3 in
        let w1 : (i + 1) * size - i * size ≡ size = omega arith in
        let w2 : (start + i + 1) * size - (start + i) * size ≡ size = omega arith in
        rw (w1, w2) (ap window (entries_shift g f (i * size) ((start + i) * size) size (λ j k. h (i * size + j) (omega arith) ∙ ap f (omega arith))))
    by true false p q =
        let p' = leb-true _ _ p in
        let q' = leb-false _ _ q in
        let a = e1 in
        let c = e2 in
        let d = e3 in
        let z = e4 in
        absurd (elim (dec_le 1 size) [
          | yes k ↦ omega arith
          | no k ↦ (let m : start * size ≡ 0 = ap (λ (x : ℕ). start * x) (omega arith) ∙ mul-zero start in omega arith)
        ])
    by false true p q =
        let p' = leb-false _ _ p in
        let q' = leb-true _ _ q in
        let a = e1 in
        let c = e2 in
        let d = e3 in
        let z = e4 in
        absurd (omega arith)
    by false false p q = refl

-- the same of the child's part, whose number of entries is told
pub cut_window : (size entries start n i count : ℕ) → i < n → (f g : ℕ → Entry) → count ≡ child_count size entries start n
    → ((j : ℕ) → j < child_count size entries start n → g j ≡ f (child_start size entries start + j))
    → window_in g (fixed_range size count i) ≡ window_in f (fixed_range size entries (start + i))
cut_window size entries start n i count l f g e h =
    ap (λ m. window_in g (fixed_range size m i)) e ∙ fixed_window size entries start n i l f g h
