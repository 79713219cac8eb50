use Rattle.std.specs.Prelude.{◌≡◌, ℕ, zero, suc, ◌+◌, ◌-◌, ◌<◌, ◌≤◌, ℤ, pos, Some, None, Option, refl}
use Rattle.std.proofs.Common.{sym, ap, ◌∙◌, arith}
use Rattle.history.specs.Entry.{Entry, entries_from}
use Rattle.history.specs.Entry.Entry.{window}
use Rattle.array.specs.Windows.{Range, Inside, window_in}
use Rattle.array.specs.Lists.{slice_in, range_numbers, whole_window}

pub entries_shift : (f g : ℕ → Entry) (a d n : ℕ) → ((i : ℕ) → i < n → f (a + i) ≡ g (d + i)) → entries_from f a n ≡ entries_from g d n
unfolding entries_from
entries_shift f g a d zero h = refl
entries_shift f g a d (suc n) h =
    let e : f a ≡ g d = ap f (omega arith) ∙ h 0 (omega arith) ∙ ap g (omega arith) in
    let t : entries_from f (a + 1) n ≡ entries_from g (d + 1) n =
    entries_shift f g (a + 1) (d + 1) n (λ i l. ap f (omega arith) ∙ h (1 + i) (omega arith) ∙ ap g (omega arith)) in
    rw (e, t) refl

-- two ranges of the same numbers are the same
pub range_apart : (x y : Option Range) → range_numbers x ≡ range_numbers y → x ≡ y
range_apart None None e = refl
range_apart None (Some r) e = cc
range_apart (Some q) None e = cc
range_apart (Some (a, b)) (Some (c, d)) e =
    let z : ◌≡◌ {A = ℤ × ℤ} (pos a, pos b) (pos c, pos d) = cc in
    let p : pos a ≡ pos c = ap (λ (n : ℤ × ℤ). n.0) z in
    let q : pos b ≡ pos d = ap (λ (n : ℤ × ℤ). n.1) z in
    cc

-- a slot's window is all of its value
pub item_told_lem : {X : Type 0} (cs : ℕ) (f : ℕ → Entry) (cut : ℕ → ℕ → X) (size_of : X → ℕ) (entry_of : X → ℕ → Entry) (r : Option Range) → Inside cs r
    → ((s n : ℕ) → s + n ≤ cs → size_of (cut s n) ≡ n) → ((s n : ℕ) → s + n ≤ cs → (i : ℕ) → i < n → entry_of (cut s n) i ≡ f (s + i))
    → (x : X) → slice_in cut r ≡ Some x → window_in f r ≡ whole_window (size_of x) (entry_of x)
item_told_lem cs f cut size_of entry_of None o hs he x e = cc
item_told_lem cs f cut size_of entry_of (Some r) o hs he x e =
    let o0 = o.0 in
    let o1 = o.1 in
    let n = r.1 - r.0 in
    let l : r.0 + (r.1 - r.0) ≤ cs = omega arith in
    let q : cut r.0 n ≡ x = cc in
    rw (sym q, hs r.0 n l)
    (ap window (entries_shift f (entry_of (cut r.0 n)) r.0 0 n (λ i k. sym (ap (entry_of (cut r.0 n)) (omega arith) ∙ he r.0 n l i k))))
