use Rattle.std.proofs.Common.{◌≡◌, ℕ, zero, suc, ◌+◌, ◌-◌, ◌<◌, ◌≤◌, List, length, Some, None, Option, sym, ap, ◌∙◌, arith, length-append}
use Rattle.std.proofs.lemmas.List.{get_or_append_left}
use Rattle.history.specs.Entry.{Entry, Entries, Slot, entries_from}
use Rattle.history.specs.Entry.Entry.{absent, number, window}
use Rattle.history.specs.Entry.Entries.{none, more}
use Rattle.array.specs.Windows.{Range, window_in}
use Rattle.builder.specs.Meaning.{slot_at}
use Rattle.builder.specs.Growth.{Grown, Front, Added}
use Rattle.builder.specs.Growth.Grown.{still_absent, same_number, longer}
use Rattle.builder.specs.Growth.Front.{anyway, before}
use Rattle.builder.specs.Layers.{Wider, Reaches}

mutual
  pub grown_same : (e : Entry) → Grown e e
  grown_same absent = still_absent
  grown_same (number z) = same_number
  grown_same (window es) = longer (front_same es)

  front_same : (es : Entries) → Front es es
  front_same none = anyway
  front_same (more e es) = before (grown_same e) (front_same es)

pub grown_to : (e f : Entry) → e ≡ f → Grown e f
grown_to e f q = rw (sym q) (grown_same e)

-- what any taken step leaves of the slots before it
pub kept_slots : (d : ℕ) (old new : List Slot) → Added d old new → (length old ≤ length new) × ((i : ℕ) → i < length old → Grown (slot_at old i).entry (slot_at new i).entry)
kept_slots zero old new (t, e) =
    let c = length-append old t in (
      rw e (omega arith),
      λ i l. grown_to _ _ (ap (λ (x : Slot). x.entry) (sym (ap (λ (xs : List Slot). slot_at xs i) e ∙ get_or_append_left old t _ i l))),
    )
kept_slots (suc d) old new f = let c = f.count in (omega arith, f.entries)

entries_front : (f g : ℕ → Entry) (at m n : ℕ) → m ≤ n → ((j : ℕ) → j < m → Grown (f (at + j)) (g (at + j))) → Front (entries_from f at m) (entries_from g at n)
unfolding entries_from
entries_front f g at zero n l h = anyway
entries_front f g at (suc m) zero l h = absurd (omega arith)
entries_front f g at (suc m) (suc n) l h =
    let z : at + 0 ≡ at = omega arith in
    before (rw z at (h 0 (omega arith))) (entries_front f g (at + 1) m n (omega arith) (λ j k. let e : at + 1 + j ≡ at + suc j = omega arith in rw e (h (suc j) (omega arith))))

-- windows of ranges that go on, over children that go on
pub window_grown : (f g : ℕ → Entry) (size : ℕ) (p q : Option Range) → Wider p q → Reaches size p → ((i : ℕ) → i < size → Grown (f i) (g i)) → Grown (window_in f p) (window_in g q)
window_grown f g size None None w r h = longer anyway
window_grown f g size None (Some q) w r h = longer anyway
window_grown f g size (Some p) None w r h = absurd w
window_grown f g size (Some p) (Some q) w r h =
    let w0 = w.0 in
    let w1 = w.1 in
    let e : q.0 ≡ p.0 = w.0 in
    rw e (longer (entries_front f g p.0 (p.1 - p.0) (q.1 - p.0) (omega arith)
    (λ j l. let s = r (omega arith) in h (p.0 + j) (omega arith))))
