use Rattle.std.proofs.Common.{◌+◌, ◌≤◌, Ok, sym, ap, ◌∙◌, arith, le-leb}
use Rattle.slots.specs.Slots.{slots_cut}
use Rattle.slots.proofs.SameSlots.{same_slots, cut_first, cut_len, cut_slots}
use Rattle.slots.proofs.slots.Slots.cut.Goals as goal

pub returns : goal.returns
returns c =
    let s = c.args.self in
    let a = c.args.start in
    let n = c.args.n in
    let h : a + n ≤ s.len = omega arith in
    rw (le-leb (a + n) s.len h)
    (ap Ok (same_slots _ (slots_cut s a n) (sym (cut_first s a n h)) (sym (cut_len s a n h)) (c.marks_from.ensures ∙ sym (cut_slots s a n h))))
