use Rattle.std.proofs.Common.{rules, ◌≤◌, Ok, sym, refl, ap, arith, le-leb}
use Rattle.slots.specs.Bounds.{length_limit}
use Rattle.slots.specs.Trials.{new_slots}
use Rattle.slots.proofs.SameSlots.{same_slots, new_len}
use Rattle.slots.proofs.slots.Slots.new.Goals as goal

pub returns : goal.returns
returns c =
    let len = c.args.len in
    let nulls = c.args.nulls in
    let h : len ≤ length_limit = omega arith in
    rw (le-leb len length_limit h)
    (ap Ok (same_slots _ (new_slots len nulls) refl (sym (new_len len nulls h)) (search rules)))
