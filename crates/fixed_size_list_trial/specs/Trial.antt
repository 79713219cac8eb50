use Rattle.std.specs.Prelude.{◌≡◌, ℕ, zero, suc, ◌+◌, ◌*◌, ◌/◌, Bool, true, false, cond, not, List, ℤ, pos, Some, None, Ok, Err, Option, Result, ◌==◌, int_lt, unsigned_abs}
use Rattle.layout.specs.Spans.{Span, in_body}
use Rattle.layout.specs.Needs.{counts}
use Rattle.ledger.specs.declared.stop.Stop.{Stop}
use Rattle.ledger.specs.declared.stop.Reason.TheVariants.{BelowZero, ChildLengthDiffers, EntryAbsent}
use Rattle.ledger.specs.Stops.{stopped}
use Rattle.ledger.specs.Ledger.{Accounts}
use Rattle.form.specs.declared.data_type.DataType.{DataType}
use Rattle.form.specs.declared.data_type.Field.{Field}
use Rattle.form.specs.Forms.{fixed_reply}
use Rattle.history.specs.Entry.{Entry, is_absent}
use Rattle.slots.specs.declared.null_buffer.NullBuffer.{NullBuffer}
use Rattle.slots.specs.declared.slots.Slots.{Slots}
use Rattle.slots.specs.Slots.{slot_mark, slot_spans}
use Rattle.array.specs.declared.array.Array.{Ghosts}
use Rattle.fixed_size_list_array.specs.declared.fixed_size_list_array.FixedSizeListArray.{FixedSizeListArray}
use Rattle.slots.specs.Trials.{and_then, length_reply, marks_reply, new_slots}
use Rattle.checks.specs.Checks.{own_reply, same_form, taken}

-- how many marks there are
abbrev pub mark_count : Option NullBuffer → ℕ
mark_count None = 0
mark_count (Some m) = m.len

-- how many slots there are: size 0 has as many as marks
abbrev pub fixed_slots : ℕ → ℕ → Option NullBuffer → ℕ
fixed_slots size entries nulls = cond (size == 0) (mark_count nulls) (entries / size)

-- a size is not below 0
abbrev pub size_reply : ℤ → Result (Unit {0}) Stop
size_reply z = cond (int_lt z (pos 0)) (Err (stopped BelowZero)) (Ok tt)

-- the child's length is slots × size
abbrev pub whole_reply : ℕ → ℕ → ℕ → Result (Unit {0}) Stop
whole_reply slots size entries = cond (entries == slots * size) (Ok tt) (Err (stopped ChildLengthDiffers))

-- so many slots of a size over so many entries: not too many, all of the child, as many as marks
abbrev pub shape_reply : ℕ → ℕ → Option NullBuffer → Result (Unit {0}) Stop
shape_reply size entries nulls =
    and_then (length_reply (fixed_slots size entries nulls))
    (and_then (whole_reply (fixed_slots size entries nulls) size entries) (marks_reply nulls (fixed_slots size entries nulls)))

-- the marks of the slots and the bits that a child rests on lie in the body
abbrev pub BothInside : Slots → List Span → List ℕ → Type 0
BothInside s child b = (in_body (slot_spans s) b ≡ true) × (in_body child b ≡ true)

-- whether one of the n entries from an entry on is absent
abbrev pub absent_in : (ℕ → Entry) → ℕ → ℕ → Bool
absent_in f from n = not (counts (λ j. is_absent (f (from + j))) n == 0)

-- whether an entry is absent under a present one of the first n slots
unfoldable pub absent_under : (ℕ → Bool) → (ℕ → Entry) → ℕ → ℕ → Bool
absent_under mark f size zero = false
absent_under mark f size (suc n) = cond (absent_under mark f size n) true (cond (mark n) (absent_in f (n * size) size) false)

-- where a field is not nullable, nothing is absent under a present slot
abbrev pub under_reply : Bool → Bool → Result (Unit {0}) Stop
under_reply nullable absent = cond nullable (Ok tt) (cond absent (Err (stopped EntryAbsent)) (Ok tt))

-- the tests after the size's own, over a child by its size, whether an entry is absent under a present slot, and its form
abbrev pub shaped_trial : {X : Type 0} → Field → ℕ → Option NullBuffer → ℕ → Bool → DataType → X → Result X Stop
shaped_trial field size nulls entries absent form h =
    and_then (shape_reply size entries nulls)
    (and_then (same_form field.form form)
    (and_then (under_reply field.nullable absent)
    (and_then (taken (fixed_reply form size)) (Ok h))))

-- a fixed list's trial
abbrev pub fixed_trial : {X : Type 0} → Accounts → List ℕ → Field → ℤ → Option NullBuffer → ℕ → List Span → Bool → DataType → X → Result X Stop
fixed_trial g b field size nulls entries child absent form h =
    and_then (own_reply g b 0 nulls child) (and_then (size_reply size) (shaped_trial field (unsigned_abs size) nulls entries absent form h))

-- the slots that a trial makes over a child of so many entries
abbrev pub slots_made : ℕ → ℕ → Option NullBuffer → Slots
slots_made size entries nulls = new_slots (fixed_slots size entries nulls) nulls

-- the handle that a trial makes
abbrev pub fixed_made : {C : Type 0} → Ghosts C → Field → ℕ → Option NullBuffer → C → FixedSizeListArray C
fixed_made array field size nulls child =
    record { slots = slots_made size (array.size child) nulls; size = size; field = field; child = child }

-- whether an entry of the child is absent under a present one of these slots
abbrev pub child_absent_under : {C : Type 0} → Ghosts C → List ℕ → ℕ → Option NullBuffer → C → Bool
child_absent_under array b size nulls child =
    absent_under (slot_mark (slots_made size (array.size child) nulls) b) (array.entry child b) size (fixed_slots size (array.size child) nulls)

-- the tests after the size's own, over a child by its own members, with the handle that is made
abbrev pub shaped_list_trial : {C : Type 0} → Ghosts C → List ℕ → Field → ℕ → Option NullBuffer → C → Result (FixedSizeListArray C) Stop
shaped_list_trial array b field size nulls child =
    shaped_trial field size nulls (array.size child) (child_absent_under array b size nulls child) (array.form child) (fixed_made array field size nulls child)

-- the same of the whole trial
abbrev pub fixed_list_trial : {C : Type 0} → Ghosts C → Accounts → List ℕ → Field → ℤ → Option NullBuffer → C → Result (FixedSizeListArray C) Stop
fixed_list_trial array g b field size nulls child =
    fixed_trial g b field size nulls (array.size child) (array.spans child) (child_absent_under array b (unsigned_abs size) nulls child) (array.form child) (fixed_made array field (unsigned_abs size) nulls child)
