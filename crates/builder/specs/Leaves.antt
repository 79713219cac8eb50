use Rattle.std.specs.Prelude.{ℕ, Bool, true, false, cond, map, length, ℤ, pos, Ok, Err, Result, ◌==◌}
use Rattle.ledger.specs.declared.stop.Stop.{Stop}
use Rattle.ledger.specs.declared.stop.Reason.TheVariants.{NoSuchStep, NumberOutOfRange}
use Rattle.ledger.specs.Stops.{stopped}
use Rattle.form.specs.declared.data_type.DataType.{DataType}
use Rattle.history.specs.Entry.{Slot}
use Rattle.history.specs.Entry.Entry.{absent, number}
use Rattle.slots.specs.Trials.{and_then}
use Rattle.builder.specs.declared.step.Step.{Step}
use Rattle.builder.specs.declared.step.Step.TheVariants.{Value, Null, Nulls, Close}
use Rattle.builder.specs.Meaning.{Seen, Behaviour, on_ok, run}
use Rattle.rows.specs.Rows.{room_reply}
use Rattle.builder.specs.Tables.{Table, pushed, step_slots}

-- A leaf of numbers (a boolean is 0 or 1): a row is a mark and a number. `takes` is its range, `form` its form.

abbrev pub Leaf : Type 0
Leaf = Table (Bool × ℤ)

-- a row as a slot: absent where its mark is null
abbrev pub leaf_slot : Bool × ℤ → Slot
leaf_slot r = record { present = r.0; entry = cond r.0 (number r.1) absent }

-- the row that a taken step writes; a null has the number 0
abbrev pub leaf_row : Step → Bool × ℤ
leaf_row (Value v) = (true, v)
leaf_row Null = (false, pos 0)
leaf_row (Nulls n) = (false, pos 0)
leaf_row (Close valid) = (false, pos 0)

-- the tests of a leaf's own step, of which so many rows are taken: whether it has the step, whether there is a place, the
-- range
abbrev pub leaf_test : Bool → ℕ → ℕ → Step → Result (Unit {0}) Stop
leaf_test fits count room (Value v) = and_then (room_reply count room 1) (cond fits (Ok tt) (Err (stopped NumberOutOfRange)))
leaf_test fits count room Null = room_reply count room 1
leaf_test fits count room (Nulls n) = room_reply count room n
leaf_test fits count room (Close valid) = Err (stopped NoSuchStep)

abbrev pub leaf_own : (ℤ → Bool) → Leaf → Step → Result (Unit {0}) Stop
leaf_own takes l s = leaf_test (takes (leaf_row s).1) (length l.rows) l.room s

-- a step that is too deep stops at the leaf
abbrev pub leaf_reply : (ℤ → Bool) → Leaf → ℕ → Step → Result (Unit {0}) Stop
leaf_reply takes l d s = cond (d == 0) (leaf_own takes l s) (Err (stopped NoSuchStep))

abbrev pub leaf_next : (ℤ → Bool) → Leaf → ℕ → Step → Leaf
leaf_next takes l d s = on_ok (leaf_reply takes l d s) (pushed l (step_slots s) (leaf_row s)) l

abbrev pub leaf_sees : (ℤ → Bool) → DataType → Leaf → Seen
leaf_sees takes form l = record { slots = map leaf_slot l.rows; replies = leaf_reply takes l; shot = Ok form }

abbrev pub leaf_means : (ℤ → Bool) → DataType → Leaf → Behaviour
leaf_means takes form l = run (leaf_sees takes form) (leaf_next takes) l
