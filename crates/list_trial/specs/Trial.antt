use Rattle.std.specs.Prelude.{ℕ, zero, suc, ◌+◌, ◌-◌, ◌*◌, ◌/◌, Bool, true, false, cond, not, List, ℤ, pos, Ok, Err, Option, Result, ◌==◌, int_lt}
use Rattle.layout.specs.Spans.{Span}
use Rattle.ledger.specs.declared.stop.Stop.{Stop}
use Rattle.ledger.specs.declared.stop.Reason.TheVariants.{NoOffsets, BelowZero, OffsetFalls, BeyondChild}
use Rattle.ledger.specs.Stops.{stopped}
use Rattle.ledger.specs.Ledger.{Accounts}
use Rattle.form.specs.declared.data_type.DataType.{DataType}
use Rattle.form.specs.declared.data_type.Field.{Field}
use Rattle.form.specs.Forms.{layer_reply}
use Rattle.slots.specs.declared.null_buffer.NullBuffer.{NullBuffer}
use Rattle.slots.specs.Trials.{and_then, bytes_end, marks_reply, new_slots}
use Rattle.checks.specs.Checks.{own_reply, field_reply}
use Rattle.array.specs.declared.array.Array.{Ghosts}
use Rattle.list_array.specs.declared.list_array.GenericListArray.{GenericListArray}
use Rattle.list_array.specs.Offsets.{offset_of}

-- none of the first n offsets is above the next one
unfoldable pub rises : (ℕ → ℤ) → ℕ → Bool
rises f zero = true
rises f (suc n) = cond (rises f n) (not (int_lt (f (n + 1)) (f n))) false

-- the offset after n steps, where none falls up to it
abbrev pub last_reply : (ℕ → ℤ) → ℕ → Result ℤ Stop
last_reply f n = cond (rises f n) (Ok (f n)) (Err (stopped OffsetFalls))

-- so many offsets over a child of so many entries: there is one, the first is not below 0, none falls, the last lies in
-- the child
abbrev pub offsets_reply : (ℕ → ℤ) → ℕ → ℕ → Result (Unit {0}) Stop
offsets_reply f count size =
    cond (count == 0) (Err (stopped NoOffsets))
    (cond (int_lt (f 0) (pos 0)) (Err (stopped BelowZero))
    (cond (rises f (count - 1))
    (cond (int_lt (pos size) (f (count - 1))) (Err (stopped BeyondChild)) (Ok tt)) (Err (stopped OffsetFalls))))

-- an offset list's trial over a child by its size, its bits, how many of its entries are absent, and its form
abbrev pub list_reply : {X : Type 0} → ℕ → Accounts → List ℕ → Field → ℕ → ℕ → Option NullBuffer → ℕ → List Span → Result ℕ Stop → DataType → X → Result X Stop
list_reply w g b field place count nulls size child absent form h =
    and_then (own_reply g b (bytes_end place (w * count)) nulls child)
    (and_then (offsets_reply (offset_of w place b) count size)
    (and_then (marks_reply nulls (count - 1))
    (and_then (field_reply field absent form (layer_reply form (8 + w / 8))) (Ok h))))

-- the handle that a trial makes: one slot less than there are offsets, from the first one on
abbrev pub list_made : {O C : Type 0} → Field → ℕ → ℕ → Option NullBuffer → C → GenericListArray O C
list_made field place count nulls child =
    record { place = place; slots = new_slots (count - 1) nulls; field = field; child = child; kind = record {} }

-- the same trial over a child by its own members, with the handle that it makes
abbrev pub list_trial : {O C : Type 0} → ℕ → Ghosts C → Accounts → List ℕ → Field → ℕ → ℕ → Option NullBuffer → C → Result ℕ Stop → Result (GenericListArray O C) Stop
list_trial w array g b field place count nulls child absent =
    list_reply w g b field place count nulls (array.size child) (array.spans child) absent (array.form child) (list_made field place count nulls child)
