use Rattle.std.specs.Prelude.{ℕ, Bool, true, false, cond, List, Ok, Err, Option, Result, ◌==◌}
use Rattle.layout.specs.Spans.{Span, in_body}
use Rattle.layout.specs.Needs.{counts}
use Rattle.ledger.specs.declared.stop.Stop.{Stop}
use Rattle.ledger.specs.declared.stop.Reason.TheVariants.{BeyondBytes, EntryAbsent, FormDiffers}
use Rattle.ledger.specs.Stops.{stopped}
use Rattle.ledger.specs.Ledger.{Accounts}
use Rattle.form.specs.declared.data_type.DataType.{DataType}
use Rattle.form.specs.declared.data_type.Field.{Field}
use Rattle.form.specs.Forms.{code_in}
use Rattle.history.specs.Entry.{Entry, is_absent}
use Rattle.slots.specs.declared.null_buffer.NullBuffer.{NullBuffer}
use Rattle.slots.specs.Replies.{count_reply}
use Rattle.slots.specs.Trials.{and_then, bytes_reply}
use Rattle.array.specs.declared.array.Array.{Ghosts}

-- the bits that a child rests on lie in the body
abbrev pub child_reply : List Span → List ℕ → Result (Unit {0}) Stop
child_reply child b = cond (in_body child b) (Ok tt) (Err (stopped BeyondBytes))

-- the first tests of a list's trial
abbrev pub own_reply : Accounts → List ℕ → ℕ → Option NullBuffer → List Span → Result (Unit {0}) Stop
own_reply g b own nulls child = and_then (bytes_reply g b own nulls) (child_reply child b)

-- how many of a child's entries are absent
abbrev pub absents : ℕ → (ℕ → Entry) → ℕ
absents size f = counts (λ j. is_absent (f j)) size

-- how many of a child's entries are absent on a body, by the child's own members
abbrev pub absent_count : {C : Type 0} → Ghosts C → C → List ℕ → Result ℕ Stop
absent_count array child b = count_reply (array.size child) (array.absent_need child) (λ j. is_absent (array.entry child b j)) b

-- where a field is not nullable, nothing is absent
abbrev pub absent_reply : Bool → Result ℕ Stop → Result (Unit {0}) Stop
absent_reply true count = Ok tt
absent_reply false (Ok n) = cond (n == 0) (Ok tt) (Err (stopped EntryAbsent))
absent_reply false (Err e) = Err e

-- a field's form is the child's
abbrev pub same_form : DataType → DataType → Result (Unit {0}) Stop
same_form f child = cond (code_in f == code_in child) (Ok tt) (Err (stopped FormDiffers))

-- a form that is taken, whatever it is
abbrev pub taken : {X : Type 0} → Result X Stop → Result (Unit {0}) Stop
taken (Ok x) = Ok tt
taken (Err e) = Err e

-- the last tests of a list's or a view's trial, in their order: nothing absent, the form, its length
abbrev pub field_reply : Field → Result ℕ Stop → DataType → Result DataType Stop → Result (Unit {0}) Stop
field_reply field count child layered =
    and_then (absent_reply field.nullable count) (and_then (same_form field.form child) (taken layered))
