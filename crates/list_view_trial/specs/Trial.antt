use Rattle.std.specs.Prelude.{ℕ, zero, suc, ◌+◌, ◌*◌, ◌/◌, ◌^◌, max, cond, List, Ok, Err, Option, Result, ◌==◌, nat_le}
use Rattle.layout.specs.Spans.{Span}
use Rattle.layout.specs.Words.{word_of}
use Rattle.ledger.specs.declared.stop.Stop.{Stop}
use Rattle.ledger.specs.declared.stop.Reason.TheVariants.{SizeCountDiffers, RangeOverflows, BeyondChild}
use Rattle.ledger.specs.Stops.{stopped}
use Rattle.ledger.specs.Ledger.{Accounts}
use Rattle.form.specs.declared.data_type.DataType.{DataType}
use Rattle.form.specs.declared.data_type.Field.{Field}
use Rattle.form.specs.Forms.{layer_reply}
use Rattle.slots.specs.declared.null_buffer.NullBuffer.{NullBuffer}
use Rattle.slots.specs.Trials.{and_then, bytes_end, marks_reply, new_slots}
use Rattle.checks.specs.Checks.{own_reply, field_reply}
use Rattle.array.specs.declared.array.Array.{Ghosts}
use Rattle.list_view_array.specs.declared.list_view_array.GenericListViewArray.{GenericListViewArray}
use Rattle.list_view_array.specs.Views.{word_number}
use Rattle.list_view_trial.specs.declared.scalar_buffer.ScalarBuffer.{ScalarBuffer}

-- where slot k ends: its start and its size, both read as unsigned numbers of 64 bits, added up
abbrev pub view_end : ℕ → ℕ → ℕ → List ℕ → ℕ → ℕ
view_end w starts sizes b k = word_of 8 (word_number w starts b k) + word_of 8 (word_number w sizes b k)

-- one slot that ends there, over a child of so many entries
abbrev pub end_reply : ℕ → ℕ → Result (Unit {0}) Stop
end_reply size end =
    cond (nat_le (2 ^ 64) end) (Err (stopped RangeOverflows)) (cond (nat_le end size) (Ok tt) (Err (stopped BeyondChild)))

-- the first n slots, one by one
unfoldable pub ends_reply : ℕ → (ℕ → ℕ) → ℕ → Result (Unit {0}) Stop
ends_reply size end zero = Ok tt
ends_reply size end (suc n) = and_then (ends_reply size end n) (end_reply size (end n))

-- sizes are as many as starts
abbrev pub sizes_reply : ℕ → ℕ → Result (Unit {0}) Stop
sizes_reply starts sizes = cond (sizes == starts) (Ok tt) (Err (stopped SizeCountDiffers))

-- where the words of both end
abbrev pub view_own : ℕ → ScalarBuffer → ScalarBuffer → ℕ
view_own w starts sizes = max (bytes_end starts.place (w * starts.len)) (bytes_end sizes.place (w * sizes.len))

-- a view's trial over a child by its size, its bits, how many of its entries are absent, and its form
abbrev pub view_trial : {X : Type 0} → ℕ → Accounts → List ℕ → Field → ScalarBuffer → ScalarBuffer → Option NullBuffer → ℕ → List Span → Result ℕ Stop → DataType → X → Result X Stop
view_trial w g b field starts sizes nulls size child absent form h =
    and_then (own_reply g b (view_own w starts sizes) nulls child)
    (and_then (marks_reply nulls starts.len)
    (and_then (sizes_reply starts.len sizes.len)
    (and_then (ends_reply size (view_end w starts.place sizes.place b) starts.len)
    (and_then (field_reply field absent form (layer_reply form (10 + w / 8))) (Ok h)))))

-- the handle that a trial makes: as many slots as starts, from the first one on
abbrev pub view_made : {O C : Type 0} → Field → ScalarBuffer → ScalarBuffer → Option NullBuffer → C → GenericListViewArray O C
view_made field starts sizes nulls child =
    record { starts = starts.place; sizes = sizes.place; slots = new_slots starts.len nulls; field = field; child = child; kind = record {} }

-- the same trial over a child by its own members, with the handle that it makes
abbrev pub list_view_trial : {O C : Type 0} → ℕ → Ghosts C → Accounts → List ℕ → Field → ScalarBuffer → ScalarBuffer → Option NullBuffer → C → Result ℕ Stop → Result (GenericListViewArray O C) Stop
list_view_trial w array g b field starts sizes nulls child absent =
    view_trial w g b field starts sizes nulls (array.size child) (array.spans child) absent (array.form child) (view_made field starts sizes nulls child)
