use Rattle.std.specs.Prelude.{ℕ, ◌+◌, ◌*◌, Bool, cond, List, [], ◌∷◌, ℤ, pos, Option, Result}
use Rattle.ledger.specs.declared.stop.Stop.{Stop}
use Rattle.ledger.specs.Ledger.{Accounts}
use Rattle.layout.specs.Bits.{bit_set}
use Rattle.layout.specs.Spans.{Span, span}
use Rattle.history.specs.Entry.{Entry}
use Rattle.history.specs.Entry.Entry.{absent, number}
use Rattle.history.specs.Moments.{Handle}
use Rattle.history.specs.Calls.{seen}
use Rattle.slots.specs.declared.null_buffer.NullBuffer.{NullBuffer}
use Rattle.slots.specs.Slots.{slot_mark, slot_spans, slots_cut}
use Rattle.slots.specs.Trials.{bytes_end, bit_bytes, leaf_reply, with_slots}
use Rattle.boolean_array.specs.declared.boolean_array.BooleanArray.{BooleanArray}

-- the bit of slot i's value
abbrev pub bool_bit : BooleanArray → ℕ → ℕ
bool_bit a i = 8 * a.place + a.slots.first + i

-- slot i's value as a number, whatever its mark
abbrev pub bool_number : Bool → Entry
bool_number v = number (pos (cond v 1 0))

-- the number that a value is worked out from
abbrev pub bool_source : Bool → ℤ × ℤ
bool_source v = (pos (cond v 1 0), pos 0)

abbrev pub bool_entry : BooleanArray → List ℕ → ℕ → Entry
bool_entry a b i = cond (slot_mark a.slots b i) (bool_number (bit_set b (bool_bit a i))) absent

abbrev pub bool_need : BooleanArray → ℕ → List Span
bool_need a i = span (bool_bit a i) (bool_bit a i + 1) ∷ []

-- the values' bits and the marks'
abbrev pub bool_spans : BooleanArray → List Span
bool_spans a = span (bool_bit a 0) (bool_bit a a.slots.len) ∷ slot_spans a.slots

abbrev pub bool_cut : BooleanArray → ℕ → ℕ → BooleanArray
bool_cut a s n = record { place = a.place; slots = slots_cut a.slots s n }

abbrev pub bool_seen : BooleanArray → Handle
bool_seen a = seen a.slots.len (slot_mark a.slots) (bool_entry a) (bool_spans a)

-- a boolean leaf's trial
abbrev pub bool_reply : Accounts → List ℕ → ℕ → ℕ → Option NullBuffer → Result BooleanArray Stop
bool_reply g b place len nulls =
    with_slots (λ s. record { place = place; slots = s }) (leaf_reply g b (bytes_end place (bit_bytes len)) len nulls)
