use Rattle.std.specs.Prelude.{ℕ, ◌+◌, ◌*◌, cond, List, [], ◌∷◌, ℤ, Option, Result}
use Rattle.ledger.specs.declared.stop.Stop.{Stop}
use Rattle.ledger.specs.Ledger.{Accounts}
use Rattle.layout.specs.Words.{word_at}
use Rattle.layout.specs.Spans.{Span, span}
use Rattle.history.specs.Entry.{Entry}
use Rattle.history.specs.Entry.Entry.{absent, number}
use Rattle.history.specs.Moments.{Handle}
use Rattle.history.specs.Calls.{seen}
use Rattle.slots.specs.declared.null_buffer.NullBuffer.{NullBuffer}
use Rattle.slots.specs.declared.slots.Slots.{Slots}
use Rattle.slots.specs.Slots.{slot_mark, slot_spans}
use Rattle.slots.specs.Trials.{bytes_end, leaf_reply}

-- Numbers of w bytes from a place on; `f` is the whole number of a word.

-- where slot i's number lies
abbrev pub number_place : ℕ → ℕ → Slots → ℕ → ℕ
number_place w place s i = place + w * (s.first + i)

-- its bits
abbrev pub number_need : ℕ → ℕ → Slots → ℕ → List Span
number_need w place s i = span (8 * number_place w place s i) (8 * (number_place w place s i + w)) ∷ []

-- slot i's entry: absent where its mark is null, else the number
abbrev pub number_entry : ℕ → (ℕ → ℤ) → ℕ → Slots → List ℕ → ℕ → Entry
number_entry w f place s b i = cond (slot_mark s b i) (number (f (word_at b (number_place w place s i) w))) absent

-- the numbers' bits and the marks'
abbrev pub number_spans : ℕ → ℕ → Slots → List Span
number_spans w place s = span (8 * number_place w place s 0) (8 * number_place w place s s.len) ∷ slot_spans s

abbrev pub number_seen : ℕ → (ℕ → ℤ) → ℕ → Slots → Handle
number_seen w f place s = seen s.len (slot_mark s) (number_entry w f place s) (number_spans w place s)

-- a number leaf's trial: the own bytes are w for each slot
abbrev pub number_reply : ℕ → Accounts → List ℕ → ℕ → ℕ → Option NullBuffer → Result Slots Stop
number_reply w g b place len nulls = leaf_reply g b (bytes_end place (w * len)) len nulls
