use Rattle.std.specs.Prelude.{◌≡◌, ℕ, true, false, not, List, [], ◌∷◌, pos, Some, None, Ok, Err, Option, Result}
use Rattle.std.specs.List.{AllByRecursion}
use Rattle.ledger.specs.declared.stop.Stop.{Stop}
use Rattle.ledger.specs.Stops.{number_of}
use Rattle.ledger.specs.Ledger.{Accounts}
use Rattle.form.specs.declared.data_type.Field.{Field}
use Rattle.form.specs.Forms.{leaf_form}
use Rattle.history.specs.Entry.{Entry}
use Rattle.history.specs.Entry.Entry.{number, window}
use Rattle.history.specs.Entry.Entries.{none, more}
use Rattle.history.specs.Moments.{distance}
use Rattle.slots.specs.declared.null_buffer.NullBuffer.{NullBuffer}
use Rattle.slots.specs.declared.slots.Slots.{Slots}
use Rattle.slots.specs.Replies.{count_reply, find_reply, slice_reply}
use Rattle.slots.specs.Slots.{slot_mark, slot_need, slots_cut}
use Rattle.slots.specs.Trials.{new_slots}
use Rattle.array.specs.Windows.{Range}
use Rattle.array.specs.Lists.{list_shown}
use Rattle.primitive_array.specs.Numbers.{number_entry}
use Rattle.list_array.specs.Offsets.{list_range, list_need}
use Rattle.list_trial.specs.Trial.{list_reply}
use Rattle.list_view_trial.specs.Trial.{view_trial}
use Rattle.fixed_size_list_trial.specs.Trial.{fixed_slots, fixed_trial}
use Rattle.convert.specs.Writing.{start_of, size_of}

-- Trails worked by hand. Numbers 7, 7, 12, 1, 256 of two bytes at 0; marks present, null, present at 10; offsets 0, 2, 2, 5
-- of four bytes at 12; words -1, 1 and 0 of four bytes at 28.
abbrev pub bytes : List ℕ
bytes =
    7 ∷ 0 ∷ 7 ∷ 0 ∷ 12 ∷ 0 ∷ 1 ∷ 0 ∷ 0 ∷ 1 ∷ 5 ∷ 0
    ∷ 0 ∷ 0 ∷ 0 ∷ 0 ∷ 2 ∷ 0 ∷ 0 ∷ 0 ∷ 2 ∷ 0 ∷ 0 ∷ 0 ∷ 5 ∷ 0 ∷ 0 ∷ 0
    ∷ 255 ∷ 255 ∷ 255 ∷ 255 ∷ 1 ∷ 0 ∷ 0 ∷ 0 ∷ 0 ∷ 0 ∷ 0 ∷ 0 ∷ []

abbrev pub loaded : Accounts
loaded = record { length = 40; loaded = 40; end = 40 }

abbrev pub field : Field
field = record { nullable = true; form = leaf_form 3 }

abbrev pub three : Option NullBuffer
three = Some (record { place = 10; len = 3 })

-- the five numbers, and the list of them
abbrev pub entries : List ℕ → ℕ → Entry
entries = number_entry 2 pos 0 (new_slots 5 None)

abbrev pub list : Slots
list = new_slots 3 three

abbrev pub range : Slots → List ℕ → ℕ → Option Range
range s = list_range 4 12 s 5

-- what a call answers: a range, a number, what is shown, or the number of its stop
pub data Said : Type 0 where
  spans : Option Range → Said
  counts : ℕ → Said
  shows : Entry → Said
  stops : ℕ → Said

abbrev pub said : Result ℕ Stop → Said
said (Ok n) = counts n
said (Err e) = stops (number_of e.reason)

-- slot i's range as `element_range` replies it, and a view over the numbers whose one start lies at 28
abbrev pub ranged : ℕ → Result Range Stop
ranged i = find_reply 3 (list_need 4 12 list) (range list bytes) bytes i

abbrev pub view_of_one : ℕ → Result ℕ Stop
view_of_one sizes =
    view_trial 4 loaded bytes field (record { place = 28; len = 1 }) (record { place = sizes; len = 1 }) None 5 [] (Ok 0) (leaf_form 3) 1

abbrev pub fixed_of_none : Option NullBuffer → Result ℕ Stop
fixed_of_none nulls = fixed_trial loaded bytes field (pos 0) nulls 0 [] false (leaf_form 3) (fixed_slots 0 0 nulls)

-- the window 12, 1, 256
abbrev pub last : Entry
last = window (more (number (pos 12)) (more (number (pos 1)) (more (number (pos 256)) none)))

-- each call with what it answers
abbrev pub cases : List (Said × Said)
cases =
    (said (list_reply 4 loaded bytes field 12 4 three 5 [] (Ok 0) (leaf_form 3) 3), counts 3)
    ∷ (spans (range list bytes 0), spans (Some (0, 2)))
    ∷ (spans (range list bytes 1), spans (Some (2, 2)))
    ∷ (spans (range list bytes 2), spans (Some (2, 5)))
    ∷ (said (count_reply 3 (slot_need list) (λ i. not (slot_mark list bytes i)) bytes), counts 1)
    ∷ (counts (start_of (ranged 0)), counts 0) ∷ (counts (size_of (ranged 0)), counts 2)
    ∷ (counts (start_of (ranged 1)), counts 2) ∷ (counts (size_of (ranged 1)), counts 0)
    ∷ (counts (start_of (ranged 2)), counts 2) ∷ (counts (size_of (ranged 2)), counts 3)
    ∷ (counts (distance ((1, 1) ∷ (1, 2) ∷ [])), counts 2)
    ∷ (counts (slots_cut (slots_cut list 1 2) 1 1).len, counts 1)
    ∷ (shows (list_shown entries (range (slots_cut (slots_cut list 1 2) 1 1)) bytes 0), shows last)
    ∷ (said (slice_reply 3 3 0 0), counts 0)
    ∷ (said (slice_reply 3 3 1 1), stops 18)
    ∷ (said (view_of_one 32), stops 7)
    ∷ (said (view_of_one 36), stops 6)
    ∷ (said (fixed_of_none None), counts 0)
    ∷ (said (fixed_of_none three), counts 3)
    ∷ []

abbrev pub CasesHold : Type 0
CasesHold = AllByRecursion (λ c. c.0 ≡ c.1) cases
