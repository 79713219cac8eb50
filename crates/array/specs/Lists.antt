use Rattle.std.specs.Prelude.{ℕ, ◌-◌, cond, List, [], ◌++◌, ℤ, pos, Some, None, Option, ◌==◌}
use Rattle.layout.specs.Spans.{Span}
use Rattle.history.specs.Entry.{Entry, entries_from}
use Rattle.history.specs.Entry.Entry.{window}
use Rattle.history.specs.Moments.{Handle}
use Rattle.history.specs.Calls.{seen}
use Rattle.slots.specs.declared.slots.Slots.{Slots}
use Rattle.slots.specs.Slots.{slot_mark, slot_spans}
use Rattle.array.specs.Windows.{Range, window_in, entry_in}

-- What every list has in common. `f b j` is entry j of the child on the body b, `range b i` slot i's range in the child,
-- `words` the bits of the slots' words, `child` the bits that the child rests on.

-- what slot i shows: its window, in a null slot too
abbrev pub list_shown : (List ℕ → ℕ → Entry) → (List ℕ → ℕ → Option Range) → List ℕ → ℕ → Entry
list_shown f range b i = window_in (f b) (range b i)

abbrev pub list_entry : Slots → (List ℕ → ℕ → Entry) → (List ℕ → ℕ → Option Range) → List ℕ → ℕ → Entry
list_entry s f range b i = entry_in (slot_mark s b i) (f b) (range b i)

-- a list without slots rests on nothing; another on its words, its marks and its child
abbrev pub list_spans : Slots → List Span → List Span → List Span
list_spans s words child = cond (s.len == 0) [] (words ++ (slot_spans s ++ child))

abbrev pub list_seen : Slots → (List ℕ → ℕ → Entry) → (List ℕ → ℕ → Option Range) → List Span → List Span → Handle
list_seen s f range words child = seen s.len (slot_mark s) (list_shown f range) (list_spans s words child)

-- the child's slice on a range
abbrev pub slice_in : {X : Type 0} → (ℕ → ℕ → X) → Option Range → Option X
slice_in cut None = None
slice_in cut (Some r) = Some (cut r.0 (r.1 - r.0))

-- a range as two numbers
abbrev pub range_numbers : Option Range → Option (ℤ × ℤ)
range_numbers None = None
range_numbers (Some r) = Some (pos r.0, pos r.1)

-- a child as a window: all of its entries
abbrev pub whole_window : ℕ → (ℕ → Entry) → Entry
whole_window size f = window (entries_from f 0 size)
