use Rattle.std.specs.Prelude.{ℕ, ◌-◌, ◌≤◌, Bool, cond, Some, None, Option}
use Rattle.history.specs.Entry.{Entry, entries_from}
use Rattle.history.specs.Entry.Entry.{absent, window}
use Rattle.history.specs.Entry.Entries.{none}

-- a range of a child: its first entry and its end
abbrev pub Range : Type 0
Range = ℕ × ℕ

-- a range that does not run backwards and ends in a child of so many entries
abbrev pub Inside : ℕ → Option Range → Type 0
Inside size None = Unit {0}
Inside size (Some r) = (r.0 ≤ r.1) × (r.1 ≤ size)

-- the window of a range: the child's entries in it; none where there is no range
abbrev pub window_in : (ℕ → Entry) → Option Range → Entry
window_in f None = window none
window_in f (Some r) = window (entries_from f r.0 (r.1 - r.0))

-- a list's entry: absent where its mark is null, else its window
abbrev pub entry_in : Bool → (ℕ → Entry) → Option Range → Entry
entry_in present f r = cond present (window_in f r) absent
