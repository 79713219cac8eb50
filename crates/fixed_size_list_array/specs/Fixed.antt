use Rattle.std.specs.Prelude.{ℕ, ◌+◌, ◌-◌, ◌*◌, min, cond, List, Some, None, Option, nat_le}
use Rattle.array.specs.Windows.{Range}
use Rattle.fixed_size_list_array.specs.declared.fixed_size_list_array.FixedSizeListArray.{FixedSizeListArray}

-- slot i's range in a child of so many entries: `size` of them from i × size on
abbrev pub fixed_range : ℕ → ℕ → ℕ → Option Range
fixed_range size entries i = cond (nat_le ((i + 1) * size) entries) (Some (i * size, (i + 1) * size)) None

-- the ranges of a list's slots, where `entries` counts a child's entries: on every body the same
abbrev pub ranges_of : {C : Type 0} → (C → ℕ) → FixedSizeListArray C → List ℕ → ℕ → Option Range
ranges_of entries a b = fixed_range a.size (entries a.child)

-- a cut (start, n) takes the child's entries from start × size on, n × size of them, as far as there are so many
abbrev pub child_start : ℕ → ℕ → ℕ → ℕ
child_start size entries start = min (start * size) entries

abbrev pub child_count : ℕ → ℕ → ℕ → ℕ → ℕ
child_count size entries start n = min (n * size) (entries - child_start size entries start)
