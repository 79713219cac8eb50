use Rattle.std.specs.Prelude.{◌≡◌, ℕ, ◌<◌, cond, not, List, ℤ, pos, Some, None, vec_items, vec_len, Option, slice_index_or}
use Rattle.layout.specs.Needs.{counts}
use Rattle.layout.specs.Words.{word_at}
use Rattle.slots.specs.declared.slots.Slots.{Slots}
use Rattle.slots.specs.Slots.{slot_mark}
use Rattle.primitive_array.specs.Numbers.{number_place}
use Rattle.trails.specs.declared.listing.Listing.{Listing}

-- slot i of numbers of two bytes from a place on: its number, or nothing where its mark is null
abbrev pub slot_of : ℕ → Slots → List ℕ → ℕ → Option ℤ
slot_of place s b i = cond (slot_mark s b i) (Some (pos (word_at b (number_place 2 place s i) 2))) None

-- the listing has the number of null marks, and every slot in order
abbrev pub Lists : ℕ → Slots → List ℕ → Listing → Type 0
Lists place s b l =
    (l.nulls ≡ counts (λ j. not (slot_mark s b j)) s.len)
    × (vec_len l.slots ≡ s.len)
    × ((i : ℕ) → i < s.len → slice_index_or (vec_items l.slots) i None ≡ slot_of place s b i)
