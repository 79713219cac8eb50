use Rattle.std.specs.Prelude.{◌≡◌, ℕ, ◌+◌, ◌*◌, ◌<◌, ◌≤◌, Bool, true, false, List, length, ℤ, pos, is_some, Some, None, vec_items, Option, slice_index_or}
use Rattle.std.specs.Option.{unwrap_or, option_map}
use Rattle.layout.specs.Bits.{bit_at, bit_set}
use Rattle.layout.specs.Words.{word_at}
use Rattle.trails.specs.declared.block.Block.{Block}
use Rattle.trails.specs.Listings.{slot_of}

-- the slots' numbers stand from the first byte on, two bytes each; 0 where there is none
abbrev pub NumbersIn : List (Option ℕ) → List ℕ → Type 0
NumbersIn ss b = (k : ℕ) → k < length ss → word_at b (2 * k) 2 ≡ unwrap_or (slice_index_or ss k None) 0

-- behind the numbers are so many zero bytes, and no more
abbrev pub ZerosBehind : List (Option ℕ) → ℕ → List ℕ → Type 0
ZerosBehind ss spare b =
    (length b ≡ 2 * length ss + spare) × ((t : ℕ) → 16 * length ss ≤ t → t < 8 * length b → bit_at b t ≡ 0)

-- the slots' marks stand from a byte on
abbrev pub MarksIn : List (Option ℕ) → ℕ → List ℕ → Type 0
MarksIn ss place b = (k : ℕ) → k < length ss → bit_set b (8 * place + k) ≡ is_some (slice_index_or ss k None)

-- what a slot of a block is to show: with marks itself, without marks a number always
abbrev pub shown_of : Bool → Option ℕ → Option ℤ
shown_of true o = option_map pos o
shown_of false o = Some (pos (unwrap_or o 0))

-- the block shows the slots that were given
abbrev pub Holds : Bool → List (Option ℕ) → Block → Type 0
Holds marked ss b =
    (b.whole.slots.len ≡ length ss)
    × ((i : ℕ) → i < length ss → slot_of b.whole.place b.whole.slots (vec_items b.body) i ≡ shown_of marked (slice_index_or ss i None))
