use Rattle.std.specs.Prelude.{◌≡◌, ℕ, ◌+◌, ◌<◌, ◌≤◌, Bool, true, false, List, length, replicate, None, Ok, Err, vec_items, vec_len, Option, Result, slice_index_or, IsSomeAnd}
use Rattle.primitive_array.specs.declared.primitive_array.PrimitiveArray.{PrimitiveArray}
use Rattle.primitive_array.specs.declared.types.UInt16Type.{UInt16Type}
use Rattle.slots.specs.Slots.{slots_cut}
use Rattle.trails.specs.declared.command.Command.{Command}
use Rattle.trails.specs.declared.command.Command.TheVariants.{Block, Plain, Cut, Then, Foreign}
use Rattle.trails.specs.declared.command.Window.{Window}
use Rattle.trails.specs.declared.fault.Refusal.{Refusal}
use Rattle.trails.specs.declared.listing.Listing.{Listing}
use Rattle.trails.specs.declared.session.Current.{Current}
use Rattle.trails.specs.Blocks.{shown_of}
use Rattle.trails.specs.Listings.{Lists}

-- the cut lies in the handle, and the listing has its slots
abbrev pub CutListed : PrimitiveArray UInt16Type → Window → Current → Listing → Type 0
CutListed h w c l = (w.start + w.n ≤ h.slots.len) × Lists h.place (slots_cut h.slots w.start w.n) (vec_items c.block.body) l

-- a cut that is shown: the block stays, and the cut's slots are those shown last; refused, nothing changes
abbrev pub CutShown : PrimitiveArray UInt16Type → Window → Current → Current → Result Listing Refusal → Type 0
CutShown h w old new (Ok l) =
    CutListed h w old l × (new.block ≡ old.block) × (new.last.slots ≡ slots_cut h.slots w.start w.n) × (new.last.place ≡ h.place)
CutShown h w old new (Err e) = new ≡ old

-- the listing has the slots that a block was given
abbrev pub Gives : Bool → List (Option ℕ) → Listing → Type 0
Gives marked ss l =
    (vec_len l.slots ≡ length ss) × ((i : ℕ) → i < length ss → slice_index_or (vec_items l.slots) i None ≡ shown_of marked (slice_index_or ss i None))

-- what a command that is taken lists: a block its own slots, a cut the slots cut from the block or from what was shown last
abbrev pub Taken : Command → Option Current → Listing → Type 0
Taken (Block ss) c l = Gives true (vec_items ss) l
Taken (Plain ss) c l = Gives false (vec_items ss) l
Taken (Cut w) c l = IsSomeAnd c (λ b. CutListed b.block.whole w b l)
Taken (Then w) c l = IsSomeAnd c (λ b. CutListed b.last w b l)
Taken (Foreign n) c l = IsSomeAnd c (λ b. Lists b.last.place b.last.slots (replicate n 0) l)
