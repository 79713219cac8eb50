use Rattle.std.specs.Prelude.{◌≡◌, ℕ, zero, suc, ◌<◌, List, [], ◌∷◌, ◌++◌, length, ℤ, Ok}
use Rattle.history.specs.Entry.{Entry, Entries, Slot}
use Rattle.history.specs.Entry.Entry.{absent, number, window}
use Rattle.history.specs.Entry.Entries.{none, more}
use Rattle.builder.specs.declared.step.Step.{Step}
use Rattle.builder.specs.Meaning.{Steps, Behaviour, slot_at}

-- an entry that is the same, but for windows that were still short and go on behind what they had
mutual
  pub data Grown : Entry → Entry → Type 0 where
    still_absent : Grown absent absent
    same_number : {z : ℤ} → Grown (number z) (number z)
    longer : {es fs : Entries} → Front es fs → Grown (window es) (window fs)

  -- the first entries of a window go on to be its first
  pub data Front : Entries → Entries → Type 0 where
    anyway : {fs : Entries} → Front none fs
    before : {e f : Entry} {es fs : Entries} → Grown e f → Front es fs → Front (more e es) (more f fs)

-- as many slots with the same marks, and no entry changed but for windows that were still short
pub record Filled (old new : List Slot) : Type 0 where
  pub count : length new ≡ length old
  pub marks : (i : ℕ) → i < length old → (slot_at new i).present ≡ (slot_at old i).present
  pub entries : (i : ℕ) → i < length old → Grown (slot_at old i).entry (slot_at new i).entry

-- a taken step at depth 0 puts its slots behind the earlier ones; a deeper one neither adds nor changes one
abbrev pub Added : ℕ → List Slot → List Slot → Type 0
Added zero old new = (t : List Slot) × (new ≡ old ++ t)
Added (suc d) old new = Filled old new

-- so it is with every step after any steps
abbrev pub Lawful : Behaviour → Type 0
Lawful m =
    (h : Steps) (d : ℕ) (s : Step) → (m h).replies d s ≡ Ok tt → Added d (m h).slots (m (h ++ ((d, s) ∷ []))).slots
