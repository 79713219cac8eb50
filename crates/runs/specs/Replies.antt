use Rattle.std.specs.Prelude.{◌≡◌, ℕ, ◌+◌, List}
use Rattle.history.specs.Entry.{Slot}
use Rattle.history.specs.Moments.{Handle, Traced, Moment, In, Reached, distance}

-- In any moment that a run leads to and that has this body and this handle, P holds of what slot i + distance of the
-- handle's first handle showed when that was made.
abbrev pub FirstShowed : Handle → List ℕ → ℕ → (Slot → Type 0) → Type 0
FirstShowed h b i P =
    (m : Moment) (x : Traced) → Reached m → m.body ≡ b → In x m.handles → x.handle ≡ h
    → P (x.first.slot x.before (i + distance x.cuts))

-- the calls go on to a moment with the same body that has the handle h, with these cuts behind it and the first handle of y
abbrev pub Behind : Moment → Traced → List (ℕ × ℕ) → Handle → Type 0
Behind m y cuts h =
    (m' : Moment) × (x : Traced) × Reached m' × In x m'.handles × (x.handle ≡ h) × (x.first ≡ y.first) × (x.before ≡ y.before) × (x.cuts ≡ cuts) × (m'.body ≡ m.body)
