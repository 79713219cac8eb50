use Rattle.std.specs.Prelude.{◌≡◌, ℕ, Bool, cond, Ok, Err, Decides, Result, nat_le}
use Rattle.ledger.specs.declared.stop.Reason.TheVariants.{FormTooLong}
use Rattle.ledger.specs.declared.stop.Stop.{Stop}
use Rattle.ledger.specs.Stops.{stopped}
use Rattle.form.specs.declared.data_type.DataType.{DataType}
use Rattle.form.specs.Forms.{places}
use Rattle.form.specs.Shapes.{Shape, digits_in, form_of, Sound}

-- the form of a shape, or a stop where that has too many digits
abbrev pub form_reply : Shape → Result DataType Stop
form_reply s = cond (nat_le (digits_in s) places) (Ok (form_of s)) (Err (stopped FormTooLong))

-- the form of a shape has as many digits as the shape
abbrev pub Counts : DataType → ℕ → Type 0
Counts f r = (s : Shape) → Sound s → f ≡ form_of s → r ≡ digits_in s

-- a layer over the form of a shape makes the form of the shape under that layer
abbrev pub Extends : DataType → (Shape → Shape) → Result DataType Stop → Type 0
Extends f layer r = (s : Shape) → Sound s → f ≡ form_of s → r ≡ form_reply (layer s)

-- two forms are the same just where their shapes are
abbrev pub Compares : DataType → DataType → Bool → Type 0
Compares f g r = (s t : Shape) → Sound s → Sound t → f ≡ form_of s → g ≡ form_of t → Decides r (s ≡ t)
