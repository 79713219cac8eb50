use Rattle.std.specs.Prelude.{◌≡◌, ℕ, List, [], ◌∷◌, Ok, Err, Result}
use Rattle.std.specs.List.{AllByRecursion}
use Rattle.ledger.specs.declared.stop.Stop.{Stop}
use Rattle.ledger.specs.Stops.{number_of}
use Rattle.form.specs.declared.data_type.DataType.{DataType}
use Rattle.form.specs.Forms.{code_in, leaf_form, layer_reply, fixed_reply}
use Rattle.form.specs.Shapes.{Shape, Proper}
use Rattle.form.specs.Shapes.Shape.{Leaf, Layer, Fixed}
use Rattle.form.specs.Laws.{form_reply}

-- the reply of the next call, unless a stop came before
abbrev pub then : Result DataType Stop → (DataType → Result DataType Stop) → Result DataType Stop
then (Ok f) next = next f
then (Err e) next = Err e

-- a shape built from its leaf out, each layer by a call
abbrev pub built : Shape → Result DataType Stop
built (Leaf d) = Ok (leaf_form d)
built (Layer d s) = then (built s) (λ f. layer_reply f d)
built (Fixed size s) = then (built s) (λ f. fixed_reply f size)

-- so built, each shape gets its form, or a stop where that has too many digits
abbrev pub Builds : Type 0
Builds = (s : Shape) → Proper s → built s ≡ form_reply s

-- a reply by its code, or by the number of the stop's reason
abbrev pub told : Result DataType Stop → Result ℕ ℕ
told (Ok f) = Ok (code_in f)
told (Err e) = Err (number_of e.reason)

-- a list of u16, a fixed list of 3 u16, and a fixed list of such
abbrev pub examples : List (Shape × Result ℕ ℕ)
examples =
    (Layer 8 (Leaf 3), Ok 0x8300000000000000)
    ∷ (Fixed 3 (Leaf 3), Ok 0xC000000033000000)
    ∷ (Fixed 3 (Fixed 3 (Leaf 3)), Err 17)
    ∷ []

abbrev pub ExamplesHold : Type 0
ExamplesHold = AllByRecursion (λ e. told (built e.0) ≡ e.1) examples
