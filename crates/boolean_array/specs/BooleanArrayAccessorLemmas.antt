use Rattle.std.specs.Prelude.{◌≡◌, Bool, true, false, ℤ, pos, Some, None, Option, refl}
use Rattle.std.proofs.Common.{ap, arith}
use Rattle.std.proofs.lemmas.Int.{ints}
use Rattle.boolean_array.specs.Booleans.{bool_source}

pub first_number : Option (ℤ × ℤ) → ℤ
first_number None = pos 0
first_number (Some p) = p.0

pub apart : (x y : Bool) → Some (bool_source x) ≡ Some (bool_source y) → x ≡ y
unfolding first_number
apart true true e = refl
apart true false e = let f = ap first_number e in absurd (omega (arith, ints))
apart false true e = let f = ap first_number e in absurd (omega (arith, ints))
apart false false e = refl
