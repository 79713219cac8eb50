use Rattle.std.specs.Prelude.{◌≡◌, ℤ, pos, Some, None, Option}
use Rattle.std.proofs.Common.{ap}

pub first_number : Option (ℤ × ℤ) → ℤ
first_number None = pos 0
first_number (Some p) = p.0

pub apart : (x y : ℤ) → ◌≡◌ {A = Option (ℤ × ℤ)} (Some (x, pos 0)) (Some (y, pos 0)) → x ≡ y
unfolding first_number
apart x y e = ap first_number e
