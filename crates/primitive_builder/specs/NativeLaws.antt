use Rattle.std.specs.Prelude.{◌≡◌, ℕ, ℤ, pos, negsuc, refl}
use Rattle.std.proofs.Common.{to_z, of_z}
use Rattle.layout.specs.Words.{word_of}
use Rattle.std.specs.Int.{w32}

-- the word of a number of 32 bits is its bits
pub word_bits : (n : ℕ) → word_of 4 (to_z w32 n) ≡ of_z w32 (to_z w32 n)
word_bits n = by (to_z w32 n)
  where
    by : (z : ℤ) → word_of 4 z ≡ of_z w32 z
    by (pos m) = refl
    by (negsuc m) = refl
