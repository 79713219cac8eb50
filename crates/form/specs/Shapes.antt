use Rattle.std.specs.Prelude.{ℕ, zero, suc, ◌-◌, ◌*◌, ◌/◌, ◌%◌, ◌^◌, ◌<◌, ◌≤◌, List, [], ◌∷◌, ◌++◌, length}
use Rattle.std.specs.Int.Digits.{number_from_digits}
use Rattle.form.specs.declared.data_type.DataType.{DataType}
use Rattle.form.specs.Forms.{places, with_code}

-- the shape of an array: a leaf, or a layer over a shape, by its digit; a fixed list has its size
pub data Shape : Type 0 where
  Leaf : ℕ → Shape
  Layer : ℕ → Shape → Shape
  Fixed : ℕ → Shape → Shape

-- the lowest k digits of n, the highest of them first
abbrev pub low_digits : ℕ → ℕ → List ℕ
low_digits zero n = []
low_digits (suc k) n = n / 16 ^ k % 16 ∷ low_digits k n

-- the digits of a shape, from the outermost layer in
abbrev pub digits_of : Shape → List ℕ
digits_of (Leaf d) = d ∷ []
digits_of (Layer d s) = d ∷ digits_of s
digits_of (Fixed size s) = 12 ∷ (low_digits 8 size ++ digits_of s)

-- how many they are
abbrev pub digits_in : Shape → ℕ
digits_in s = length (digits_of s)

-- the code of a shape: its digits, and zeros behind them
abbrev pub code_of : Shape → ℕ
code_of s = number_from_digits 16 (digits_of s) * 16 ^ (places - digits_in s)

abbrev pub form_of : Shape → DataType
form_of s = with_code (code_of s)

-- a leaf's digit is not 0, a layer's is 8 to 11, and a size has 32 bits
abbrev pub Proper : Shape → Type 0
Proper (Leaf d) = (0 < d) × (d < 16)
Proper (Layer d s) = (8 ≤ d) × (d < 12) × Proper s
Proper (Fixed size s) = (size < 2 ^ 32) × Proper s

-- a shape that has a form
abbrev pub Sound : Shape → Type 0
Sound s = Proper s × (digits_in s ≤ places)
