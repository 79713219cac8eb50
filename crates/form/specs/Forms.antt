use Rattle.std.specs.Prelude.{ℕ, ◌+◌, ◌-◌, ◌*◌, ◌/◌, ◌%◌, ◌^◌, cond, Ok, Err, Result, nat_le}
use Rattle.std.specs.Int.Count.{count_trailing_zeros}
use Rattle.ledger.specs.declared.stop.Reason.TheVariants.{FormTooLong}
use Rattle.ledger.specs.declared.stop.Stop.{Stop}
use Rattle.ledger.specs.Stops.{stopped}
use Rattle.form.specs.declared.data_type.DataType.{DataType}
use Rattle.form.specs.declared.data_type.Leaf.{Leaf}
use Rattle.form.specs.declared.data_type.Leaf.TheVariants.{Null, Boolean, UInt16, Int32, Int64}

-- how many digits a code has place for
abbrev pub places : ℕ
places = 16

-- the code of a form, and the form with a code
abbrev pub code_in : DataType → ℕ
code_in f = f.code

abbrev pub with_code : ℕ → DataType
with_code n = record { code = n }

-- the digit of each leaf
abbrev pub leaf_digit : Leaf → ℕ
leaf_digit Null = 1
leaf_digit Boolean = 2
leaf_digit UInt16 = 3
leaf_digit Int32 = 4
leaf_digit Int64 = 5

-- a leaf's form: the lowest four bits of d, as the first digit
abbrev pub leaf_form : ℕ → DataType
leaf_form d = with_code (d % 16 * 16 ^ (places - 1))

-- how many digits a form has: all but the lowest ones that are 0
abbrev pub digit_count : DataType → ℕ
digit_count f = places - count_trailing_zeros (4 * places) (code_in f) / 4

-- whether so many digits more have a place: a stop where not
abbrev pub room_reply : ℕ → DataType → Result (Unit {0}) Stop
room_reply k f = cond (nat_le (k + digit_count f) places) (Ok tt) (Err (stopped FormTooLong))

-- k digits that write n, in front of a form, whose last digits fall off where there is no place for them
abbrev pub fronted : ℕ → ℕ → DataType → DataType
fronted k n f = with_code (n * 16 ^ (places - k) + code_in f / 16 ^ k)

-- the same as a reply: a stop where there is no place
abbrev pub in_front : ℕ → ℕ → DataType → Result DataType Stop
in_front k n f = cond (nat_le (k + digit_count f) places) (Ok (fronted k n f)) (Err (stopped FormTooLong))

-- one digit, the lowest four bits of d
abbrev pub layer_form : DataType → ℕ → DataType
layer_form f d = fronted 1 (d % 16) f

abbrev pub layer_reply : DataType → ℕ → Result DataType Stop
layer_reply f d = in_front 1 (d % 16) f

-- the digit 12 and eight digits of the size
abbrev pub fixed_form : DataType → ℕ → DataType
fixed_form f size = fronted 9 (12 * 16 ^ 8 + size) f

abbrev pub fixed_reply : DataType → ℕ → Result DataType Stop
fixed_reply f size = in_front 9 (12 * 16 ^ 8 + size) f
