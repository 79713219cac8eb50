use Rattle.std.specs.Prelude.{ℕ, ◌+◌, ◌*◌, ◌%◌, ◌^◌, ◌≤◌, Bool, List, [], ◌∷◌, ℤ, Option}
use Rattle.layout.specs.Bits.{bit_set}
use Rattle.std.specs.Option.{unwrap_or}
use Rattle.layout.specs.Words.{word_at, written}
use Rattle.layout.specs.Spans.{Span, span}
use Rattle.slots.specs.Bounds.{length_limit}
use Rattle.slots.specs.Trials.{bit_bytes}
use Rattle.rows.specs.declared.rows.Rows.{Rows}
use Rattle.rows.specs.Rows.{listed, bit_put, rows_put}
use Rattle.rows.specs.Columns.{Column, bit_column, word_column, rows_below}
use Rattle.builder.specs.declared.step.Step.{Step}
use Rattle.builder.specs.Tables.{step_slots}
use Rattle.builder.specs.Leaves.{Leaf, leaf_row}

-- A number leaf's rows: marks, and numbers of w bytes from the byte `at` on; `whole` is the number of a word, `word` the
-- word of a number.

-- row k on a body
abbrev pub number_row : ℕ → (ℕ → ℤ) → Rows → ℕ → List ℕ → ℕ → Bool × ℤ
number_row w whole p at b k = (bit_set b (8 * p.marks + k), whole (word_at b (at + w * k) w))

-- all that are taken
abbrev pub number_leaf : ℕ → (ℕ → ℤ) → Rows → ℕ → List ℕ → Leaf
number_leaf w whole p at b = record { room = p.room; rows = listed (number_row w whole p at b) p.count }

-- row k written on a body: its mark and the word of its number
abbrev pub put_number : ℕ → Rows → ℕ → Bool → ℕ → ℕ → List ℕ → List ℕ
put_number w p at mark word k b = written w (bit_put b p.marks k mark) (at + w * k) (word % 256 ^ w)

-- the body after a taken step
abbrev pub put_numbers : ℕ → (ℤ → Option ℕ) → Rows → ℕ → Step → List ℕ → List ℕ
put_numbers w word p at s b =
    rows_put (λ j. put_number w p at (leaf_row s).0 (unwrap_or (word (leaf_row s).1) 0) (p.count + j)) (step_slots s) b

-- n rows more
abbrev pub grown : Rows → ℕ → Rows
grown p n = record { marks = p.marks; room = p.room; count = p.count + n }

abbrev pub number_columns : ℕ → Rows → ℕ → List Column
number_columns w p at = bit_column p.marks ∷ word_column w at ∷ []

-- the bits of the two reservations, and of the rows that are taken
abbrev pub number_own : ℕ → Rows → ℕ → List Span
number_own w p at =
    span (8 * p.marks) (8 * (p.marks + bit_bytes p.room)) ∷ span (8 * at) (8 * (at + w * p.room)) ∷ []

abbrev pub number_rests : ℕ → Rows → ℕ → List Span
number_rests w p at = rows_below (number_columns w p at) p.count

-- the places lie in a body of so many bytes, the numbers behind the marks
pub record NumbersInside (w size : ℕ) (p : Rows) (at : ℕ) : Type 0 where
  pub taken : p.count ≤ p.room
  pub limit : p.room ≤ length_limit
  pub behind : p.marks + bit_bytes p.room ≤ at
  pub fits : at + w * p.room ≤ size
