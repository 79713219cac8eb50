use Rattle.std.specs.Prelude.{ℕ, ◌+◌, ◌*◌, ◌≤◌, List, [], ◌∷◌, map}
use Rattle.layout.specs.Spans.{Span, span}

-- A layer's rows stand in columns: of marks, of bits, of words. Row k has a cell in each.

-- a column by its first bit and the bits of a cell
pub record Column : Type 0 where
  pub from : ℕ
  pub bits : ℕ

-- a column of bits from a place on, and one of words of w bytes
abbrev pub bit_column : ℕ → Column
bit_column place = record { from = 8 * place; bits = 1 }

abbrev pub word_column : ℕ → ℕ → Column
word_column w place = record { from = 8 * place; bits = 8 * w }

-- row k's cell
abbrev pub cell_of : ℕ → Column → Span
cell_of k c = span (c.from + c.bits * k) (c.from + c.bits * k + c.bits)

-- the cells of the first n rows
abbrev pub cells_below : ℕ → Column → Span
cells_below n c = span c.from (c.from + c.bits * n)

abbrev pub row_cells : List Column → ℕ → List Span
row_cells cs k = map (cell_of k) cs

abbrev pub rows_below : List Column → ℕ → List Span
rows_below cs n = map (cells_below n) cs

-- the columns of n rows stand one behind the other, from a bit on
abbrev pub InOrder : ℕ → List Column → ℕ → Type 0
InOrder low [] n = Unit {0}
InOrder low (c ∷ cs) n = (low ≤ c.from) × InOrder (c.from + c.bits * n) cs n
