use Rattle.std.specs.Prelude.{ℕ, cond, List, ℤ, Some, None, Option}
use Rattle.layout.specs.Words.{word_at, word_fits}

-- the whole number of the word of w bytes at a place, or nothing where it does not lie in the body
abbrev pub whole_reply : (ℕ → ℤ) → ℕ → List ℕ → ℕ → Option ℤ
whole_reply whole w b p = cond (word_fits b p w) (Some (whole (word_at b p w))) None
