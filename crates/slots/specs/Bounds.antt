use Rattle.std.specs.Prelude.{ℕ, ◌+◌, ◌-◌, ◌≤◌, min, Some, None, Option}
use Rattle.std.proofs.Common.{arith}
use Rattle.layout.specs.declared.marks.Marks.{Marks}
use Rattle.layout.specs.Marks.{marks_from}

-- the largest length: 2 ^ 62
abbrev pub length_limit : ℕ
length_limit = 4611686018427387904

-- the number of the bit of slot 0's mark, counted from the marks' place
abbrev pub mark_first : Option Marks → ℕ
mark_first None = 0
mark_first (Some m) = m.first

-- a cut keeps both bounds
pub cut_words : (first len start n : ℕ) → first + len ≤ length_limit → first + min start len + min n (len - start) ≤ length_limit
cut_words first len start n h = omega arith

pub cut_marks : (ms : Option Marks) (len start n : ℕ) → mark_first ms + len ≤ length_limit → mark_first (marks_from ms (min start len)) + min n (len - start) ≤ length_limit
cut_marks None len start n h = omega arith
cut_marks (Some m) len start n h = omega arith
