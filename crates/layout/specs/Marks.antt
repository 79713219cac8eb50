use Rattle.std.specs.Prelude.{ℕ, ◌+◌, ◌*◌, Bool, true, List, [], ◌∷◌, Some, None, Option}
use Rattle.layout.specs.declared.marks.Marks.{Marks}
use Rattle.layout.specs.Bits.{bit_set, bit_reply, zeros_from, zeros_reply}
use Rattle.layout.specs.Spans.{Span, span}

-- the bit of slot k's mark
abbrev pub mark_bit : Marks → ℕ → ℕ
mark_bit m k = 8 * m.place + m.first + k

-- slot k's mark: true is present; without marks every slot is
abbrev pub mark_of : Option Marks → List ℕ → ℕ → Bool
mark_of None b k = true
mark_of (Some m) b k = bit_set b (mark_bit m k)

-- slot k's mark, or nothing where its bit lies beyond the body
abbrev pub mark_reply : Option Marks → List ℕ → ℕ → Option Bool
mark_reply None b k = Some true
mark_reply (Some m) b k = bit_reply b (mark_bit m k)

-- how many of the first n slots have a null mark
abbrev pub nulls_of : Option Marks → List ℕ → ℕ → ℕ
nulls_of None b n = 0
nulls_of (Some m) b n = zeros_from b (mark_bit m 0) n

-- the same, or nothing where one of the marks' bits lies beyond the body
abbrev pub nulls_reply : Option Marks → List ℕ → ℕ → Option ℕ
nulls_reply None b n = Some 0
nulls_reply (Some m) b n = zeros_reply b (mark_bit m 0) n

-- the bit of slot k's mark, as spans
abbrev pub mark_need_of : Option Marks → ℕ → List Span
mark_need_of None k = []
mark_need_of (Some m) k = span (mark_bit m k) (mark_bit m k + 1) ∷ []

-- the bits of the first n slots' marks
abbrev pub mark_spans : Option Marks → ℕ → List Span
mark_spans None n = []
mark_spans (Some m) n = span (mark_bit m 0) (mark_bit m n) ∷ []

-- the marks from the slot start on
abbrev pub marks_from : Option Marks → ℕ → Option Marks
marks_from None start = None
marks_from (Some m) start = Some (record { place = m.place; first = m.first + start })
