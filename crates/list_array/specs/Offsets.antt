use Rattle.std.specs.Prelude.{ℕ, ◌+◌, ◌*◌, cond, List, [], ◌∷◌, length, ℤ, pos, negsuc, Some, None, Err, Option, Result, nat_le}
use Rattle.layout.specs.Spans.{Span, span, word_span}
use Rattle.layout.specs.Words.{word_at, signed_of}
use Rattle.slots.specs.declared.slots.Slots.{Slots}
use Rattle.ledger.specs.declared.stop.Stop.{Stop}
use Rattle.ledger.specs.declared.stop.Reason.TheVariants.{BeyondBytes}
use Rattle.ledger.specs.Stops.{stopped}
use Rattle.slots.specs.Replies.{found}
use Rattle.array.specs.Windows.{Range}
use Rattle.list_array.specs.declared.list_array.GenericListArray.{GenericListArray}

-- offset number k of w bytes after a place
abbrev pub offset_of : ℕ → ℕ → List ℕ → ℕ → ℤ
offset_of w place b k = signed_of w (word_at b (place + w * k) w)

-- the offsets numbered k and k + 1, or nothing where one lies beyond the body
abbrev pub pair_reply : ℕ → ℕ → List ℕ → ℕ → Option (ℤ × ℤ)
pair_reply w place b k =
    cond (nat_le (place + w * (k + 2)) (length b)) (Some (offset_of w place b k, offset_of w place b (k + 1))) None

-- two numbers as a range in a child of so many entries
abbrev pub range_of : ℕ → ℤ → ℤ → Option Range
range_of size (pos lo) (pos hi) = cond (nat_le lo hi) (cond (nat_le hi size) (Some (lo, hi)) None) None
range_of size (pos lo) (negsuc hi) = None
range_of size (negsuc lo) (pos hi) = None
range_of size (negsuc lo) (negsuc hi) = None

-- what two offsets, if they are there, are as a range
abbrev pub pair_found : ℕ → Option (ℤ × ℤ) → Result Range Stop
pair_found size None = Err (stopped BeyondBytes)
pair_found size (Some p) = found (range_of size p.0 p.1)

-- slot i's range: its offset and the next one
unfoldable pub list_range : ℕ → ℕ → Slots → ℕ → List ℕ → ℕ → Option Range
list_range w place s size b i = range_of size (offset_of w place b (s.first + i)) (offset_of w place b (s.first + i + 1))

-- the bits of these two offsets
abbrev pub list_need : ℕ → ℕ → Slots → ℕ → List Span
list_need w place s i = word_span w (place + w * (s.first + i)) ∷ word_span w (place + w * (s.first + i + 1)) ∷ []

-- the bits of all offsets: one more than there are slots
abbrev pub list_words : ℕ → ℕ → Slots → List Span
list_words w place s = span (8 * (place + w * s.first)) (8 * (place + w * (s.first + s.len + 1))) ∷ []

-- the ranges of a list's slots, where `size` counts a child's entries, and the bits of its offsets
abbrev pub ranges_of : {O C : Type 0} → ℕ → (C → ℕ) → GenericListArray O C → List ℕ → ℕ → Option Range
ranges_of w size a = list_range w a.place a.slots (size a.child)

abbrev pub words_of : {O C : Type 0} → ℕ → GenericListArray O C → List Span
words_of w a = list_words w a.place a.slots
