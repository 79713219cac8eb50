use Rattle.std.specs.Prelude.{ℕ, ◌+◌, ◌*◌, cond, List, [], ◌∷◌, ℤ, Some, None, Err, Option, Result, nat_le}
use Rattle.layout.specs.Spans.{Span, span, word_span}
use Rattle.layout.specs.Words.{word_at, word_of, word_fits, signed_of}
use Rattle.ledger.specs.declared.stop.Stop.{Stop}
use Rattle.ledger.specs.declared.stop.Reason.TheVariants.{BeyondBytes}
use Rattle.ledger.specs.Stops.{stopped}
use Rattle.slots.specs.declared.slots.Slots.{Slots}
use Rattle.slots.specs.Replies.{found}
use Rattle.array.specs.Windows.{Range}
use Rattle.list_view_array.specs.declared.list_view_array.GenericListViewArray.{GenericListViewArray}

-- word number k of w bytes after a place, as a signed number
abbrev pub word_number : ℕ → ℕ → List ℕ → ℕ → ℤ
word_number w place b k = signed_of w (word_at b (place + w * k) w)

-- start and size number k, or nothing where one lies beyond the body
abbrev pub view_reply : ℕ → ℕ → ℕ → List ℕ → ℕ → Option (ℤ × ℤ)
view_reply w starts sizes b k =
    cond (word_fits b (starts + w * k) w)
    (cond (word_fits b (sizes + w * k) w) (Some (word_number w starts b k, word_number w sizes b k)) None) None

-- a start and a size, sign-extended and read as unsigned numbers of 64 bits, as a range in a child of so many entries
abbrev pub view_of : ℕ → ℤ → ℤ → Option Range
view_of size start count =
    cond (nat_le (word_of 8 start + word_of 8 count) size) (Some (word_of 8 start, word_of 8 start + word_of 8 count)) None

-- what a start and a size, if they are there, are as a range
abbrev pub view_found : ℕ → Option (ℤ × ℤ) → Result Range Stop
view_found size None = Err (stopped BeyondBytes)
view_found size (Some p) = found (view_of size p.0 p.1)

-- slot i's range
unfoldable pub view_range : ℕ → ℕ → ℕ → Slots → ℕ → List ℕ → ℕ → Option Range
view_range w starts sizes s size b i = view_of size (word_number w starts b (s.first + i)) (word_number w sizes b (s.first + i))

-- the bits of its start and its size
abbrev pub view_need : ℕ → ℕ → ℕ → Slots → ℕ → List Span
view_need w starts sizes s i = word_span w (starts + w * (s.first + i)) ∷ word_span w (sizes + w * (s.first + i)) ∷ []

-- the bits of all starts and of all sizes
abbrev pub view_words : ℕ → ℕ → ℕ → Slots → List Span
view_words w starts sizes s =
    span (8 * (starts + w * s.first)) (8 * (starts + w * (s.first + s.len)))
    ∷ span (8 * (sizes + w * s.first)) (8 * (sizes + w * (s.first + s.len)))
    ∷ []

-- the ranges of a view's slots, where `size` counts a child's entries, and the bits of its starts and sizes
abbrev pub ranges_of : {O C : Type 0} → ℕ → (C → ℕ) → GenericListViewArray O C → List ℕ → ℕ → Option Range
ranges_of w size a = view_range w a.starts a.sizes a.slots (size a.child)

abbrev pub words_of : {O C : Type 0} → ℕ → GenericListViewArray O C → List Span
words_of w a = view_words w a.starts a.sizes a.slots
