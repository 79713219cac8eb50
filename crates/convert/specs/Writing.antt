use Rattle.std.specs.Prelude.{◌≡◌, ℕ, zero, suc, ◌+◌, ◌-◌, ◌*◌, ◌%◌, ◌<◌, ◌≤◌, Bool, false, cond, List, length, Ok, Err, Option, Result, nat_le}
use Rattle.std.proofs.Common.{arith}
use Rattle.layout.specs.Bits.{bit_at}
use Rattle.layout.specs.Spans.{Span, Within}
use Rattle.slots.specs.Replies.{find_reply}
use Rattle.ledger.specs.declared.stop.Stop.{Stop}
use Rattle.layout.specs.Words.{written, word_at}
use Rattle.slots.specs.declared.slots.Slots.{Slots}
use Rattle.slots.specs.Bounds.{length_limit}
use Rattle.array.specs.declared.array.Array.{Ghosts}
use Rattle.array.specs.declared.array.ListLikeArray.{Ghosts as ListGhosts}
use Rattle.array.specs.Windows.{Range}
use Rattle.array.specs.Offsets.{largest_of}

-- the start and the size of a range, 0 where there is none
abbrev pub start_of : Result Range Stop → ℕ
start_of (Ok r) = r.0
start_of (Err e) = 0

abbrev pub size_of : Result Range Stop → ℕ
size_of (Ok r) = r.1 - r.0
size_of (Err e) = 0

-- what a list-like array replies when it is asked for a range, on each body, by its own members
abbrev pub ranges_of : {L C : Type 0} → Ghosts L → ListGhosts L C → L → List ℕ → ℕ → Result Range Stop
ranges_of array list a = λ b i. find_reply (array.size a) (list.range_need a) (list.range a b) b i

-- an offset of w bytes at number k after a place
abbrev pub offset_put : ℕ → List ℕ → ℕ → ℕ → ℕ → List ℕ
offset_put w b place k v = written w b (place + w * k) (v % suc (largest_of w))

-- a body with start and size of the first n slots written, each after a look at its range
unfoldable pub views_put : ℕ → (List ℕ → ℕ → Result Range Stop) → ℕ → ℕ → List ℕ → ℕ → List ℕ
views_put w range starts sizes b zero = b
views_put w range starts sizes b (suc n) =
    let c = views_put w range starts sizes b n in
    offset_put w (offset_put w c starts n (start_of (range c n))) sizes n (size_of (range c n))

-- what is written of n slots: the words of each range, and no bit before the starts
pub record Written (w starts sizes : ℕ) (range : ℕ → Result Range Stop) (b c : List ℕ) (n : ℕ) : Type 0 where
  pub size : length c ≡ length b
  pub kept : (j : ℕ) → j < 8 * starts → bit_at c j ≡ bit_at b j
  pub begins : (i : ℕ) → i < n → word_at c (starts + w * i) w ≡ start_of (range i)
  pub counts : (i : ℕ) → i < n → word_at c (sizes + w * i) w ≡ size_of (range i)

-- Where the starts' places end before the sizes', both lie in the body, every bit that a range is worked out from lies
-- before them, and starts and sizes are offsets of w bytes: then what is written of each slot is the range that it had.
abbrev pub ViewsShow : ℕ → ℕ → (ℕ → List Span) → (List ℕ → ℕ → Option Range) → ℕ → ℕ → List ℕ → List ℕ → Type 0
ViewsShow w size need range starts sizes b c =
    starts + w * size ≤ sizes → sizes + w * size ≤ length b
    → ((i : ℕ) → i < size → (k : ℕ) → Within (need i) k → k < 8 * starts)
    → ((i : ℕ) → i < size → (start_of (find_reply size need (range b) b i) ≤ largest_of w) × (size_of (find_reply size need (range b) b i) ≤ largest_of w))
    → Written w starts sizes (λ i. find_reply size need (range b) b i) b c size

-- the words of both lie in the body
abbrev pub views_fit : ℕ → ℕ → ℕ → ℕ → List ℕ → Bool
views_fit w starts sizes n b = cond (nat_le (starts + w * n) (length b)) (nat_le (sizes + w * n) (length b)) false

pub fresh_words : (first len : ℕ) → first + len ≤ length_limit → 0 + len ≤ length_limit
fresh_words first len h = omega arith

-- the slots of a conversion: words from the first one on, the same marks
abbrev pub fresh_slots : Slots → Slots
fresh_slots s =
    record { first = 0; len = s.len; marks = s.marks; words_end = fresh_words s.first s.len s.words_end; marks_end = s.marks_end }
