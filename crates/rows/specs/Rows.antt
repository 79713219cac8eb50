use Rattle.std.specs.Prelude.{ℕ, zero, suc, ◌+◌, ◌-◌, ◌*◌, ◌/◌, ◌%◌, ◌^◌, Bool, cond, List, [], ◌∷◌, ◌++◌, length, Some, None, Ok, Err, Option, Result, ◌==◌, bit_and, bit_or, nat_le, nat_lt, slice_index, slice_set}
use Rattle.ledger.specs.declared.stop.Stop.{Stop}
use Rattle.ledger.specs.declared.stop.Reason.TheVariants.{NoPlaceLeft}
use Rattle.ledger.specs.Stops.{stopped}
use Rattle.layout.specs.Bits.{bit_set, zeros_from}
use Rattle.layout.specs.Words.{word_at, written}
use Rattle.slots.specs.declared.null_buffer.NullBuffer.{NullBuffer}
use Rattle.array.specs.Offsets.{largest_of}

-- The rows of a builder on a body: bits and words that stand one behind the other.

-- f 0, .., f (n - 1)
unfoldable pub listed : {X : Type 0} → (ℕ → X) → ℕ → List X
listed f zero = []
listed f (suc n) = listed f n ++ (f n ∷ [])

-- the first n bits from a place on
abbrev pub bits_of : List ℕ → ℕ → ℕ → List Bool
bits_of b place n = listed (λ k. bit_set b (8 * place + k)) n

-- what f makes of the first n words of w bytes from a place on
abbrev pub words_of : {X : Type 0} → (ℕ → X) → ℕ → List ℕ → ℕ → ℕ → List X
words_of f w b place n = listed (λ k. f (word_at b (place + w * k) w)) n

-- a byte whose bit j is v
abbrev pub with_bit : ℕ → ℕ → Bool → ℕ
with_bit x j v = cond v (bit_or x (2 ^ j)) (bit_and x (255 - 2 ^ j))

-- a body whose bit k from a place on is v, where that lies in the body
unfoldable pub bit_put : List ℕ → ℕ → ℕ → Bool → List ℕ
bit_put b place k v =
    cond (nat_lt (place + k / 8) (length b)) (slice_set b (place + k / 8) (with_bit (slice_index b (place + k / 8)) (k % 8) v)) b

-- a body whose word k of w bytes from a place on is v, where that lies in the body
abbrev pub word_put : ℕ → List ℕ → ℕ → ℕ → ℕ → List ℕ
word_put w b place k v = written w b (place + w * k) v

-- an offset as a word, without what passes the largest offset's bits
abbrev pub offset_put : ℕ → List ℕ → ℕ → ℕ → ℕ → List ℕ
offset_put w b place k v = word_put w b place k (v % suc (largest_of w))

-- the marks of a handle on the first n bits from a place on: none where all of them are 1
abbrev pub nulls_at : List ℕ → ℕ → ℕ → Option NullBuffer
nulls_at b place n = cond (zeros_from b (8 * place) n == 0) None (Some (record { place = place; len = n }))

-- n rows more have places beside those taken; none need none
abbrev pub room_reply : ℕ → ℕ → ℕ → Result (Unit {0}) Stop
room_reply count room n = cond (n == 0) (Ok tt) (cond (nat_le (count + n) room) (Ok tt) (Err (stopped NoPlaceLeft)))

-- A row of a mark and a word of w bytes: row k has bit k of the marks and word k from the byte `at` on.
abbrev pub marked_word : {X : Type 0} → (ℕ → X) → ℕ → ℕ → ℕ → List ℕ → ℕ → Bool × X
marked_word f w marks at b k = (bit_set b (8 * marks + k), f (word_at b (at + w * k) w))

abbrev pub put_marked_word : ℕ → ℕ → ℕ → Bool → ℕ → ℕ → List ℕ → List ℕ
put_marked_word w marks at mark word k b = word_put w (bit_put b marks k mark) at k word

-- n rows written one behind the other, row k by `row k`
abbrev pub rows_put : (ℕ → List ℕ → List ℕ) → ℕ → List ℕ → List ℕ
rows_put row zero b = b
rows_put row (suc n) b = row n (rows_put row n b)
