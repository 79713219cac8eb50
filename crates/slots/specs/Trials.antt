use Rattle.std.specs.Prelude.{ℕ, ◌+◌, ◌/◌, ◌≤◌, min, cond, List, length, Some, None, Ok, Err, Option, Result, ◌==◌, nat_le}
use Rattle.std.proofs.Common.{arith}
use Rattle.layout.specs.declared.marks.Marks.{Marks}
use Rattle.ledger.specs.declared.stop.Stop.{Stop}
use Rattle.ledger.specs.declared.stop.Reason.TheVariants.{BodyLengthDiffers, BeyondBytes, TooLarge, MarkCountDiffers}
use Rattle.ledger.specs.Stops.{stopped}
use Rattle.ledger.specs.Ledger.{Accounts}
use Rattle.slots.specs.declared.null_buffer.NullBuffer.{NullBuffer}
use Rattle.slots.specs.declared.slots.Slots.{Slots}
use Rattle.slots.specs.Bounds.{length_limit, mark_first}

-- a test, and what follows where it does not stop
abbrev pub and_then : {X : Type 0} → Result (Unit {0}) Stop → Result X Stop → Result X Stop
and_then (Ok u) r = r
and_then (Err e) r = Err e

-- where so many bytes from a place on end; none need no place
abbrev pub bytes_end : ℕ → ℕ → ℕ
bytes_end place n = cond (n == 0) 0 (place + n)

-- the bytes of n bits
abbrev pub bit_bytes : ℕ → ℕ
bit_bytes n = (n + 7) / 8

-- where the marks end
abbrev pub marks_bytes_end : Option NullBuffer → ℕ
marks_bytes_end None = 0
marks_bytes_end (Some m) = bytes_end m.place (bit_bytes m.len)

-- a trial's first tests: the body is the ledger's, and the own bytes, which end at `own`, and the marks are loaded
abbrev pub bytes_reply : Accounts → List ℕ → ℕ → Option NullBuffer → Result (Unit {0}) Stop
bytes_reply g b own nulls =
    cond (length b == g.length)
    (cond (nat_le own g.loaded)
    (cond (nat_le (marks_bytes_end nulls) g.loaded) (Ok tt) (Err (stopped BeyondBytes))) (Err (stopped BeyondBytes))) (Err (stopped BodyLengthDiffers))

-- a length is at most 2 ^ 62
abbrev pub length_reply : ℕ → Result (Unit {0}) Stop
length_reply len = cond (nat_le len length_limit) (Ok tt) (Err (stopped TooLarge))

-- marks are as many as the slots
abbrev pub marks_reply : Option NullBuffer → ℕ → Result (Unit {0}) Stop
marks_reply None len = Ok tt
marks_reply (Some m) len = cond (m.len == len) (Ok tt) (Err (stopped MarkCountDiffers))

-- the marks of a trial's handle: they start on a byte
abbrev pub marks_at : Option NullBuffer → Option Marks
marks_at None = None
marks_at (Some m) = Some (record { place = m.place; first = 0 })

pub new_words : (len : ℕ) → 0 + min len length_limit ≤ length_limit
new_words len = omega arith

pub new_marks : (nulls : Option NullBuffer) (len : ℕ) → mark_first (marks_at nulls) + min len length_limit ≤ length_limit
new_marks None len = omega arith
new_marks (Some m) len = omega arith

-- the slots of a trial's handle: so many, from the first word and the first mark on (a longer one has been stopped)
abbrev pub new_slots : ℕ → Option NullBuffer → Slots
new_slots len nulls =
    record { first = 0; len = min len length_limit; marks = marks_at nulls; words_end = new_words len; marks_end = new_marks nulls len }

-- a leaf's trial, whose own bytes end at `own`
abbrev pub leaf_reply : Accounts → List ℕ → ℕ → ℕ → Option NullBuffer → Result Slots Stop
leaf_reply g b own len nulls =
    and_then (bytes_reply g b own nulls) (and_then (length_reply len) (and_then (marks_reply nulls len) (Ok (new_slots len nulls))))

-- a handle made of the slots
abbrev pub with_slots : {X : Type 0} → (Slots → X) → Result Slots Stop → Result X Stop
with_slots f (Ok s) = Ok (f s)
with_slots f (Err e) = Err e
