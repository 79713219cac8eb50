use Rattle.std.specs.Prelude.{ℕ, ◌+◌, Bool, cond, List, Ok, Err, Option, Result, nat_le, nat_lt}
use Rattle.std.specs.Option.{ok_or}
use Rattle.layout.specs.Spans.{Span, in_body}
use Rattle.layout.specs.Needs.{each, counts}
use Rattle.layout.specs.declared.marks.Marks.{Marks}
use Rattle.layout.specs.Marks.{mark_reply}
use Rattle.ledger.specs.declared.stop.Stop.{Stop}
use Rattle.ledger.specs.declared.stop.Reason.TheVariants.{BeyondBytes, IndexPastEnd, NoRange}
use Rattle.ledger.specs.Stops.{stopped}

-- a question to slot i of so many: past the size it stops by IndexPastEnd, where a needed bit lies beyond the body by
-- BeyondBytes, else the answer is taken
abbrev pub ask_reply : {X : Type 0} → ℕ → (ℕ → List Span) → (ℕ → X) → List ℕ → ℕ → Result X Stop
ask_reply size need answer b i =
    cond (nat_lt i size) (cond (in_body (need i) b) (Ok (answer i)) (Err (stopped BeyondBytes))) (Err (stopped IndexPastEnd))

-- how many of the slots f holds of: BeyondBytes where a needed bit of one of them lies beyond the body
abbrev pub count_reply : ℕ → (ℕ → List Span) → (ℕ → Bool) → List ℕ → Result ℕ Stop
count_reply size need f b = cond (in_body (each need size) b) (Ok (counts f size)) (Err (stopped BeyondBytes))

-- what is there, or BeyondBytes
abbrev pub or_beyond : {X : Type 0} → Option X → Result X Stop
or_beyond o = ok_or o (stopped BeyondBytes)

-- what is there, or NoRange
abbrev pub found : {X : Type 0} → Option X → Result X Stop
found o = ok_or o (stopped NoRange)

-- a question to slot i whose answer may be missing: after the stops above, NoRange
abbrev pub find_reply : {X : Type 0} → ℕ → (ℕ → List Span) → (ℕ → Option X) → List ℕ → ℕ → Result X Stop
find_reply size need answer b i =
    cond (nat_lt i size) (cond (in_body (need i) b) (found (answer i)) (Err (stopped BeyondBytes))) (Err (stopped IndexPastEnd))

-- a cut (start, n) of so many slots is h, taken exactly where start + n is at most the size
abbrev pub slice_reply : {X : Type 0} → ℕ → ℕ → ℕ → X → Result X Stop
slice_reply size start n h = cond (nat_le (start + n) size) (Ok h) (Err (stopped IndexPastEnd))

-- slot i's mark, by the marks themselves
abbrev pub present_reply : Option Marks → ℕ → List ℕ → ℕ → Result Bool Stop
present_reply ms len b i = cond (nat_lt i len) (or_beyond (mark_reply ms b i)) (Err (stopped IndexPastEnd))
