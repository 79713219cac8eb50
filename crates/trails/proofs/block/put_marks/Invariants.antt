use Rattle.std.proofs.Common.{◌≡◌, ℕ, ◌+◌, ◌*◌, ◌<◌, ◌≤◌, length, get_or, is_some, None}
use Rattle.layout.specs.Bits.{bit_at, bit_set}
use Rattle.trails.proofs.block.put_marks.Given as goal

abbrev pub invariant-loop-k : goal.invariant-loop-k
invariant-loop-k l =
    ((j : ℕ) → j < l.k → bit_set l.body (8 * l.place + j) ≡ is_some (get_or l.slots j None))
    × ((t : ℕ) → t < 8 * l.place → bit_at l.body t ≡ bit_at l.initial.body t)
