use Rattle.std.proofs.Common.{◌≡◌, ℕ, ◌*◌, ◌<◌, ◌≤◌, length, get_or, None, unwrap_or}
use Rattle.layout.specs.Bits.{bit_at}
use Rattle.layout.specs.Words.{word_at}
use Rattle.trails.proofs.block.put_numbers.Given as goal

abbrev pub invariant-loop-k : goal.invariant-loop-k
invariant-loop-k l =
    ((j : ℕ) → j < l.k → word_at l.body (2 * j) 2 ≡ unwrap_or (get_or l.slots j None) 0)
    × ((t : ℕ) → 16 * length l.slots ≤ t → bit_at l.body t ≡ bit_at l.initial.body t)
