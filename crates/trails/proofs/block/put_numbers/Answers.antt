use Rattle.std.proofs.Common.{◌+◌, ◌*◌, ◌≤◌, length, ◌∙◌, arith, below_more}
use Rattle.trails.proofs.Bodies.{word_there, word_else, bits_else}
use Rattle.trails.proofs.block.put_numbers.Goals as goal

-- A number that is written at its place leaves the numbers before it, and the bits behind all of them.
pub loop-k-preserved : goal.loop-k-preserved
loop-k-preserved c =
    let b = c.loop-k.body in
    let k = c.loop-k.k in
    let v = c.unwrap_or.result in
    let fit : 2 * c.loop-k.k + 2 ≤ length c.loop-k.body = omega (arith, c.requires) in
    let left = c.put.ensures.leaves in (
      below_more _ _
          (λ j h. rw left (word_else b k v j fit h ∙ c.loop-k.invariant.0 j h))
          (rw left (word_there b k v fit c.unwrap_or.type_inv ∙ c.unwrap_or.ensures)),
      λ t l. rw left (bits_else b k v t fit (omega arith) ∙ c.loop-k.invariant.1 t l),
    )
