use Rattle.std.proofs.Common.{◌≡◌, ◌+◌, ◌*◌, ◌/◌, ◌<◌, length, nat_eq, ap, ◌∙◌, arith, below_more}
use Rattle.rows.proofs.RowLaws.{bit_there, bit_else}
use Rattle.trails.proofs.block.put_marks.Goals as goal

-- A mark that is written is read, and no other bit changes.
pub loop-k-preserved : goal.loop-k-preserved
loop-k-preserved c =
    let b = c.loop-k.body in
    let p = c.args.place in
    let k = c.loop-k.k in
    let v = c.is_some.result in
    let left = c.put_bit.ensures in
    let inside : p + k / 8 < length b = omega (arith, c.requires) in (
      below_more _ _
          (λ j h. rw left (ap (λ x. nat_eq x 1) (bit_else b p k v (8 * p + j) (λ e. omega arith)) ∙ c.loop-k.invariant.0 j h))
          (rw left (bit_there b p k v inside ∙ c.is_some.ensures)),
      λ t l. rw left (bit_else b p k v t (λ e. omega arith) ∙ c.loop-k.invariant.1 t l),
    )
