use Rattle.std.proofs.Common.{◌≡◌, ◌+◌}
use Rattle.rows.specs.Rows.{rows_put}
use Rattle.primitive_builder.specs.Numbers.{put_number}
use Rattle.primitive_builder.proofs.put_rows.Given as goal

abbrev pub invariant-loop-i : goal.invariant-loop-i
invariant-loop-i g l = l.body ≡ rows_put (λ j. put_number g.T.ArrowPrimitiveType.width l.rows l.place l.mark (g.T.Native.ArrowNativeType.to_word l.number) (l.rows.count + j)) l.i l.initial.body
