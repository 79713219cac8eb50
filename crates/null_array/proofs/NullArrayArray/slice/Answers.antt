use Rattle.null_array.proofs.SameNulls.{cut_taken}
use Rattle.null_array.proofs.NullArrayArray.slice.Goals as goal

pub returns : goal.returns
returns c = cut_taken c.args.self.now c.args.start c.args.n c.in_ok-len.field-0 _ (rw c.slots.ensures at c.in_ok-len.ensures)
