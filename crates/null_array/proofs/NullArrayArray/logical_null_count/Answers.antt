use Rattle.std.proofs.Common.{sym}
use Rattle.slots.proofs.Asks.{count_all}
use Rattle.null_array.proofs.NullArrayArray.logical_null_count.Goals as goal

pub returns : goal.returns
returns c = sym (count_all c.args.self.now.len c.args._body.now)
