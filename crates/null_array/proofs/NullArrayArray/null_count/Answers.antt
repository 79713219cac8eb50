use Rattle.std.proofs.Common.{sym}
use Rattle.slots.proofs.Asks.{count_none}
use Rattle.null_array.proofs.NullArrayArray.null_count.Goals as goal

pub returns : goal.returns
returns c = sym (count_none c.args.self.now.len c.args._body.now)
