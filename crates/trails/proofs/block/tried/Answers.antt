use Rattle.std.proofs.Common.{arith}
use Rattle.std.proofs.lemmas.Bool.Decides.{nat_tests}
use Rattle.trails.proofs.block.tried.Goals as goal

-- A trial that is taken has passed its tests.
pub returns : goal.returns
returns c = grind (arith, nat_tests)
