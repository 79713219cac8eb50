use Rattle.std.proofs.Common.{Ok, rules, arith}
use Rattle.form.proofs.Shaped.{fixed_extends}
use Rattle.form.proofs.data_type.DataType.fixed.Goals as goal

pub returns-in_err-check_room-clause-extends : goal.returns-in_err-check_room-clause-extends
returns-in_err-check_room-clause-extends c = fixed_extends c.args.size c.args.self c.from_residual.result (omega arith) (search rules)

pub returns-clause-extends : goal.returns-clause-extends
returns-clause-extends c = fixed_extends c.args.size c.args.self (Ok c.with_fixed.result) (omega arith) (search rules)
