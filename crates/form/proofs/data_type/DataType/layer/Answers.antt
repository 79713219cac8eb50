use Rattle.std.proofs.Common.{Ok, rules}
use Rattle.form.proofs.Shaped.{layer_extends}
use Rattle.form.proofs.data_type.DataType.layer.Goals as goal

pub returns-in_err-check_room-clause-extends : goal.returns-in_err-check_room-clause-extends
returns-in_err-check_room-clause-extends c = layer_extends c.args.digit c.args.self c.from_residual.result (search rules)

pub returns-clause-extends : goal.returns-clause-extends
returns-clause-extends c = layer_extends c.args.digit c.args.self (Ok c.with_layer.result) (search rules)
