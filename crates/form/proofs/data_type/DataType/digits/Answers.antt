use Rattle.std.proofs.Common.{ap, ◌∙◌}
use Rattle.form.specs.Forms.{digit_count}
use Rattle.form.proofs.Shaped.{counted}
use Rattle.form.proofs.data_type.DataType.digits.Goals as goal

pub returns-clause-counts : goal.returns-clause-counts
returns-clause-counts c = λ s h e. ap digit_count e ∙ counted s h
