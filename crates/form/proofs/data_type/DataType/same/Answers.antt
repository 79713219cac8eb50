use Rattle.std.proofs.Common.{sym, ap, ◌∙◌}
use Rattle.std.proofs.lemmas.Bool.{eqb-true, eq-eqb}
use Rattle.form.specs.Forms.{code_in, with_code}
use Rattle.form.specs.Shapes.{form_of}
use Rattle.form.proofs.Shaped.{form_same}
use Rattle.form.proofs.data_type.DataType.same.Goals as goal

pub returns-clause-compares : goal.returns-clause-compares
returns-clause-compares c = λ s t p q e h. (
  λ r. form_same s t p q (sym e ∙ ap with_code (eqb-true _ _ (sym c.eq.ensures ∙ r)) ∙ h),
  λ r. c.eq.ensures ∙ eq-eqb _ _ (ap code_in (e ∙ ap form_of r ∙ sym h)),
)
