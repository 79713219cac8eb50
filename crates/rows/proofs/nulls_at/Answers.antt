use Rattle.std.proofs.Common.{◌≡◌, ◌*◌, true, eqb, sym, refl, ◌∙◌, eq-eqb}
use Rattle.layout.specs.Bits.{zeros_from}
use Rattle.rows.proofs.RowLaws.{zeros_found}
use Rattle.rows.proofs.nulls_at.Goals as goal

pub returns-then-zeros-eq0 : goal.returns-then-zeros-eq0
returns-then-zeros-eq0 c = λ h.
    let z = zeros_found c.args.body.now c.args.place c.args.n c.in_ok-zeros.zeros h c.in_ok-zeros.ensures in
    let e : eqb (zeros_from c.args.body.now (8 * c.args.place) c.args.n) 0 ≡ true = eq-eqb _ _ (sym z ∙ c.if-zeros-eq0.true) in
    rw e refl
