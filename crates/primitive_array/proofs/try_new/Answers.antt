use Rattle.std.proofs.Common.{◌≡◌, ◌*◌, Ok, Result, rules}
use Rattle.ledger.specs.declared.stop.Stop.{Stop}
use Rattle.slots.specs.declared.slots.Slots.{Slots}
use Rattle.primitive_array.specs.Numbers.{number_reply}
use Rattle.primitive_array.specs.NumberLaws.{number_leads}
use Rattle.primitive_array.proofs.try_new.Goals as goal

pub returns-clause-leads : goal.returns-clause-leads
returns-clause-leads g c =
    let a = c.args in
    let w = g.T.ArrowPrimitiveType.width in
    let e : ◌≡◌ {A = Result Slots Stop} (Ok c.in_ok-slots.slots) (number_reply w a.ledger.now a.body.now a.place a.len a.nulls) = search rules in
    rw (← e) at (number_leads w g.T.ArrowPrimitiveType.whole a.ledger.now a.body.now a.place a.len a.nulls (λ s. s) _ (λ s h. h))
