use Rattle.std.proofs.Common.{◌≡◌, Ok, Result, rules}
use Rattle.ledger.specs.declared.stop.Stop.{Stop}
use Rattle.boolean_array.specs.declared.boolean_array.BooleanArray.{BooleanArray}
use Rattle.boolean_array.specs.Booleans.{bool_reply}
use Rattle.boolean_array.proofs.BooleanLaws.{bool_leads}
use Rattle.boolean_array.proofs.boolean_array.BooleanArray.try_new.Goals as goal

pub returns-clause-leads : goal.returns-clause-leads
returns-clause-leads c =
    let a = c.args in
    let e : ◌≡◌ {A = Result BooleanArray Stop} (Ok (record { place = a.place; slots = c.in_ok-slots.slots })) (bool_reply a.ledger.now a.body.now a.place a.len a.nulls) = search rules in
    rw (← e) at (bool_leads a.ledger.now a.body.now a.place a.len a.nulls)
