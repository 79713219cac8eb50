use Rattle.std.proofs.Common.{Ok, rules}
use Rattle.checks.specs.Checks.{absents}
use Rattle.list_trial.proofs.Leading.{list_trial_leads}
use Rattle.list_trial.proofs.try_new.Goals as goal

pub returns-clause-leads : goal.returns-clause-leads
returns-clause-leads g c =
    let child = c.args.child in
    list_trial_leads {O = g.row.O.Denot} g.O.ArrowNativeType.WIDTH g.met.O.OffsetSizeTrait.wide g.C.Array c.args.ledger.now c.args.body.now c.args.field c.args.place c.args.count c.args.nulls child
    (Ok (absents (g.C.Array.size child) (g.C.Array.entry child c.args.body.now)))
    (record { place = c.args.place; slots = c.in_ok-slots.slots; field = c.args.field; child = child; kind = record {} }) (g.met.C.Array.entry_alike child) (λ h. search rules) (search rules)
