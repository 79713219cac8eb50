use Rattle.std.proofs.Common.{rules}
use Rattle.fixed_size_list_trial.proofs.Leading.{fixed_trial_leads}
use Rattle.fixed_size_list_trial.proofs.try_new.Goals as goal

pub returns-clause-leads : goal.returns-clause-leads
returns-clause-leads g c =
    fixed_trial_leads g.C.Array c.args.ledger.now c.args.body.now c.args.field c.args.size c.args.nulls c.args.child c.shaped.result
    (g.met.C.Array.entry_alike c.args.child) (search rules)
