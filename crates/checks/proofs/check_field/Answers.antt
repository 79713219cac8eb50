use Rattle.std.proofs.Common.{rules}
use Rattle.checks.proofs.Counted.{absents_taken}
use Rattle.checks.proofs.check_field.Goals as goal

pub returns-in_err-check_absent-clause-counted : goal.returns-in_err-check_absent-clause-counted
returns-in_err-check_absent-clause-counted g c h =
    let child = c.args.child.now in
    let k = absents_taken g.C.Array child c.args.body.now (g.met.C.Array.absent_needs child) (g.met.C.Array.entry_alike child) h in
    search (rules, k)
