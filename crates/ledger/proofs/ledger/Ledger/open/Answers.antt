use Rattle.history.proofs.Leading.{open_leads}
use Rattle.ledger.proofs.ledger.Ledger.open.Goals as goal

pub returns-clause-leads : goal.returns-clause-leads
returns-clause-leads c = open_leads c.args.length c.args.loaded
