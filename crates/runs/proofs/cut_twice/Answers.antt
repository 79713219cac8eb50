use Rattle.runs.proofs.Showing.{behind_twice, cases_map}
use Rattle.runs.proofs.cut_twice.Goals as goal

pub returns : goal.returns
returns g c =
    let l = c.in_ok-once.ensures.leads in
    cases_map c.cut-2.result _ _ _ _ (λ h q. behind_twice _ _ _ _ _ _ _ l q) (λ e h. tt) c.cut-2.ensures.leads
