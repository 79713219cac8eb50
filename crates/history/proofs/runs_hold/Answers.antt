use mathlib.Core.Path.{refl}
use Rattle.history.proofs.Holding.{distance_law, runs_go_on, given_out}
use Rattle.history.proofs.Leading.{stop_leads, step_leads, turn_leads, new_leads, snapshot_leads, finish_leads}
use Rattle.history.proofs.runs_hold.Goals as goal

pub returns : goal.returns
returns c =
    record {
      counts = refl;
      distance = distance_law;
      goes_on = runs_go_on;
      given_out = given_out;
      calls = (stop_leads, step_leads, turn_leads, new_leads, λ s b r f w. (snapshot_leads s b r f w, finish_leads s b r f w));
    }
