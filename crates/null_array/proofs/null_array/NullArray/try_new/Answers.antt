use Rattle.null_array.proofs.SameNulls.{trial_taken}
use Rattle.null_array.proofs.null_array.NullArray.try_new.Goals as goal

pub returns-clause-answers : goal.returns-clause-answers
returns-clause-answers c = trial_taken c.args.len c.in_ok-slots.slots _ _ _ c.in_ok-slots.ensures.answers
