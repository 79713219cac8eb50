use Rattle.std.proofs.Common.{refl}
use lib.Count.{count_trailing_zeros}
use Rattle.layout.specs.Words.{word_at, signed_of}
use Rattle.layout.specs.Needs.{each, counts}
use Rattle.history.specs.Entry.{entries_from}
use Rattle.list_array.specs.Offsets.{list_range}
use Rattle.list_trial.specs.Trial.{rises}
use Rattle.list_view_trial.specs.Trial.{ends_reply}
use Rattle.worked.proofs.worked.Goals as goal

pub returns : goal.returns
unfolding count_trailing_zeros word_at signed_of each counts entries_from list_range rises ends_reply
returns c =
    record {
      counts = refl;
      hold = (refl, (refl, (refl, (refl, (refl, (refl, (refl, (refl, (refl, (refl, (refl, (refl, (refl, (refl, (refl, (refl, (refl, (refl, (refl, (refl, tt))))))))))))))))))));
    }
