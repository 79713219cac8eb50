use Rattle.std.proofs.Common.{◌≡◌, ◌-◌, true}
use Rattle.list_array.specs.Offsets.{offset_of}
use Rattle.list_trial.specs.Trial.{rises}
use Rattle.list_trial.proofs.last_offset.Given as goal

abbrev pub invariant-loop-k : goal.invariant-loop-k
invariant-loop-k g l =
    (l.last ≡ offset_of g.O.ArrowNativeType.WIDTH l.place l.body (l.k - 1))
    × (rises (offset_of g.O.ArrowNativeType.WIDTH l.place l.body) (l.k - 1) ≡ true)
