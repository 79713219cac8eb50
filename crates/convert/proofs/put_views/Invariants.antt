use Rattle.std.proofs.Common.{◌≡◌}
use Rattle.convert.specs.Writing.{ranges_of, views_put}
use Rattle.convert.proofs.put_views.Given as goal

abbrev pub invariant-loop-i : goal.invariant-loop-i
invariant-loop-i g l =
    l.body ≡ views_put g.O.ArrowNativeType.WIDTH (ranges_of g.L.Array g.L.ListLikeArray l.a) l.starts l.sizes l.initial.body l.i
