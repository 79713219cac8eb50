use Rattle.std.proofs.Common.{◌≡◌, ap, ◌∙◌}
use Rattle.convert.specs.Writing.{ranges_of, views_put}
use Rattle.convert.proofs.Written.{views_show}
use Rattle.convert.proofs.write_views.Goals as goal

pub returns-clause-shows : goal.returns-clause-shows
returns-clause-shows g c t =
    let w = g.O.ArrowNativeType.WIDTH in
    let a = c.args.a.now in
    let b = c.args.body.now in
    let size = g.L.Array.size a in
    let put = views_put w (ranges_of g.L.Array g.L.ListLikeArray a) c.args.starts c.args.sizes b in
    let l : c.put_views.new.body ≡ put size = c.put_views.ensures ∙ ap put c.len-n.ensures in
    rw l (views_show w g.met.O.OffsetSizeTrait.wide size (g.L.ListLikeArray.range_need a) (g.L.ListLikeArray.range a) c.args.starts c.args.sizes b (g.met.L.ListLikeArray.range_needs a))
