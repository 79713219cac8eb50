use Rattle.std.proofs.Common.{◌+◌, ◌<◌, ap, ◌∙◌, ⊎_elim, arith, lt-ltb}
use Rattle.list_view_array.specs.Views.{view_found, view_reply}
use Rattle.list_view_array.specs.ViewLaws.{asked_view}
use Rattle.list_view_array.proofs.GenericListViewArrayListLikeArray.element_range.Goals as goal

pub returns : goal.returns
returns g c =
    let a = c.args.self.now in
    let w = g.O.ArrowNativeType.WIDTH in
    let b = c.args.body.now in
    let h : 0 < w = ⊎_elim (λ p. omega arith) (λ p. omega arith) g.met.O.OffsetSizeTrait.wide in
    let l : c.args.i < a.slots.len = omega arith in
    rw (lt-ltb c.args.i a.slots.len l)
    (c.view_at.ensures ∙ ap (λ n. view_found n (view_reply w a.starts a.sizes b (a.slots.first + c.args.i))) c.len.ensures ∙ asked_view w a.starts a.sizes a.slots (g.C.Array.size a.child) b c.args.i h)
