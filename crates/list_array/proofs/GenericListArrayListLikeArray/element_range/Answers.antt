use Rattle.std.proofs.Common.{◌+◌, ◌<◌, ap, ◌∙◌, ⊎_elim, arith, lt-ltb}
use Rattle.list_array.specs.Offsets.{pair_found, pair_reply}
use Rattle.list_array.specs.OffsetLaws.{asked_range}
use Rattle.list_array.proofs.GenericListArrayListLikeArray.element_range.Goals as goal

pub returns : goal.returns
returns g c =
    let a = c.args.self.now in
    let w = g.O.ArrowNativeType.WIDTH in
    let b = c.args.body.now in
    let h : 0 < w = ⊎_elim (λ p. omega arith) (λ p. omega arith) g.met.O.OffsetSizeTrait.wide in
    let l : c.args.i < a.slots.len = omega arith in
    rw (lt-ltb c.args.i a.slots.len l)
    (c.range_at.ensures ∙ ap (λ n. pair_found n (pair_reply w a.place b (a.slots.first + c.args.i))) c.len.ensures ∙ asked_range w a.place a.slots (g.C.Array.size a.child) b c.args.i h)
