use Rattle.std.proofs.Common.{◌≡◌, ℕ, suc, ◌+◌, ◌*◌, ◌%◌, sym, ap, ◌∙◌}
use Rattle.layout.specs.Words.{written}
use Rattle.array.specs.Offsets.{largest_of}
use Rattle.convert.specs.Writing.{ranges_of, start_of, size_of, offset_put}
use Rattle.convert.proofs.Written.{views_none, views_more, pair_shows}
use Rattle.convert.proofs.put_views.Goals as goal

pub loop-i-init : goal.loop-i-init
loop-i-init g c = sym (views_none _ _ _ _ _)

pub loop-i-preserved : goal.loop-i-preserved
loop-i-preserved g c =
    let w = g.O.ArrowNativeType.WIDTH in
    let a = c.args.a.now in
    let range = ranges_of g.L.Array g.L.ListLikeArray a in
    let b = c.loop-i.body in
    let i = c.loop-i.i in
    let p = c.args.starts in
    let q = c.args.sizes in
    let pair = c.unwrap_or-from.result in
    let y = c.saturating_sub.result in
    let shown = pair_shows (range b i) pair (rw c.element_range.ensures at c.unwrap_or-from.ensures) in
    let d = c.write.new.body in
    let e : d ≡ offset_put w b p i (start_of (range b i)) =
    c.write.ensures.leaves ∙ ap (λ (u : ℕ). written w b (p + u * i) (pair.0 % suc (largest_of w))) c.WIDTH.ensures ∙ ap (offset_put w b p i) shown.0 in
    let z : y ≡ size_of (range b i) = c.saturating_sub.ensures ∙ shown.1 in
    let f : c.write-in-loop-i.new.body ≡ offset_put w d q i (size_of (range b i)) =
    c.write-in-loop-i.ensures.leaves ∙ ap (λ (u : ℕ). written w d (q + u * i) (y % suc (largest_of w))) c.WIDTH-in-loop-i.ensures ∙ ap (offset_put w d q i) z in
    f ∙ ap (λ t. offset_put w t q i (size_of (range b i))) e ∙ views_more w range p q c.args.body.now b i c.loop-i.invariant
