use Rattle.std.proofs.Common.{ℕ, Err, ap, ◌∙◌, rules, arith}
use Rattle.std.proofs.lemmas.Result.{err_from_is_err_and}
use Rattle.list_view_trial.specs.Trial.{view_end}
use Rattle.list_view_trial.proofs.Ends.{ends_none, ends_tried}
use Rattle.list_view_trial.proofs.check_views.Goals as goal

pub returns : goal.returns
returns g c =
    let end : ℕ → ℕ = view_end g.O.ArrowNativeType.WIDTH c.args.starts c.args.sizes c.args.body.now in
    let t = c.try_for_each.ensures.ran in
    ends_tried _ (λ e. e.0) _ c.args.size end _ c.try_for_each.result t.0 _ _ t.1 t.2 (omega arith) (ends_none _ _) t.3 t.4 t.5
    (λ x v q k. search rules) (λ e k. let p = err_from_is_err_and c.try_for_each.result k.1 in p.1 ∙ ap Err p.2)
