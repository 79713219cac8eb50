use Rattle.std.proofs.Common.{◌≡◌, not, refl}
use Rattle.runs.proofs.Showing.{first_showed, asked_cases}
use Rattle.runs.proofs.null_in_run.Goals as goal

pub returns : goal.returns
returns g c =
    let a = c.args.a.now in
    let b = c.args.body.now in
    let i = c.args.i in
    record {
      answers = c.is_null.ensures;
      trail = asked_cases (g.A.Array.size a) (g.A.Array.mark_need a) (λ j. not (g.A.Array.mark a b j)) b i c.is_null.result _ c.is_null.ensures
          (λ l. rw (g.met.A.Array.sight a) (first_showed _ b i (λ s. not (g.A.Array.mark a b i) ≡ not s.present) l refl));
    }
