use Rattle.std.proofs.Common.{◌≡◌, ◌∙◌}
use Rattle.runs.proofs.Showing.{first_showed, found_cases}
use Rattle.runs.proofs.value_in_run.Goals as goal

pub returns : goal.returns
returns g c =
    let a = c.args.a.now in
    let b = c.args.body.now in
    let i = c.args.i in
    record {
      answers = c.value.ensures;
      trail = found_cases (g.A.Array.size a) (g.A.ArrayAccessor.item_need a) (g.A.ArrayAccessor.item a b) b i c.value.result _ c.value.ensures
          (λ l v e present. rw (g.met.A.Array.sight a) (first_showed _ b i (λ s. s.entry ≡ g.A.ArrayAccessor.told v b) l
          (g.met.A.Array.shown_entry a b i l present ∙ g.met.A.ArrayAccessor.item_told a b i v l e present)));
    }
