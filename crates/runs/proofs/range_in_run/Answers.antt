use Rattle.std.proofs.Common.{◌≡◌, ◌-◌, ap, ◌∙◌}
use Rattle.history.specs.Entry.{entries_from}
use Rattle.history.specs.Entry.Entry.{window}
use Rattle.array.specs.Windows.{window_in}
use Rattle.runs.proofs.Showing.{first_showed, found_cases}
use Rattle.runs.proofs.range_in_run.Goals as goal

pub returns : goal.returns
returns g c =
    let a = c.args.a.now in
    let b = c.args.body.now in
    let i = c.args.i in
    let f = g.L.Child.Array.entry (g.L.ListLikeArray.child a) b in
    record {
      answers = c.element_range.ensures;
      trail = found_cases (g.L.Array.size a) (g.L.ListLikeArray.range_need a) (g.L.ListLikeArray.range a b) b i c.element_range.result _ c.element_range.ensures
          (λ l p e. rw (g.met.L.Array.sight a) (first_showed _ b i (λ s. s.entry ≡ window (entries_from f p.0 (p.1 - p.0))) l
          (g.met.L.ListLikeArray.shown_window a b i l ∙ ap (window_in f) e)));
    }
