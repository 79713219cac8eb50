use Rattle.std.proofs.Common.{refl}
use Rattle.history.proofs.Leading.{cut_leads, seen_framed, stop_leads}
use Rattle.array.proofs.Ties.{slice_cases}
use Rattle.array.proofs.cuts.cut.Goals as goal

pub returns : goal.returns
returns g c =
    let a = c.args.a.now in
    let s = c.args.start in
    let n = c.args.n in
    let h = g.A.Array.cut a s n in
    record {
      answers = c.slice.ensures;
      leads = slice_cases c.slice.result (g.A.Array.size a) s n h _ _ c.slice.ensures
          (λ l. rw (g.met.A.Array.sight a, g.met.A.Array.sight h) (cut_leads _ s n _
          (seen_framed (g.A.Array.size h) (g.A.Array.mark h) (g.A.Array.shown h) (g.A.Array.spans h) (g.met.A.Array.mark_alike h) (g.met.A.Array.shown_alike h))
          l (g.met.A.Array.cut_size a s n l)
          (λ b i k. rw (g.met.A.Array.cut_mark a s n l b i k, g.met.A.Array.cut_shown a s n l b i k) refl)
          (g.met.A.Array.cut_spans a s n l)))
          (λ l. stop_leads);
    }
