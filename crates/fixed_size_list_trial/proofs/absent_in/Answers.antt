use Rattle.std.proofs.Common.{◌≡◌, ◌+◌, Ok, le-leb, rules}
use Rattle.checks.proofs.Counted.{absents_taken}
use Rattle.fixed_size_list_trial.proofs.Parts.{part_absents, part_in}
use Rattle.fixed_size_list_trial.proofs.absent_in.Goals as goal

pub returns : goal.returns
returns g c =
    let a = c.args.child.now in
    let b = c.args.body.now in
    let from = c.args.from in
    let n = c.args.n in
    let p = g.C.Array.cut a from n in
    let taken : c.slice.result ≡ Ok p = rw (le-leb (from + n) (g.C.Array.size a) c.requires.0) at c.slice.ensures in
    let k = absents_taken g.C.Array p b (g.met.C.Array.absent_needs p) (g.met.C.Array.entry_alike p) (part_in (g.C.Array.spans a) (g.C.Array.spans p) b (g.met.C.Array.cut_spans a from n c.requires.0) c.requires.1) in
    let m = part_absents (g.C.Array.entry a b) (g.C.Array.entry p b) from n (g.C.Array.size p) (g.met.C.Array.cut_size a from n c.requires.0) (λ j l. g.met.C.Array.cut_entry a from n c.requires.0 b j l) in
    search (rules, taken, k, m)

pub returns-in_default-logical_null_count : goal.returns-in_default-logical_null_count
returns-in_default-logical_null_count g c =
    let a = c.args.child.now in
    let b = c.args.body.now in
    let from = c.args.from in
    let n = c.args.n in
    let p = g.C.Array.cut a from n in
    let taken : c.slice.result ≡ Ok p = rw (le-leb (from + n) (g.C.Array.size a) c.requires.0) at c.slice.ensures in
    let k = absents_taken g.C.Array p b (g.met.C.Array.absent_needs p) (g.met.C.Array.entry_alike p) (part_in (g.C.Array.spans a) (g.C.Array.spans p) b (g.met.C.Array.cut_spans a from n c.requires.0) c.requires.1) in
    let m = part_absents (g.C.Array.entry a b) (g.C.Array.entry p b) from n (g.C.Array.size p) (g.met.C.Array.cut_size a from n c.requires.0) (λ j l. g.met.C.Array.cut_entry a from n c.requires.0 b j l) in
    search (rules, taken, k, m)
