use Rattle.std.proofs.Common.{◌≡◌, ℕ, true, false, is_ok, Result, refl, arith, rules}
use borrow.Author.Tests.{tests}
use Rattle.std.proofs.lemmas.Iterator.{YieldsList-from_range, cases_from_all}
use Rattle.ledger.specs.declared.stop.Stop.{Stop}
use Rattle.array.specs.Windows.{Range}
use Rattle.convert.specs.Writing.{ranges_of}
use Rattle.convert.proofs.AllTaken.{all_by}
use Rattle.convert.proofs.all_ranges.Goals as goal

pub returns : goal.returns
returns g c =
    let a = c.args.a.now in
    let b = c.args.body.now in
    let n = g.L.Array.size a in
    let f : ℕ → Result Range Stop = ranges_of g.L.Array g.L.ListLikeArray a b in
    all_by f n c.all.result
    (cases_from_all _ _ c.all.result (λ i. is_ok (f i) ≡ true) (λ i. is_ok (f i) ≡ false) c.all.ensures.ran (YieldsList-from_range 0 c.len.result n refl (omega arith)) (λ x q k. search (rules, tests)) (λ x q k. search (rules, tests)))
