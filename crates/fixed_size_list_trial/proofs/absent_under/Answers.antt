use Rattle.std.proofs.Common.{◌≡◌, ◌*◌, ℕ, Bool, true, false, cond, refl, rules, arith}
use borrow.Author.Tests.{tests}
use Rattle.std.proofs.lemmas.Iterator.{YieldsList-from_range, cases_from_any}
use Rattle.slots.specs.Slots.{slot_mark}
use Rattle.fixed_size_list_trial.specs.Trial.{absent_in}
use Rattle.fixed_size_list_trial.proofs.Parts.{under_by}
use Rattle.fixed_size_list_trial.proofs.absent_under.Goals as goal

pub returns : goal.returns
returns g c =
    let mark = slot_mark c.args.slots c.args.body.now in
    let f = g.C.Array.entry c.args.child.now c.args.body.now in
    let size = c.args.size in
    let n = c.args.slots.len in
    let at : ℕ → Bool = λ i. cond (mark i) (absent_in f (i * size) size) false in
    under_by mark f size n c.any.result
    (cases_from_any _ _ c.any.result (λ i. at i ≡ true) (λ i. at i ≡ false) c.any.ensures.ran (YieldsList-from_range 0 n n refl (omega arith)) (λ x q k. search (rules, tests)) (λ x q k. search (rules, tests)))
