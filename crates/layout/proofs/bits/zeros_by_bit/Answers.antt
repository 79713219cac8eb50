use Rattle.std.proofs.Common.{◌≡◌, ◌∙◌, ap, not, ◌+◌, rules, arith}
use borrow.Author.Tests.{tests}
use Rattle.std.proofs.lemmas.Iterator.{YieldsList-from_range}
use Rattle.std.proofs.lemmas.Iterator.Consumers.{YieldsList-from_filter, count_from_yields_List}
use Rattle.layout.specs.Bits.{bit_set, zeros_from}
use Rattle.layout.proofs.Counting.{zeros_behind}
use Rattle.layout.proofs.bits.zeros_by_bit.Goals as goal

pub returns-clause-counted : goal.returns-clause-counted
returns-clause-counted c =
    let b = c.args.body.now in
    let at = c.args.at in
    let n = c.args.n in
    let here : at + 0 ≡ at = omega arith in
    count_from_yields_List c.filter.result c.count.result c.count.ensures.ran
    (YieldsList-from_filter _ (λ i. not (bit_set b (at + i))) (YieldsList-from_range 0 n n (cc) (omega arith)) c.filter.ensures.closure (λ x r q k. search (rules, tests)))
    ∙ zeros_behind b at 0 n ∙ ap (λ k. zeros_from b k n) here
