use Rattle.std.proofs.Common.{◌≡◌, ◌*◌, ◌/◌, length, ◌∙◌, rules, arith}
use Rattle.std.proofs.lemmas.Iterator.{YieldsList-from_slice, YieldsList-from_map}
use Rattle.std.proofs.lemmas.Iterator.Consumers.{sum_by_from_yields_List, fits_by_from_yields_list}
use Rattle.std.specs.Simd.{first_chunks}
use Rattle.layout.specs.Bits.{zeros_from}
use Rattle.layout.proofs.Counting.{zeros_few, zeros_words}
use Rattle.layout.proofs.bits.zeros_by_word.Goals as goal

pub sum-requires-clause-fits : goal.sum-requires-clause-fits
sum-requires-clause-fits c =
    let b = c.args.bytes.now in
    let n = length b / 8 in
    let words = first_chunks 8 n b in
    let e = zeros_words b 0 n in
    let l = zeros_few b 0 (64 * n) in
    fits_by_from_yields_list (λ w. zeros_from w 0 64) words c.map.result _
    (YieldsList-from_map _ (λ w. zeros_from w 0 64) (YieldsList-from_slice words (cc)) c.map.ensures.closure (λ x r q k. search rules))
    (omega arith)

total : (c : goal.After-sum) → c.sum.result ≡ zeros_from c.args.bytes.now 0 (64 * (length c.args.bytes.now / 8))
total c =
    let b = c.args.bytes.now in
    let n = length b / 8 in
    let words = first_chunks 8 n b in
    sum_by_from_yields_List (λ w. zeros_from w 0 64) words c.map.result c.sum.result c.sum.ensures.ran
    (YieldsList-from_map _ (λ w. zeros_from w 0 64) (YieldsList-from_slice words (cc)) c.map.ensures.closure (λ x r q k. search rules))
    ∙ zeros_words b 0 n

pub returns : goal.returns
returns c =
    let e = total c in
    let l = zeros_few c.args.bytes.now 0 (64 * (length c.args.bytes.now / 8)) in
    record { counted = e; few = omega arith }
