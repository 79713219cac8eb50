use Rattle.std.proofs.Common.{◌≡◌, ℕ, ◌+◌, ◌∙◌, sym, ap, arith}
use lib.Count.{ones}
use Rattle.layout.specs.Bits.{zeros_from}
use Rattle.layout.specs.Words.{word_at}
use Rattle.layout.proofs.WordSums.{word_8}
use Rattle.layout.proofs.Counting.{word_ones, ones_not}
use Rattle.layout.proofs.bits.zeros_of_word.Goals as goal

pub returns : goal.returns
returns c =
    let b = c.args.bytes.now in
    let e : c.from_le_bytes.result ≡ word_at b 0 8 = c.from_le_bytes.ensures ∙ sym (word_8 b 0 (λ i. record { fits = c.fits-bytes i })) in
    let h : ones c.from_le_bytes.result + zeros_from b 0 64 ≡ 64 = ap (λ (x : ℕ). ones x + zeros_from b 0 64) e ∙ word_ones b 0 8 in
    let n = ones_not 64 c.from_le_bytes.result c.from_le_bytes.type_inv in
    let z = c.count_zeros.ensures.value in
    omega arith
