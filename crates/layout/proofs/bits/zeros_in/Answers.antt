use Rattle.std.proofs.Common.{ℕ, ◌+◌, ◌-◌, ◌/◌, ◌%◌, ◌∙◌, ap₂, arith}
use Rattle.layout.proofs.Counting.{zeros_parts, zeros_slice}
use Rattle.layout.proofs.bits.zeros_in.Goals as goal

pub returns : goal.returns
returns c =
    let b = c.args.body.now in
    let at = c.args.at in
    let n = c.args.n in
    let h = c.next_multiple_of.result - at in
    let q = (at + h) / 8 in
    let w = (n - h) / 64 in
    let p = zeros_parts b at h q w ((n - h) % 64) n (omega arith) (omega arith) in
    let x = c.zeros_by_bit-before.ensures.counted in
    let y = c.zeros_by_word-within.ensures.counted ∙ zeros_slice b q w (omega arith) in
    let z = c.zeros_by_bit-after.ensures.counted in
    ap₂ (λ (u v : ℕ). u + v) (ap₂ (λ (u v : ℕ). u + v) x y) z ∙ p
