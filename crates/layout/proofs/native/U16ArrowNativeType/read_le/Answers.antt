use Rattle.layout.proofs.WordSums.{made_of_bytes, taken_2}
use Rattle.std.proofs.Common.{◌∙◌}
use Rattle.layout.proofs.native.U16ArrowNativeType.read_le.Goals as goal

pub returns : goal.returns
returns c =
    let b = c.args.body.now in
    let bs = c.in_ok-bytes.bytes in
    made_of_bytes (λ n. n) 2 b c.args.at bs c.from_le_bytes.result c.in_ok-bytes.ensures (λ e. c.from_le_bytes.ensures ∙ taken_2 b c.args.at c.type_inv.body bs e)
