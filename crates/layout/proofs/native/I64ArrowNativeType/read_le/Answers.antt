use Rattle.std.proofs.Common.{ap, ◌∙◌, w64, SFits, to_z, of_z, rules}
use Rattle.std.proofs.lemmas.Int.{to_z-of_z}
use Rattle.layout.specs.Words.{signed_of, word_at}
use Rattle.layout.proofs.WordSums.{made_of_bytes, taken_8, signed_64}
use Rattle.layout.proofs.native.I64ArrowNativeType.read_le.Goals as goal

pub returns : goal.returns
returns c =
    let b = c.args.body.now in
    let p = c.args.at in
    let bs = c.in_ok-bytes.bytes in
    let r = c.from_le_bytes.result in
    let f : SFits w64 r = search rules in
    made_of_bytes (signed_of 8) 8 b p bs (to_z w64 (of_z w64 r)) c.in_ok-bytes.ensures
    (λ e. to_z-of_z w64 r f ∙ c.from_le_bytes.ensures ∙ ap (to_z w64) (taken_8 b p c.type_inv.body bs e) ∙ signed_64 (word_at b p 8))
