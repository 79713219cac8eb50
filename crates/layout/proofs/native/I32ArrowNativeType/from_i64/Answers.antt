use Rattle.std.proofs.Common.{◌∙◌, w64}
use Rattle.std.proofs.lemmas.Int.{to_z-of_z}
use Rattle.layout.proofs.NativeRanges.{found_32}
use Rattle.layout.proofs.native.I32ArrowNativeType.from_i64.Goals as goal

pub returns : goal.returns
returns c =
    let v = c.args.v in
    let r = c.try_from.result in
    c.ok.ensures.value ∙ found_32 v r (rw (to_z-of_z w64 v c.ranges.v) at c.try_from.ensures)
