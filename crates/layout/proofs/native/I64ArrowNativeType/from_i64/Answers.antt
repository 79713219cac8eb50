use Rattle.std.proofs.Common.{Some, sym, ap, ◌∙◌, w64}
use Rattle.std.proofs.lemmas.Int.{to_z-of_z}
use Rattle.layout.proofs.NativeRanges.{has_64}
use Rattle.layout.proofs.native.I64ArrowNativeType.from_i64.Goals as goal

pub returns : goal.returns
returns c = ap Some (to_z-of_z w64 c.args.v c.ranges.v) ∙ sym (has_64 c.args.v c.ranges.v)
