use Rattle.array.proofs.OffsetWords.{offset_number}
use Rattle.array.proofs.offset_size.OffsetSizeTrait.of_offset.Goals as goal

pub returns : goal.returns
returns g c =
    let n = g.Self.ArrowNativeType in
    let m = g.met.Self.OffsetSizeTrait in
    offset_number n.WIDTH n.of_word n.word m.wide m.offset_word c.args.offset c.max_offset.result c.from_i64.result c.max_offset.ensures c.from_i64.ensures
