use Rattle.std.proofs.Common.{◌+◌, ◌*◌, ap, ◌∙◌}
use Rattle.layout.specs.Words.{written}
use Rattle.array.proofs.OffsetWords.{offset_lowest}
use Rattle.array.proofs.offset_size.OffsetSizeTrait.write_nth.Goals as goal

pub returns-in-Some-clause-leaves : goal.returns-in-Some-clause-leaves
returns-in-Some-clause-leaves g c =
    let n = g.Self.ArrowNativeType in
    let m = g.met.Self in
    let e = offset_lowest n.WIDTH n.of_word n.to_word m.OffsetSizeTrait.wide m.ArrowNativeType.word_of_number c.args.offset c.of_offset.result c.in-Some.number c.of_offset.ensures c.in-Some.is in
    c.put_nth.ensures.leaves ∙ ap (written n.WIDTH c.args.body.now (c.args.place + n.WIDTH * c.args.k)) e
