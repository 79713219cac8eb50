use Rattle.std.proofs.Common.{◌≡◌, ◌+◌, ◌/◌, true, false, ltb, length, refl, le-ltb, lt-ltb}
use Rattle.rows.specs.Rows.{bit_put}
use Rattle.rows.proofs.put_bit.Goals as goal

pub returns-then-at-body : goal.returns-then-at-body
unfolding bit_put
returns-then-at-body c =
    let t : ltb (c.args.place + c.args.k / 8) (length c.args.body.now) ≡ true = lt-ltb _ _ c.if-at-body.true in
    rw t c.set_bit.ensures

pub returns-else-at-body : goal.returns-else-at-body
unfolding bit_put
returns-else-at-body c =
    let t : ltb (c.args.place + c.args.k / 8) (length c.args.body.now) ≡ false = le-ltb _ _ c.if-at-body.false in
    rw t refl
