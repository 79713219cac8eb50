use Rattle.std.proofs.Common.{◌≡◌, ◌+◌, ◌-◌, ◌*◌, ◌/◌, ◌%◌, ◌^◌, ◌<◌, ap, arith}
use lib.Bits.{bit_or}
use Rattle.std.proofs.lemmas.Nat.{or_shifted, shl_whole, shr_below}
use Rattle.form.specs.Forms.{with_code}
use Rattle.form.proofs.data_type.DataType.with_front.Goals as goal

pub returns : goal.returns
returns c =
    let a = c.args.bits in
    let b = 64 - a in
    let n = c.args.front in
    let f = c.args.self.code in
    let w : b + a ≡ 64 = omega arith in
    let k : f < 2 ^ (b + a) = rw w (omega arith) in
    let e : bit_or (n * 2 ^ b % 2 ^ 64) (f / 2 ^ a) ≡ n * 2 ^ b + f / 2 ^ a =
    rw (shl_whole n a b 64 c.requires.fits (omega arith)) (or_shifted n b (f / 2 ^ a) (shr_below f b a k)) in
    ap with_code e
