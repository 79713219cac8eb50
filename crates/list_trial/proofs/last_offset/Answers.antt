use Rattle.std.proofs.Common.{◌≡◌, ℕ, ◌+◌, ◌-◌, true, false, ℤ, sym, ap, ◌∙◌, arith, w64, SFits, rules}
use lib.Signed.{lt_z}
use Rattle.std.proofs.lemmas.Int.{to_z-of_z}
use Rattle.list_array.specs.Offsets.{offset_of}
use Rattle.list_trial.specs.Trial.{rises}
use Rattle.list_trial.proofs.Rising.{rises_none, rises_more, rises_not}
use Rattle.list_trial.proofs.last_offset.Goals as goal

pub loop-k-init : goal.loop-k-init
loop-k-init g c =
    let f : SFits w64 c.offset_in-last.result = search rules in
    (to_z-of_z w64 c.offset_in-last.result f ∙ c.offset_in-last.ensures, rises_none _)

pub returns-then-next-last : goal.returns-then-next-last
returns-then-next-last g c =
    let f : ℕ → ℤ = offset_of g.O.ArrowNativeType.WIDTH c.args.place c.args.body.now in
    let s : SFits w64 c.offset_in-next.result = search rules in
    let e = to_z-of_z w64 c.offset_in-next.result s in
    let k = c.loop-k.k in
    let t : lt_z (f k) (f (k - 1)) ≡ true = cc in
    let r : rises f (c.args.count - 1) ≡ false = rises_not f k (c.args.count - 1) c.loop-k.auto.k (omega arith) t in
    rw r (search rules)

pub loop-k-preserved : goal.loop-k-preserved
loop-k-preserved g c =
    let f : ℕ → ℤ = offset_of g.O.ArrowNativeType.WIDTH c.args.place c.args.body.now in
    let s : SFits w64 c.offset_in-next.result = search rules in
    let e = to_z-of_z w64 c.offset_in-next.result s in
    let k = c.loop-k.k in
    let p : k + 1 - 1 ≡ k = omega arith in
    let t : lt_z (f k) (f (k - 1)) ≡ false = cc in (e ∙ c.offset_in-next.ensures ∙ ap f (sym p), rises_more f k c.loop-k.auto.k c.loop-k.invariant.1 t)
