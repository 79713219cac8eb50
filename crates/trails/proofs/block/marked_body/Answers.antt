use Rattle.std.proofs.Common.{◌≡◌, ◌*◌, length, vec_items, ap, ◌∙◌, arith}
use Rattle.std.proofs.Math.Seq.{take-append_seam}
use Rattle.layout.specs.Bits.{bit_at}
use Rattle.layout.proofs.Sameness.{word_alike}
use Rattle.trails.proofs.block.marked_body.Goals as goal

-- The marks stand behind the numbers, so they leave them.
pub returns : goal.returns
returns c =
    let new = c.put_marks.new.body in
    let long : c.in_ok-body.body.len ≡ length c.put_marks.new.body = omega (arith, c.put_marks.auto.body, c.deref_mut.ensures.len) in
    rw (long, take-append_seam) (
      (λ k h.
          word_alike new (vec_items c.in_ok-body.body) (2 * k) 2
          (λ t x y. c.put_marks.ensures.rest t (omega arith) ∙ ap (λ b. bit_at b t) c.deref_mut.ensures.value)
          ∙ c.in_ok-body.ensures.0 k h),
      c.put_marks.ensures.marks,
    )
