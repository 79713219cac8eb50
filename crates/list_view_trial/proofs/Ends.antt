use Rattle.std.proofs.Common.{◌≡◌, ℕ, zero, suc, ◌+◌, ◌-◌, ◌<◌, ◌≤◌, List, [], ◌∷◌, Some, None, Ok, Err, Option, Result, MatchOption, sym, refl, ap, ◌∙◌, add-one, arith}
use native.Mathlib.Decide.{ℕ_discrete}
use denote.Param.Members.{Mut}
use Rattle.std.specs.Fn.{Called}
use Rattle.std.specs.List.{FoldsTo}
use Rattle.std.specs.Iterator.{YieldsThen}
use Rattle.std.specs.declared.ops.Range.{Range}
use Rattle.std.proofs.iter.Yields.{nat_range_steps}
use Rattle.ledger.specs.declared.stop.Stop.{Stop}
use Rattle.slots.specs.Trials.{and_then}
use Rattle.list_view_trial.specs.Trial.{end_reply, ends_reply}

pub ends_none : (size : ℕ) (end : ℕ → ℕ) → ends_reply size end 0 ≡ Ok tt
unfolding ends_reply
ends_none size end = refl

-- one slot more
pub ends_more : (size : ℕ) (end : ℕ → ℕ) (k : ℕ) → ends_reply size end k ≡ Ok tt → Ok tt ≡ end_reply size (end k) → ends_reply size end (k + 1) ≡ Ok tt
unfolding ends_reply
ends_more size end k h e = rw (add-one k, h, sym e) refl

-- the first slot that stops decides
pub ends_stop : (size : ℕ) (end : ℕ → ℕ) (k n : ℕ) (s : Stop) → k < n → ends_reply size end k ≡ Ok tt → Err s ≡ end_reply size (end k) → Err s ≡ ends_reply size end n
unfolding ends_reply
ends_stop size end k zero s l h e = absurd (omega arith)
ends_stop size end k (suc n) s l h e =
    elim (ℕ_discrete k n) as (λ _. Err s ≡ and_then (ends_reply size end n) (end_reply size (end n))) [
      | yes q ↦ rw (sym q, h) e
      | no q ↦ rw (sym (ends_stop size end k n s (omega arith) h e)) refl
    ]

-- a search through the slots by calls that reply what each slot's end does
module _ {F E : Type 0} (g : Mut F (ℕ × Unit {0}) (Result (Unit {0}) Stop)) (stop : E → Stop) (broke : E → Type 0)
    (size : ℕ) (end : ℕ → ℕ) (f : F) (r : Result (Unit {0}) Stop) where
  pub ends_tried : (xs : List ℕ) (s u : Range ℕ) (o : Option ℕ) (q : F) → s.start ≤ s.end → ends_reply size end s.start ≡ Ok tt
      → YieldsThen nat_range_steps s xs o u → FoldsTo (λ p x q. (v : Result (Unit {0}) Stop) × Called g p (x, tt) v q × (v ≡ Ok tt)) f xs q
      → MatchOption o (r ≡ Ok tt) (λ x. (v : Result (Unit {0}) Stop) × (h : F) × (e : E) × Called g q (x, tt) v h × (v ≡ Err (stop e)) × broke e)
      → ((x : ℕ) (v : Result (Unit {0}) Stop) (q : F) → Called g f (x, tt) v q → (q ≡ f) × (v ≡ end_reply size (end x)))
      → ((e : E) → broke e → r ≡ Err (stop e))
      → r ≡ ends_reply size end s.end
  ends_tried [] s u None q l h y t m call passes =
      let z : s.end - s.start ≡ 0 = rw (sym y.1) at y.2.1.0 in
      let k : s.end ≡ s.start = omega arith in
      m ∙ sym (rw k h)
  ends_tried [] s u (Some x) q l h y t m call passes =
      let z0 : 0 < s.end - s.start = rw (sym y.1) at y.2.1.0 in
      let z1 : x ≡ s.start = rw (sym y.1) at y.2.1.1 in
      let c = call x m.0 m.1 (rw (sym t) at m.3) in
      passes m.2 m.5 ∙ ends_stop size end s.start s.end (stop m.2) (omega arith) h (sym m.4 ∙ c.1 ∙ ap (λ k. end_reply size (end k)) z1)
  ends_tried (x ∷ xs) s u o q l h y t m call passes =
      let j = y.1.0 in
      let z0 : j.end ≡ s.end = y.1.1.0 in
      let z1 : 0 < s.end - s.start = y.1.1.1.0 in
      let z3 : j.start ≡ s.start + 1 = y.1.1.1.2 in
      let c = call x t.1.0 t.0 t.1.1 in
      let d : Ok tt ≡ end_reply size (end s.start) = sym t.1.2 ∙ c.1 ∙ ap (λ k. end_reply size (end k)) y.1.1.1.1 in
      let n : ends_reply size end j.start ≡ Ok tt = rw z3 (ends_more size end s.start h d) in
      ends_tried xs j u o q (omega arith) n (y.0, y.1.2, y.2) (rw c.0 at t.2) m call passes ∙ ap (ends_reply size end) z0
