use Rattle.std.proofs.Common.{◌≡◌, ℕ, zero, suc, ◌+◌, ◌*◌, ◌<◌, ◌≤◌, Bool, true, false, cond, not, eqb, leb, List, length, Some, None, Ok, Err, Option, Result, refl, ap, ◌∙◌, inl, inr, arith, eqb-true, leb-true, MatchResult}
use Rattle.layout.specs.Spans.{Within}
use Rattle.layout.specs.Marks.{mark_of, mark_spans}
use Rattle.layout.specs.Needs.{Needed}
use Rattle.layout.proofs.SpanLaws.{mark_sub, mark_from}
use Rattle.layout.proofs.NeedLaws.{mark_needed, needed_not}
use Rattle.history.specs.Entry.{Entry, is_absent}
use Rattle.history.specs.Entry.Entry.{absent}
use Rattle.ledger.specs.declared.stop.Stop.{Stop}
use Rattle.ledger.specs.declared.stop.Reason.TheVariants.{BodyLengthDiffers, BeyondBytes, TooLarge, MarkCountDiffers}
use Rattle.ledger.specs.Stops.{stopped}
use Rattle.ledger.specs.Ledger.{Accounts}
use Rattle.slots.specs.declared.null_buffer.NullBuffer.{NullBuffer}
use Rattle.slots.specs.declared.slots.Slots.{Slots}
use Rattle.slots.specs.Bounds.{length_limit}
use Rattle.slots.specs.Slots.{slot_mark, slot_need, slot_spans, slots_cut}
use Rattle.slots.specs.Trials.{and_then, bytes_end, bit_bytes, marks_bytes_end, marks_reply, marks_at, new_slots, leaf_reply, with_slots}
use Rattle.slots.proofs.SameSlots.{cut_len, cut_slots}

-- the marks of a cut
module _ (s : Slots) (start n : ℕ) (h : start + n ≤ s.len) where
  pub slots_mark : (b : List ℕ) (i : ℕ) → slot_mark (slots_cut s start n) b i ≡ slot_mark s b (start + i)
  slots_mark b i = ap (λ ms. mark_of ms b i) (cut_slots s start n h) ∙ mark_from s.marks b start i

  pub slots_within : (k : ℕ) → Within (slot_spans (slots_cut s start n)) k → Within (slot_spans s) k
  slots_within k p =
      mark_sub s.marks start n s.len k h (rw (cut_slots s start n h, cut_len s start n h) at p)

-- an entry that is absent just where the mark is null
pub absence : (m : Bool) (e : Entry) → is_absent e ≡ false → is_absent (cond m e absent) ≡ not m
absence true e h = h
absence false e h = refl

-- and so needs the mark's bit
pub absence_needed : (s : Slots) (i : ℕ) (e : List ℕ → Entry) → ((b : List ℕ) → is_absent (e b) ≡ false) → Needed (slot_need s i) (λ b. is_absent (cond (slot_mark s b i) (e b) absent))
absence_needed s i e h =
    needed_not (slot_need s i) (λ b. slot_mark s b i) (λ b. is_absent (cond (slot_mark s b i) (e b) absent))
    (λ b. absence (slot_mark s b i) (e b) (h b)) (mark_needed s.marks i)

-- the marks of a trial lie in the loaded bytes
pub marks_loaded : (nulls : Option NullBuffer) (len loaded k : ℕ) → marks_bytes_end nulls ≤ loaded → marks_reply nulls len ≡ Ok tt → Within (mark_spans (marks_at nulls) len) k → k < 8 * loaded
marks_loaded None len loaded k l e p = absurd p
marks_loaded (Some m) len loaded k l e (inr p) = absurd p
marks_loaded (Some m) len loaded k l e (inl p) = by (eqb m.len len) refl e
  where
    by : (t : Bool) → eqb m.len len ≡ t → ◌≡◌ {A = Result (Unit {0}) Stop} (cond t (Ok tt) (Err (stopped MarkCountDiffers))) (Ok tt) → k < 8 * loaded
    by true q f =
        let s : m.len ≡ len = eqb-true _ _ q in
        let p0 = p.0 in
        let p1 = p.1 in
        let z : eqb (bit_bytes m.len) 0 ≡ false = grind arith in
        let u : bytes_end m.place (bit_bytes m.len) ≡ m.place + bit_bytes m.len = rw z refl in
        omega arith
    by false q f = let z : ◌≡◌ {A = ℕ} 0 1 = cc in absurd (omega arith)

-- what is made of a leaf's trial, by its two cases
pub leaf_cases : {X : Type 0} (g : Accounts) (b : List ℕ) (own len : ℕ) (nulls : Option NullBuffer) (f : Slots → X) (P : X → Type 0) (Q : Stop → Type 0)
    → (own ≤ g.loaded → len ≤ length_limit → ((k : ℕ) → Within (mark_spans (marks_at nulls) len) k → k < 8 * g.loaded) → P (f (new_slots len nulls)))
    → ((e : Stop) → Q e)
    → MatchResult (with_slots f (leaf_reply g b own len nulls)) P Q
leaf_cases g b own len nulls f P Q p q =
    by (eqb (length b) g.length) (leb own g.loaded) (leb (marks_bytes_end nulls) g.loaded) (leb len length_limit) (marks_reply nulls len) refl refl refl refl
  where
    by : (t u v w : Bool) (m : Result (Unit {0}) Stop) → leb own g.loaded ≡ u → leb (marks_bytes_end nulls) g.loaded ≡ v → leb len length_limit ≡ w → marks_reply nulls len ≡ m
        → MatchResult (with_slots f (and_then (cond t (cond u (cond v (Ok tt) (Err (stopped BeyondBytes))) (Err (stopped BeyondBytes))) (Err (stopped BodyLengthDiffers))) (and_then (cond w (Ok tt) (Err (stopped TooLarge))) (and_then m (Ok (new_slots len nulls)))))) P Q
    by false u v w m eu ev ew em = q (stopped BodyLengthDiffers)
    by true false v w m eu ev ew em = q (stopped BeyondBytes)
    by true true false w m eu ev ew em = q (stopped BeyondBytes)
    by true true true false m eu ev ew em = q (stopped TooLarge)
    by true true true true (Err e) eu ev ew em = q e
    by true true true true (Ok u0) eu ev ew em =
        p (leb-true _ _ eu) (leb-true _ _ ew) (λ k h. marks_loaded nulls len g.loaded k (leb-true _ _ ev) em h)

-- a bit of a trial's own bytes lies in the loaded ones
pub own_loaded : (place n loaded k : ℕ) → bytes_end place n ≤ loaded → 8 * place ≤ k → k < 8 * (place + n) → k < 8 * loaded
own_loaded place zero loaded k l p q = absurd (omega arith)
own_loaded place (suc n) loaded k l p q =
    let z : eqb (suc n) 0 ≡ false = grind arith in
    let u : place + suc n ≤ loaded = rw z at l in
    omega arith
