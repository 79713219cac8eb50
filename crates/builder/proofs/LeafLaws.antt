use Rattle.std.proofs.Common.{◌≡◌, ℕ, zero, suc, ◌+◌, ◌<◌, ◌≤◌, Bool, true, false, cond, eqb, leb, List, map, length, replicate, ℤ, Ok, Err, Result, sym, refl, ap, ◌∙◌, arith, eq-eqb, ne_eqb, eqb-true, leb-true}
use Rattle.ledger.specs.declared.stop.Stop.{Stop}
use Rattle.ledger.specs.declared.stop.Reason.TheVariants.{NoSuchStep, NoPlaceLeft, NumberOutOfRange}
use Rattle.ledger.specs.Stops.{stopped}
use Rattle.form.specs.declared.data_type.DataType.{DataType}
use Rattle.builder.specs.declared.step.Step.{Step}
use Rattle.builder.specs.declared.step.Step.TheVariants.{Value, Null, Nulls, Close}
use Rattle.builder.specs.Meaning.{on_ok, on_body, after, slot_at}
use Rattle.slots.specs.Trials.{and_then}
use Rattle.builder.specs.Growth.{Added, Lawful}
use Rattle.builder.specs.Tables.{pushed, step_slots}
use Rattle.builder.specs.Leaves.{Leaf, leaf_slot, leaf_row, leaf_test, leaf_own, leaf_reply, leaf_next, leaf_sees, leaf_means}
use Rattle.rows.specs.Rows.{room_reply, listed}
use Rattle.rows.proofs.Lists.{map-++, map-listed, get_or-listed, length-listed}
use Rattle.builder.proofs.Running.{lawful_run}

pub ok_next : {A X : Type 0} (r : Result X Stop) (x : X) (t s : A) → r ≡ Ok x → on_ok r t s ≡ t
ok_next (Ok y) x t s e = refl
ok_next (Err z) x t s e = let q : ◌≡◌ {A = ℕ} 0 1 = cc in absurd (omega arith)

module _ (takes : ℤ → Bool) (form : DataType) where
  leaf_adds : (l : Leaf) (d : ℕ) (s : Step) → leaf_reply takes l d s ≡ Ok tt → Added d (leaf_sees takes form l).slots (leaf_sees takes form (leaf_next takes l d s)).slots
  leaf_adds l zero s e = (
    map leaf_slot (replicate (step_slots s) (leaf_row s)),
    rw (ok_next (leaf_reply takes l 0 s) tt (pushed l (step_slots s) (leaf_row s)) l e) (map-++ leaf_slot l.rows (replicate (step_slots s) (leaf_row s))),
  )
  leaf_adds l (suc d) s e =
      let t : eqb (suc d) 0 ≡ false = ne_eqb (suc d) 0 (λ z. omega arith) in
      let u : ◌≡◌ {A = Result (Unit {0}) Stop} (Err (stopped NoSuchStep)) (Ok tt) = rw t at e in
      let q : ◌≡◌ {A = ℕ} 0 1 = cc in absurd (omega arith)

  pub leaf_lawful : (l : Leaf) → Lawful (leaf_means takes form l)
  leaf_lawful l = lawful_run (leaf_sees takes form) (leaf_next takes) (λ _. Unit {0}) (λ s d x p. tt) (λ s d x p e. leaf_adds s d x e) l tt

-- what a leaf answers on its body at depth 0 is what its tests answer
pub leaf_answers : (takes : ℤ → Bool) (b : List ℕ) (size : ℕ) (l : Leaf) (d : ℕ) (s : Step) (count : ℕ) (r : Result (Unit {0}) Stop)
    → length b ≡ size → d ≡ 0 → length l.rows ≡ count → r ≡ leaf_test (takes (leaf_row s).1) count l.room s → r ≡ on_body size b (leaf_reply takes l d s)
leaf_answers takes b size l d s count r x y z e =
    rw (eq-eqb (length b) size x, eq-eqb d 0 y) (e ∙ ap (λ n. leaf_test (takes (leaf_row s).1) n l.room s) (sym z))

-- a step that a leaf takes is its own, and passed its tests
pub leaf_taken : (takes : ℤ → Bool) (l : Leaf) (d : ℕ) (s : Step) → leaf_reply takes l d s ≡ Ok tt → (d ≡ 0) × (leaf_own takes l s ≡ Ok tt)
leaf_taken takes l d s e = by (eqb d 0) refl e
  where
    by : (t : Bool) → eqb d 0 ≡ t → ◌≡◌ {A = Result (Unit {0}) Stop} (cond t (leaf_own takes l s) (Err (stopped NoSuchStep))) (Ok tt) → (d ≡ 0) × (leaf_own takes l s ≡ Ok tt)
    by true x y = (eqb-true d 0 x, y)
    by false x y = let q : ◌≡◌ {A = ℕ} 0 1 = cc in absurd (omega arith)

pub room_taken : (count room n : ℕ) → count ≤ room → room_reply count room n ≡ Ok tt → count + n ≤ room
room_taken count room n l e = by (eqb n 0) (leb (count + n) room) refl refl e
  where
    by : (t u : Bool) → eqb n 0 ≡ t → leb (count + n) room ≡ u → ◌≡◌ {A = Result (Unit {0}) Stop} (cond t (Ok tt) (cond u (Ok tt) (Err (stopped NoPlaceLeft)))) (Ok tt) → count + n ≤ room
    by true u x y z = let q = eqb-true n 0 x in omega arith
    by false true x y z = leb-true _ _ y
    by false false x y z = let q : ◌≡◌ {A = ℕ} 0 1 = cc in absurd (omega arith)

and_first : (r q : Result (Unit {0}) Stop) → and_then r q ≡ Ok tt → r ≡ Ok tt
and_first (Ok u) q e = refl
and_first (Err z) q e = e

and_second : (r q : Result (Unit {0}) Stop) → and_then r q ≡ Ok tt → q ≡ Ok tt
and_second (Ok u) q e = e
and_second (Err z) q e = let n : ◌≡◌ {A = ℕ} 0 1 = cc in absurd (omega arith)

pub leaf_room : (fits : Bool) (count room : ℕ) (s : Step) → count ≤ room → leaf_test fits count room s ≡ Ok tt → count + step_slots s ≤ room
leaf_room fits count room (Value v) l e = room_taken count room 1 l (and_first (room_reply count room 1) (cond fits (Ok tt) (Err (stopped NumberOutOfRange))) e)
leaf_room fits count room Null l e = room_taken count room 1 l e
leaf_room fits count room (Nulls n) l e = room_taken count room n l e
leaf_room fits count room (Close v) l e = let q : ◌≡◌ {A = ℕ} 0 1 = cc in absurd (omega arith)

pub leaf_fits : (fits : Bool) (count room : ℕ) (v : ℤ) → leaf_test fits count room (Value v) ≡ Ok tt → fits ≡ true
leaf_fits true count room v e = refl
leaf_fits false count room v e =
    let q = and_second (room_reply count room 1) (Err (stopped NumberOutOfRange)) e in
    let n : ◌≡◌ {A = ℕ} 0 1 = cc in absurd (omega arith)

-- a leaf with the rows of a taken step behind its own goes on as the step says
pub leaf_goes : (takes : ℤ → Bool) (form : DataType) (l l' : Leaf) (d : ℕ) (s : Step) → leaf_reply takes l d s ≡ Ok tt → l' ≡ pushed l (step_slots s) (leaf_row s)
    → leaf_means takes form l' ≡ after d s (leaf_means takes form l)
leaf_goes takes form l l' d s e h = ap (leaf_means takes form) (h ∙ sym (ok_next (leaf_reply takes l d s) tt (pushed l (step_slots s) (leaf_row s)) l e))

-- slot i of rows that are read one by one
pub leaf_slot_lem : (f : ℕ → Bool × ℤ) (n i : ℕ) → i < n → slot_at (map leaf_slot (listed f n)) i ≡ leaf_slot (f i)
leaf_slot_lem f n i l = rw (map-listed leaf_slot f n) (get_or-listed (λ k. leaf_slot (f k)) n i _ l)

pub leaf_count : (f : ℕ → Bool × ℤ) (n : ℕ) → length (map leaf_slot (listed f n)) ≡ n
leaf_count f n = rw (map-listed leaf_slot f n) (length-listed (λ k. leaf_slot (f k)) n)
