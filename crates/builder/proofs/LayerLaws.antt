use Rattle.std.proofs.Common.{◌≡◌, ℕ, zero, suc, ◌+◌, ◌-◌, ◌<◌, ◌≤◌, Bool, true, false, cond, eqb, List, [], ◌∷◌, ◌++◌, map, length, get_or, replicate, Ok, Err, Option, Result, sym, refl, ap, ◌∙◌, arith, length-append, ne_eqb}
use Rattle.std.proofs.lemmas.List.{get_or_append_left}
use Rattle.ledger.specs.declared.stop.Stop.{Stop}
use Rattle.form.specs.declared.data_type.DataType.{DataType}
use Rattle.form.specs.declared.data_type.Field.{Field}
use Rattle.history.specs.Entry.{Entry, Slot}
use Rattle.history.specs.Entry.Entry.{absent}
use Rattle.array.specs.Windows.{Range}
use Rattle.rows.specs.Rows.{listed}
use Rattle.rows.proofs.Lists.{listed_alike, listed_split, length-listed, get_or-listed, map-++, length-map}
use Rattle.builder.specs.declared.step.Step.{Step}
use Rattle.builder.specs.Meaning.{Behaviour, held, entry_of, on_ok, deeper, child_next, after}
use Rattle.builder.specs.Growth.{Grown, Filled, Added, Lawful}
use Rattle.builder.specs.Growth.Grown.{still_absent}
use Rattle.builder.specs.Tables.{step_slots}
use Rattle.builder.specs.Layers.{Layer, layer_own, layer_reply, layer_taken, layer_next, layer_slot, layer_slots, layer_sees, layer_means, Wider, Reaches}
use Rattle.builder.proofs.Running.{lawful_run}
use Rattle.builder.proofs.LeafLaws.{ok_next}
use Rattle.builder.proofs.GrowthLaws.{kept_slots, window_grown}

deeper_ok : (r : Result (Unit {0}) Stop) → deeper r ≡ Ok tt → r ≡ Ok tt
deeper_ok (Ok u) e = refl
deeper_ok (Err z) e = let q : ◌≡◌ {A = ℕ} 0 1 = cc in absurd (omega arith)

-- a child's law after a step of its own
child_lawful : (m : Behaviour) (d : ℕ) (s : Step) → Lawful m → Lawful (child_next m d s)
child_lawful m d s h = by ((m []).replies d s)
  where
    by : (r : Result (Unit {0}) Stop) → Lawful (on_ok r (after d s m) m)
    by (Ok u) = λ k e x. h ((d, s) ∷ k) e x
    by (Err z) = h

module _ {R E : Type 0} (has : Step → Bool) (small : ℕ → Step → Bool) (row : E → ℕ → Step → R) (then : E → ℕ → Step → E)
    (mark : R → Bool) (range : List R → E → ℕ → ℕ → Option Range) (tests : Layer R E → Field → DataType → Result DataType Stop)
    -- an earlier slot's range stays when rows are added behind
    (early : (rs ts : List R) (e : E) (n : ℕ) (s : Step) (k i : ℕ) → i < length rs → range (rs ++ ts) (then e n s) k i ≡ range rs e k i)
    -- and only goes on when the child does
    (wider : (rs : List R) (e : E) (k k' i : ℕ) → k ≤ k' → Wider (range rs e k i) (range rs e k' i))
    (reaches : (rs : List R) (e : E) (k i : ℕ) → Reaches k (range rs e k i)) where
  slots : Layer R E → List Slot
  slots = layer_slots has small row then mark range tests

  slot : Layer R E → ℕ → Slot
  slot = layer_slot has small row then mark range tests

  own_adds : (l : Layer R E) (s : Step) → (t : List Slot) × (slots (layer_taken has small row then mark range tests l s) ≡ slots l ++ t)
  unfolding slots slot
  own_adds l s =
      let rs = l.table.rows in
      let r = row l.extra (held l.child) s in
      let n = step_slots s in
      let l' = layer_taken has small row then mark range tests l s in
      let c : length (rs ++ replicate n r) ≡ length rs + length (replicate n r) = length-append rs (replicate n r) in (
        listed (λ i. slot l' (length rs + i)) (length (replicate n r)),
        rw c (listed_split (slot l') (length rs) (length (replicate n r))
            ∙ ap (λ xs. xs ++ listed (λ i. slot l' (length rs + i)) (length (replicate n r))) (listed_alike (slot l') (slot l) (length rs) (λ i k. same i k))),
      )
    where
      same : (i : ℕ) → i < length l.table.rows → slot (layer_taken has small row then mark range tests l s) i ≡ slot l i
      same i k =
          let rs = l.table.rows in
          let ts = replicate (step_slots s) (row l.extra (held l.child) s) in
          let m : get_or (map mark (rs ++ ts)) i true ≡ get_or (map mark rs) i true =
          ap (λ xs. get_or xs i true) (map-++ mark rs ts) ∙ get_or_append_left (map mark rs) (map mark ts) true i (rw (length-map mark rs) k) in
          let q = early rs ts l.extra (held l.child) s (held l.child) i k in
          rw (m, q) refl

  deeper_fills : (l : Layer R E) (d : ℕ) (s : Step) → Lawful l.child → (l.child []).replies d s ≡ Ok tt
      → Filled (slots l) (slots (record { table = l.table; extra = l.extra; child = after d s l.child; field = l.field }))
  unfolding slots slot
  deeper_fills l d s h e =
      let n = length l.table.rows in
      let a = kept_slots d (l.child []).slots (l.child ((d, s) ∷ [])).slots (h [] d s e) in
      record {
        count = length-listed (slot l') n ∙ sym (length-listed (slot l) n);
        marks = λ i k. let z : i < n = rw (length-listed (slot l) n) at k in rw (get_or-listed (slot l) n i none_there z, get_or-listed (slot l') n i none_there z) refl;
        entries = λ i k. let z : i < n = rw (length-listed (slot l) n) at k in
            rw (get_or-listed (slot l) n i none_there z, get_or-listed (slot l') n i none_there z)
            (by (get_or (map mark l.table.rows) i true) _ _ (window_grown (entry_of l.child) (entry_of (after d s l.child)) (held l.child) _ _
            (wider l.table.rows l.extra (held l.child) (held (after d s l.child)) i a.0) (reaches l.table.rows l.extra (held l.child) i) a.1));
      }
    where
      l' : Layer R E
      l' = record { table = l.table; extra = l.extra; child = after d s l.child; field = l.field }

      none_there : Slot
      none_there = record { present = true; entry = absent }

      by : (t : Bool) (x y : Entry) → Grown x y → Grown (cond t x absent) (cond t y absent)
      by true x y g = g
      by false x y g = still_absent

  layer_adds : (l : Layer R E) (d : ℕ) (s : Step) → Lawful l.child → layer_reply has small row then mark range tests l d s ≡ Ok tt
      → Added d (slots l) (slots (layer_next has small row then mark range tests l d s))
  layer_adds l zero s h e =
      let o : layer_own has small row then mark range tests l s ≡ Ok tt = e in
      let q = own_adds l s in
      (q.0, rw (ok_next (layer_own has small row then mark range tests l s) tt (layer_taken has small row then mark range tests l s) l o) q.1)
  layer_adds l (suc d) s h e =
      let t : eqb (suc d) 0 ≡ false = ne_eqb (suc d) 0 (λ z. omega arith) in
      let n : suc d - 1 ≡ d = omega arith in
      let u : deeper ((l.child []).replies d s) ≡ Ok tt = rw (t, n) at e in
      let v = deeper_ok ((l.child []).replies d s) u in
      let x : child_next l.child d s ≡ after d s l.child = ok_next ((l.child []).replies d s) tt (after d s l.child) l.child v in
      rw (t, n, x) (deeper_fills l d s h v)

  -- a layer over a lawful child is lawful
  pub layer_lawful : (l : Layer R E) → Lawful l.child → Lawful (layer_means has small row then mark range tests l)
  unfolding slots
  layer_lawful l h = lawful_run (layer_sees has small row then mark range tests) (layer_next has small row then mark range tests) (λ x. Lawful x.child) stays layer_adds l h
    where
      stays : (x : Layer R E) (d : ℕ) (s : Step) → Lawful x.child → Lawful (layer_next has small row then mark range tests x d s).child
      stays x d s p = by (eqb d 0) (layer_own has small row then mark range tests x s)
        where
          by : (t : Bool) (r : Result (Unit {0}) Stop) → Lawful (cond t (on_ok r (layer_taken has small row then mark range tests x s) x) (record { table = x.table; extra = x.extra; child = child_next x.child (d - 1) s; field = x.field })).child
          by true (Ok u) = p
          by true (Err z) = p
          by false r = child_lawful x.child (d - 1) s p
