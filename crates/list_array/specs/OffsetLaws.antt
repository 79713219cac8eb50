use Rattle.std.specs.Prelude.{◌≡◌, ℕ, ◌+◌, ◌*◌, ◌<◌, ◌≤◌, Bool, true, false, cond, List, length, ℤ, pos, negsuc, Some, None, Err, Option, nat_le}
use Rattle.std.proofs.Math.Path.{refl}
use Rattle.std.proofs.Common.{ap, ◌∙◌, inl, inr, ⊎_elim, le-leb, leb-true}
use Rattle.std.proofs.Math.Nat.{mul-add}
use native.Mathlib.Omega.{arith}
use Rattle.std.proofs.lemmas.Nat.{mul-le}
use Rattle.ledger.specs.declared.stop.Reason.TheVariants.{BeyondBytes}
use Rattle.ledger.specs.Stops.{stopped}
use Rattle.layout.specs.Words.{signed_of}
use Rattle.layout.specs.Spans.{Within, Alike, in_body}
use Rattle.layout.specs.Needs.{Needed}
use Rattle.layout.specs.NativeLaws.{signed_none, signed_alone}
use Rattle.layout.proofs.WordNeeds.{words_needed, words_in}
use Rattle.slots.specs.declared.slots.Slots.{Slots}
use Rattle.slots.specs.Slots.{slots_cut}
use Rattle.slots.specs.Replies.{found}
use Rattle.slots.proofs.SameSlots.{cut_first, cut_len}
use Rattle.array.specs.Windows.{Range, Inside}
use Rattle.array.proofs.ListLaws.{Ranged}
use Rattle.list_array.specs.declared.list_array.GenericListArray.{GenericListArray}
use Rattle.list_array.specs.Offsets.{offset_of, pair_reply, range_of, pair_found, list_range, list_need, list_words, ranges_of, words_of}

-- a range lies in its child
pub range_inside_lem : (size : ℕ) (x y : ℤ) → Inside size (range_of size x y)
range_inside_lem size (pos lo) (pos hi) = by (nat_le lo hi) (nat_le hi size) refl refl
  where
    by : (t u : Bool) → nat_le lo hi ≡ t → nat_le hi size ≡ u → Inside size (cond t (cond u (Some (lo, hi)) None) None)
    by true true p q = (leb-true _ _ p, leb-true _ _ q)
    by true false p q = tt
    by false u p q = tt
range_inside_lem size (pos lo) (negsuc hi) = tt
range_inside_lem size (negsuc lo) (pos hi) = tt
range_inside_lem size (negsuc lo) (negsuc hi) = tt

-- a range of no entries at the front has offsets 0
range_zero : (size : ℕ) (x y : ℤ) → range_of size x y ≡ Some (0, 0) → (x ≡ pos 0) × (y ≡ pos 0)
range_zero size (pos a) (pos c) h = by (nat_le a c) (nat_le c size) h
  where
    by : (t u : Bool) → ◌≡◌ {A = Option Range} (cond t (cond u (Some (a, c)) None) None) (Some (0, 0)) → (pos a ≡ pos 0) × (pos c ≡ pos 0)
    by true true e = let z : ◌≡◌ {A = Range} (a, c) (0, 0) = cc in (ap (λ (p : Range). pos p.0) z, ap (λ (p : Range). pos p.1) z)
    by true false e = cc
    by false u e = cc
range_zero size (pos a) (negsuc c) h = cc
range_zero size (negsuc a) (pos c) h = cc
range_zero size (negsuc a) (negsuc c) h = cc

range_none : (w size : ℕ) → range_of size (signed_of w 0) (signed_of w 0) ≡ Some (0, 0)
range_none w size = rw (signed_none w, le-leb 0 size (omega arith)) refl

module _ (w place : ℕ) (s : Slots) (size : ℕ) where
  pub list_inside : (b : List ℕ) (i : ℕ) → i < s.len → Inside size (list_range w place s size b i)
  unfolding list_range
  list_inside b i l = range_inside_lem size (offset_of w place b (s.first + i)) (offset_of w place b (s.first + i + 1))

  -- the two offsets of a slot are what its range is worked out from, to the last bit
  pub list_needed : (i : ℕ) → Needed (list_need w place s i) (λ b. list_range w place s size b i)
  unfolding list_range
  list_needed i =
      words_needed (λ m n. range_of size (signed_of w m) (signed_of w n))
      (λ m n e. let z = range_zero size (signed_of w m) (signed_of w n) (e ∙ range_none w size) in (signed_alone w m z.0, signed_alone w n z.1))
      (place + w * (s.first + i)) (place + w * (s.first + i + 1)) w

  -- an offset's bits are among those of all
  offset_in : (k : ℕ) → s.first ≤ k → k ≤ s.first + s.len → (j : ℕ) → 8 * (place + w * k) ≤ j → j < 8 * (place + w * k + w) → Within (list_words w place s) j
  offset_in k l m j p q =
      let a = mul-le w s.first w k (omega arith) l in
      let c = mul-le w (k + 1) w (s.first + s.len + 1) (omega arith) (omega arith) in
      let d = mul-add w k 1 in
      inl (omega arith, omega arith)

  pub list_range_alike : (b c : List ℕ) → Alike (list_words w place s) b c → (i : ℕ) → i < s.len → list_range w place s size b i ≡ list_range w place s size c i
  list_range_alike b c h i l =
      (list_needed i).enough b c (λ j p. ⊎_elim
      (λ q. h j (offset_in (s.first + i) (omega arith) (omega arith) j q.0 q.1))
      (⊎_elim (λ q. h j (offset_in (s.first + i + 1) (omega arith) (omega arith) j q.0 q.1)) (λ x. absurd x)) p)

  -- a cut's ranges and offsets
  pub list_range_cut : (start n : ℕ) → start + n ≤ s.len → (b : List ℕ) (i : ℕ) → list_range w place (slots_cut s start n) size b i ≡ list_range w place s size b (start + i)
  unfolding list_range
  list_range_cut start n h b i =
      let z = cut_first s start n h in
      let e : (slots_cut s start n).first + i ≡ s.first + (start + i) = omega arith in
      rw e refl

  pub list_words_cut : (start n : ℕ) → start + n ≤ s.len → (k : ℕ) → 0 < n → Within (list_words w place (slots_cut s start n)) k → Within (list_words w place s) k
  list_words_cut start n h k some (inr p) = inr p
  list_words_cut start n h k some (inl p) =
      let p0 = p.0 in
      let p1 = p.1 in
      let a = cut_first s start n h in
      let z = cut_len s start n h in
      let u = mul-le w s.first w (slots_cut s start n).first (omega arith) (omega arith) in
      let v = mul-le w ((slots_cut s start n).first + (slots_cut s start n).len + 1) w (s.first + s.len + 1) (omega arith) (omega arith) in
      inl (omega arith, omega arith)

  -- the reply, by the bits that it needs
  pub asked_range : (b : List ℕ) (i : ℕ) → 0 < w → pair_found size (pair_reply w place b (s.first + i)) ≡ cond (in_body (list_need w place s i) b) (found (list_range w place s size b i)) (Err (stopped BeyondBytes))
  unfolding list_range
  asked_range b i h =
      let d = mul-add w (s.first + i) 1 in
      let e = mul-add w (s.first + i) 2 in
      let t : place + w * (s.first + i + 1) + w ≡ place + w * (s.first + i + 2) = omega arith in
      rw (words_in w (place + w * (s.first + i)) (place + w * (s.first + i + 1)) b h (omega arith), t) (by (nat_le (place + w * (s.first + i + 2)) (length b)) (offset_of w place b (s.first + i)) (offset_of w place b (s.first + i + 1)))
    where
      by : (u : Bool) (x y : ℤ) → pair_found size (cond u (Some (x, y)) None) ≡ cond u (found (range_of size x y)) (Err (stopped BeyondBytes))
      by true x y = refl
      by false x y = refl

pub ranged : {O C : Type 0} (w : ℕ) (size : C → ℕ) (a : GenericListArray O C) → Ranged a.slots (size a.child) (ranges_of w size a) (words_of w a)
ranged w size a =
    record {
      inside = list_inside w a.place a.slots (size a.child);
      alike = list_range_alike w a.place a.slots (size a.child);
    }
