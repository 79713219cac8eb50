use Rattle.std.specs.Prelude.{◌≡◌, ℕ, ◌+◌, ◌*◌, ◌^◌, ◌<◌, ◌≤◌, Bool, true, false, cond, ◌⊎◌, List, length, ℤ, Some, None, Err, Option, nat_le}
use Rattle.std.proofs.Math.Path.{refl, ap}
use Rattle.std.proofs.Common.{◌∙◌, inl, inr, mul-add, le-leb, leb-true}
use native.Mathlib.Omega.{arith}
use Rattle.std.proofs.lemmas.Nat.{mul-le}
use Rattle.ledger.specs.declared.stop.Reason.TheVariants.{BeyondBytes}
use Rattle.ledger.specs.Stops.{stopped}
use Rattle.layout.specs.Words.{word_of, signed_of}
use Rattle.layout.specs.Spans.{Within, Alike, in_body}
use Rattle.layout.specs.Needs.{Needed}
use Rattle.layout.proofs.Sameness.{word_alike}
use Rattle.layout.specs.NativeLaws.{signed_none}
use Rattle.layout.proofs.WordNeeds.{words_needed, words_inside, unsigned_alone}
use Rattle.slots.specs.declared.slots.Slots.{Slots}
use Rattle.slots.specs.Slots.{slots_cut}
use Rattle.slots.specs.Replies.{found}
use Rattle.slots.proofs.SameSlots.{cut_first, cut_len}
use Rattle.array.specs.Windows.{Range, Inside}
use Rattle.array.proofs.ListLaws.{Ranged}
use Rattle.list_view_array.specs.declared.list_view_array.GenericListViewArray.{GenericListViewArray}
use Rattle.list_view_array.specs.Views.{word_number, view_reply, view_of, view_found, view_range, view_need, view_words, ranges_of, words_of}

-- offsets have at most eight bytes
pub few_bytes : (w : ℕ) → (w ≡ 4) ⊎ (w ≡ 8) → 256 ^ w ≤ 256 ^ 8
few_bytes w (inl p) = rw p (omega arith)
few_bytes w (inr p) = rw p (omega arith)

-- a range lies in its child
view_order : (size : ℕ) (x y : ℤ) → Inside size (view_of size x y)
view_order size x y = by (nat_le (word_of 8 x + word_of 8 y) size) refl
  where
    by : (t : Bool) → nat_le (word_of 8 x + word_of 8 y) size ≡ t → Inside size (cond t (Some (word_of 8 x, word_of 8 x + word_of 8 y)) None)
    by true p = (omega arith, leb-true _ _ p)
    by false p = tt

-- a view of no entries at the front has words 0
view_zero : (size : ℕ) (x y : ℤ) → view_of size x y ≡ Some (0, 0) → (word_of 8 x ≡ 0) × (word_of 8 y ≡ 0)
view_zero size x y h = by (nat_le (word_of 8 x + word_of 8 y) size) h
  where
    by : (t : Bool) → ◌≡◌ {A = Option Range} (cond t (Some (word_of 8 x, word_of 8 x + word_of 8 y)) None) (Some (0, 0)) → (word_of 8 x ≡ 0) × (word_of 8 y ≡ 0)
    by true e =
        let z : ◌≡◌ {A = Range} (word_of 8 x, word_of 8 x + word_of 8 y) (0, 0) = cc in
        let p : word_of 8 x ≡ 0 = ap (λ (r : Range). r.0) z in
        let q : word_of 8 x + word_of 8 y ≡ 0 = ap (λ (r : Range). r.1) z in
        (p, omega arith)
    by false e = cc

view_none : (w size : ℕ) → view_of size (signed_of w 0) (signed_of w 0) ≡ Some (0, 0)
view_none w size = rw (signed_none w, le-leb 0 size (omega arith)) refl

module _ (w starts sizes : ℕ) (s : Slots) (size : ℕ) where
  pub view_inside : (b : List ℕ) (i : ℕ) → i < s.len → Inside size (view_range w starts sizes s size b i)
  unfolding view_range
  view_inside b i l = view_order size (word_number w starts b (s.first + i)) (word_number w sizes b (s.first + i))

  -- the start and the size of a slot are what its range is worked out from, to the last bit
  pub view_needed : 256 ^ w ≤ 256 ^ 8 → (i : ℕ) → Needed (view_need w starts sizes s i) (λ b. view_range w starts sizes s size b i)
  unfolding view_range
  view_needed few i =
      words_needed (λ m n. view_of size (signed_of w m) (signed_of w n))
      (λ m n e. let z = view_zero size (signed_of w m) (signed_of w n) (e ∙ view_none w size) in (unsigned_alone w m few z.0, unsigned_alone w n few z.1))
      (starts + w * (s.first + i)) (sizes + w * (s.first + i)) w

  -- a word's bits are among those of all
  word_in : (place k : ℕ) → s.first ≤ k → k < s.first + s.len → (j : ℕ) → 8 * (place + w * k) ≤ j → j < 8 * (place + w * k + w) → (8 * (place + w * s.first) ≤ j) × (j < 8 * (place + w * (s.first + s.len)))
  word_in place k l m j p q =
      let a = mul-le w s.first w k (omega arith) l in
      let c = mul-le w (k + 1) w (s.first + s.len) (omega arith) (omega arith) in
      let d = mul-add w k 1 in
      (omega arith, omega arith)

  pub view_range_alike : (b c : List ℕ) → Alike (view_words w starts sizes s) b c → (i : ℕ) → i < s.len → view_range w starts sizes s size b i ≡ view_range w starts sizes s size c i
  unfolding view_range
  view_range_alike b c h i l =
      let x : word_number w starts b (s.first + i) ≡ word_number w starts c (s.first + i) =
      ap (signed_of w) (word_alike b c (starts + w * (s.first + i)) w (λ j p q. h j (inl (word_in starts (s.first + i) (omega arith) (omega arith) j p q)))) in
      let y : word_number w sizes b (s.first + i) ≡ word_number w sizes c (s.first + i) =
      ap (signed_of w) (word_alike b c (sizes + w * (s.first + i)) w (λ j p q. h j (inr (inl (word_in sizes (s.first + i) (omega arith) (omega arith) j p q))))) in
      rw (x, y) refl

  -- a cut's ranges and words
  pub view_range_cut : (start n : ℕ) → start + n ≤ s.len → (b : List ℕ) (i : ℕ) → view_range w starts sizes (slots_cut s start n) size b i ≡ view_range w starts sizes s size b (start + i)
  unfolding view_range
  view_range_cut start n h b i =
      let z = cut_first s start n h in
      let e : (slots_cut s start n).first + i ≡ s.first + (start + i) = omega arith in
      rw e refl

  words_cut : (place start n : ℕ) → start + n ≤ s.len → (k : ℕ) → (8 * (place + w * (slots_cut s start n).first) ≤ k) × (k < 8 * (place + w * ((slots_cut s start n).first + (slots_cut s start n).len))) → (8 * (place + w * s.first) ≤ k) × (k < 8 * (place + w * (s.first + s.len)))
  words_cut place start n h k p =
      let p0 = p.0 in
      let p1 = p.1 in
      let a = cut_first s start n h in
      let z = cut_len s start n h in
      let u = mul-le w s.first w (slots_cut s start n).first (omega arith) (omega arith) in
      let v = mul-le w ((slots_cut s start n).first + (slots_cut s start n).len) w (s.first + s.len) (omega arith) (omega arith) in
      (omega arith, omega arith)

  pub view_words_cut : (start n : ℕ) → start + n ≤ s.len → (k : ℕ) → 0 < n → Within (view_words w starts sizes (slots_cut s start n)) k → Within (view_words w starts sizes s) k
  view_words_cut start n h k some (inl p) = inl (words_cut starts start n h k p)
  view_words_cut start n h k some (inr (inl p)) = inr (inl (words_cut sizes start n h k p))
  view_words_cut start n h k some (inr (inr p)) = absurd p

  -- the reply, by the bits that it needs
  pub asked_view : (b : List ℕ) (i : ℕ) → 0 < w → view_found size (view_reply w starts sizes b (s.first + i)) ≡ cond (in_body (view_need w starts sizes s i) b) (found (view_range w starts sizes s size b i)) (Err (stopped BeyondBytes))
  unfolding view_range
  asked_view b i h =
      rw (words_inside w (starts + w * (s.first + i)) (sizes + w * (s.first + i)) b h)
      (by (nat_le (starts + w * (s.first + i) + w) (length b)) (nat_le (sizes + w * (s.first + i) + w) (length b)) (word_number w starts b (s.first + i)) (word_number w sizes b (s.first + i)))
    where
      by : (t u : Bool) (x y : ℤ) → view_found size (cond t (cond u (Some (x, y)) None) None) ≡ cond (cond t u false) (found (view_of size x y)) (Err (stopped BeyondBytes))
      by true true x y = refl
      by true false x y = refl
      by false u x y = refl

pub ranged : {O C : Type 0} (w : ℕ) (size : C → ℕ) (a : GenericListViewArray O C) → Ranged a.slots (size a.child) (ranges_of w size a) (words_of w a)
ranged w size a =
    record {
      inside = view_inside w a.starts a.sizes a.slots (size a.child);
      alike = view_range_alike w a.starts a.sizes a.slots (size a.child);
    }
