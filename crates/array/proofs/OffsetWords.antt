use Rattle.std.proofs.Common.{◌≡◌, ℕ, suc, ◌%◌, ◌^◌, ◌<◌, ◌≤◌, ◌⊎◌, inl, inr, ℤ, pos, Some, Option, option_map, refl, ap, ◌∙◌, arith, w64, to_z}
use lib.Bits.{bit_and}
use Rattle.std.proofs.lemmas.Nat.{and_mask}
use Rattle.std.proofs.lemmas.Int.{to_z_pos}
use Rattle.array.specs.Offsets.{largest_of}

-- the largest offset as a mask
mask : (w v : ℕ) → (w ≡ 4) ⊎ (w ≡ 8)
    → (bit_and v (largest_of w) ≡ v % suc (largest_of w)) × ((v % suc (largest_of w) ≤ largest_of w) × ((v % suc (largest_of w) < 2 ^ 63) × (v % suc (largest_of w) < 256 ^ w)))
mask w v (inl e) = rw e (and_mask v 31, (omega arith, (omega arith, omega arith)))
mask w v (inr e) = rw e (and_mask v 63, (omega arith, (omega arith, omega arith)))

module _ {S : Type 0} (w : ℕ) (of_word : ℕ → S) (word : ℤ → Option ℕ) (wide : (w ≡ 4) ⊎ (w ≡ 8)) (offset_word : (n : ℕ) → n ≤ largest_of w → word (pos n) ≡ Some n) where
  -- an offset becomes the number whose word its lowest bits are
  pub offset_number : (v m : ℕ) (r : Option S) → m ≡ largest_of w → r ≡ option_map of_word (word (to_z w64 (bit_and v m))) → r ≡ Some (of_word (v % suc (largest_of w)))
  offset_number v m r e f =
      let k = v % suc (largest_of w) in
      let p = mask w v wide in
      let b : bit_and v m ≡ k = rw e p.0 in
      let l : k < 9223372036854775808 = p.1.1.0 in
      let z : to_z w64 (bit_and v m) ≡ pos k = rw b (to_z_pos w64 k l) in
      let q : word (to_z w64 (bit_and v m)) ≡ Some k = rw z (offset_word k p.1.0) in
      f ∙ rw q refl

-- that number's word is the offset's lowest bits
pub offset_lowest : {S : Type 0} (w : ℕ) (of_word : ℕ → S) (to_word : S → ℕ) → ((w ≡ 4) ⊎ (w ≡ 8)) → ((n : ℕ) → n < 256 ^ w → to_word (of_word n) ≡ n)
    → (v : ℕ) (r : Option S) (x : S) → r ≡ Some (of_word (v % suc (largest_of w))) → r ≡ Some x → to_word x ≡ v % suc (largest_of w)
offset_lowest w of_word to_word wide own v r x e f =
    let u : x ≡ of_word (v % suc (largest_of w)) = cc in
    ap to_word u ∙ own (v % suc (largest_of w)) (mask w v wide).1.1.1
