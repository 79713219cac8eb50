use Rattle.std.proofs.Common.{◌≡◌, ℕ, suc, ◌+◌, ◌-◌, ◌*◌, ◌^◌, ◌<◌, Bool, true, false, cond, ltb, List, take, drop, get_or, ℤ, pos, negsuc, Some, None, sym, refl, ap, ◌∙◌, add_assoc, arith, w8, w32, w64, Fits, to_z}
use Rattle.std.proofs.lemmas.List.{get_or-take, get_or-drop}
use mir.Val.{sel}
use Rattle.layout.specs.Words.{word_at, signed_of, word_fits, number_reply}

-- words of two, four and eight bytes, as the reads compute them
module _ (b : List ℕ) (p : ℕ) (h : (i : ℕ) → Fits w8 (get_or b i 0)) where
  pub word_2 : word_at b p 2 ≡ get_or b p 0 + get_or b (p + 1) 0 * 256
  unfolding word_at
  word_2 =
      let f0 = (h p).fits in
      let f1 = (h (p + 1)).fits in
      omega arith

  pub word_4 : word_at b p 4 ≡ get_or b p 0 + get_or b (p + 1) 0 * 256 + get_or b (p + 2) 0 * 65536 + get_or b (p + 3) 0 * 16777216
  unfolding word_at
  word_4 =
      let f0 = (h p).fits in
      let f1 = (h (p + 1)).fits in
      let f2 = (h (p + 2)).fits in
      let f3 = (h (p + 3)).fits in
      rw (add_assoc p 1 1, add_assoc p 2 1) (omega arith)

  pub word_8 : word_at b p 8 ≡ get_or b p 0 + get_or b (p + 1) 0 * 256 + get_or b (p + 2) 0 * 65536 + get_or b (p + 3) 0 * 16777216 + get_or b (p + 4) 0 * 4294967296 + get_or b (p + 5) 0 * 1099511627776 + get_or b (p + 6) 0 * 281474976710656 + get_or b (p + 7) 0 * 72057594037927936
  unfolding word_at
  word_8 =
      let f0 = (h p).fits in
      let f1 = (h (p + 1)).fits in
      let f2 = (h (p + 2)).fits in
      let f3 = (h (p + 3)).fits in
      let f4 = (h (p + 4)).fits in
      let f5 = (h (p + 5)).fits in
      let f6 = (h (p + 6)).fits in
      let f7 = (h (p + 7)).fits in
      rw (add_assoc p 1 1, add_assoc p 2 1, add_assoc p 3 1, add_assoc p 4 1, add_assoc p 5 1, add_assoc p 6 1) (omega arith)

-- the same of bytes that were taken out of the body
byte_taken : (b : List ℕ) (p w i : ℕ) → i < w → get_or (take w (drop p b)) i 0 ≡ get_or b (p + i) 0
byte_taken b p w i l = get_or-take w (drop p b) i 0 l ∙ get_or-drop p b i 0

first_taken : (b : List ℕ) (p w : ℕ) → 0 < w → get_or (take w (drop p b)) 0 0 ≡ get_or b p 0
first_taken b p w l = byte_taken b p w 0 l ∙ ap (λ i. get_or b i 0) (omega arith)

module _ (b : List ℕ) (p : ℕ) (h : (i : ℕ) → Fits w8 (get_or b i 0)) (bs : List ℕ) where
  pub taken_2 : bs ≡ take 2 (drop p b) → get_or bs 0 0 + get_or bs 1 0 * 256 ≡ word_at b p 2
  taken_2 e = rw (e, first_taken b p 2 (omega arith), byte_taken b p 2 1 (omega arith)) (sym (word_2 b p h))

  pub taken_4 : bs ≡ take 4 (drop p b) → get_or bs 0 0 + get_or bs 1 0 * 256 + get_or bs 2 0 * 65536 + get_or bs 3 0 * 16777216 ≡ word_at b p 4
  taken_4 e =
      rw (
        e,
        first_taken b p 4 (omega arith),
        byte_taken b p 4 1 (omega arith),
        byte_taken b p 4 2 (omega arith),
        byte_taken b p 4 3 (omega arith),
      ) (sym (word_4 b p h))

  pub taken_8 : bs ≡ take 8 (drop p b)
      → get_or bs 0 0 + get_or bs 1 0 * 256 + get_or bs 2 0 * 65536 + get_or bs 3 0 * 16777216 + get_or bs 4 0 * 4294967296 + get_or bs 5 0 * 1099511627776 + get_or bs 6 0 * 281474976710656 + get_or bs 7 0 * 72057594037927936 ≡ word_at b p 8
  taken_8 e =
      rw (
        e,
        first_taken b p 8 (omega arith),
        byte_taken b p 8 1 (omega arith),
        byte_taken b p 8 2 (omega arith),
        byte_taken b p 8 3 (omega arith),
        byte_taken b p 8 4 (omega arith),
        byte_taken b p 8 5 (omega arith),
        byte_taken b p 8 6 (omega arith),
        byte_taken b p 8 7 (omega arith),
      ) (sym (word_8 b p h))

-- what is made of the bytes that were found is the reply
pub made_of_bytes : {X : Type 0} (of : ℕ → X) (w : ℕ) (b : List ℕ) (p : ℕ) (bs : List ℕ) (x : X)
    → Some bs ≡ cond (word_fits b p w) (Some (take w (drop p b))) None → (bs ≡ take w (drop p b) → x ≡ of (word_at b p w)) → Some x ≡ number_reply of w b p
made_of_bytes of w b p bs x e f = by (word_fits b p w) e
  where
    by : (t : Bool) → Some bs ≡ cond t (Some (take w (drop p b))) None → Some x ≡ cond t (Some (of (word_at b p w))) None
    by true q = let r : bs ≡ take w (drop p b) = cc in ap Some (f r)
    by false q = absurd cc

chosen : (t u : Bool) (x y : ℤ) → t ≡ u → sel t x y ≡ cond u x y
chosen true true x y e = refl
chosen false false x y e = refl
chosen true false x y e = let z : ◌≡◌ {A = ℕ} 0 1 = cc in absurd (omega arith)
chosen false true x y e = let z : ◌≡◌ {A = ℕ} 0 1 = cc in absurd (omega arith)

-- the language's reading of 32 and of 64 bits is that of four and of eight bytes
pub signed_32 : (n : ℕ) → to_z w32 n ≡ signed_of 4 n
unfolding signed_of
signed_32 n = chosen (ltb n (2 ^ 31)) (ltb (2 * n) (256 ^ 4)) (pos n) (negsuc (256 ^ 4 - suc n)) (grind arith)

pub signed_64 : (n : ℕ) → to_z w64 n ≡ signed_of 8 n
unfolding signed_of
signed_64 n = chosen (ltb n (2 ^ 63)) (ltb (2 * n) (256 ^ 8)) (pos n) (negsuc (256 ^ 8 - suc n)) (grind arith)
