use Rattle.std.proofs.Common.{◌≡◌, ℕ, zero, suc, ◌+◌, ◌-◌, ◌*◌, ◌/◌, ◌%◌, ◌^◌, ◌<◌, ◌≤◌, Bool, true, false, cond, eqb, ltb, leb, ◌⊎◌, List, [], ◌∷◌, ◌++◌, length, get_or, set, Some, None, Option, sym, refl, ap, ◌∙◌, inl, inr, ⊎_elim, mul_comm, mul-add, arith, length-set, get_or-set_other, get_or-set_same, le-ltb, lt-ltb, eq-eqb, ne_eqb, eqb-true, le-leb}
use native.Mathlib.Decide.{ℕ_discrete, dec_le}
use lib.Bits.{bit_and, bit_or, or_zero_r, and_zero_r}
use Rattle.std.proofs.lemmas.Nat.{or_shr, and_shr, or_mod, and_mod, mul-le}
use Rattle.std.proofs.lemmas.Bool.{cases_eq, cond-true, cond-false}
use Rattle.layout.specs.Bits.{bit_at, bit_set, zeros_from, zeros_reply}
use Rattle.layout.specs.Words.{word_at, put_word, written}
use Rattle.layout.specs.Marks.{mark_of, mark_spans}
use Rattle.layout.specs.Spans.{Within}
use Rattle.slots.specs.Trials.{marks_at}
use Rattle.layout.proofs.Counting.{zeros_none}
use Rattle.layout.proofs.Sameness.{word_alike}
use Rattle.layout.proofs.WordLaws.{others_stay, written_is_read}
use Rattle.rows.specs.Rows.{bits_of, words_of, with_bit, bit_put, nulls_at}
use Rattle.rows.proofs.Lists.{listed_alike, listed_push}

-- one bit of a byte after bit j of it is set or cleared: a table of 64 cases that computes
below8 : (P : ℕ → Type 0) → P 0 → P 1 → P 2 → P 3 → P 4 → P 5 → P 6 → P 7 → (k : ℕ) → k < 8 → P k
below8 P a b c d e f g h zero l = a
below8 P a b c d e f g h (suc zero) l = b
below8 P a b c d e f g h (suc (suc zero)) l = c
below8 P a b c d e f g h (suc (suc (suc zero))) l = d
below8 P a b c d e f g h (suc (suc (suc (suc zero)))) l = e
below8 P a b c d e f g h (suc (suc (suc (suc (suc zero))))) l = f
below8 P a b c d e f g h (suc (suc (suc (suc (suc (suc zero)))))) l = g
below8 P a b c d e f g h (suc (suc (suc (suc (suc (suc (suc zero))))))) l = h
below8 P a b c d e f g h (suc (suc (suc (suc (suc (suc (suc (suc k)))))))) l = absurd (omega arith)

-- the two masks of bit j: 1 there and 0 elsewhere, and the other way round
masks : ℕ → ℕ → Type 0
masks i j = (2 ^ j / 2 ^ i % 2 ≡ cond (eqb i j) 1 0) × ((255 - 2 ^ j) / 2 ^ i % 2 ≡ cond (eqb i j) 0 1)

masks_hold : (i : ℕ) → i < 8 → (j : ℕ) → j < 8 → masks i j
unfolding masks
masks_hold =
    below8 (λ i. (j : ℕ) → j < 8 → masks i j)
    (below8 (masks 0) (refl, refl) (refl, refl) (refl, refl) (refl, refl) (refl, refl) (refl, refl) (refl, refl) (refl, refl))
    (below8 (masks 1) (refl, refl) (refl, refl) (refl, refl) (refl, refl) (refl, refl) (refl, refl) (refl, refl) (refl, refl))
    (below8 (masks 2) (refl, refl) (refl, refl) (refl, refl) (refl, refl) (refl, refl) (refl, refl) (refl, refl) (refl, refl))
    (below8 (masks 3) (refl, refl) (refl, refl) (refl, refl) (refl, refl) (refl, refl) (refl, refl) (refl, refl) (refl, refl))
    (below8 (masks 4) (refl, refl) (refl, refl) (refl, refl) (refl, refl) (refl, refl) (refl, refl) (refl, refl) (refl, refl))
    (below8 (masks 5) (refl, refl) (refl, refl) (refl, refl) (refl, refl) (refl, refl) (refl, refl) (refl, refl) (refl, refl))
    (below8 (masks 6) (refl, refl) (refl, refl) (refl, refl) (refl, refl) (refl, refl) (refl, refl) (refl, refl) (refl, refl))
    (below8 (masks 7) (refl, refl) (refl, refl) (refl, refl) (refl, refl) (refl, refl) (refl, refl) (refl, refl) (refl, refl))

two : (P : ℕ → Type 0) → P 0 → P 1 → (x : ℕ) → x < 2 → P x
two P a b zero l = a
two P a b (suc zero) l = b
two P a b (suc (suc x)) l = absurd (omega arith)

or_bit : (x : ℕ) → x < 2 → (e : Bool) → bit_or x (cond e 1 0) ≡ cond e 1 x
or_bit x l true = two (λ x. bit_or x 1 ≡ 1) refl refl x l
or_bit x l false = or_zero_r x

and_bit : (x : ℕ) → x < 2 → (e : Bool) → bit_and x (cond e 0 1) ≡ cond e 0 x
and_bit x l true = and_zero_r x
and_bit x l false = two (λ x. bit_and x 1 ≡ x) refl refl x l

bit_with : (x i j : ℕ) (v : Bool) → i < 8 → j < 8 → (with_bit x j v / 2 ^ i % 2) ≡ cond (eqb i j) (cond v 1 0) (x / 2 ^ i % 2)
unfolding masks
bit_with x i j true p q =
    ap (λ (z : ℕ). z % 2) (or_shr x (2 ^ j) i) ∙ or_mod (x / 2 ^ i) (2 ^ j / 2 ^ i) 1
    ∙ ap (λ (z : ℕ). bit_or (x / 2 ^ i % 2) z) (masks_hold i p j q).0 ∙ or_bit (x / 2 ^ i % 2) (omega arith) (eqb i j)
bit_with x i j false p q =
    ap (λ (z : ℕ). z % 2) (and_shr x (255 - 2 ^ j) i) ∙ and_mod (x / 2 ^ i) ((255 - 2 ^ j) / 2 ^ i) 1
    ∙ ap (λ (z : ℕ). bit_and (x / 2 ^ i % 2) z) (masks_hold i p j q).1 ∙ and_bit (x / 2 ^ i % 2) (omega arith) (eqb i j)

module _ (b : List ℕ) (p k : ℕ) (v : Bool) where
  pub length_bit : length (bit_put b p k v) ≡ length b
  unfolding bit_put
  length_bit = by (ltb (p + k / 8) (length b))
    where
      by : (t : Bool) → length (cond t (set b (p + k / 8) (with_bit (get_or b (p + k / 8) 0) (k % 8) v)) b) ≡ length b
      by true = length-set b _ _
      by false = refl

  there : (t : ℕ) → p + k / 8 < length b → t / 8 ≡ p + k / 8 → bit_at (bit_put b p k v) t ≡ cond (eqb (t % 8) (k % 8)) (cond v 1 0) (bit_at b t)
  unfolding bit_put
  there t h e =
      let y = lt-ltb _ _ h in
      rw (y, e, get_or-set_same b (p + k / 8) (with_bit (get_or b (p + k / 8) 0) (k % 8) v) 0 h)
      (bit_with (get_or b (p + k / 8) 0) (t % 8) (k % 8) v (omega arith) (omega arith))

  elsewhere : (t : ℕ) → (t / 8 ≡ p + k / 8 → ⊥) → bit_at (bit_put b p k v) t ≡ bit_at b t
  unfolding bit_put
  elsewhere t ne = by (ltb (p + k / 8) (length b))
    where
      by : (u : Bool) → bit_at (cond u (set b (p + k / 8) (with_bit (get_or b (p + k / 8) 0) (k % 8) v)) b) t ≡ bit_at b t
      by true = ap (λ x. x / 2 ^ (t % 8) % 2) (get_or-set_other b (p + k / 8) (t / 8) _ 0 ne)
      by false = refl

  -- a bit that lies in the body is read back, and no other changes
  pub bit_there : p + k / 8 < length b → bit_set (bit_put b p k v) (8 * p + k) ≡ v
  bit_there h =
      let e = there (8 * p + k) h (omega arith) in
      let s = eq-eqb ((8 * p + k) % 8) (k % 8) (omega arith) in
      ap (λ x. eqb x 1) (e ∙ cond-true _ _ _ s) ∙ back v
    where
      back : (u : Bool) → eqb (cond u 1 0) 1 ≡ u
      back true = refl
      back false = refl

  pub bit_else : (t : ℕ) → (t ≡ 8 * p + k → ⊥) → bit_at (bit_put b p k v) t ≡ bit_at b t
  unfolding bit_put
  bit_else t ne =
      ⊎_elim
      (λ e. ⊎_elim
      (λ h. there t h e ∙ cond-false _ _ _ (ne_eqb (t % 8) (k % 8) (λ f. ne (omega arith))))
      (λ h. beyond h) (either (p + k / 8) (length b)))
      (λ e. elsewhere t e)
      (cases_eq (t / 8) (p + k / 8))
    where
      either : (m n : ℕ) → (m < n) ⊎ (n ≤ m)
      either m n = elim (dec_le n m) [ yes l ↦ inr l | no l ↦ inl (omega arith) ]

      beyond : length b ≤ p + k / 8 → bit_at (bit_put b p k v) t ≡ bit_at b t
      beyond h = rw (le-ltb (p + k / 8) (length b) h) refl

module _ (w : ℕ) (b : List ℕ) (p v : ℕ) where
  pub length-written : length (written w b p v) ≡ length b
  length-written = by (leb (p + w) (length b))
    where
      by : (t : Bool) → length (cond t (put_word w b p v) b) ≡ length b
      by true = (others_stay w b p v).0
      by false = refl

  -- a word that lies in the body is read back, and no bit outside it changes
  pub word_there : p + w ≤ length b → v < 256 ^ w → word_at (written w b p v) p w ≡ v
  word_there h l = rw (le-leb (p + w) (length b) h) (written_is_read w b p v h l)

  pub word_else : (t : ℕ) → (t < 8 * p) ⊎ (8 * (p + w) ≤ t) → bit_at (written w b p v) t ≡ bit_at b t
  word_else t h = by (leb (p + w) (length b))
    where
      by : (u : Bool) → bit_at (cond u (put_word w b p v) b) t ≡ bit_at b t
      by true = (others_stay w b p v).1 t h
      by false = refl

-- bodies alike in the bits of a row have the same row
pub bits_alike : (b c : List ℕ) (p n : ℕ) → ((t : ℕ) → 8 * p ≤ t → t < 8 * p + n → bit_at b t ≡ bit_at c t) → bits_of b p n ≡ bits_of c p n
bits_alike b c p n h = listed_alike _ _ n (λ i l. ap (λ x. eqb x 1) (h (8 * p + i) (omega arith) (omega arith)))

word_end : (w k n : ℕ) → k < n → w * k + w ≤ w * n
word_end w k n l =
    let m = mul-le w (k + 1) w n (omega arith) (omega arith) in
    let d = mul-add w k 1 in
    omega arith

pub words_alike : {X : Type 0} (f : ℕ → X) (w : ℕ) (b c : List ℕ) (p n : ℕ) → ((t : ℕ) → 8 * p ≤ t → t < 8 * (p + w * n) → bit_at b t ≡ bit_at c t) → words_of f w b p n ≡ words_of f w c p n
words_alike f w b c p n h =
    listed_alike _ _ n (λ i l. ap f (word_alike b c (p + w * i) w (λ t x y. let e = word_end w i n l in h t (omega arith) (omega arith))))

-- one bit more, one word more; c is any body that has the earlier ones as b has them, and the new one
pub bits_push : (b c : List ℕ) (p n : ℕ) (v : Bool) → ((t : ℕ) → 8 * p ≤ t → t < 8 * p + n → bit_at c t ≡ bit_at b t) → bit_set c (8 * p + n) ≡ v → bits_of c p (n + 1) ≡ bits_of b p n ++ (v ∷ [])
bits_push b c p n v h e = listed_push _ _ n v (λ i l. ap (λ x. eqb x 1) (h (8 * p + i) (omega arith) (omega arith))) e

pub words_push : {X : Type 0} (f : ℕ → X) (w : ℕ) (b c : List ℕ) (p n : ℕ) (v : ℕ) → ((t : ℕ) → 8 * p ≤ t → t < 8 * (p + w * n) → bit_at c t ≡ bit_at b t) → word_at c (p + w * n) w ≡ v
    → words_of f w c p (n + 1) ≡ words_of f w b p n ++ (f v ∷ [])
words_push f w b c p n v h e =
    listed_push _ _ n (f v) (λ i l. ap f (word_alike c b (p + w * i) w (λ t x y. let e = word_end w i n l in h t (omega arith) (omega arith)))) (ap f e)

-- where no bit is 0, each is 1
pub all_ones : (b : List ℕ) (at n : ℕ) → zeros_from b at n ≡ 0 → (i : ℕ) → i < n → bit_set b (at + i) ≡ true
unfolding zeros_from
all_ones b at zero h i l = absurd (omega arith)
all_ones b at (suc n) h i l =
    elim (ℕ_discrete i n) [
      | yes q ↦ rw q (last (bit_set b (at + n)) (omega arith))
      | no q ↦ all_ones b at n (omega arith) i (omega arith)
    ]
  where
    last : (t : Bool) → ◌≡◌ {A = ℕ} (cond t 0 1) 0 → t ≡ true
    last true e = refl
    last false e = absurd (omega arith)

-- the zero bits counted are those of the row
pub zeros_found : (b : List ℕ) (p n z : ℕ) → 8 * p + n ≤ 8 * length b → Some z ≡ zeros_reply b (p * 8) n → z ≡ zeros_from b (8 * p) n
zeros_found b p n z h e =
    elim (ℕ_discrete n 0) [
      | yes q ↦ (let t = eq-eqb n 0 q in
          let y : ◌≡◌ {A = Option ℕ} (Some z) (Some 0) = rw t at e in
          let x : z ≡ 0 = cc in rw (x, q) (sym (zeros_none b (8 * p))))
      | no q ↦ (let t = ne_eqb n 0 q in
          let l : leb (p * 8 + n) (8 * length b) ≡ true = le-leb _ _ (omega arith) in
          let y : ◌≡◌ {A = Option ℕ} (Some z) (Some (zeros_from b (p * 8) n)) = rw (t, l) at e in
          let x : z ≡ zeros_from b (p * 8) n = cc in rw (mul_comm p 8) at x)
    ]

-- and they are found where the row lies in the body
pub zeros_there : (b : List ℕ) (p n : ℕ) → 8 * p + n ≤ 8 * length b → None ≡ zeros_reply b (p * 8) n → ⊥
zeros_there b p n h e =
    elim (ℕ_discrete n 0) [
      | yes q ↦ (let t = eq-eqb n 0 q in
          let y : ◌≡◌ {A = Option ℕ} None (Some 0) = rw t at e in
          let x : ◌≡◌ {A = ℕ} 0 1 = cc in omega arith)
      | no q ↦ (let t = ne_eqb n 0 q in
          let l : leb (p * 8 + n) (8 * length b) ≡ true = le-leb _ _ (omega arith) in
          let y : ◌≡◌ {A = Option ℕ} None (Some (zeros_from b (p * 8) n)) = rw (t, l) at e in
          let x : ◌≡◌ {A = ℕ} 0 1 = cc in omega arith)
    ]

-- the marks of a handle on a row of bits are these bits
pub nulls_mark : (b : List ℕ) (p n i : ℕ) → i < n → mark_of (marks_at (nulls_at b p n)) b i ≡ bit_set b (8 * p + i)
nulls_mark b p n i l = by (eqb (zeros_from b (8 * p) n) 0) refl
  where
    by : (t : Bool) → eqb (zeros_from b (8 * p) n) 0 ≡ t → mark_of (marks_at (cond t None (Some (record { place = p; len = n })))) b i ≡ bit_set b (8 * p + i)
    by true e = sym (all_ones b (8 * p) n (eqb-true _ _ e) i l)
    by false e = let z : 8 * p + 0 + i ≡ 8 * p + i = omega arith in rw z refl

-- and they rest on no other bits
pub nulls_within : (b : List ℕ) (p n t : ℕ) → Within (mark_spans (marks_at (nulls_at b p n)) n) t → (8 * p ≤ t) × (t < 8 * p + n)
nulls_within b p n t h = by (eqb (zeros_from b (8 * p) n) 0) h
  where
    by : (u : Bool) → Within (mark_spans (marks_at (cond u None (Some (record { place = p; len = n })))) n) t → (8 * p ≤ t) × (t < 8 * p + n)
    by true w = absurd w
    by false (inl w) = let w0 = w.0 in let w1 = w.1 in (omega arith, omega arith)
    by false (inr w) = absurd w
