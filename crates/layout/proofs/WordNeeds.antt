use Rattle.std.proofs.Common.{◌≡◌, ℕ, zero, suc, ◌+◌, ◌-◌, ◌*◌, ◌/◌, ◌%◌, ◌^◌, ◌<◌, ◌≤◌, max, Bool, true, false, cond, ltb, leb, List, [], ◌∷◌, length, get_or, pos, negsuc, sym, refl, ap, ◌∙◌, inl, inr, ⊎_elim, mul_assoc, mul-add, arith, lt-ltb}
use native.Mathlib.Decide.{dec_le}
use Rattle.std.proofs.lemmas.Nat.{pow-add, shr_high, pow_pos}
use Rattle.layout.specs.Bits.{bit_at}
use Rattle.layout.specs.Words.{word_at, word_of, signed_of}
use Rattle.layout.specs.Spans.{span, word_span, Within, in_body}
use Rattle.layout.specs.Needs.{Sways, Needed}
use Rattle.layout.specs.NativeLaws.{pos_256}
use Rattle.layout.proofs.OneBit.{one_bit, one_there, one_else}
use Rattle.layout.proofs.Sameness.{word_alike}

byte_bit : (x y : ℕ) → x % 256 ≡ 0 → y < 8 → x / 2 ^ y % 2 ≡ 0
byte_bit x y h l =
    let e : 2 ^ ((1 + (7 - y)) + y) ≡ 2 ^ (1 + (7 - y)) * 2 ^ y = pow-add 2 (1 + (7 - y)) y in
    let n : (1 + (7 - y)) + y ≡ 8 = omega arith in
    let p : 2 ^ ((1 + (7 - y)) + y) ≡ 256 = ap (λ u. 2 ^ u) n in
    let q : 2 ^ (1 + (7 - y)) ≡ 2 * 2 ^ (7 - y) = pow-add 2 1 (7 - y) in
    let r : x / 256 * (2 ^ (1 + (7 - y)) * 2 ^ y) ≡ x = ap (λ u. x / 256 * u) (sym e ∙ p) ∙ omega arith in
    let s : x / 256 * 2 ^ (1 + (7 - y)) * 2 ^ y + 0 ≡ x = let t = mul_assoc (x / 256) (2 ^ (1 + (7 - y))) (2 ^ y) in omega arith in
    let f : x / 2 ^ y ≡ x / 256 * 2 ^ (1 + (7 - y)) = rw s at (shr_high (x / 256 * 2 ^ (1 + (7 - y))) y 0 (pow_pos y)) in
    let v : x / 256 * (2 * 2 ^ (7 - y)) ≡ 2 * (x / 256 * 2 ^ (7 - y)) = even (x / 256) (2 ^ (7 - y)) in
    rw (f, q, v) (omega arith)
  where
    even : (m n : ℕ) → m * (2 * n) ≡ 2 * (m * n)
    even m n = let p = mul-add m n n in let q : 2 * n ≡ n + n = omega arith in rw q (omega arith)

-- a word that is 0 has no bit that is 1
word_bits : (b : List ℕ) (p w j : ℕ) → word_at b p w ≡ 0 → 8 * p ≤ j → j < 8 * (p + w) → bit_at b j ≡ 0
unfolding word_at
word_bits b p zero j h l m = absurd (omega arith)
word_bits b p (suc w) j h l m =
    let x : get_or b p 0 % 256 ≡ 0 = omega arith in
    let y : word_at b (p + 1) w ≡ 0 = omega arith in
    elim (dec_le (8 * (p + 1)) j) [
      | yes q ↦ word_bits b (p + 1) w j y q (omega arith)
      | no q ↦ (let e : j / 8 ≡ p = omega arith in rw e (byte_bit (get_or b p 0) (j % 8) x (omega arith)))
    ]

word_none : (p w : ℕ) → word_at [] p w ≡ 0
unfolding word_at
word_none p zero = refl
word_none p (suc w) = rw (word_none (p + 1) w) refl

-- what is read of a word needs all of its bits, where it tells 0 from every other word
pub word_needed : {X : Type 0} (f : ℕ → X) → ((n : ℕ) → f n ≡ f 0 → n ≡ 0) → (p w : ℕ) → Needed (span (8 * p) (8 * (p + w)) ∷ []) (λ b. f (word_at b p w))
word_needed f zero_alone p w =
    record {
      enough = λ b c h. ap f (word_alike b c p w (λ k l m. h k (inl (l, m))));
      none_idle = λ k h. ⊎_elim (λ l. sway k l.0 l.1) (λ x. absurd x) h;
    }
  where
    sway : (k : ℕ) → 8 * p ≤ k → k < 8 * (p + w) → Sways (λ b. f (word_at b p w)) k
    sway k l m = (
      one_bit k,
      [],
      one_else k,
      λ q.
          let z : word_at (one_bit k) p w ≡ 0 = zero_alone (word_at (one_bit k) p w) (q ∙ ap f (word_none p w)) in
          let o : bit_at (one_bit k) k ≡ 0 = word_bits (one_bit k) p w k z l m in
          let t = one_there k in
          absurd (omega arith),
    )

-- what is read of two words needs all of their bits, where it tells two words that are 0 from all others
pub words_needed : {X : Type 0} (f : ℕ → ℕ → X) → ((m n : ℕ) → f m n ≡ f 0 0 → (m ≡ 0) × (n ≡ 0)) → (p q w : ℕ)
    → Needed (word_span w p ∷ word_span w q ∷ []) (λ b. f (word_at b p w) (word_at b q w))
words_needed f zero_alone p q w =
    record {
      enough = λ b c h. rw (word_alike b c p w (λ k l m. h k (inl (l, m))), word_alike b c q w (λ k l m. h k (inr (inl (l, m))))) refl;
      none_idle = λ k h. sway k h;
    }
  where
    sway : (k : ℕ) → Within (word_span w p ∷ word_span w q ∷ []) k → Sways (λ b. f (word_at b p w) (word_at b q w)) k
    sway k h = (
      one_bit k,
      [],
      one_else k,
      λ e.
          let z = zero_alone (word_at (one_bit k) p w) (word_at (one_bit k) q w) (e ∙ rw (word_none p w, word_none q w) refl) in
          let t = one_there k in
          ⊎_elim
          (λ l. let o = word_bits (one_bit k) p w k z.0 l.0 l.1 in absurd (omega arith))
          (⊎_elim (λ l. let o = word_bits (one_bit k) q w k z.1 l.0 l.1 in absurd (omega arith)) (λ x. absurd x))
          h,
    )

-- where two words end
pub words_in : (w p q : ℕ) (b : List ℕ) → 0 < w → p ≤ q → in_body (word_span w p ∷ word_span w q ∷ []) b ≡ leb (q + w) (length b)
words_in w p q b h l =
    let t : ltb (8 * p) (8 * (p + w)) ≡ true = lt-ltb _ _ (omega arith) in
    let u : ltb (8 * q) (8 * (q + w)) ≡ true = lt-ltb _ _ (omega arith) in
    let m : max (8 * (p + w)) (max (8 * (q + w)) 0) ≡ 8 * (q + w) = omega arith in
    rw (t, u, m) (scale (q + w) (length b))
  where
    scale : (x y : ℕ) → leb (8 * x) (8 * y) ≡ leb x y
    scale x y = grind arith

-- a number of w bytes, read as an unsigned number of 64 bits, is 0 only where its word is
pub unsigned_alone : (w n : ℕ) → 256 ^ w ≤ 256 ^ 8 → word_of 8 (signed_of w n) ≡ 0 → n ≡ 0
unfolding signed_of
unsigned_alone w n few h = by (ltb (2 * n) (256 ^ w)) refl h
  where
    by : (t : Bool) → ltb (2 * n) (256 ^ w) ≡ t → word_of 8 (cond t (pos n) (negsuc (256 ^ w - suc n))) ≡ 0 → n ≡ 0
    by true p e = e
    by false p e = let z = pos_256 w in let q : 256 ^ w ≤ 2 * n = grind arith in absurd (omega arith)

-- two words lie in the body where each does
pub words_inside : (w p q : ℕ) (b : List ℕ) → 0 < w → in_body (word_span w p ∷ word_span w q ∷ []) b ≡ cond (leb (p + w) (length b)) (leb (q + w) (length b)) false
words_inside w p q b h =
    let t : ltb (8 * p) (8 * (p + w)) ≡ true = lt-ltb _ _ (omega arith) in
    let u : ltb (8 * q) (8 * (q + w)) ≡ true = lt-ltb _ _ (omega arith) in
    rw (t, u) (both (p + w) (q + w) (length b))
  where
    both : (x y n : ℕ) → leb (max (8 * x) (max (8 * y) 0)) (8 * n) ≡ cond (leb x n) (leb y n) false
    both x y n = grind arith
