use Rattle.std.specs.Prelude.{◌≡◌, ℕ, zero, suc, ◌-◌, ◌*◌, ◌^◌, ◌<◌, Bool, true, false, cond, ℤ, pos, negsuc, Some, refl}
use Rattle.std.proofs.Common.{ltb, ap, ◌∙◌, pow-suc, arith, lt-ltb}
use Rattle.layout.specs.Words.{signed_of, word_of}
use Rattle.layout.specs.Natives.{signed_word}

-- once over the width: a signed number's word reads as that number, and each word is that of the number it reads as
pub signed_read : (w : ℕ) (z : ℤ) (n : ℕ) → signed_word w z ≡ Some n → (signed_of w n ≡ z) × (n < 256 ^ w)
unfolding signed_of
signed_read w (pos m) n e = grind arith
signed_read w (negsuc m) n e = grind arith

pub read_signed : (w n : ℕ) → n < 256 ^ w → signed_word w (signed_of w n) ≡ Some n
unfolding signed_of
read_signed w n l = grind arith

-- the word of the number that a word reads as is that word
pub word_of_signed : (w n : ℕ) → n < 256 ^ w → word_of w (signed_of w n) ≡ n
unfolding signed_of
word_of_signed w n l = grind arith

whole : ℤ → ℕ
whole (pos n) = n
whole (negsuc n) = 1

pub pos_256 : (w : ℕ) → 2 * 0 < 256 ^ w
pos_256 zero = omega arith
pos_256 (suc w) = let h = pos_256 w in rw pow-suc (omega arith)

pub signed_none : (w : ℕ) → signed_of w 0 ≡ pos 0
unfolding signed_of
signed_none w = rw (lt-ltb (2 * 0) (256 ^ w) (pos_256 w)) refl

-- a signed number is 0 only where its word is
pub signed_alone : (w n : ℕ) → signed_of w n ≡ pos 0 → n ≡ 0
unfolding signed_of whole
signed_alone w n h = by (ltb (2 * n) (256 ^ w)) h
  where
    by : (t : Bool) → cond t (pos n) (negsuc (256 ^ w - suc n)) ≡ pos 0 → n ≡ 0
    by true e = ap whole e
    by false e = let z : ◌≡◌ {A = ℕ} 1 0 = ap whole e in absurd (omega arith)

pub signed_zero : (w n : ℕ) → signed_of w n ≡ signed_of w 0 → n ≡ 0
signed_zero w n h = signed_alone w n (h ∙ signed_none w)
