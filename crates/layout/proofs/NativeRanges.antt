use Rattle.std.proofs.Common.{◌≡◌, ℕ, suc, ◌-◌, ◌*◌, Bool, true, false, cond, leb, ltb, ℤ, pos, negsuc, Some, None, Ok, Err, Result, refl, ap, arith, w32, w64, SFits, option_map, lt-ltb, le-leb, ltb-true, leb-true}
use Rattle.std.specs.Result.{OkIff, result_ok}
use Rattle.layout.specs.Words.{signed_of}
use Rattle.layout.specs.Natives.{signed_word}
use Rattle.layout.specs.NativeLaws.{signed_read}

-- a number that has a word is the number of that word
word_number : (w : ℕ) (z : ℤ) (n : ℕ) → signed_word w z ≡ Some n → option_map (signed_of w) (signed_word w z) ≡ Some z
word_number w z n e = rw e (ap Some (signed_read w z n e).0)

-- numbers of 32 bits are those that have a word of four bytes
has_32 : (z : ℤ) → SFits w32 z → option_map (signed_of 4) (signed_word 4 z) ≡ Some z
has_32 (pos m) f = let l = f.sfits in word_number 4 (pos m) m (rw (lt-ltb (2 * m) 4294967296 (omega arith)) refl)
has_32 (negsuc m) f = let l = f.sfits in word_number 4 (negsuc m) (4294967296 - suc m) (rw (le-leb (2 * suc m) 4294967296 (omega arith)) refl)

lacks_32 : (z : ℤ) → (SFits w32 z → ⊥) → option_map (signed_of 4) (signed_word 4 z) ≡ None
lacks_32 (pos m) f = by (ltb (2 * m) 4294967296) refl
  where
    by : (t : Bool) → ltb (2 * m) 4294967296 ≡ t → option_map (signed_of 4) (cond t (Some m) None) ≡ None
    by true e = let l = ltb-true (2 * m) 4294967296 e in absurd (f (record { sfits = omega arith }))
    by false e = refl
lacks_32 (negsuc m) f = by (leb (2 * suc m) 4294967296) refl
  where
    by : (t : Bool) → leb (2 * suc m) 4294967296 ≡ t → option_map (signed_of 4) (cond t (Some (4294967296 - suc m)) None) ≡ None
    by true e = let l = leb-true (2 * suc m) 4294967296 e in absurd (f (record { sfits = omega arith }))
    by false e = refl

pub found_32 : {E : Type 0} (z : ℤ) (r : Result ℤ E) → OkIff r (SFits w32 z) z → result_ok r ≡ option_map (signed_of 4) (signed_word 4 z)
found_32 z (Ok x) h = rw (h.1, has_32 z h.0) refl
found_32 z (Err e) h = rw (lacks_32 z h) refl

-- every number of 64 bits has a word of eight bytes
pub has_64 : (z : ℤ) → SFits w64 z → option_map (signed_of 8) (signed_word 8 z) ≡ Some z
has_64 (pos m) f = let l = f.sfits in word_number 8 (pos m) m (rw (lt-ltb (2 * m) 18446744073709551616 (omega arith)) refl)
has_64 (negsuc m) f = let l = f.sfits in word_number 8 (negsuc m) (18446744073709551616 - suc m) (rw (le-leb (2 * suc m) 18446744073709551616 (omega arith)) refl)
