-- The number that digits in base 16 write.
use Rattle.std.proofs.Common.{◌≡◌, ℕ, zero, suc, ◌+◌, ◌*◌, ◌/◌, ◌%◌, ◌^◌, ◌<◌, List, [], ◌∷◌, ◌++◌, length, sym, refl, ap, ◌∙◌, ap₂, mul_comm, pow-suc, arith}
use lib.Arith.{mod-mul, digits_div, digits_mod}
use Rattle.std.specs.Int.Digits.{number_from_digits, number_from_digits_after, AllBelowBase}
use Rattle.std.proofs.lemmas.Int.Digits.{number_after_append, number_lt}
use Rattle.form.specs.Shapes.{low_digits}

pub pow_16 : (k : ℕ) → 0 < 16 ^ k
pow_16 zero = omega arith
pow_16 (suc k) = omega (arith, pow_16 k)

-- digits after a number stand below it
number_after : (n : ℕ) (ds : List ℕ) → number_from_digits_after 16 n ds ≡ n * 16 ^ length ds + number_from_digits 16 ds
number_after n [] = omega arith
number_after n (d ∷ ds) =
    omega (arith, number_after (n * 16 + d) ds, number_after (0 * 16 + d) ds, ap (λ x. n * x) (pow-suc 16 (length ds)))

pub number_append : (p ds : List ℕ) → number_from_digits 16 (p ++ ds) ≡ number_from_digits 16 p * 16 ^ length ds + number_from_digits 16 ds
number_append p ds = number_after_append 16 0 p ds ∙ number_after (number_from_digits 16 p) ds

number_cons : (d : ℕ) (ds : List ℕ) → number_from_digits 16 (d ∷ ds) ≡ d * 16 ^ length ds + number_from_digits 16 ds
number_cons d ds = omega (arith, number_append (d ∷ []) ds)

-- the last digit is not changed by digits in front
pub number_last : (p ds : List ℕ) → 0 < length ds → number_from_digits 16 (p ++ ds) % 16 ≡ number_from_digits 16 ds % 16
number_last p [] h = absurd (omega arith)
number_last p (d ∷ ds) h =
    omega (arith, number_append p (d ∷ ds), ap (λ x. number_from_digits 16 p * x) (pow-suc 16 (length ds)))

-- as many digits that write one number are the same
pub number_same : (ds es : List ℕ) → length ds ≡ length es → AllBelowBase 16 ds → AllBelowBase 16 es → number_from_digits 16 ds ≡ number_from_digits 16 es → ds ≡ es
number_same [] [] l u v e = refl
number_same [] (b ∷ es) l u v e = absurd (omega arith)
number_same (a ∷ ds) [] l u v e = absurd (omega arith)
number_same (a ∷ ds) (b ∷ es) l u v e =
    let k : length ds ≡ length es = omega arith in
    let f = number_cons a ds in
    let g = rw (← k) at (number_cons b es) in
    let x = number_lt 16 ds u.1 in
    let y : number_from_digits 16 es < 16 ^ length ds = rw k (number_lt 16 es v.1) in
    let h : a * 16 ^ length ds + number_from_digits 16 ds ≡ b * 16 ^ length ds + number_from_digits 16 es = sym f ∙ e ∙ g in
    let i : a ≡ b = sym (digits_div a x) ∙ ap (λ n. n / 16 ^ length ds) h ∙ digits_div b y in
    let j : number_from_digits 16 ds ≡ number_from_digits 16 es = sym (digits_mod a x) ∙ ap (λ n. n % 16 ^ length ds) h ∙ digits_mod b y in
    ap₂ (λ n ns. n ∷ ns) i (number_same ds es k u.1 v.1 j)

-- ---- the lowest digits of a number

length_low : (k n : ℕ) → length (low_digits k n) ≡ k
length_low zero n = refl
length_low (suc k) n = ap suc (length_low k n)

pub under_low : (k n : ℕ) → AllBelowBase 16 (low_digits k n)
under_low zero n = tt
under_low (suc k) n = (omega arith, under_low k n)

pub number_low : (k n : ℕ) → number_from_digits 16 (low_digits k n) ≡ n % 16 ^ k
number_low zero n = omega arith
number_low (suc k) n =
    let e = rw (length_low k n) at (number_cons (n / 16 ^ k % 16) (low_digits k n)) in
    e ∙ omega (arith, number_low k n, mod-mul n {m = 16} {c = 16 ^ k} (omega arith) (pow_16 k), ap (λ x. n % x) (pow-suc 16 k ∙ mul_comm (16 ^ k) 16))
