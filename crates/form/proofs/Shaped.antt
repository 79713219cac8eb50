-- The forms of shapes: how many digits they have, what digits in front make of them, and that no two shapes share one.
use Rattle.std.proofs.Common.{◌≡◌, ℕ, ◌+◌, ◌-◌, ◌*◌, ◌/◌, ◌%◌, ◌^◌, ◌<◌, ◌≤◌, Bool, true, false, cond, leb, List, [], ◌∷◌, ◌++◌, length, take, drop, Ok, Err, Result, sym, refl, ap, ◌∙◌, ap₂, mul_assoc, mul-div_cancel, arith, pow-add}
use native.Mathlib.Nat.{eq_of_mul-eq-mul_right}
use Rattle.std.specs.Int.Digits.{number_from_digits, AllBelowBase}
use Rattle.std.proofs.lemmas.List.{length-append, take_at, drop_at}
use Rattle.std.proofs.lemmas.Bool.{leb-true}
use Rattle.ledger.specs.declared.stop.Reason.TheVariants.{FormTooLong}
use Rattle.ledger.specs.declared.stop.Stop.{Stop}
use Rattle.ledger.specs.Stops.{stopped}
use Rattle.form.specs.declared.data_type.DataType.{DataType}
use Rattle.form.specs.Forms.{places, code_in, with_code, digit_count, in_front, layer_reply, fixed_reply}
use Rattle.form.specs.Shapes.{Shape, low_digits, digits_of, digits_in, form_of, Proper, Sound}
use Rattle.form.specs.Shapes.Shape.{Leaf, Layer, Fixed}
use Rattle.form.specs.Laws.{form_reply, Extends}
use Rattle.form.proofs.Numbers.{pow_16, number_append, number_last, number_same, under_low, number_low}
use Rattle.form.proofs.Zeros.{zeros_behind}

-- ---- the digits of a shape

some_digits : (s : Shape) → 0 < digits_in s
some_digits (Leaf d) = omega arith
some_digits (Layer d s) = omega arith
some_digits (Fixed size s) = omega arith

under_append : (ds es : List ℕ) → AllBelowBase 16 ds → AllBelowBase 16 es → AllBelowBase 16 (ds ++ es)
under_append [] es u v = v
under_append (d ∷ ds) es u v = (u.0, under_append ds es u.1 v)

under_digits : (s : Shape) → Proper s → AllBelowBase 16 (digits_of s)
under_digits (Leaf d) p = (p.1, tt)
under_digits (Layer d s) p = (omega arith, under_digits s p.2)
under_digits (Fixed size s) p = (omega arith, under_append (low_digits 8 size) (digits_of s) (under_low 8 size) (under_digits s p.1))

last_digit : (s : Shape) → Proper s → number_from_digits 16 (digits_of s) % 16 ≡ 0 → ⊥
last_digit (Leaf d) p e = omega arith
last_digit (Layer d s) p e =
    last_digit s p.2 (sym (number_last (d ∷ []) (digits_of s) (some_digits s)) ∙ e)
last_digit (Fixed size s) p e =
    last_digit s p.1 (sym (number_last (12 ∷ low_digits 8 size) (digits_of s) (some_digits s)) ∙ e)

pub counted : (s : Shape) → Sound s → digit_count (form_of s) ≡ digits_in s
counted s p =
    let l : 16 - digits_in s < 16 = omega (arith, some_digits s) in
    omega (arith, zeros_behind (16 - digits_in s) 16 (number_from_digits 16 (digits_of s)) l (last_digit s p.0))

-- ---- digits in front

code_in_front : (p ds : List ℕ) → length p + length ds ≤ places
    → number_from_digits 16 (p ++ ds) * 16 ^ (places - length (p ++ ds)) ≡ number_from_digits 16 p * 16 ^ (places - length p) + number_from_digits 16 ds * 16 ^ (places - length ds) / 16 ^ length p
code_in_front p ds h =
    let k = length p in
    let l = length ds in
    let z = places - (k + l) in
    let e : places - length (p ++ ds) ≡ z = ap (λ x. places - x) (length-append p ds) in
    let f : places - k ≡ l + z = omega arith in
    let g : places - l ≡ z + k = omega arith in
    let i : 16 ^ (places - k) ≡ 16 ^ l * 16 ^ z = ap (λ x. 16 ^ x) f ∙ pow-add 16 l z in
    let j : 16 ^ (places - l) ≡ 16 ^ z * 16 ^ k = ap (λ x. 16 ^ x) g ∙ pow-add 16 z k in
    let d : number_from_digits 16 ds * (16 ^ z * 16 ^ k) / 16 ^ k ≡ number_from_digits 16 ds * 16 ^ z =
    ap (λ x. x / 16 ^ k) (sym (mul_assoc (number_from_digits 16 ds) (16 ^ z) (16 ^ k))) ∙ mul-div_cancel (number_from_digits 16 ds * 16 ^ z) (pow_16 k) in
    rw (e, i, j, number_append p ds) (omega (arith, d))

same_reply : (b c : Bool) (f g : DataType) → b ≡ c → (c ≡ true → f ≡ g)
    → ◌≡◌ {A = Result DataType Stop} (cond b (Ok f) (Err (stopped FormTooLong))) (cond c (Ok g) (Err (stopped FormTooLong)))
same_reply b true f g e h = rw e (ap (λ x. Ok x) (h refl))
same_reply b false f g e h = rw e refl

-- t is the shape s with the digits p in front
in_front_of : (p : List ℕ) (s t : Shape) → digits_of t ≡ p ++ digits_of s → Sound s
    → in_front (length p) (number_from_digits 16 p) (form_of s) ≡ form_reply t
in_front_of p s t d h =
    let l : digits_in t ≡ length p + digits_in s = ap length d ∙ length-append p (digits_of s) in
    let c : length p + digit_count (form_of s) ≡ digits_in t = omega (arith, counted s h) in
    same_reply _ _ _ _ (ap (λ x. leb x places) c)
    (λ b.
    let m : length p + digits_in s ≤ places = omega (arith, leb-true (digits_in t) places b) in
    ap with_code (rw d (sym (code_in_front p (digits_of s) m))))

-- a layer whose digits are p
extended : (p : List ℕ) (layer : Shape → Shape) → ((s : Shape) → digits_of (layer s) ≡ p ++ digits_of s)
    → (f : DataType) (r : Result DataType Stop) → r ≡ in_front (length p) (number_from_digits 16 p) f → Extends f layer r
extended p layer d f r a s h e = a ∙ ap (in_front (length p) (number_from_digits 16 p)) e ∙ in_front_of p s (layer s) (d s) h

pub layer_extends : (d : ℕ) (f : DataType) (r : Result DataType Stop) → r ≡ layer_reply f d → Extends f (Layer (d % 16)) r
layer_extends d f r a =
    let n : d % 16 ≡ number_from_digits 16 (d % 16 ∷ []) = omega arith in
    extended (d % 16 ∷ []) (Layer (d % 16)) (λ s. refl) f r (a ∙ ap (λ x. in_front 1 x f) n)

pub fixed_extends : (size : ℕ) (f : DataType) (r : Result DataType Stop) → size < 2 ^ 32 → r ≡ fixed_reply f size → Extends f (Fixed size) r
fixed_extends size f r h a =
    let p = 12 ∷ low_digits 8 size in
    let n : 12 * 16 ^ 8 + size ≡ number_from_digits 16 p = omega (arith, number_append (12 ∷ []) (low_digits 8 size), number_low 8 size) in
    extended p (Fixed size) (λ s. refl) f r (a ∙ ap (λ x. in_front 9 x f) n)

-- ---- no two shapes share a form

low_same : (k m n : ℕ) → low_digits k m ≡ low_digits k n → m % 16 ^ k ≡ n % 16 ^ k
low_same k m n e = sym (number_low k m) ∙ ap (number_from_digits 16) e ∙ number_low k n

digits_same : (s t : Shape) → Proper s → Proper t → digits_of s ≡ digits_of t → s ≡ t
digits_same (Leaf a) (Leaf b) p q e = let h : a ≡ b = cc in ap Leaf h
digits_same (Leaf a) (Layer b t) p q e = absurd (omega (arith, ap length e, some_digits t))
digits_same (Leaf a) (Fixed n t) p q e = absurd (omega (arith, ap length e))
digits_same (Layer a s) (Leaf b) p q e = absurd (omega (arith, ap length e, some_digits s))
digits_same (Layer a s) (Layer b t) p q e =
    let h : a ≡ b = cc in
    let i : digits_of s ≡ digits_of t = cc in
    ap₂ Layer h (digits_same s t p.2 q.2 i)
digits_same (Layer a s) (Fixed n t) p q e = let h : a ≡ 12 = cc in absurd (omega arith)
digits_same (Fixed m s) (Leaf b) p q e = absurd (omega (arith, ap length e))
digits_same (Fixed m s) (Layer b t) p q e = let h : 12 ≡ b = cc in absurd (omega arith)
digits_same (Fixed m s) (Fixed n t) p q e =
    let f : low_digits 8 m ++ digits_of s ≡ low_digits 8 n ++ digits_of t = ap (drop 1) e in
    let g = sym (take_at (low_digits 8 m) (digits_of s) 8 refl) ∙ ap (take 8) f ∙ take_at (low_digits 8 n) (digits_of t) 8 refl in
    let i = sym (drop_at (low_digits 8 m) (digits_of s) 8 refl) ∙ ap (drop 8) f ∙ drop_at (low_digits 8 n) (digits_of t) 8 refl in
    let h : m ≡ n = omega (arith, low_same 8 m n g) in
    ap₂ Fixed h (digits_same s t p.1 q.1 i)

pub form_same : (s t : Shape) → Sound s → Sound t → form_of s ≡ form_of t → s ≡ t
form_same s t p q e =
    let l : digits_in s ≡ digits_in t = sym (counted s p) ∙ ap digit_count e ∙ counted t q in
    let c = ap code_in e ∙ ap (λ x. number_from_digits 16 (digits_of t) * 16 ^ (places - x)) (sym l) in
    let n = eq_of_mul-eq-mul_right _ (pow_16 (places - digits_in s)) (number_from_digits 16 (digits_of s)) (number_from_digits 16 (digits_of t)) c in
    digits_same s t p.0 q.0 (number_same (digits_of s) (digits_of t) l (under_digits s p.0) (under_digits t q.0) n)
