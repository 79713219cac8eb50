use Rattle.std.proofs.Common.{◌≡◌, ℕ, zero, suc, ◌+◌, ◌<◌, List, [], ◌∷◌, ◌++◌, map, length, get_or, sym, refl, ap, ◌∙◌, append_assoc, append-nil, add-zero, add-one, arith, length-append}
use native.Mathlib.Decide.{ℕ_discrete}
use Rattle.std.proofs.lemmas.List.{get_or_append_left, get_or_push}
use Rattle.rows.specs.Rows.{listed}

pub listed_none : {X : Type 0} (f : ℕ → X) → listed f 0 ≡ []
unfolding listed
listed_none f = refl

pub listed_more : {X : Type 0} (f : ℕ → X) (n : ℕ) → listed f (n + 1) ≡ listed f n ++ (f n ∷ [])
unfolding listed
listed_more f n = rw (add-one n) refl

-- lists of functions that agree are the same
pub listed_alike : {X : Type 0} (f g : ℕ → X) (n : ℕ) → ((i : ℕ) → i < n → f i ≡ g i) → listed f n ≡ listed g n
unfolding listed
listed_alike f g zero h = refl
listed_alike f g (suc n) h = rw (listed_alike f g n (λ i l. h i (omega arith)), h n (omega arith)) refl

pub length-listed : {X : Type 0} (f : ℕ → X) (n : ℕ) → length (listed f n) ≡ n
unfolding listed
length-listed f zero = refl
length-listed f (suc n) = length-append (listed f n) (f n ∷ []) ∙ rw (length-listed f n) (omega arith)

pub get_or-listed : {X : Type 0} (f : ℕ → X) (n i : ℕ) (d : X) → i < n → get_or (listed f n) i d ≡ f i
unfolding listed
get_or-listed f zero i d l = absurd (omega arith)
get_or-listed f (suc n) i d l =
    let e = length-listed f n in
    elim (ℕ_discrete i n) [
      | yes q ↦ rw q (get_or_push (listed f n) (f n) d n e)
      | no q ↦ get_or_append_left (listed f n) (f n ∷ []) d i (omega arith) ∙ get_or-listed f n i d (omega arith)
    ]

-- one more at the end
pub listed_push : {X : Type 0} (f g : ℕ → X) (n : ℕ) (x : X) → ((i : ℕ) → i < n → g i ≡ f i) → g n ≡ x → listed g (n + 1) ≡ listed f n ++ (x ∷ [])
listed_push f g n x h e = listed_more g n ∙ rw (listed_alike g f n h, e) refl

pub map-++ : {X Y : Type 0} (f : X → Y) (xs ys : List X) → map f (xs ++ ys) ≡ map f xs ++ map f ys
map-++ f [] ys = refl
map-++ f (x ∷ xs) ys = ap (λ zs. f x ∷ zs) (map-++ f xs ys)

pub map-listed : {X Y : Type 0} (f : X → Y) (g : ℕ → X) (n : ℕ) → map f (listed g n) ≡ listed (λ k. f (g k)) n
unfolding listed
map-listed f g zero = refl
map-listed f g (suc n) = map-++ f (listed g n) (g n ∷ []) ∙ ap (λ ys. ys ++ (f (g n) ∷ [])) (map-listed f g n)

pub length-map : {X Y : Type 0} (f : X → Y) (xs : List X) → length (map f xs) ≡ length xs
length-map f [] = refl
length-map f (x ∷ xs) = ap suc (length-map f xs)

pub listed_split : {X : Type 0} (f : ℕ → X) (m n : ℕ) → listed f (m + n) ≡ listed f m ++ listed (λ i. f (m + i)) n
unfolding listed
listed_split f m zero = rw (add-zero m) (sym (append-nil (listed f m)))
listed_split f m (suc n) =
    let s : m + suc n ≡ suc (m + n) = omega arith in
    rw s (ap (λ xs. xs ++ (f (m + n) ∷ [])) (listed_split f m n) ∙ append_assoc (listed f m) (listed (λ i. f (m + i)) n) (f (m + n) ∷ []))
