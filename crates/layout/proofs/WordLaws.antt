use Rattle.std.proofs.Common.{◌≡◌, ℕ, zero, suc, ◌+◌, ◌-◌, ◌*◌, ◌/◌, ◌%◌, ◌^◌, ◌<◌, ◌≤◌, true, false, not, eqb, ltb, ◌⊎◌, List, [], ◌∷◌, length, get_or, set, sym, refl, ap, ◌∙◌, inl, inr, add-zero, mod-eq_of_lt, mul_assoc, mul_comm, pow-suc, add-one, arith, length-set, get_or-set_other, get_or-set_same}
use lib.Arith.{mod-mul}
use lib.Bits.{bit_and, and_zero_r}
use Rattle.std.proofs.lemmas.Nat.{and_shr, and_mod, and_mask, shr_high, shr_split, mod_low, pow_pos}
use Rattle.std.proofs.lemmas.Int.{ints}
use Rattle.layout.specs.Bits.{bit_at}
use Rattle.layout.specs.Words.{byte_at, word_at, signed_of, bytes_of, put_bytes, put_word}
use Rattle.layout.specs.Laws.{sum_below, ValidWhereBitSet, WordIsSum, TwosComplement, SignedIsRead, WrittenIsRead, OthersStay}

-- what written bytes leave
length-put_bytes : (bs xs : List ℕ) (at : ℕ) → length (put_bytes xs at bs) ≡ length xs
length-put_bytes [] xs at = refl
length-put_bytes (b ∷ bs) xs at = length-put_bytes bs (set xs at b) (at + 1) ∙ length-set xs at b

put_below : (bs xs : List ℕ) (at j : ℕ) → j < at → get_or (put_bytes xs at bs) j 0 ≡ get_or xs j 0
put_below [] xs at j h = refl
put_below (b ∷ bs) xs at j h = put_below bs (set xs at b) (at + 1) j (omega arith) ∙ get_or-set_other xs at j b 0 (λ e. omega arith)

put_above : (bs xs : List ℕ) (at j : ℕ) → at + length bs ≤ j → get_or (put_bytes xs at bs) j 0 ≡ get_or xs j 0
put_above [] xs at j h = refl
put_above (b ∷ bs) xs at j h = put_above bs (set xs at b) (at + 1) j (omega arith) ∙ get_or-set_other xs at j b 0 (λ e. omega arith)

length-bytes_of : (w v : ℕ) → length (bytes_of w v) ≡ w
length-bytes_of zero v = refl
length-bytes_of (suc w) v = ap suc (length-bytes_of w (v / 256))

other_bit : (w : ℕ) (b : List ℕ) (p v k : ℕ) → (k < 8 * p) ⊎ (8 * (p + w) ≤ k) → bit_at (put_word w b p v) k ≡ bit_at b k
other_bit w b p v k (inl h) = ap (λ (z : ℕ). z / 2 ^ (k % 8) % 2) (put_below (bytes_of w v) b p (k / 8) (omega arith))
other_bit w b p v k (inr h) = ap (λ (z : ℕ). z / 2 ^ (k % 8) % 2) (put_above (bytes_of w v) b p (k / 8) (omega (arith, length-bytes_of w v)))

pub others_stay : OthersStay
others_stay w b p v = (length-put_bytes (bytes_of w v) b p, other_bit w b p v)

pow_pos_256 : (w : ℕ) → 0 < 256 ^ w
pow_pos_256 zero = omega arith
pow_pos_256 (suc w) = let h = pow_pos_256 w in rw pow-suc (omega arith)

-- a word written is the word read, once over the width
word_put_lem : (w : ℕ) (xs : List ℕ) (at v : ℕ) → at + w ≤ length xs → word_at (put_word w xs at v) at w ≡ v % 256 ^ w
unfolding word_at
word_put_lem zero xs at v h = omega arith
word_put_lem (suc w) xs at v h =
    let ys = set xs at (v % 256) in
    let low : get_or (put_word w ys (at + 1) (v / 256)) at 0 ≡ v % 256
    = put_below (bytes_of w (v / 256)) ys (at + 1) at (omega arith) ∙ get_or-set_same xs at (v % 256) 0 (omega arith) in
    let rest : word_at (put_word w ys (at + 1) (v / 256)) (at + 1) w ≡ v / 256 % 256 ^ w
    = word_put_lem w ys (at + 1) (v / 256) (simp length-set (omega arith)) in
    let e : v % 256 ^ suc w ≡ (v / 256 % 256 ^ w) * 256 + v % 256
    = ap (λ (z : ℕ). v % z) (pow-suc 256 w) ∙ mod-mul v (pow_pos_256 w) (omega arith) in
    rw (low, rest, e) (omega arith)

pub written_is_read : WrittenIsRead
written_is_read w b p v h l = word_put_lem w b p v h ∙ mod-eq_of_lt l

-- a factor of a sum
sum_scaled : (f g : ℕ → ℕ) (n : ℕ) → ((i : ℕ) → f (i + 1) ≡ 256 * g i) → sum_below f (suc n) ≡ f 0 + 256 * sum_below g n
unfolding sum_below
sum_scaled f g zero h = omega arith
sum_scaled f g (suc n) h =
    let s = sum_scaled f g n h in
    let t : f (suc n) ≡ 256 * g n = ap f (sym (add-one n)) ∙ h n in
    rw (s, t) (omega arith)

sum_none : (f : ℕ → ℕ) → sum_below f 0 ≡ 0
unfolding sum_below
sum_none f = refl

pub word_is_sum : WordIsSum
unfolding word_at
word_is_sum b p zero = sym (sum_none (λ i. byte_at b (p + i) * 256 ^ i))
word_is_sum b p (suc w) =
    let f : ℕ → ℕ = λ i. byte_at b (p + i) * 256 ^ i in
    let g : ℕ → ℕ = λ i. byte_at b (p + 1 + i) * 256 ^ i in
    let k : (i : ℕ) → f (i + 1) ≡ 256 * g i = λ i.
    let u : p + (i + 1) ≡ p + 1 + i = omega arith in
    let q : 256 ^ (i + 1) ≡ 256 ^ i * 256 = ap (λ (z : ℕ). 256 ^ z) (add-one i) ∙ pow-suc 256 i in
    rw (u, q) (sym (mul_assoc (byte_at b (p + 1 + i)) (256 ^ i) 256) ∙ mul_comm (byte_at b (p + 1 + i) * 256 ^ i) 256) in
    let z : byte_at b (p + 0) * 256 ^ 0 ≡ byte_at b p = rw (add-zero p) (omega arith) in
    let r : word_at b (p + 1) w ≡ sum_below g w = word_is_sum b (p + 1) w in
    rw r (sym (sum_scaled f g w k ∙ ap (λ (x : ℕ). x + 256 * sum_below g w) z))

pub twos_complement : TwosComplement
unfolding signed_of
twos_complement w n l = (
  λ h. (let t : ltb (2 * n) (256 ^ w) ≡ true = grind arith in rw t refl),
  λ h. (let t : ltb (2 * n) (256 ^ w) ≡ false = grind arith in rw t (omega (arith, ints))),
)

pub signed_is_read : SignedIsRead
unfolding signed_of
signed_is_read w n = (
  λ h. (let t : ltb (2 * n) (256 ^ w) ≡ true = grind arith in rw t refl),
  λ h. (let t : ltb (2 * (256 ^ w - suc n)) (256 ^ w) ≡ false = grind arith in
      let e : 256 ^ w - suc (256 ^ w - suc n) ≡ n = omega arith in rw (t, e) refl),
)

power_up : (j : ℕ) → (2 ^ j / 2 ^ j ≡ 1) × (2 ^ j % 2 ^ j ≡ 0)
power_up j =
    let z : 1 * 2 ^ j + 0 ≡ 2 ^ j = omega arith in
    (rw z at (shr_high 1 j 0 (pow_pos j)), rw z at (mod_low 1 j 0 (pow_pos j)))

-- a byte with all but bit j cleared
alone : (x j : ℕ) → bit_and x (2 ^ j) ≡ (x / 2 ^ j % 2) * 2 ^ j
alone x j =
    let top : bit_and x (2 ^ j) / 2 ^ j ≡ x / 2 ^ j % 2 = and_shr x (2 ^ j) j ∙ ap (bit_and (x / 2 ^ j)) (power_up j).0 ∙ and_mask (x / 2 ^ j) 1 in
    let low : bit_and x (2 ^ j) % 2 ^ j ≡ 0 = and_mod x (2 ^ j) j ∙ ap (bit_and (x % 2 ^ j)) (power_up j).1 ∙ and_zero_r (x % 2 ^ j) in
    sym (shr_split (bit_and x (2 ^ j)) j) ∙ rw (top, low) (omega arith)

-- one bit of a byte, and the byte with the others cleared
masked : (x j : ℕ) → eqb (x / 2 ^ j % 2) 1 ≡ not (eqb (bit_and x (2 ^ j)) 0)
masked x j = let p = pow_pos j in by (x / 2 ^ j % 2) (bit_and x (2 ^ j)) (2 ^ j) p (omega arith) (alone x j)
  where
    by : (d a q : ℕ) → 0 < q → d < 2 → a ≡ d * q → eqb d 1 ≡ not (eqb a 0)
    by zero a q p l e = let z : a ≡ 0 = omega arith in rw z refl
    by (suc zero) a q p l e = let z : eqb a 0 ≡ false = grind arith in rw z refl
    by (suc (suc d)) a q p l e = absurd (omega arith)

pub valid_where_set : ValidWhereBitSet
valid_where_set m b k =
    let j = m.first + k in
    let e : (8 * m.place + m.first + k) / 8 ≡ m.place + (m.first + k) / 8 = omega arith in
    let f : (8 * m.place + m.first + k) % 8 ≡ (m.first + k) % 8 = omega arith in
    rw (e, f) (masked (get_or b (m.place + (m.first + k) / 8) 0) ((m.first + k) % 8))
