use Rattle.std.proofs.Common.{◌≡◌, ℕ, zero, suc, ◌+◌, ◌-◌, ◌*◌, ◌/◌, ◌%◌, ◌^◌, ◌<◌, ◌≤◌, Bool, true, false, not, cond, eqb, List, ◌∷◌, length, filter, get_or, take, drop, sym, refl, ap, ap₂, ◌∙◌, add-zero, add-one, arith, length-take, length-drop, get_or-take, get_or-drop, drop-drop}
use Rattle.std.specs.List.{range_with_len, slice_range, sum_by}
use Rattle.std.specs.Simd.{first_chunks}
use Rattle.std.proofs.lemmas.List.Sums.{sum_by-cons}
use lib.Count.{ones, ones_cat}
use Rattle.std.proofs.lemmas.Nat.{mod-pow-add, div-mul-add, mod-mul-add, mod_below, pow_pos}
use Rattle.layout.specs.Bits.{bit_at, bit_set, zeros_from}
use Rattle.layout.specs.Words.{byte_at, word_at}

pub zeros_none : (b : List ℕ) (at : ℕ) → zeros_from b at 0 ≡ 0
unfolding zeros_from
zeros_none b at = refl

pub zeros_more : (b : List ℕ) (at n : ℕ) → zeros_from b at (n + 1) ≡ zeros_from b at n + cond (bit_set b (at + n)) 0 1
unfolding zeros_from
zeros_more b at n = rw (add-one n) refl

pub zeros_add : (b : List ℕ) (at m n : ℕ) → zeros_from b at (m + n) ≡ zeros_from b at m + zeros_from b (at + m) n
unfolding zeros_from
zeros_add b at m zero = rw (add-zero m) (omega arith)
zeros_add b at m (suc n) =
    let s : m + suc n ≡ suc (m + n) = omega arith in
    let t : at + (m + n) ≡ at + m + n = omega arith in
    let h = zeros_add b at m n in
    rw (s, t) (omega arith)

-- they are at most n
pub zeros_few : (b : List ℕ) (at n : ℕ) → zeros_from b at n ≤ n
unfolding zeros_from
zeros_few b at zero = omega arith
zeros_few b at (suc n) = by (bit_set b (at + n)) (zeros_few b at n)
  where
    by : (u : Bool) → zeros_from b at n ≤ n → zeros_from b at n + cond u 0 1 ≤ suc n
    by true l = omega arith
    by false l = omega arith

pub bit_of : (b : List ℕ) (p j : ℕ) → j < 8 → bit_at b (8 * p + j) ≡ get_or b p 0 / 2 ^ j % 2
bit_of b p j h =
    let e : 8 * p + j ≡ p * 8 + j = omega arith in
    rw (e, div-mul-add p 8 j h, mod-mul-add p 8 j h) refl

ones_zero : ones 0 ≡ 0
unfolding ones
ones_zero = refl

ones_digit : (x : ℕ) → x < 2 → (ones x ≡ x) × (x + cond (eqb x 1) 0 1 ≡ 1)
unfolding ones
ones_digit zero l = (refl, refl)
ones_digit (suc zero) l = (refl, refl)
ones_digit (suc (suc x)) l = absurd (omega arith)

-- the ones of a number below 2 ^ k and those of its complement
pub ones_not : (k x : ℕ) → x < 2 ^ k → ones (2 ^ k - 1 - x) + ones x ≡ k
ones_not zero x l = let e : x ≡ 0 = omega arith in rw (e, ones_zero) refl
ones_not (suc k) x l =
    let p : 2 ^ suc k ≡ 2 * 2 ^ k = omega arith in
    let h = ones_not k (x / 2) (omega arith) in
    let a : 2 ^ suc k - 1 - x ≡ (2 ^ k - 1 - x / 2) * 2 ^ 1 + (1 - x % 2) = omega arith in
    let b : x ≡ (x / 2) * 2 ^ 1 + x % 2 = omega arith in
    let n = ones_cat 1 (2 ^ k - 1 - x / 2) (1 - x % 2) (omega arith) in
    let m = ones_cat 1 (x / 2) (x % 2) (omega arith) in
    let u = (ones_digit (1 - x % 2) (omega arith)).0 in
    let v = (ones_digit (x % 2) (omega arith)).0 in
    let e = ap ones a in
    let f = ap ones b in
    omega arith

-- the ones among the k lowest bits of a byte, and the zeros
low_ones : (b : List ℕ) (p k : ℕ) → k ≤ 8 → ones (get_or b p 0 % 2 ^ k) + zeros_from b (8 * p) k ≡ k
unfolding zeros_from
low_ones b p zero l = let e : get_or b p 0 % 1 ≡ 0 = omega arith in rw (e, ones_zero) refl
low_ones b p (suc k) l =
    let x = get_or b p 0 in
    let h = low_ones b p k (omega arith) in
    let s : suc k ≡ 1 + k = omega arith in
    let d : x / 2 ^ k % 2 < 2 = omega arith in
    let c : ones ((x / 2 ^ k % 2) * 2 ^ k + x % 2 ^ k) ≡ ones (x / 2 ^ k % 2) + ones (x % 2 ^ k) = ones_cat k (x / 2 ^ k % 2) (x % 2 ^ k) (mod_below x (2 ^ k) (pow_pos k)) in
    let m : x % 2 ^ suc k ≡ (x / 2 ^ k % 2) * 2 ^ k + x % 2 ^ k = ap (λ (z : ℕ). x % 2 ^ z) s ∙ mod-pow-add x 1 k in
    let o = ones_digit (x / 2 ^ k % 2) d in
    let o0 = o.0 in
    let o1 = o.1 in
    rw (m, c, bit_of b p k (omega arith)) (omega arith)

byte_ones : (b : List ℕ) (p : ℕ) → ones (byte_at b p) + zeros_from b (8 * p) 8 ≡ 8
byte_ones b p = low_ones b p 8 (omega arith)

-- the ones and the zeros of a word are all of its bits
pub word_ones : (b : List ℕ) (p w : ℕ) → ones (word_at b p w) + zeros_from b (8 * p) (8 * w) ≡ 8 * w
unfolding word_at
word_ones b p zero = rw (zeros_none, ones_zero) refl
word_ones b p (suc w) =
    let h = word_ones b (p + 1) w in
    let g = byte_ones b p in
    let s : 8 * suc w ≡ 8 + 8 * w = omega arith in
    let t : 8 * (p + 1) ≡ 8 * p + 8 = omega arith in
    let z : zeros_from b (8 * p) (8 * suc w) ≡ zeros_from b (8 * p) 8 + zeros_from b (8 * (p + 1)) (8 * w) =
    ap (zeros_from b (8 * p)) s ∙ zeros_add b (8 * p) 8 (8 * w) ∙ ap (λ (q : ℕ). zeros_from b (8 * p) 8 + zeros_from b q (8 * w)) (sym t) in
    let e : byte_at b p + 256 * word_at b (p + 1) w ≡ word_at b (p + 1) w * 2 ^ 8 + byte_at b p = omega arith in
    let c : ones (word_at b (p + 1) w * 2 ^ 8 + byte_at b p) ≡ ones (word_at b (p + 1) w) + ones (byte_at b p) = ones_cat 8 (word_at b (p + 1) w) (byte_at b p) (mod_below (get_or b p 0) 256 (omega arith)) in
    rw (e, c, z) (omega arith)

-- bits up to a whole byte, whole words, and the rest
pub zeros_parts : (b : List ℕ) (at h q w t n : ℕ) → at + h ≡ 8 * q → n ≡ h + (64 * w + t)
    → zeros_from b at h + zeros_from b (8 * q) (64 * w) + zeros_from b (at + h + 64 * w) t ≡ zeros_from b at n
zeros_parts b at h q w t n e s =
    rw (s, zeros_add b at h (64 * w + t), zeros_add b (at + h) (64 * w) t, e) (omega arith)

zeros_first : (b : List ℕ) (at n : ℕ) → zeros_from b at (suc n) ≡ cond (bit_set b at) 0 1 + zeros_from b (at + 1) n
zeros_first b at n =
    let s : suc n ≡ 1 + n = omega arith in
    let z : at + 0 ≡ at = omega arith in
    let more = rw (zeros_none b at, z) at (zeros_more b at 0) in
    let one : zeros_from b at 1 ≡ cond (bit_set b at) 0 1 = omega arith in
    ap (zeros_from b at) s ∙ zeros_add b at 1 n ∙ ap (λ (m : ℕ). m + zeros_from b (at + 1) n) one

-- the numbers of the bits that are 0, counted
pub zeros_listed : (b : List ℕ) (at n : ℕ) → length (filter (λ k. not (bit_set b k)) (range_with_len at n)) ≡ zeros_from b at n
zeros_listed b at zero = sym (zeros_none b at)
zeros_listed b at (suc n) = by (bit_set b at) (zeros_listed b (at + 1) n) ∙ sym (zeros_first b at n)
  where
    rest : List ℕ
    rest = filter (λ k. not (bit_set b k)) (range_with_len (at + 1) n)

    by : (u : Bool) → length rest ≡ zeros_from b (at + 1) n → length (cond (not u) (at ∷ rest) rest) ≡ cond u 0 1 + zeros_from b (at + 1) n
    by true e = omega arith
    by false e = omega arith

-- the bits that are 0, counted by how far they lie behind a bit
pub zeros_behind : (b : List ℕ) (at j n : ℕ) → length (filter (λ i. not (bit_set b (at + i))) (range_with_len j n)) ≡ zeros_from b (at + j) n
zeros_behind b at j zero = sym (zeros_none b (at + j))
zeros_behind b at j (suc n) =
    let next : at + (j + 1) ≡ at + j + 1 = omega arith in
    by (bit_set b (at + j)) (zeros_behind b at (j + 1) n ∙ ap (λ k. zeros_from b k n) next) ∙ sym (zeros_first b (at + j) n)
  where
    rest : List ℕ
    rest = filter (λ i. not (bit_set b (at + i))) (range_with_len (j + 1) n)

    by : (u : Bool) → length rest ≡ zeros_from b (at + j + 1) n → length (cond (not u) (j ∷ rest) rest) ≡ cond u 0 1 + zeros_from b (at + j + 1) n
    by true e = omega arith
    by false e = omega arith

-- bits that are alike are counted alike
zeros_alike : (b c : List ℕ) (p q n : ℕ) → ((k : ℕ) → k < n → bit_set b (p + k) ≡ bit_set c (q + k)) → zeros_from b p n ≡ zeros_from c q n
unfolding zeros_from
zeros_alike b c p q zero h = refl
zeros_alike b c p q (suc n) h = rw (zeros_alike b c p q n (λ k l. h k (omega arith)), h n (omega arith)) refl

-- the bits of a part of the body
pub zeros_part : (b : List ℕ) (p n : ℕ) → zeros_from (take n (drop p b)) 0 (8 * n) ≡ zeros_from b (8 * p) (8 * n)
zeros_part b p n = zeros_alike (take n (drop p b)) b 0 (8 * p) (8 * n) bits
  where
    bits : (k : ℕ) → k < 8 * n → bit_set (take n (drop p b)) (0 + k) ≡ bit_set b (8 * p + k)
    bits k l =
        let h : k / 8 < n = omega arith in
        let s : 0 + k ≡ k = omega arith in
        let d : (8 * p + k) / 8 ≡ p + k / 8 = omega arith in
        let m : (8 * p + k) % 8 ≡ k % 8 = omega arith in
        rw (s, d, m, get_or-take n (drop p b) (k / 8) 0 h, get_or-drop p b (k / 8) 0) refl

-- the bits of so many words from a byte on, word by word
pub zeros_words : (b : List ℕ) (p n : ℕ) → sum_by (λ w. zeros_from w 0 64) (first_chunks 8 n (drop p b)) ≡ zeros_from b (8 * p) (64 * n)
zeros_words b p zero = sym (zeros_none b (8 * p))
zeros_words b p (suc n) =
    let h : sum_by (λ w. zeros_from w 0 64) (first_chunks 8 n (drop 8 (drop p b))) ≡ zeros_from b (8 * (p + 8)) (64 * n) =
    rw (drop-drop 8 p b) (zeros_words b (p + 8) n) in
    let s : 64 * suc n ≡ 64 + 64 * n = omega arith in
    let t : 8 * (p + 8) ≡ 8 * p + 64 = omega arith in
    sum_by-cons (λ w. zeros_from w 0 64) (take 8 (drop p b)) (first_chunks 8 n (drop 8 (drop p b)))
    ∙ ap₂ (λ (x y : ℕ). x + y) (zeros_part b p 8) (rw t at h)
    ∙ sym (ap (zeros_from b (8 * p)) s ∙ zeros_add b (8 * p) 64 (64 * n))

-- the same of the words from a byte on, as a slice of the body
pub zeros_slice : (b : List ℕ) (p w : ℕ) → p + 8 * w ≤ length b → zeros_from (slice_range b p (p + 8 * w)) 0 (64 * (length (slice_range b p (p + 8 * w)) / 8)) ≡ zeros_from b (8 * p) (64 * w)
zeros_slice b p w h =
    let s : p + 8 * w - p ≡ 8 * w = omega arith in
    let l : length (take (8 * w) (drop p b)) ≡ 8 * w = simp (length-take, length-drop) (omega arith) in
    let d : 8 * w / 8 ≡ w = omega arith in
    let t : 64 * w ≡ 8 * (8 * w) = omega arith in
    rw (s, l, d, t) (zeros_part b p (8 * w))
