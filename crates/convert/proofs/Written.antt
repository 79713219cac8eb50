use Rattle.std.proofs.Common.{◌≡◌, ℕ, zero, suc, ◌+◌, ◌-◌, ◌*◌, ◌%◌, ◌^◌, ◌<◌, ◌≤◌, ◌⊎◌, List, length, Ok, Err, Option, Result, refl, ap, ◌∙◌, inl, inr, ⊎_elim, mul-add, add-one, arith, le-leb}
use native.Mathlib.Decide.{ℕ_discrete}
use Rattle.std.specs.Result.{result_unwrap_or}
use Rattle.std.proofs.lemmas.Nat.{mul-le}
use Rattle.ledger.specs.declared.stop.Stop.{Stop}
use Rattle.layout.specs.Bits.{bit_at}
use Rattle.layout.specs.Words.{word_at, put_word}
use Rattle.layout.proofs.WordLaws.{others_stay, written_is_read}
use Rattle.layout.proofs.Sameness.{word_alike}
use Rattle.array.specs.Windows.{Range}
use Rattle.array.specs.Offsets.{largest_of}
use Rattle.layout.specs.Spans.{Span}
use Rattle.layout.specs.Needs.{Needed}
use Rattle.slots.specs.Replies.{find_reply}
use Rattle.convert.specs.Writing.{start_of, size_of, offset_put, views_put, Written, ViewsShow}

-- what one written offset leaves
module _ (w : ℕ) (known : (w ≡ 4) ⊎ (w ≡ 8)) where
  below_range : (v : ℕ) → v ≤ largest_of w → (v % suc (largest_of w) ≡ v) × (v < 256 ^ w)
  below_range v h = ⊎_elim (λ e. four e) (λ e. eight e) known
    where
      four : w ≡ 4 → (v % suc (largest_of w) ≡ v) × (v < 256 ^ w)
      four e = let l : v ≤ largest_of 4 = rw e at h in rw e (omega arith, omega arith)

      eight : w ≡ 8 → (v % suc (largest_of w) ≡ v) × (v < 256 ^ w)
      eight e = let l : v ≤ largest_of 8 = rw e at h in rw e (omega arith, omega arith)

  module _ (b : List ℕ) (place k v : ℕ) (fits : place + w * k + w ≤ length b) where
    put_is : offset_put w b place k v ≡ put_word w b (place + w * k) (v % suc (largest_of w))
    put_is = rw (le-leb (place + w * k + w) (length b) fits) refl

    pub put_length : length (offset_put w b place k v) ≡ length b
    put_length = ap length put_is ∙ (others_stay w b (place + w * k) (v % suc (largest_of w))).0

    pub put_bit : (j : ℕ) → (j < 8 * (place + w * k)) ⊎ (8 * (place + w * k + w) ≤ j) → bit_at (offset_put w b place k v) j ≡ bit_at b j
    put_bit j h = ap (λ c. bit_at c j) put_is ∙ (others_stay w b (place + w * k) (v % suc (largest_of w))).1 j h

    pub put_word_lem : v ≤ largest_of w → word_at (offset_put w b place k v) (place + w * k) w ≡ v
    put_word_lem h =
        let r = below_range v h in
        ap (λ c. word_at c (place + w * k) w) (put_is ∙ ap (put_word w b (place + w * k)) r.0) ∙ written_is_read w b (place + w * k) v fits r.1

    pub put_other : (p : ℕ) → (p + w ≤ place + w * k) ⊎ (place + w * k + w ≤ p) → word_at (offset_put w b place k v) p w ≡ word_at b p w
    put_other p h = word_alike (offset_put w b place k v) b p w (λ j l m. put_bit j (⊎_elim (λ x. inl (omega arith)) (λ x. inr (omega arith)) h))

-- word number i of a run lies before word number n
apart : (w i n : ℕ) → i < n → w * i + w ≤ w * n
apart w i n l = let p = mul-le w (i + 1) w n (omega arith) (omega arith) in let d = mul-add w i 1 in omega arith

module _ (w : ℕ) (known : (w ≡ 4) ⊎ (w ≡ 8)) (range : List ℕ → ℕ → Result Range Stop) (starts sizes : ℕ) (b : List ℕ) (all : ℕ)
    (room : starts + w * all ≤ sizes) (fits : sizes + w * all ≤ length b)
    (same : (c : List ℕ) → length c ≡ length b → ((j : ℕ) → j < 8 * starts → bit_at c j ≡ bit_at b j) → (i : ℕ) → i < all → range c i ≡ range b i)
    (small : (i : ℕ) → i < all → (start_of (range b i) ≤ largest_of w) × (size_of (range b i) ≤ largest_of w)) where
  -- one slot more
  views_step : (c : List ℕ) (n : ℕ) → n < all → Written w starts sizes (range b) b c n
      → Written w starts sizes (range b) b (offset_put w (offset_put w c starts n (start_of (range c n))) sizes n (size_of (range c n))) (suc n)
  views_step c n l old = record { size = size; kept = kept; begins = begins; counts = counts }
    where
      x : ℕ
      x = start_of (range c n)

      y : ℕ
      y = size_of (range c n)

      d : List ℕ
      d = offset_put w c starts n x

      at_n : range c n ≡ range b n
      at_n = same c old.size old.kept n (omega arith)

      end : w * n + w ≤ w * all
      end = apart w n all (omega arith)

      fit1 : starts + w * n + w ≤ length c
      fit1 = let e = end in let s = old.size in omega arith

      fit2 : sizes + w * n + w ≤ length d
      fit2 = let e = end in let s = old.size in let t = put_length w known c starts n x fit1 in omega arith

      size : length (offset_put w d sizes n y) ≡ length b
      size = put_length w known d sizes n y fit2 ∙ put_length w known c starts n x fit1 ∙ old.size

      kept : (j : ℕ) → j < 8 * starts → bit_at (offset_put w d sizes n y) j ≡ bit_at b j
      kept j h =
          let e = end in
          put_bit w known d sizes n y fit2 j (inl (omega arith)) ∙ put_bit w known c starts n x fit1 j (inl (omega arith)) ∙ old.kept j h

      begins : (i : ℕ) → i < suc n → word_at (offset_put w d sizes n y) (starts + w * i) w ≡ start_of (range b i)
      begins i h =
          let e = end in
          elim (ℕ_discrete i n) [
            | yes q ↦ rw q (put_other w known d sizes n y fit2 (starts + w * n) (inl (omega arith)) ∙ put_word_lem w known c starts n x fit1 (rw at_n (small n (omega arith)).0) ∙ ap start_of at_n)
            | no q ↦ (let f = apart w i n (omega arith) in
                put_other w known d sizes n y fit2 (starts + w * i) (inl (omega arith)) ∙ put_other w known c starts n x fit1 (starts + w * i) (inl (omega arith)) ∙ old.begins i (omega arith))
          ]

      counts : (i : ℕ) → i < suc n → word_at (offset_put w d sizes n y) (sizes + w * i) w ≡ size_of (range b i)
      counts i h =
          let e = end in
          elim (ℕ_discrete i n) [
            | yes q ↦ rw q (put_word_lem w known d sizes n y fit2 (rw at_n (small n (omega arith)).1) ∙ ap size_of at_n)
            | no q ↦ (let f = apart w i n (omega arith) in
                put_other w known d sizes n y fit2 (sizes + w * i) (inl (omega arith)) ∙ put_other w known c starts n x fit1 (sizes + w * i) (inr (omega arith)) ∙ old.counts i (omega arith))
          ]

  pub views_written : (n : ℕ) → n ≤ all → Written w starts sizes (range b) b (views_put w range starts sizes b n) n
  unfolding views_put
  views_written zero l = record { size = refl; kept = λ j h. refl; begins = λ i h. absurd (omega arith); counts = λ i h. absurd (omega arith) }
  views_written (suc n) l = views_step (views_put w range starts sizes b n) n (omega arith) (views_written n (omega arith))

-- the loop's start and step
pub views_none : (w : ℕ) (range : List ℕ → ℕ → Result Range Stop) (starts sizes : ℕ) (b : List ℕ) → views_put w range starts sizes b 0 ≡ b
unfolding views_put
views_none w range starts sizes b = refl

pub views_more : (w : ℕ) (range : List ℕ → ℕ → Result Range Stop) (starts sizes : ℕ) (b c : List ℕ) (n : ℕ) → c ≡ views_put w range starts sizes b n
    → offset_put w (offset_put w c starts n (start_of (range c n))) sizes n (size_of (range c n)) ≡ views_put w range starts sizes b (n + 1)
unfolding views_put
views_more w range starts sizes b c n e = rw (add-one n, e) refl

-- a range that is there, or 0 and 0, has the start and the size that are written
pub pair_shows : (r : Result Range Stop) (p : ℕ × ℕ) → p ≡ result_unwrap_or r (0, 0) → (p.0 ≡ start_of r) × (p.1 - p.0 ≡ size_of r)
pair_shows (Ok x) p e = rw e (refl, refl)
pair_shows (Err s) p e = rw e (refl, refl)

-- the law, from what the array's own laws say of its ranges
pub views_show : (w : ℕ) (known : (w ≡ 4) ⊎ (w ≡ 8)) (size : ℕ) (need : ℕ → List Span) (range : List ℕ → ℕ → Option Range) (starts sizes : ℕ) (b : List ℕ)
    → ((i : ℕ) → i < size → Needed (need i) (λ c. range c i))
    → ViewsShow w size need range starts sizes b (views_put w (λ c i. find_reply size need (range c) c i) starts sizes b size)
views_show w known size need range starts sizes b law room fits under small =
    views_written w known (λ c i. find_reply size need (range c) c i) starts sizes b size room fits same small size (omega arith)
  where
    same : (c : List ℕ) → length c ≡ length b → ((j : ℕ) → j < 8 * starts → bit_at c j ≡ bit_at b j) → (i : ℕ) → i < size → find_reply size need (range c) c i ≡ find_reply size need (range b) b i
    same c e h i l = rw (e, (law i l).enough c b (λ k p. h k (under i l k p))) refl
