use Rattle.std.proofs.Common.{◌≡◌, ℕ, zero, suc, ◌+◌, ◌*◌, ◌<◌, max, Bool, true, false, cond, not, eqb, List, [], ◌∷◌, Some, None, Option, sym, refl, ap, ◌∙◌, inl, ⊎_elim, arith}
use native.Mathlib.Decide.{ℕ_discrete}
use Rattle.layout.specs.declared.marks.Marks.{Marks}
use Rattle.layout.specs.Bits.{bit_at, bit_set, zeros_from}
use Rattle.layout.specs.Spans.{Span, span, Within, Alike, reach_of}
use Rattle.layout.specs.Marks.{mark_of, mark_bit, mark_need_of}
use Rattle.layout.specs.Needs.{Sways, Needed, each, counts}
use Rattle.layout.proofs.SpanLaws.{within?, within_l, within_r, within_either, reach_sub}
use Rattle.layout.proofs.OneBit.{one_bit, one_there, no_bit, one_else}

-- a bit that sways f is among any bits that are enough for f
pub sway_in : {X : Type 0} (f : List ℕ → X) (ss : List Span) (k : ℕ) → Sways f k → ((b c : List ℕ) → Alike ss b c → f b ≡ f c) → Within ss k
sway_in f ss k (b, c, alike, apart) enough =
    ⊎_elim (λ h. h) (λ n. absurd (apart (enough b c (λ j p. alike j (λ e. n (rw (sym e) p)))))) (within? ss k)

-- needed bits are no choice: the same answer has the same
pub needed_same : {X : Type 0} (f : List ℕ → X) (ss ts : List Span) → Needed ss f → Needed ts f → reach_of ss ≡ reach_of ts
needed_same f ss ts p q =
    let l = reach_sub ss ts (λ k h. sway_in f ts k (p.none_idle k h) q.enough) in
    let m = reach_sub ts ss (λ k h. sway_in f ss k (q.none_idle k h) p.enough) in
    omega arith

pub each_in : (need : ℕ → List Span) (ss : List Span) (n : ℕ) → ((i : ℕ) → i < n → (k : ℕ) → Within (need i) k → Within ss k) → (k : ℕ) → Within (each need n) k → Within ss k
unfolding each
each_in need ss zero h k p = elim p [ ]
each_in need ss (suc n) h k p =
    ⊎_elim (λ q. h n (omega arith) k q) (λ q. each_in need ss n (λ i l. h i (omega arith)) k q) (within_either (need n) (each need n) k p)

pub in_each : (need : ℕ → List Span) (n i k : ℕ) → i < n → Within (need i) k → Within (each need n) k
unfolding each
in_each need zero i k l p = absurd (omega arith)
in_each need (suc n) i k l p =
    elim (ℕ_discrete i n) [
      | yes e ↦ within_l (need n) (each need n) k (rw (sym e) p)
      | no e ↦ within_r (need n) (each need n) k (in_each need n i k (omega arith) p)
    ]

apart : true ≡ false → ⊥
apart q = let z : ◌≡◌ {A = ℕ} 0 1 = cc in omega arith

-- one bit is what its value is worked out from
pub bit_needed : (t : ℕ) → Needed (span t (t + 1) ∷ []) (λ b. bit_set b t)
bit_needed t =
    record {
      enough = λ b c h. ap (λ x. eqb x 1) (h t (inl (omega arith, omega arith)));
      none_idle = λ j h. ⊎_elim (λ l. sway j (omega arith)) (λ x. absurd x) h;
    }
  where
    sway : (j : ℕ) → t ≡ j → Sways (λ b. bit_set b t) j
    sway j e = (
      one_bit j,
      [],
      one_else j,
      λ q.
          let u : eqb (bit_at (one_bit j) t) 1 ≡ true = rw (e, one_there j) refl in
          let v : eqb (bit_at [] t) 1 ≡ false = rw (no_bit t) refl in
          apart (sym u ∙ q ∙ v),
    )

-- a mark's bit is what it is worked out from
pub mark_needed : (ms : Option Marks) (k : ℕ) → Needed (mark_need_of ms k) (λ b. mark_of ms b k)
mark_needed None k = record { enough = λ b c h. refl; none_idle = λ j h. absurd h }
mark_needed (Some m) k = bit_needed (mark_bit m k)

flip : (s t u v : Bool) → u ≡ not s → v ≡ not t → (s ≡ t → ⊥) → u ≡ v → ⊥
flip true true u v p q h e = h refl
flip true false u v p q h e = apart (sym q ∙ sym e ∙ p)
flip false true u v p q h e = apart (sym p ∙ e ∙ q)
flip false false u v p q h e = h refl

-- what holds where f does not needs the same bits
pub needed_not : (ss : List Span) (f g : List ℕ → Bool) → ((b : List ℕ) → g b ≡ not (f b)) → Needed ss f → Needed ss g
needed_not ss f g e n =
    record {
      enough = λ b c h. e b ∙ ap not (n.enough b c h) ∙ sym (e c);
      none_idle = λ k h. sway k (n.none_idle k h);
    }
  where
    sway : (k : ℕ) → Sways f k → Sways g k
    sway k (b, c, a, d) = (b, c, a, flip (f b) (f c) (g b) (g c) (e b) (e c) d)

-- an answer that is always the same needs no bit
pub needed_none : {X : Type 0} (x : X) → Needed [] (λ b. x)
needed_none x = record { enough = λ b c h. refl; none_idle = λ k h. absurd h }

pub one_span : (x : ℕ) → reach_of (span x (x + 1) ∷ []) ≡ x + 1
one_span x = grind arith

-- the last bit of the marks of n slots
pub marks_reach : (m : Marks) (n : ℕ) → reach_of (each (λ j. mark_need_of (Some m) j) n) ≡ cond (eqb n 0) 0 (mark_bit m n)
unfolding each
marks_reach m zero = refl
marks_reach m (suc n) =
    let h = marks_reach m n in
    let r : reach_of (span (mark_bit m n) (mark_bit m n + 1) ∷ each (λ j. mark_need_of (Some m) j) n) ≡ max (mark_bit m n + 1) (cond (eqb n 0) 0 (mark_bit m n)) = rw h (grind arith) in
    let e : eqb (suc n) 0 ≡ false = grind arith in
    r ∙ rw e (below n)
  where
    below : (n : ℕ) → max (mark_bit m n + 1) (cond (eqb n 0) 0 (mark_bit m n)) ≡ mark_bit m (suc n)
    below zero = omega arith
    below (suc n) = let e : eqb (suc n) 0 ≡ false = grind arith in rw e (omega arith)

-- the zero bits are the null marks
pub zeros_nulls : (m : Marks) (b : List ℕ) (n : ℕ) → zeros_from b (8 * m.place + m.first) n ≡ counts (λ k. not (mark_of (Some m) b k)) n
unfolding counts zeros_from
zeros_nulls m b zero = refl
zeros_nulls m b (suc n) = rw (zeros_nulls m b n) (by (counts (λ j. not (mark_of (Some m) b j)) n) (bit_set b (mark_bit m n)))
  where
    by : (x : ℕ) (t : Bool) → x + cond t 0 1 ≡ x + cond (not t) 1 0
    by x true = refl
    by x false = refl

pub each_free : (n : ℕ) → each (λ j. []) n ≡ []
unfolding each
each_free zero = refl
each_free (suc n) = each_free n

pub counts_all : (n : ℕ) → counts (λ j. true) n ≡ n
unfolding counts
counts_all zero = refl
counts_all (suc n) = rw (counts_all n) (omega arith)

pub counts_none : (n : ℕ) → counts (λ j. false) n ≡ 0
unfolding counts
counts_none zero = refl
counts_none (suc n) = rw (counts_none n) refl

-- what tells the values of f apart needs the same bits
pub needed_into : {X Y : Type 0} (ss : List Span) (f : List ℕ → X) (g : X → Y) → ((x y : X) → g x ≡ g y → x ≡ y) → Needed ss f → Needed ss (λ b. g (f b))
needed_into ss f g inj n =
    record {
      enough = λ b c h. ap g (n.enough b c h);
      none_idle = λ k h. sway k (n.none_idle k h);
    }
  where
    sway : (k : ℕ) → Sways f k → Sways (λ b. g (f b)) k
    sway k (b, c, a, d) = (b, c, a, λ e. d (inj (f b) (f c) e))
