use Rattle.std.proofs.Common.{◌≡◌, ℕ, ◌+◌, ◌-◌, ◌*◌, ◌<◌, ◌≤◌, max, cond, eqb, ltb, ◌⊎◌, List, [], ◌∷◌, ◌++◌, Some, None, Option, refl, ap, inl, inr, ⊎_elim, arith}
use native.Mathlib.Decide.{dec_le}
use Rattle.layout.specs.declared.marks.Marks.{Marks}
use Rattle.layout.specs.Spans.{Span, Within, reach_of, Alike}
use Rattle.layout.specs.Marks.{mark_of, mark_bit, mark_spans, marks_from}

pub within_l : (ss ts : List Span) (k : ℕ) → Within ss k → Within (ss ++ ts) k
within_l [] ts k h = elim h [ ]
within_l (s ∷ ss) ts k (inl h) = inl h
within_l (s ∷ ss) ts k (inr h) = inr (within_l ss ts k h)

pub within_r : (ss ts : List Span) (k : ℕ) → Within ts k → Within (ss ++ ts) k
within_r [] ts k h = h
within_r (s ∷ ss) ts k h = inr (within_r ss ts k h)

pub within_either : (ss ts : List Span) (k : ℕ) → Within (ss ++ ts) k → Within ss k ⊎ Within ts k
within_either [] ts k h = inr h
within_either (s ∷ ss) ts k (inl h) = inl (inl h)
within_either (s ∷ ss) ts k (inr h) = ⊎_elim (λ x. inl (inr x)) (λ y. inr y) (within_either ss ts k h)

dichotomy : (m n : ℕ) → (m ≤ n) ⊎ (n < m)
dichotomy m n = elim (dec_le m n) [ yes h ↦ inl h | no h ↦ inr (omega arith) ]

-- whether a bit is one of the spans' is decided
pub within? : (ss : List Span) (k : ℕ) → Within ss k ⊎ (Within ss k → ⊥)
within? [] k = inr (λ h. h)
within? (s ∷ ss) k =
    ⊎_elim
    (λ y. inl (inr y))
    (λ n. elim (dec_le s.from k) [
      | yes p ↦ elim (dec_le (k + 1) s.to) [ yes q ↦ inl (inl (p, omega arith)) | no q ↦ inr (⊎_elim (λ h. let z = h.1 in absurd (omega arith)) n) ]
      | no p ↦ inr (⊎_elim (λ h. p h.0) n)
    ])
    (within? ss k)

-- every bit of the spans is below the reach
pub below_reach : (ss : List Span) (k : ℕ) → Within ss k → k < reach_of ss
below_reach [] k h = elim h [ ]
below_reach (s ∷ ss) k (inl h) = grind arith
below_reach (s ∷ ss) k (inr h) = let l = below_reach ss k h in omega arith

pub reach-++ : (ss ts : List Span) → reach_of (ss ++ ts) ≡ max (reach_of ss) (reach_of ts)
reach-++ [] ts = omega arith
reach-++ (s ∷ ss) ts = let e = reach-++ ss ts in omega arith

-- the last bit below the reach is one of the spans'
pub reach_within : (ss : List Span) → 0 < reach_of ss → Within ss (reach_of ss - 1)
reach_within [] h = omega arith
reach_within (s ∷ ss) h =
    elim (dichotomy (reach_of ss) (cond (ltb s.from s.to) s.to 0))
    as (λ _. Within (s ∷ ss) (reach_of (s ∷ ss) - 1)) [
      | inl l ↦ inl (grind arith)
      | inr l ↦ let e : reach_of (s ∷ ss) ≡ reach_of ss = omega arith in rw e (inr (reach_within ss (omega arith)))
    ]

-- spans whose bits are others' reach no farther
pub reach_sub : (ss ts : List Span) → ((k : ℕ) → Within ss k → Within ts k) → reach_of ss ≤ reach_of ts
reach_sub ss ts h =
    elim (dec_le (reach_of ss) 0) [
      | yes l ↦ omega arith
      | no l ↦ let p = below_reach ts (reach_of ss - 1) (h (reach_of ss - 1) (reach_within ss (omega arith))) in omega arith
    ]

-- bodies alike in the bits of the marks have the same marks
pub mark_alike_lem : (ms : Option Marks) (n : ℕ) (b c : List ℕ) (i : ℕ) → i < n → Alike (mark_spans ms n) b c → mark_of ms b i ≡ mark_of ms c i
mark_alike_lem None n b c i l h = refl
mark_alike_lem (Some m) n b c i l h = ap (λ x. eqb x 1) (h (mark_bit m i) (inl (omega arith, omega arith)))

-- the marks of a cut are marks of the whole
pub mark_sub : (ms : Option Marks) (s n m k : ℕ) → s + n ≤ m → Within (mark_spans (marks_from ms s) n) k → Within (mark_spans ms m) k
mark_sub None s n m k l h = h
mark_sub (Some x) s n m k l (inl h) = inl (omega arith, omega arith)
mark_sub (Some x) s n m k l (inr h) = inr h

-- mark i of the marks from the slot s on is mark s + i
pub mark_from : (ms : Option Marks) (b : List ℕ) (s i : ℕ) → mark_of (marks_from ms s) b i ≡ mark_of ms b (s + i)
mark_from None b s i = refl
mark_from (Some m) b s i = let e : 8 * m.place + (m.first + s) + i ≡ 8 * m.place + m.first + (s + i) = omega arith in rw e refl
