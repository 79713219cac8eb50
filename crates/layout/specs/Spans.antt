use Rattle.std.specs.Prelude.{◌≡◌, ℕ, ◌+◌, ◌*◌, ◌<◌, ◌≤◌, max, Bool, cond, ◌⊎◌, List, [], ◌∷◌, length, nat_le, nat_lt}
use Rattle.layout.specs.Bits.{bit_at}

-- the bits numbered from .. to - 1 of a body
pub record Span : Type 0 where
  pub from : ℕ
  pub to : ℕ

abbrev pub span : ℕ → ℕ → Span
span f t = record { from = f; to = t }

-- the bits of the word of w bytes at a place
abbrev pub word_span : ℕ → ℕ → Span
word_span w p = span (8 * p) (8 * (p + w))

-- bit k is one of the spans' bits
abbrev pub Within : List Span → ℕ → Type 0
Within [] k = ⊥
Within (s ∷ ss) k = ((s.from ≤ k) × (k < s.to)) ⊎ Within ss k

-- one past the last bit of the spans; 0 where they have none
abbrev pub reach_of : List Span → ℕ
reach_of [] = 0
reach_of (s ∷ ss) = max (cond (nat_lt s.from s.to) s.to 0) (reach_of ss)

-- none of the bits lies beyond the body
abbrev pub in_body : List Span → List ℕ → Bool
in_body ss b = nat_le (reach_of ss) (8 * length b)

-- two bodies are alike in the bits of the spans
abbrev pub Alike : List Span → List ℕ → List ℕ → Type 0
Alike ss b c = (k : ℕ) → Within ss k → bit_at b k ≡ bit_at c k
