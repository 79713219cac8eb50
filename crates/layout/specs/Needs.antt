use Rattle.std.specs.Prelude.{◌≡◌, ℕ, zero, suc, ◌+◌, Bool, cond, List, [], ◌++◌, ◌≢◌}
use Rattle.layout.specs.Bits.{bit_at}
use Rattle.layout.specs.Spans.{Span, Within, Alike}

-- f tells two bodies apart that differ in bit k alone
abbrev pub Sways : {X : Type 0} → (List ℕ → X) → ℕ → Type 0
Sways f k = (b : List ℕ) × (c : List ℕ) × ((j : ℕ) → (j ≢ k) → bit_at b j ≡ bit_at c j) × (f b ≢ f c)

-- the bits that f is worked out from: bodies alike in them give it one value, and each of them sways it
pub record Needed {X : Type 0} (ss : List Span) (f : List ℕ → X) : Type 0 where
  pub enough : (b c : List ℕ) → Alike ss b c → f b ≡ f c
  pub none_idle : (k : ℕ) → Within ss k → Sways f k

-- the bits of need 0, .., need (n - 1)
unfoldable pub each : (ℕ → List Span) → ℕ → List Span
each need zero = []
each need (suc n) = need n ++ each need n

-- how many of f 0, .., f (n - 1) hold
unfoldable pub counts : (ℕ → Bool) → ℕ → ℕ
counts f zero = 0
counts f (suc n) = counts f n + cond (f n) 1 0
