use Rattle.std.proofs.Common.{◌≡◌, ℕ, [], ◌∷◌, ◌++◌, Ok, refl}
use Rattle.builder.specs.declared.step.Step.{Step}
use Rattle.builder.specs.Meaning.{Seen, Steps, run, ran, after}
use Rattle.builder.specs.Growth.{Added, Lawful}

module _ {S : Type 0} (see : S → Seen) (next : S → ℕ → Step → S) where
  pub run_ran : (s : S) (h : Steps) → run see next s h ≡ see (ran next s h)
  run_ran s [] = refl
  run_ran s (a ∷ rest) = run_ran (next s a.0 a.1) rest

  ran_last : (s : S) (h : Steps) (d : ℕ) (x : Step) → ran next s (h ++ ((d, x) ∷ [])) ≡ next (ran next s h) d x
  ran_last s [] d x = refl
  ran_last s (a ∷ rest) d x = ran_last (next s a.0 a.1) rest d x

  -- the meaning after a step is that of the next state
  pub run_after : (s : S) (d : ℕ) (x : Step) → after d x (run see next s) ≡ run see next (next s d x)
  run_after s d x = refl

  -- a law that each step keeps, from any state of which P holds
  pub lawful_run : (P : S → Type 0) → ((s : S) (d : ℕ) (x : Step) → P s → P (next s d x))
      → ((s : S) (d : ℕ) (x : Step) → P s → (see s).replies d x ≡ Ok tt → Added d (see s).slots (see (next s d x)).slots)
      → (s : S) → P s → Lawful (run see next s)
  lawful_run P stays adds s p h d x e =
      let q : P (ran next s h) = hold s h p in
      rw (run_ran s h, run_ran s (h ++ ((d, x) ∷ [])), ran_last s h d x) (adds (ran next s h) d x q (rw (run_ran s h) at e))
    where
      hold : (s : S) (h : Steps) → P s → P (ran next s h)
      hold s [] p = p
      hold s (a ∷ rest) p = hold (next s a.0 a.1) rest (stays s a.0 a.1 p)
