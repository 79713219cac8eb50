use Rattle.std.proofs.Common.{◌≡◌, ℕ, ◌+◌, ◌<◌, ◌≤◌, Bool, true, false, cond, leb, Ok, Err, Result, refl, leb-false, leb-true, MatchResult}
use Rattle.ledger.specs.declared.stop.Stop.{Stop}
use Rattle.ledger.specs.declared.stop.Reason.TheVariants.{IndexPastEnd}
use Rattle.ledger.specs.Stops.{stopped}
use Rattle.slots.specs.Replies.{slice_reply}

by_test : {X : Type 0} (t : Bool) (h : X) (e : Stop) (P : X → Type 0) (Q : Stop → Type 0) → (t ≡ true → P h) → (t ≡ false → Q e) → MatchResult (cond t (Ok h) (Err e)) P Q
by_test true h e P Q p q = p refl
by_test false h e P Q p q = q refl

-- what a slice's reply says, by its two cases
pub slice_cases : {X : Type 0} (r : Result X Stop) (size start n : ℕ) (h : X) (P : X → Type 0) (Q : Stop → Type 0) → r ≡ slice_reply size start n h → (start + n ≤ size → P h) → (size < start + n → Q (stopped IndexPastEnd)) → MatchResult r P Q
slice_cases r size start n h P Q e p q =
    rw e (by_test (leb (start + n) size) h (stopped IndexPastEnd) P Q (λ t. p (leb-true _ _ t)) (λ t. q (leb-false _ _ t)))
