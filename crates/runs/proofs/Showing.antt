use Rattle.std.proofs.Common.{◌≡◌, ℕ, ◌+◌, ◌<◌, Bool, true, false, cond, ltb, List, ◌∷◌, IfOk, Some, None, Ok, Err, Option, Result, sym, refl, ◌∙◌, subst, inl, arith, ltb-true, MatchResult}
use Rattle.ledger.specs.declared.stop.Stop.{Stop}
use Rattle.ledger.specs.declared.stop.Reason.TheVariants.{BeyondBytes, IndexPastEnd}
use Rattle.ledger.specs.Stops.{stopped}
use Rattle.layout.specs.Spans.{Span, in_body}
use Rattle.history.specs.Entry.{Slot}
use Rattle.history.specs.Moments.{Handle, Traced, Moment, In, Reached, Shown, distance}
use Rattle.history.specs.Calls.{CutLeads, as_cut, with_handle}
use Rattle.history.proofs.Holding.{distance_law, runs_go_on}
use Rattle.slots.specs.Replies.{ask_reply, find_reply, found}
use Rattle.runs.specs.Replies.{FirstShowed, Behind}

-- the law at a moment that a run leads to
reached_shown : (m : Moment) → Reached m → (x : Traced) → In x m.handles → Shown m x
reached_shown m q x p =
    subst (λ z. Shown z x) q.3 (distance_law q.0 q.1 q.2 q.1 (omega arith) x (subst (λ z. In x z.handles) (sym q.3) p))

-- what holds of a handle's slot now held of its first handle's
pub first_showed : (h : Handle) (b : List ℕ) (i : ℕ) (P : Slot → Type 0) → i < h.count → P (h.slot b i) → FirstShowed h b i P
first_showed h b i P l p m x q eb e eh =
    let k : i < x.handle.count = rw eh l in
    let s : x.handle.slot m.body i ≡ x.first.slot x.before (i + distance x.cuts) = ((reached_shown m q x e).1 i k).1 in
    let c : h.slot b i ≡ x.handle.slot m.body i = rw (eh, eb) refl in
    subst P (c ∙ s) p

-- what an answer that was taken says
pub asked_cases : {X : Type 0} (size : ℕ) (need : ℕ → List Span) (f : ℕ → X) (b : List ℕ) (i : ℕ) (r : Result X Stop) (P : X → Type 0)
    → r ≡ ask_reply size need f b i → (i < size → P (f i)) → IfOk r P
asked_cases size need f b i r P e h = rw e (by (ltb i size) (in_body (need i) b) refl)
  where
    by : (t u : Bool) → ltb i size ≡ t → IfOk (cond t (cond u (Ok (f i)) (Err (stopped BeyondBytes))) (Err (stopped IndexPastEnd))) P
    by true true p = h (ltb-true i size p)
    by true false p = tt
    by false u p = tt

pub found_cases : {X : Type 0} (size : ℕ) (need : ℕ → List Span) (f : ℕ → Option X) (b : List ℕ) (i : ℕ) (r : Result X Stop) (P : X → Type 0)
    → r ≡ find_reply size need f b i → (i < size → (x : X) → f i ≡ Some x → P x) → IfOk r P
found_cases {X = X} size need f b i r P e h = rw e (by (ltb i size) (in_body (need i) b) (f i) refl refl)
  where
    by : (t u : Bool) (o : Option X) → ltb i size ≡ t → f i ≡ o → IfOk (cond t (cond u (found o) (Err (stopped BeyondBytes))) (Err (stopped IndexPastEnd))) P
    by true true (Some x) p q = h (ltb-true i size p) x q
    by true true None p q = tt
    by true false o p q = tt
    by false u o p q = tt

-- two cuts on one way
pub behind_twice : (a b h : Handle) (s n t k : ℕ) → CutLeads a s n b → CutLeads b t k h
    → (m : Moment) (y : Traced) → Reached m → In y m.handles → y.handle ≡ a → Behind m y ((t, k) ∷ (s, n) ∷ y.cuts) h
behind_twice a b h s n t k p q m y r i e =
    let x = as_cut y b s n in
    let m1 = with_handle x m in
    let z = as_cut x h t k in
    let m2 = with_handle z m1 in
    (m2, z, runs_go_on m1 m2 (runs_go_on m m1 r (p m y i e)) (q m1 x (inl refl) refl), inl refl, refl, refl, refl, refl, refl)

pub cases_map : {X E : Type 0} (r : Result X E) (P P' : X → Type 0) (Q Q' : E → Type 0) → ((x : X) → P x → P' x) → ((e : E) → Q e → Q' e) → MatchResult r P Q → MatchResult r P' Q'
cases_map (Ok x) P P' Q Q' f g h = f x h
cases_map (Err e) P P' Q Q' f g h = g e h
