use mathlib.Core.Path.{◌≡◌, refl, sym, ap, ◌∙◌, subst}
use mathlib.Core.List.{List, []}
use mathlib.Core.Logic.{◌⊎◌, inl, inr, ⊎_elim}
use mathlib.Core.Bool.{Bool, true, false}
use Prim.Native.Nat.{ℕ, ◌+◌, ◌*◌, ◌<◌, ◌≤◌}
use native.Mathlib.Omega.{arith}
use native.Mathlib.Decide.{ℕ_discrete}
use lib.Dec.{eqb}
use lib.ListN.{length}
use Rattle.layout.specs.Bits.{bit_at}
use Rattle.history.specs.Entry.{Entry}
use Rattle.layout.specs.Spans.{Span, Within, Alike}
use Rattle.history.specs.Moments.{Handle, Framed, Builder, Traced, Moment, Fresh, First, Follows, Made, Next}
use Rattle.layout.proofs.SpanLaws.{within?}
use Rattle.history.specs.Calls.{seen, with_handle, with_builder, put, as_first, as_cut, as_same, StopLeads, CutLeads, TrialLeads, StepLeads, SnapshotLeads, FinishLeads, ReserveLeads, OpenLeads, opened, Stepped, TurnLeads, Turned, NewLeads, Built, with_ledger}

pub stop_leads : StopLeads
stop_leads m =
    record {
      loaded = refl;
      used = omega arith;
      size = refl;
      writes = λ k h. refl;
      taker = 0;
      owns = λ j k h. inl h;
      rests = λ j k h. inl h;
      drops = λ j k h p. p;
      handles = λ x p. inl p;
    }

-- a call that makes one handle more, and changes nothing else
one_more : (m : Moment) (x : Traced) → Framed x.handle → Made m (with_handle x m) x → Next m (with_handle x m)
one_more m x f h =
    record {
      loaded = refl;
      used = omega arith;
      size = refl;
      writes = λ k h. refl;
      taker = 0;
      owns = λ j k h. inl h;
      rests = λ j k h. inl h;
      drops = λ j k h p. p;
      handles = λ z p. ⊎_elim (λ e. inr (subst (λ t. Framed t.handle × Made m (with_handle x m) t) (sym e) (f, h))) (λ q. inl q) p;
    }

-- a cut, from what an array's laws say of it
pub cut_leads : (a : Handle) (start n : ℕ) (r : Handle) → Framed r → start + n ≤ a.count → r.count ≡ n
    → ((b : List ℕ) (i : ℕ) → i < n → r.slot b i ≡ a.slot b (start + i))
    → ((k : ℕ) → Within r.rests k → Within a.rests k)
    → CutLeads a start n r
cut_leads a start n r f l c s w m y p e =
    one_more m (as_cut y r start n) f (inr (inl (
      y,
      start,
      n,
      record {
        behind = p;
        origin = refl;
        body = refl;
        fits = rw e l;
        count = c;
        shows = λ i h. rw e (s m.body i h);
        bits = λ k q. inl (rw e (w k q));
      },
      refl,
    )))

pub trial_leads : (b : List ℕ) (loaded : ℕ) (child : List Span) (r : Handle) → Framed r
    → ((k : ℕ) → Within r.rests k → (k < 8 * loaded) ⊎ Within child k)
    → TrialLeads b loaded child r
trial_leads b loaded child r f w m eb el c =
    one_more m (as_first r b) f (inl (
    record {
      itself = refl;
      now = sym eb;
      uncut = refl;
      bits = λ k p. ⊎_elim (λ l. inl (rw el l)) (λ q. ⊎_elim (λ l. inl (rw el l)) (λ y. inr (inl y)) (c k q)) (w k p);
    }))

pub reserve_leads : (used used' : ℕ) → used ≤ used' → ReserveLeads used used'
reserve_leads used used' l m e =
    record {
      loaded = refl;
      used = rw e l;
      size = refl;
      writes = λ k h. refl;
      taker = 0;
      owns = λ j k h. inl h;
      rests = λ j k h. inl h;
      drops = λ j k h p. p;
      handles = λ x p. inl p;
    }

pub open_leads : (size loaded : ℕ) → OpenLeads size loaded
open_leads size loaded b e =
    ((λ t. opened b loaded), 0, (record { used = refl; builders = λ j. refl; handles = refl }, λ t l. absurd (omega arith)), refl)

pub snapshot_leads : (s : Builder) (b : List ℕ) (r : Handle) → Framed r
    → ((k : ℕ) → Within r.rests k → Within s.rests k)
    → SnapshotLeads s b r
snapshot_leads s b r f w m j eb es =
    one_more m (as_first r b) f (inl (
    record { itself = refl; now = sym eb; uncut = refl; bits = λ k p. inr (inr (inl (j, rw es (w k p)))) }))

-- what is seen of an array is framed
pub seen_framed : (size : ℕ) (mark : List ℕ → ℕ → Bool) (f : List ℕ → ℕ → Entry) (ss : List Span)
    → ((b c : List ℕ) → Alike ss b c → (i : ℕ) → i < size → mark b i ≡ mark c i)
    → ((b c : List ℕ) → Alike ss b c → (i : ℕ) → i < size → f b i ≡ f c i)
    → Framed (seen size mark f ss)
seen_framed size mark f ss w e b c h i l = rw (w b c h i l, e b c h i l) refl

put_cases : (j i : ℕ) (x : Builder) (f : ℕ → Builder) (Q : Builder → Type 0) → (i ≡ j → Q x) → Q (f i) → Q (put j x f i)
put_cases j i x f Q p q =
    elim (ℕ_discrete i j) [ yes e ↦ (let t : eqb i j ≡ true = grind arith in rw t (p e)) | no e ↦ (let t : eqb i j ≡ false = grind arith in rw t q) ]

-- a step, from what the builder's contract says of it
pub step_leads : (s : Builder) (b : List ℕ) (s' : Builder) (b' : List ℕ) → Stepped s b s' b' → StepLeads s b s' b'
step_leads s b s' b' h m j eb es =
    record {
      loaded = refl;
      used = omega arith;
      size = rw eb h.size;
      writes = λ k w. rw eb (h.kept k (rw es at (w.1 j)));
      taker = 0;
      owns = λ i k. put_cases j i s' m.builder (λ x. Within x.own k → Within (m.builder i).own k ⊎ ((i ≡ 0) × Fresh m (with_builder j s' b' m) k)) (λ e o. inl (rw (e, es) (h.owned k o))) (λ o. inl o);
      rests = λ i k. put_cases j i s' m.builder (λ x. Within x.rests k → Within (m.builder i).rests k ⊎ (Within x.own k ⊎ (k < 8 * m.loaded))) (λ e o. rw (e, es) (⊎_elim inl (λ q. inr (inl q)) (h.rested k o))) (λ o. inl o);
      drops = λ i k. put_cases j i s' m.builder (λ x. Within x.own k → Within (m.builder i).rests k → Within x.rests k) (λ e o r. h.grows k (rw (e, es) at r)) (λ o r. r);
      handles = λ x p. inl p;
    }

pub finish_leads : (s : Builder) (b : List ℕ) (r : Handle) → Framed r
    → ((k : ℕ) → Within r.rests k → Within s.rests k)
    → FinishLeads s b r
finish_leads s b r f w m j eb es =
    record {
      loaded = refl;
      used = omega arith;
      size = ap length (sym eb);
      writes = λ k h. ap (λ c. bit_at c k) eb;
      taker = 0;
      owns = λ i k. put_cases j i (record { own = []; rests = [] }) m.builder (λ x. Within x.own k → Within (m.builder i).own k ⊎ ((i ≡ 0) × Fresh m m k)) (λ e o. absurd o) (λ o. inl o);
      rests = λ i k. put_cases j i (record { own = []; rests = [] }) m.builder (λ x. Within x.rests k → Within (m.builder i).rests k ⊎ (Within x.own k ⊎ (k < 8 * m.loaded))) (λ e o. absurd o) (λ o. inl o);
      drops = λ i k. put_cases j i (record { own = []; rests = [] }) m.builder (λ x. Within x.own k → Within (m.builder i).rests k → Within x.rests k) (λ e o q. absurd o) (λ o q. q);
      handles = λ z p. ⊎_elim (λ e. inr (subst (λ t. Framed t.handle × Made m m' t) (sym e) (f, inl made))) (λ q. inl q) p;
    }
  where
    m' : Moment
    m' = with_handle (as_first r b) (with_builder j (record { own = []; rests = [] }) b m)

    made : First m m' (as_first r b)
    made = record { itself = refl; now = refl; uncut = refl; bits = λ k p. inr (inr (inl (j, rw es (w k p)))) }

-- a conversion, from what its contract says of it
pub turn_leads : (a : Handle) (used : ℕ) (b : List ℕ) (r : Handle) (used' : ℕ) (b' : List ℕ) → Framed r → Turned a used b r used' b' → TurnLeads a used b r used' b'
turn_leads a used b r used' b' f h m y p ea eu eb =
    record {
      loaded = refl;
      used = rw eu h.grows;
      size = rw eb h.size;
      writes = λ k w. rw eb (h.kept k (rw eu at w.0));
      taker = 0;
      owns = λ j k o. inl o;
      rests = λ j k o. inl o;
      drops = λ j k o q. q;
      handles = λ z q. ⊎_elim (λ e. inr (subst (λ t. Framed t.handle × Made m m' t) (sym e) (f, inr (inr (y, made, refl))))) (λ o. inl o) q;
    }
  where
    m' : Moment
    m' = with_handle (as_same y r) (with_ledger used' b' m)

    made : Follows m m' y (as_same y r) 0 y.handle.count
    made =
        record {
          behind = p;
          origin = refl;
          body = refl;
          fits = omega arith;
          count = rw ea h.count;
          shows = λ i l. rw (ea, eb) (h.shows i (rw ea at l) ∙ ap (a.slot b) (omega arith));
          bits = λ k q. ⊎_elim (λ o. inl (rw ea o)) (λ o. inr ((rw eu o.0, o.1), λ i j c. c)) (h.bits k q);
        }

-- a new builder or layer, from what its contract says of it
pub new_leads : (s : Builder) (used : ℕ) (b : List ℕ) (s' : Builder) (used' : ℕ) (b' : List ℕ) → Built s used b s' used' b' → NewLeads s used b s' used' b'
new_leads s used b s' used' b' h m j es eu eb =
    record {
      loaded = refl;
      used = rw eu h.longer;
      size = rw eb h.size;
      writes = λ k w. rw eb (h.kept k (rw eu at w.0));
      taker = j;
      owns = λ i k. put_cases j i s' m.builder (λ x. Within x.own k → Within (m.builder i).own k ⊎ ((i ≡ j) × Fresh m m' k)) (λ e o. ⊎_elim (λ q. inl (rw (e, es) q)) (λ q. inr (e, (rw eu q.0, q.1))) (h.owned k o)) (λ o. inl o);
      rests = λ i k. put_cases j i s' m.builder (λ x. Within x.rests k → Within (m.builder i).rests k ⊎ (Within x.own k ⊎ (k < 8 * m.loaded))) (λ e o. rw (e, es) (⊎_elim inl (λ q. inr (inl q)) (h.rested k o))) (λ o. inl o);
      drops = λ i k. put_cases j i s' m.builder (λ x. Within x.own k → Within (m.builder i).rests k → Within x.rests k) (λ e o r. h.grows k (rw (e, es) at r)) (λ o r. r);
      handles = λ x p. inl p;
    }
  where
    m' : Moment
    m' = with_ledger used' b' (with_builder j s' b' m)

-- a builder that keeps each bit that it does not own or rests on keeps each settled bit
pub kept_either : (s : Builder) (b b' : List ℕ) → ((k : ℕ) → ((Within s.own k → ⊥) ⊎ Within s.rests k) → bit_at b k ≡ bit_at b' k)
    → (k : ℕ) → (Within s.own k → Within s.rests k) → bit_at b k ≡ bit_at b' k
kept_either s b b' h k w = h k (⊎_elim (λ o. inr (w o)) inl (within? s.own k))
