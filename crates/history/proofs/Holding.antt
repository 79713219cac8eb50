use mathlib.Core.Path.{◌≡◌, refl, sym, ap, ◌∙◌, subst}
use mathlib.Core.List.{◌∷◌}
use mathlib.Core.Logic.{⊎_elim}
use Prim.Native.Nat.{ℕ, zero, suc, ◌+◌, ◌*◌, ◌<◌, ◌≤◌}
use native.Mathlib.Numerals.{add-one}
use native.Mathlib.Omega.{arith}
use native.Mathlib.Decide.{dec_le}
use Rattle.layout.specs.Spans.{Within}
use Rattle.history.specs.Moments.{Framed, Builder, Traced, distance, Moment, In, Settled, FreshFree, First, Follows, Made, Next, Opened, Run, Shown, DistanceLaw, RunsGoOn, GivenOut}
use mathlib.Core.Bool.{false, cond}
use lib.Dec.{leb}
use borrow.Author.Tests.{le-leb}

-- a handle that is as it should be
record Kept (m : Moment) (x : Traced) : Type 0 where
  pub framed : Framed x.handle
  pub settled : (k : ℕ) → Within x.handle.rests k → Settled m k
  pub shown : Shown m x

-- what holds in every moment of a run
record Sound (m : Moment) : Type 0 where
  pub least : m.loaded ≤ m.used
  pub above : (j k : ℕ) → Within (m.builder j).own k → 8 * m.loaded ≤ k
  pub below : (j k : ℕ) → Within (m.builder j).own k → k < 8 * m.used
  pub under : (j k : ℕ) → Within (m.builder j).rests k → k < 8 * m.used
  pub apart : (i j k : ℕ) → Within (m.builder i).own k → Within (m.builder j).own k → i ≡ j
  pub alone : (i j k : ℕ) → Within (m.builder i).rests k → Within (m.builder j).own k → i ≡ j
  pub kept : (x : Traced) → In x m.handles → Kept m x

-- a bit below the reservations that a builder owns afterwards, it owned before
owned : (m m' : Moment) → Next m m' → (j k : ℕ) → k < 8 * m.used → Within (m'.builder j).own k → Within (m.builder j).own k
owned m m' s j k l o = ⊎_elim (λ p. p) (λ p. absurd (omega arith)) (s.owns j k o)

stays : (m m' : Moment) → Next m m' → (k : ℕ) → Settled m k → Settled m' k
stays m m' s k h =
    let u = s.used in
    (omega arith, λ j o. s.drops j k o (h.1 j (owned m m' s j k h.0 o)))

-- a handle on settled bits goes on as it was
lasts : (m m' : Moment) → Next m m' → (x : Traced) → Kept m x → Kept m' x
lasts m m' s x h =
    record {
      framed = h.framed;
      settled = λ k p. stays m m' s k (h.settled k p);
      shown = (h.shown.0, λ i l. ((h.shown.1 i l).0, sym (h.framed m.body m'.body (λ k p. s.writes k (h.settled k p)) i l) ∙ (h.shown.1 i l).1));
    }

-- a bit that was reserved for no builder is settled
fresh_settled : (m m' : Moment) → Sound m → (k : ℕ) → FreshFree m m' k → Settled m' k
fresh_settled m m' w k q = (q.0.1, λ j o. let z = w.below j k (q.1 k j o) in let z' = q.0.0 in absurd (omega arith))

first_kept : (m m' : Moment) → Sound m → Next m m' → (x : Traced) → Framed x.handle → First m m' x → Kept m' x
first_kept m m' w s x fr f =
    record { framed = fr; settled = settled; shown = shown }
  where
    settled : (k : ℕ) → Within x.handle.rests k → Settled m' k
    settled k p =
        ⊎_elim
        (λ l. stays m m' s k (let z = w.least in omega arith, λ j o. let z = w.above j k o in absurd (omega arith)))
        (⊎_elim
        (λ y. stays m m' s k ((w.kept y.0 y.1).settled k y.2))
        (⊎_elim
        (λ j. stays m m' s k (w.under j.0 k j.1, λ i o. subst (λ n. Within (m.builder n).rests k) (w.alone j.0 i k j.1 o) j.1))
        (λ q. fresh_settled m m' w k q)))
        (f.bits k p)

    shown : Shown m' x
    shown = rw (f.itself, f.now, f.uncut) (refl, λ i l. (omega arith, ap (x.handle.slot m'.body) (omega arith)))

-- the bits of a handle that follows another are settled
follow_settled : (m m' : Moment) → Sound m → Next m m' → (y x : Traced) (start n : ℕ) → Follows m m' y x start n → (k : ℕ) → Within x.handle.rests k → Settled m' k
follow_settled m m' w s y x start n f k p =
    ⊎_elim
    (λ q. stays m m' s k ((w.kept y f.behind).settled k q))
    (λ q. fresh_settled m m' w k q)
    (f.bits k p)

cut_kept : (m m' : Moment) → Sound m → Next m m' → (y x : Traced) (start n : ℕ) → Framed x.handle → Follows m m' y x start n → x.cuts ≡ (start, n) ∷ y.cuts → Kept m' x
cut_kept m m' w s y x start n fr f c =
    record { framed = fr; settled = follow_settled m m' w s y x start n f; shown = shown }
  where
    old : Shown m y
    old = (w.kept y f.behind).shown

    shown : Shown m' x
    shown = rw (f.count, f.origin, f.body, c) (
      refl,
      λ i l.
          let o = old.1 (start + i) (let z = f.fits in omega arith) in
          let e : start + i + distance y.cuts ≡ i + (distance y.cuts + start) = omega arith in
          (let z = o.0 in omega arith, f.shows i l ∙ o.1 ∙ ap (y.first.slot y.before) e),
    )

turn_kept : (m m' : Moment) → Sound m → Next m m' → (y x : Traced) → Framed x.handle → Follows m m' y x 0 y.handle.count → x.cuts ≡ y.cuts → Kept m' x
turn_kept m m' w s y x fr f c =
    record { framed = fr; settled = follow_settled m m' w s y x 0 y.handle.count f; shown = shown }
  where
    old : Shown m y
    old = (w.kept y f.behind).shown

    shown : Shown m' x
    shown = rw (f.count, f.origin, f.body, c) (
      old.0,
      λ i l.
          let o = old.1 i l in
          (o.0, f.shows i l ∙ ap (y.handle.slot m.body) (omega arith) ∙ o.1),
    )

made_kept : (m m' : Moment) → Sound m → Next m m' → (x : Traced) → Framed x.handle → Made m m' x → Kept m' x
made_kept m m' w s x fr h =
    ⊎_elim (first_kept m m' w s x fr)
    (⊎_elim (λ c. cut_kept m m' w s c.0 x c.1 c.2 fr c.3 c.4) (λ c. turn_kept m m' w s c.0 x fr c.1 c.2))
    h

next_sound : (m m' : Moment) → Sound m → Next m m' → Sound m'
next_sound m m' w s =
    record {
      least = let z = w.least in let u = s.used in let e = s.loaded in omega arith;
      above = above;
      below = below;
      under = under;
      apart = apart;
      alone = alone;
      kept = λ x p. ⊎_elim (λ q. lasts m m' s x (w.kept x q)) (λ q. made_kept m m' w s x q.0 q.1) (s.handles x p);
    }
  where
    above : (j k : ℕ) → Within (m'.builder j).own k → 8 * m'.loaded ≤ k
    above j k o =
        let e = s.loaded in let z = w.least in
        ⊎_elim (λ p. let a = w.above j k p in omega arith) (λ p. let a = p.1.0 in omega arith) (s.owns j k o)

    below : (j k : ℕ) → Within (m'.builder j).own k → k < 8 * m'.used
    below j k o = let u = s.used in ⊎_elim (λ p. let a = w.below j k p in omega arith) (λ p. p.1.1) (s.owns j k o)

    under : (j k : ℕ) → Within (m'.builder j).rests k → k < 8 * m'.used
    under j k o =
        let u = s.used in let z = w.least in
        ⊎_elim (λ p. let a = w.under j k p in omega arith) (⊎_elim (λ p. below j k p) (λ p. omega arith)) (s.rests j k o)

    apart : (i j k : ℕ) → Within (m'.builder i).own k → Within (m'.builder j).own k → i ≡ j
    apart i j k p q =
        ⊎_elim
        (λ a. let l = w.below i k a in w.apart i j k a (owned m m' s j k l q))
        (λ a. ⊎_elim (λ b. let l = w.below j k b in let g = a.1.0 in absurd (omega arith)) (λ b. a.0 ∙ sym b.0) (s.owns j k q))
        (s.owns i k p)

    alone : (i j k : ℕ) → Within (m'.builder i).rests k → Within (m'.builder j).own k → i ≡ j
    alone i j k p q =
        ⊎_elim
        (λ a. w.alone i j k a (owned m m' s j k (w.under i k a) q))
        (⊎_elim (λ a. apart i j k a q) (λ a. let l = above j k q in let e = s.loaded in absurd (omega arith)))
        (s.rests i k p)

opened_sound : (m : Moment) → Opened m → Sound m
opened_sound m o =
    record {
      least = let e = o.used in omega arith;
      above = λ j k p. absurd (none_own j k p);
      below = λ j k p. absurd (none_own j k p);
      under = λ j k p. absurd (none_rests j k p);
      apart = λ i j k p q. absurd (none_own i k p);
      alone = λ i j k p q. absurd (none_rests i k p);
      kept = λ x p. absurd (subst (In x) o.handles p);
    }
  where
    none_own : (j k : ℕ) → Within (m.builder j).own k → ⊥
    none_own j k p = subst (λ (s : Builder). Within s.own k) (o.builders j) p

    none_rests : (j k : ℕ) → Within (m.builder j).rests k → ⊥
    none_rests j k p = subst (λ (s : Builder). Within s.rests k) (o.builders j) p

run_sound : (h : ℕ → Moment) (calls : ℕ) → Run h calls → (t : ℕ) → t ≤ calls → Sound (h t)
run_sound h calls r zero l = opened_sound (h 0) r.0
run_sound h calls r (suc t) l = rw (← add-one) (next_sound (h t) (h (t + 1)) (run_sound h calls r t (omega arith)) (r.1 t (omega arith)))

pub distance_law : DistanceLaw
distance_law h calls r t l x p = ((run_sound h calls r t l).kept x p).shown

-- a run with one moment more
longer : (ℕ → Moment) → ℕ → Moment → ℕ → Moment
longer h calls m t = cond (leb t calls) (h t) m

longer_old : (h : ℕ → Moment) (calls : ℕ) (m : Moment) (t : ℕ) → t ≤ calls → longer h calls m t ≡ h t
unfolding longer
longer_old h calls m t l = rw (le-leb t calls l) refl

longer_new : (h : ℕ → Moment) (calls : ℕ) (m : Moment) → longer h calls m (calls + 1) ≡ m
unfolding longer
longer_new h calls m = let e : leb (calls + 1) calls ≡ false = grind arith in rw e refl

pub runs_go_on : RunsGoOn
runs_go_on m m' q s = (g, calls + 1, (start, steps), longer_new h calls m')
  where
    h : ℕ → Moment
    h = q.0

    calls : ℕ
    calls = q.1

    g : ℕ → Moment
    g = longer h calls m'

    start : Opened (g 0)
    start = rw (longer_old h calls m' 0 (omega arith)) q.2.0

    inside : (t : ℕ) → t < calls → Next (g t) (g (t + 1))
    inside t l = rw (longer_old h calls m' t (omega arith), longer_old h calls m' (t + 1) (omega arith)) (q.2.1 t l)

    last : Next (g calls) (g (calls + 1))
    last = rw (longer_old h calls m' calls (omega arith), longer_new h calls m') (subst (λ z. Next z m') (sym q.3) s)

    steps : (t : ℕ) → t < calls + 1 → Next (g t) (g (t + 1))
    steps t l = elim (dec_le (t + 1) calls) [ yes a ↦ inside t (omega arith) | no a ↦ let e : calls ≡ t = omega arith in subst (λ u. Next (g u) (g (u + 1))) e last ]

pub given_out : GivenOut
given_out m q x p k h =
    subst (λ (z : Moment). k < 8 * z.used) q.3
    (((run_sound q.0 q.1 q.2 q.1 (omega arith)).kept x (subst (λ (z : Moment). In x z.handles) (sym q.3) p)).settled k h).0
