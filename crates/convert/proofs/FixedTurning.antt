use Rattle.std.proofs.Common.{◌≡◌, ℕ, ◌+◌, ◌-◌, ◌*◌, ◌<◌, ◌≤◌, Bool, true, false, cond, eqb, leb, ◌⊎◌, List, [], length, Some, None, Ok, Err, Option, Result, sym, refl, ap, add-mul, arith, leb-true}
use Rattle.std.proofs.lemmas.Nat.{mul-le}
use Rattle.ledger.specs.declared.stop.Stop.{Stop}
use Rattle.ledger.specs.declared.stop.Reason.TheVariants.{BodyLengthDiffers, NoRange, TooLarge}
use Rattle.ledger.specs.Stops.{stopped}
use Rattle.ledger.specs.Ledger.{Accounts, aligned, second}
use Rattle.layout.specs.Spans.{Span, Within, Alike}
use Rattle.layout.proofs.NeedLaws.{needed_none}
use Rattle.history.specs.Entry.{Entry}
use Rattle.history.specs.Calls.{TurnLeads}
use Rattle.history.proofs.Leading.{turn_leads}
use Rattle.slots.specs.declared.slots.Slots.{Slots}
use Rattle.slots.specs.Replies.{find_reply}
use Rattle.slots.specs.Trials.{and_then}
use Rattle.array.specs.Windows.{Range}
use Rattle.array.specs.Offsets.{largest_of}
use Rattle.array.specs.Lists.{list_spans, list_seen}
use Rattle.array.proofs.ListLaws.{list_framed, taken_range}
use Rattle.fixed_size_list_array.specs.Fixed.{fixed_range}
use Rattle.fixed_size_list_array.specs.FixedLaws.{fixed_inside}
use Rattle.list_view_array.specs.Views.{view_range, view_words}
use Rattle.list_view_array.specs.ViewLaws.{view_inside, view_range_alike}
use Rattle.convert.specs.Writing.{start_of, size_of, views_put, fresh_slots}
use Rattle.convert.specs.Turning.{all_ok, starts_small, fixed_tests}
use Rattle.convert.proofs.AllTaken.{all_there}
use Rattle.convert.proofs.Turning.{views_turned}

-- a fixed range is made of its two numbers
fixed_parts : (size cs i : ℕ) (r : Range) → fixed_range size cs i ≡ Some r → (r.0 ≡ i * size) × (r.1 ≡ (i + 1) * size)
fixed_parts size cs i r h = by (leb ((i + 1) * size) cs) h
  where
    by : (t : Bool) → ◌≡◌ {A = Option Range} (cond t (Some (i * size, (i + 1) * size)) None) (Some r) → (r.0 ≡ i * size) × (r.1 ≡ (i + 1) * size)
    by true e = let z : ◌≡◌ {A = Range} (i * size, (i + 1) * size) r = cc in (ap (λ (p : Range). p.0) (sym z), ap (λ (p : Range). p.1) (sym z))
    by false e = let z : ◌≡◌ {A = ℕ} 0 1 = cc in absurd (omega arith)

small_parts : (w size len : ℕ) → 0 < len → starts_small w size len ≡ true → ((len - 1) * size ≤ largest_of w) × (size ≤ largest_of w)
small_parts w size len l h =
    let z : eqb len 0 ≡ false = grind arith in
    by (leb ((len - 1) * size) (largest_of w)) (leb size (largest_of w)) refl refl (rw z at h)
  where
    by : (t u : Bool) → leb ((len - 1) * size) (largest_of w) ≡ t → leb size (largest_of w) ≡ u → cond t u false ≡ true → ((len - 1) * size ≤ largest_of w) × (size ≤ largest_of w)
    by true true p q e = (leb-true _ _ p, leb-true _ _ q)
    by true false p q e = let z : ◌≡◌ {A = ℕ} 0 1 = cc in absurd (omega arith)
    by false u p q e = let z : ◌≡◌ {A = ℕ} 0 1 = cc in absurd (omega arith)

fixed_small : (w size cs len i : ℕ) (b : List ℕ) (r : Range) → i < len → starts_small w size len ≡ true → Ok r ≡ find_reply len (λ j. []) (fixed_range size cs) b i
    → (start_of (find_reply len (λ j. []) (fixed_range size cs) b i) ≤ largest_of w) × (size_of (find_reply len (λ j. []) (fixed_range size cs) b i) ≤ largest_of w)
fixed_small w size cs len i b r l h e =
    let t = taken_range len i (λ j. []) (fixed_range size cs) b r e in
    let p = fixed_parts size cs i r t.1.1 in
    let p0 = p.0 in
    let p1 = p.1 in
    let q = small_parts w size len (omega arith) h in
    let q0 = q.0 in
    let q1 = q.1 in
    let m = mul-le i size (len - 1) size (omega arith) (omega arith) in
    let d = add-mul i 1 size in
    rw (sym e) (omega arith, omega arith)

-- a conversion that is taken leads on from any moment in which the list's bits are given out
pub fixed_turns : (w : ℕ) → (w ≡ 4) ⊎ (w ≡ 8) → (size : ℕ) (s : Slots) (cs : ℕ) (f : List ℕ → ℕ → Entry) (child : List Span)
    → ((c d : List ℕ) → Alike child c d → (i : ℕ) → i < cs → f c i ≡ f d i)
    → (b : List ℕ) (g : Accounts) → g.length ≡ length b → second g (w * s.len) + w * s.len ≤ g.length
    → all_ok (λ i. find_reply s.len (λ j. []) (fixed_range size cs) b i) s.len ≡ true → starts_small w size s.len ≡ true
    → ((k : ℕ) → Within (list_spans s [] child) k → k < 8 * g.end)
    → TurnLeads (list_seen s f (λ d. fixed_range size cs) [] child) g.end b
    (list_seen (fresh_slots s) f (view_range w (aligned g.end) (second g (w * s.len)) (fresh_slots s) cs) (view_words w (aligned g.end) (second g (w * s.len)) (fresh_slots s)) child)
    (second g (w * s.len) + w * s.len)
    (views_put w (λ d i. find_reply s.len (λ j. []) (fixed_range size cs) d i) (aligned g.end) (second g (w * s.len)) b s.len)
fixed_turns w known size s cs f child law b g whole fits found small below =
    turn_leads _ _ _ _ _ _
    (list_framed (fresh_slots s) cs f (view_range w p q (fresh_slots s) cs) (view_words w p q (fresh_slots s)) child (view_inside w p q (fresh_slots s) cs) (view_range_alike w p q (fresh_slots s) cs) law)
    (views_turned w known s cs f (λ d. fixed_range size cs) (λ j. []) [] child
    (λ d i l. fixed_inside size cs i) (λ i l. needed_none (fixed_range size cs i)) (λ i l k h. h) law
    b g.end p q (q + w * s.len) (omega arith) (omega arith) (omega arith) (omega arith) below there
    (λ i l. fixed_small w size cs s.len i b (there i l).0 l small (there i l).1))
  where
    p : ℕ
    p = aligned g.end

    q : ℕ
    q = second g (w * s.len)

    there : (i : ℕ) → i < s.len → (r : Range) × (Ok r ≡ find_reply s.len (λ j. []) (fixed_range size cs) b i)
    there i l = all_there (λ j. find_reply s.len (λ i. []) (fixed_range size cs) b j) s.len found i l

pub fixed_taken : (g : Accounts) (b : List ℕ) (found small : Bool) → Ok tt ≡ fixed_tests g b found small → (eqb (length b) g.length ≡ true) × ((found ≡ true) × (small ≡ true))
fixed_taken g b found small h = by (eqb (length b) g.length) found small h
  where
    by : (t u v : Bool) → ◌≡◌ {A = Result (Unit {0}) Stop} (Ok tt) (cond t (and_then (cond u (Ok tt) (Err (stopped NoRange))) (cond v (Ok tt) (Err (stopped TooLarge)))) (Err (stopped BodyLengthDiffers))) → (t ≡ true) × ((u ≡ true) × (v ≡ true))
    by true true true e = (refl, (refl, refl))
    by true true false e = let z : ◌≡◌ {A = ℕ} 0 1 = cc in absurd (omega arith)
    by true false v e = let z : ◌≡◌ {A = ℕ} 0 1 = cc in absurd (omega arith)
    by false u v e = let z : ◌≡◌ {A = ℕ} 0 1 = cc in absurd (omega arith)
