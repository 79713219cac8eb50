use Rattle.std.proofs.Common.{◌≡◌, ℕ, suc, ◌+◌, ◌-◌, ◌*◌, ◌^◌, ◌<◌, ◌≤◌, Bool, true, false, cond, eqb, ltb, leb, ◌⊎◌, List, length, ℤ, pos, negsuc, Some, None, Ok, Err, Option, Result, sym, refl, ap, inl, ⊎_elim, mul-add, arith, ltb-true}
use Rattle.std.proofs.lemmas.Nat.{mul-le}
use Rattle.ledger.specs.declared.stop.Stop.{Stop}
use Rattle.ledger.specs.declared.stop.Reason.TheVariants.{BodyLengthDiffers, BeyondBytes, NoRange}
use Rattle.ledger.specs.Stops.{stopped}
use Rattle.ledger.specs.Ledger.{Accounts, aligned, second}
use Rattle.layout.specs.Words.{word_at, signed_of}
use Rattle.layout.specs.Spans.{Span, Within, Alike}
use Rattle.history.specs.Entry.{Entry}
use Rattle.history.specs.Calls.{TurnLeads}
use Rattle.history.proofs.Leading.{turn_leads}
use Rattle.slots.specs.declared.slots.Slots.{Slots}
use Rattle.slots.specs.Replies.{find_reply}
use Rattle.slots.specs.Trials.{and_then}
use Rattle.array.specs.Windows.{Range}
use Rattle.array.specs.Offsets.{largest_of}
use Rattle.array.specs.Lists.{list_spans, list_seen}
use Rattle.array.proofs.ListLaws.{list_framed, taken_range}
use Rattle.checks.specs.Checks.{absent_reply, taken}
use Rattle.list_array.specs.Offsets.{offset_of, range_of, list_range, list_need, list_words}
use Rattle.list_array.specs.OffsetLaws.{list_inside, list_needed}
use Rattle.list_view_array.specs.Views.{view_range, view_words}
use Rattle.list_view_array.specs.ViewLaws.{view_inside, view_range_alike}
use Rattle.convert.specs.Writing.{start_of, size_of, views_put, fresh_slots}
use Rattle.convert.specs.Turning.{all_ok, turn_tests}
use Rattle.convert.proofs.AllTaken.{all_there}
use Rattle.convert.proofs.Turning.{views_turned}

-- an offset that is read is none above the largest
offset_small : (w n m : ℕ) → (w ≡ 4) ⊎ (w ≡ 8) → signed_of w n ≡ pos m → m ≤ largest_of w
unfolding signed_of
offset_small w n m known h = by (ltb (2 * n) (256 ^ w)) refl h
  where
    size : 2 * m < 256 ^ w → m ≤ largest_of w
    size l = ⊎_elim (λ e. let k : 2 * m < 256 ^ 4 = rw e at l in rw e (omega arith)) (λ e. let k : 2 * m < 256 ^ 8 = rw e at l in rw e (omega arith)) known

    by : (t : Bool) → ltb (2 * n) (256 ^ w) ≡ t → cond t (pos n) (negsuc (256 ^ w - suc n)) ≡ pos m → m ≤ largest_of w
    by true p e = let q : n ≡ m = cc in let l = ltb-true _ _ p in size (omega arith)
    by false p e = let z : ◌≡◌ {A = ℕ} 0 1 = cc in absurd (omega arith)

-- a range is made of its two numbers
range_parts : (cs : ℕ) (x y : ℤ) (r : Range) → range_of cs x y ≡ Some r → (x ≡ pos r.0) × (y ≡ pos r.1)
range_parts cs (pos a) (pos c) r h = by (leb a c) (leb c cs) h
  where
    by : (t u : Bool) → ◌≡◌ {A = Option Range} (cond t (cond u (Some (a, c)) None) None) (Some r) → (pos a ≡ pos r.0) × (pos c ≡ pos r.1)
    by true true e = let z : ◌≡◌ {A = Range} (a, c) r = cc in (ap (λ (p : Range). pos p.0) z, ap (λ (p : Range). pos p.1) z)
    by true false e = let z : ◌≡◌ {A = ℕ} 0 1 = cc in absurd (omega arith)
    by false u e = let z : ◌≡◌ {A = ℕ} 0 1 = cc in absurd (omega arith)
range_parts cs (pos a) (negsuc c) r h = let z : ◌≡◌ {A = ℕ} 0 1 = cc in absurd (omega arith)
range_parts cs (negsuc a) (pos c) r h = let z : ◌≡◌ {A = ℕ} 0 1 = cc in absurd (omega arith)
range_parts cs (negsuc a) (negsuc c) r h = let z : ◌≡◌ {A = ℕ} 0 1 = cc in absurd (omega arith)

module _ (w : ℕ) (known : (w ≡ 4) ⊎ (w ≡ 8)) (place : ℕ) (s : Slots) (cs : ℕ) (b : List ℕ) where
  reply : ℕ → Result Range Stop
  reply i = find_reply s.len (list_need w place s) (list_range w place s cs b) b i

  small : (i : ℕ) (r : Range) → Ok r ≡ find_reply s.len (list_need w place s) (list_range w place s cs b) b i → (start_of (find_reply s.len (list_need w place s) (list_range w place s cs b) b i) ≤ largest_of w) × (size_of (find_reply s.len (list_need w place s) (list_range w place s cs b) b i) ≤ largest_of w)
  unfolding list_range
  small i r e =
      let t = taken_range s.len i (list_need w place s) (list_range w place s cs b) b r e in
      let p = range_parts cs (offset_of w place b (s.first + i)) (offset_of w place b (s.first + i + 1)) r t.1.1 in
      let x : r.0 ≤ largest_of w = offset_small w (word_at b (place + w * (s.first + i)) w) r.0 known p.0 in
      let y : r.1 ≤ largest_of w = offset_small w (word_at b (place + w * (s.first + i + 1)) w) r.1 known p.1 in
      rw (sym e) (x, omega arith)

  among : (i : ℕ) → i < s.len → (k : ℕ) → Within (list_need w place s i) k → Within (list_words w place s) k
  among i l k h = inl (⊎_elim (λ p. part (s.first + i) (omega arith) (omega arith) p) (⊎_elim (λ p. part (s.first + i + 1) (omega arith) (omega arith) p) (λ x. absurd x)) h)
    where
      part : (n : ℕ) → s.first ≤ n → n ≤ s.first + s.len → (8 * (place + w * n) ≤ k) × (k < 8 * (place + w * n + w)) → (8 * (place + w * s.first) ≤ k) × (k < 8 * (place + w * (s.first + s.len + 1)))
      part n lo hi p =
          let p0 = p.0 in
          let p1 = p.1 in
          let a = mul-le w s.first w n (omega arith) lo in
          let c = mul-le w (n + 1) w (s.first + s.len + 1) (omega arith) (omega arith) in
          let d = mul-add w n 1 in
          (omega arith, omega arith)

-- a conversion that is taken leads on from any moment in which the list's bits are given out
pub list_turns : (w : ℕ) → (w ≡ 4) ⊎ (w ≡ 8) → (place : ℕ) (s : Slots) (cs : ℕ) (f : List ℕ → ℕ → Entry) (child : List Span)
    → ((c d : List ℕ) → Alike child c d → (i : ℕ) → i < cs → f c i ≡ f d i)
    → (b : List ℕ) (g : Accounts) → g.length ≡ length b → second g (w * s.len) + w * s.len ≤ g.length
    → all_ok (λ i. find_reply s.len (list_need w place s) (list_range w place s cs b) b i) s.len ≡ true
    → ((k : ℕ) → Within (list_spans s (list_words w place s) child) k → k < 8 * g.end)
    → TurnLeads (list_seen s f (list_range w place s cs) (list_words w place s) child) g.end b
    (list_seen (fresh_slots s) f (view_range w (aligned g.end) (second g (w * s.len)) (fresh_slots s) cs) (view_words w (aligned g.end) (second g (w * s.len)) (fresh_slots s)) child)
    (second g (w * s.len) + w * s.len)
    (views_put w (λ d i. find_reply s.len (list_need w place s) (list_range w place s cs d) d i) (aligned g.end) (second g (w * s.len)) b s.len)
list_turns w known place s cs f child law b g whole fits found below =
    turn_leads _ _ _ _ _ _
    (list_framed (fresh_slots s) cs f (view_range w p q (fresh_slots s) cs) (view_words w p q (fresh_slots s)) child (view_inside w p q (fresh_slots s) cs) (view_range_alike w p q (fresh_slots s) cs) law)
    (views_turned w known s cs f (list_range w place s cs) (list_need w place s) (list_words w place s) child
    (list_inside w place s cs) (λ i l. list_needed w place s cs i) (among w known place s cs b) law
    b g.end p q (q + w * s.len) (omega arith) (omega arith) (omega arith) (omega arith) below there
    (λ i l. small w known place s cs b i (there i l).0 (there i l).1))
  where
    p : ℕ
    p = aligned g.end

    q : ℕ
    q = second g (w * s.len)

    there : (i : ℕ) → i < s.len → (r : Range) × (Ok r ≡ find_reply s.len (list_need w place s) (list_range w place s cs b) b i)
    there i l = all_there (λ j. find_reply s.len (list_need w place s) (list_range w place s cs b) b j) s.len found i l

-- what tests that are passed say
pub turn_taken : (g : Accounts) (b : List ℕ) (inside nullable : Bool) (count : Result ℕ Stop) (found : Bool) → Ok tt ≡ turn_tests g b inside nullable count found → (eqb (length b) g.length ≡ true) × (found ≡ true)
turn_taken g b inside nullable count found h = by (eqb (length b) g.length) inside (cond nullable (Ok tt) (taken count)) found h
  where
    by : (t u : Bool) (v : Result (Unit {0}) Stop) (x : Bool)
        → Ok tt ≡ cond t (and_then (cond u (Ok tt) (Err (stopped BeyondBytes))) (and_then v (and_then (cond x (Ok tt) (Err (stopped NoRange))) (absent_reply nullable count)))) (Err (stopped BodyLengthDiffers)) → (t ≡ true) × (x ≡ true)
    by true true (Ok i) true e = (refl, refl)
    by true true (Ok i) false e = let z : ◌≡◌ {A = ℕ} 0 1 = cc in absurd (omega arith)
    by true true (Err i) x e = let z : ◌≡◌ {A = ℕ} 0 1 = cc in absurd (omega arith)
    by true false v x e = let z : ◌≡◌ {A = ℕ} 0 1 = cc in absurd (omega arith)
    by false u v x e = let z : ◌≡◌ {A = ℕ} 0 1 = cc in absurd (omega arith)
