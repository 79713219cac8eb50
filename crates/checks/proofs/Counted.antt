use Rattle.std.proofs.Common.{◌≡◌, ℕ, ◌+◌, ◌*◌, ◌^◌, ◌<◌, ◌≤◌, Bool, true, false, cond, eqb, leb, ◌⊎◌, List, [], ◌++◌, length, Ok, Err, Option, Result, refl, ap, inl, inr, ⊎_elim, arith, le-leb, leb-true, MatchResult}
use native.Mathlib.Decide.{dec_le}
use Rattle.ledger.specs.declared.stop.Stop.{Stop}
use Rattle.ledger.specs.Stops.{stopped}
use Rattle.ledger.specs.declared.stop.Reason.TheVariants.{BeyondBytes, BodyLengthDiffers}
use Rattle.layout.specs.Spans.{Span, Within, Alike, reach_of, in_body}
use Rattle.layout.specs.Needs.{Needed, each, counts}
use Rattle.layout.proofs.SpanLaws.{reach_sub, within_either}
use Rattle.layout.proofs.NeedLaws.{each_in, sway_in}
use Rattle.slots.specs.Replies.{count_reply}
use Rattle.ledger.specs.Ledger.{Accounts}
use Rattle.slots.specs.declared.null_buffer.NullBuffer.{NullBuffer}
use Rattle.slots.specs.declared.slots.Slots.{Slots}
use Rattle.slots.specs.Slots.{slot_spans}
use Rattle.array.specs.declared.array.Array.{Ghosts}
use Rattle.array.specs.Lists.{list_spans}
use Rattle.history.specs.Entry.{is_absent}
use Rattle.slots.specs.Bounds.{length_limit}
use Rattle.slots.specs.Trials.{and_then, bytes_end, marks_bytes_end}
use Rattle.checks.specs.Checks.{own_reply, absents, absent_count}

-- where the meaning lies in the body, the count is taken
pub count_taken : (size : ℕ) (need : ℕ → List Span) (f : List ℕ → ℕ → Bool) (ss : List Span) (b : List ℕ)
    → ((i : ℕ) → i < size → Needed (need i) (λ c. f c i)) → ((c d : List ℕ) → Alike ss c d → (i : ℕ) → i < size → f c i ≡ f d i)
    → in_body ss b ≡ true → count_reply size need (f b) b ≡ Ok (counts (f b) size)
count_taken size need f ss b h e t =
    let l = leb-true (reach_of ss) (8 * length b) t in
    let r = reach_sub (each need size) ss (each_in need ss size (λ i p k q. sway_in (λ c. f c i) ss k ((h i p).none_idle k q) (λ c d u. e c d u i p))) in
    rw (le-leb (reach_of (each need size)) (8 * length b) (omega arith)) refl

-- the same of a child's absent entries, by its laws
pub absents_taken : {C : Type 0} (array : Ghosts C) (child : C) (b : List ℕ)
    → ((i : ℕ) → i < array.size child → Needed (array.absent_need child i) (λ c. is_absent (array.entry child c i)))
    → ((c d : List ℕ) → Alike (array.spans child) c d → (i : ℕ) → i < array.size child → array.entry child c i ≡ array.entry child d i)
    → in_body (array.spans child) b ≡ true → absent_count array child b ≡ Ok (absents (array.size child) (array.entry child b))
absents_taken array child b needs alike t =
    count_taken (array.size child) (array.absent_need child) (λ c j. is_absent (array.entry child c j)) (array.spans child) b needs (λ c d h i l. ap is_absent (alike c d h i l)) t

-- what the first tests of a list's trial say where they are passed
pub own_taken : (g : Accounts) (b : List ℕ) (own : ℕ) (nulls : Option NullBuffer) (ss : List Span) → Ok tt ≡ own_reply g b own nulls ss
    → (own ≤ g.loaded) × ((marks_bytes_end nulls ≤ g.loaded) × (in_body ss b ≡ true))
own_taken g b own nulls ss h =
    by (eqb (length b) g.length) (leb own g.loaded) (leb (marks_bytes_end nulls) g.loaded) (in_body ss b) refl refl refl h
  where
    by : (s t u v : Bool) → leb own g.loaded ≡ t → leb (marks_bytes_end nulls) g.loaded ≡ u → in_body ss b ≡ v
        → ◌≡◌ {A = Result (Unit {0}) Stop} (Ok tt) (and_then (cond s (cond t (cond u (Ok tt) (Err (stopped BeyondBytes))) (Err (stopped BeyondBytes))) (Err (stopped BodyLengthDiffers))) (cond v (Ok tt) (Err (stopped BeyondBytes))))
        → (own ≤ g.loaded) × ((marks_bytes_end nulls ≤ g.loaded) × (in_body ss b ≡ true))
    by true true true true p q r e = (leb-true _ _ p, (leb-true _ _ q, r))
    by true true true false p q r e = let z : ◌≡◌ {A = ℕ} 0 1 = cc in absurd (omega arith)
    by true true false v p q r e = let z : ◌≡◌ {A = ℕ} 0 1 = cc in absurd (omega arith)
    by true false u v p q r e = let z : ◌≡◌ {A = ℕ} 0 1 = cc in absurd (omega arith)
    by false t u v p q r e = let z : ◌≡◌ {A = ℕ} 0 1 = cc in absurd (omega arith)

-- words that lie in the loaded bytes are fewer than the limit
pub few_words : (w place count loaded : ℕ) → (w ≡ 4) ⊎ (w ≡ 8) → bytes_end place (w * count) ≤ loaded → loaded < 2 ^ 64 → count ≤ length_limit
few_words w place count loaded (inl e) h l = four (rw e at h)
  where
    four : bytes_end place (4 * count) ≤ loaded → count ≤ length_limit
    four k = elim (dec_le count 0) [
      | yes z ↦ omega arith
      | no z ↦ (let t : eqb (4 * count) 0 ≡ false = grind arith in let m : place + 4 * count ≤ loaded = rw t at k in omega arith)
    ]
few_words w place count loaded (inr e) h l = eight (rw e at h)
  where
    eight : bytes_end place (8 * count) ≤ loaded → count ≤ length_limit
    eight k = elim (dec_le count 0) [
      | yes z ↦ omega arith
      | no z ↦ (let t : eqb (8 * count) 0 ≡ false = grind arith in let m : place + 8 * count ≤ loaded = rw t at k in omega arith)
    ]

-- a reply of four tests and a value
pub four_cases : {X : Type 0} (x y z u : Result (Unit {0}) Stop) (v : X) (r : Result X Stop) (P : X → Type 0) (Q : Type 0)
    → r ≡ and_then x (and_then y (and_then z (and_then u (Ok v))))
    → (x ≡ Ok tt → y ≡ Ok tt → z ≡ Ok tt → P v) → Q → MatchResult r P (λ e. Q)
four_cases (Ok i) (Ok j) (Ok k) (Ok l) a r P Q e f q = rw e (f refl refl refl)
four_cases (Ok i) (Ok j) (Ok k) (Err u) a r P Q e f q = rw e q
four_cases (Ok i) (Ok j) (Err z) u a r P Q e f q = rw e q
four_cases (Ok i) (Err y) z u a r P Q e f q = rw e q
four_cases (Err x) y z u a r P Q e f q = rw e q

-- the bits of a list whose words and marks are loaded are loaded or its child's
pub list_loaded : (s : Slots) (words child : List Span) (loaded : ℕ)
    → (0 < s.len → (k : ℕ) → Within words k → k < 8 * loaded) → ((k : ℕ) → Within (slot_spans s) k → k < 8 * loaded)
    → (k : ℕ) → Within (list_spans s words child) k → (k < 8 * loaded) ⊎ Within child k
list_loaded s words child loaded hw hm k h = by (eqb s.len 0) refl h
  where
    by : (t : Bool) → eqb s.len 0 ≡ t → Within (cond t [] (words ++ (slot_spans s ++ child))) k → (k < 8 * loaded) ⊎ Within child k
    by true e p = absurd p
    by false e p =
        ⊎_elim (λ q. inl (hw (grind arith) k q))
        (λ q. ⊎_elim (λ r. inl (hm k r)) inr (within_either (slot_spans s) child k q))
        (within_either words (slot_spans s ++ child) k p)

-- the same with one test more
pub five_cases : {X : Type 0} (x y z t u : Result (Unit {0}) Stop) (v : X) (r : Result X Stop) (P : X → Type 0) (Q : Type 0)
    → r ≡ and_then x (and_then y (and_then z (and_then t (and_then u (Ok v)))))
    → (x ≡ Ok tt → y ≡ Ok tt → z ≡ Ok tt → P v) → Q → MatchResult r P (λ e. Q)
five_cases x y z (Ok t) u v r P Q e f q = four_cases x y z u v r P Q e f q
five_cases x y z (Err t) u v r P Q e f q = four_cases x y z (Err t) v r P Q e f q
