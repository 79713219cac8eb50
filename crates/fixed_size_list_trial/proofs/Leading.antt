use Rattle.std.proofs.Common.{◌≡◌, ℕ, ◌*◌, ◌<◌, ◌≤◌, Bool, true, false, cond, leb, List, [], ℤ, Ok, Err, Option, Result, sym, refl, arith, leb-true, MatchResult}
use Rattle.std.specs.Prelude.{unsigned_abs}
use Rattle.layout.specs.Spans.{Span, Within, Alike}
use Rattle.ledger.specs.declared.stop.Stop.{Stop}
use Rattle.ledger.specs.declared.stop.Reason.TheVariants.{TooLarge}
use Rattle.ledger.specs.Stops.{stopped}
use Rattle.ledger.specs.Ledger.{Accounts}
use Rattle.history.specs.Entry.{Entry}
use Rattle.history.specs.Moments.{Handle}
use Rattle.history.specs.Calls.{TrialLeads, StopLeads}
use Rattle.history.proofs.Leading.{trial_leads, stop_leads}
use Rattle.form.specs.declared.data_type.Field.{Field}
use Rattle.form.specs.Forms.{fixed_reply}
use Rattle.slots.specs.declared.null_buffer.NullBuffer.{NullBuffer}
use Rattle.slots.specs.declared.slots.Slots.{Slots}
use Rattle.slots.specs.Slots.{slot_spans}
use Rattle.slots.specs.Bounds.{length_limit}
use Rattle.slots.specs.Trials.{and_then, length_reply, marks_reply, new_slots}
use Rattle.slots.proofs.SameSlots.{new_len}
use Rattle.slots.proofs.Leaves.{marks_loaded}
use Rattle.array.specs.declared.array.Array.{Ghosts}
use Rattle.array.specs.Lists.{list_seen}
use Rattle.array.proofs.ListLaws.{list_framed}
use Rattle.checks.specs.Checks.{own_reply, same_form, taken}
use Rattle.checks.proofs.Counted.{own_taken, list_loaded, four_cases}
use Rattle.fixed_size_list_array.specs.declared.fixed_size_list_array.FixedSizeListArray.{FixedSizeListArray}
use Rattle.fixed_size_list_array.specs.Fixed.{fixed_range}
use Rattle.fixed_size_list_array.specs.FixedLaws.{fixed_inside}
use Rattle.fixed_size_list_trial.specs.Trial.{fixed_slots, whole_reply, size_reply, shape_reply, under_reply, child_absent_under, fixed_made, fixed_list_trial}

-- a reply of six tests and a value, by the first and the third
pub fixed_cases : {X : Type 0} (x y z t u w : Result (Unit {0}) Stop) (v : X) (r : Result X Stop) (P : X → Type 0) (Q : Type 0)
    → r ≡ and_then x (and_then y (and_then z (and_then t (and_then u (and_then w (Ok v))))))
    → (x ≡ Ok tt → z ≡ Ok tt → P v) → Q → MatchResult r P (λ e. Q)
fixed_cases x y z (Ok t) (Ok u) w v r P Q e f q = four_cases x y z w v r P Q e (λ a b c. f a c) q
fixed_cases x y z (Ok t) (Err u) w v r P Q e f q = four_cases x y z (Err u) v r P Q e (λ a b c. f a c) q
fixed_cases x y z (Err t) u w v r P Q e f q = four_cases x y z (Err t) v r P Q e (λ a b c. f a c) q

-- what a shape that is taken says
shape_taken : (n size entries : ℕ) (nulls : Option NullBuffer) → and_then (length_reply n) (and_then (whole_reply n size entries) (marks_reply nulls n)) ≡ Ok tt → (n ≤ length_limit) × (marks_reply nulls n ≡ Ok tt)
shape_taken n size entries nulls h = by (leb n length_limit) (whole_reply n size entries) refl h
  where
    by : (t : Bool) (w : Result (Unit {0}) Stop) → leb n length_limit ≡ t → and_then (cond t (Ok tt) (Err (stopped TooLarge))) (and_then w (marks_reply nulls n)) ≡ Ok tt → (n ≤ length_limit) × (marks_reply nulls n ≡ Ok tt)
    by true (Ok u) p e = (leb-true _ _ p, e)
    by true (Err u) p e = let z : ◌≡◌ {A = ℕ} 0 1 = cc in absurd (omega arith)
    by false w p e = let z : ◌≡◌ {A = ℕ} 0 1 = cc in absurd (omega arith)

-- a trial that is taken leads on
pub fixed_leads : (size entries : ℕ) (nulls : Option NullBuffer) (g : Accounts) (b : List ℕ) (f : List ℕ → ℕ → Entry) (child : List Span)
    → ((c d : List ℕ) → Alike child c d → (i : ℕ) → i < entries → f c i ≡ f d i)
    → Ok tt ≡ own_reply g b 0 nulls child → shape_reply size entries nulls ≡ Ok tt
    → TrialLeads b g.loaded child (list_seen (new_slots (fixed_slots size entries nulls) nulls) f (λ d. fixed_range size entries) [] child)
fixed_leads size entries nulls g b f child law own shape =
    trial_leads b g.loaded child (list_seen s f (λ d. fixed_range size entries) [] child)
    (list_framed s entries f (λ d. fixed_range size entries) [] child (λ d i l. fixed_inside size entries i) (λ c d h i l. refl) law)
    (list_loaded s [] child g.loaded (λ some k p. absurd p) seated)
  where
    n : ℕ
    n = fixed_slots size entries nulls

    s : Slots
    s = new_slots n nulls

    t : (n ≤ length_limit) × (marks_reply nulls n ≡ Ok tt)
    t = shape_taken n size entries nulls shape

    seated : (k : ℕ) → Within (slot_spans (new_slots (fixed_slots size entries nulls) nulls)) k → k < 8 * g.loaded
    seated k h = marks_loaded nulls (fixed_slots size entries nulls) g.loaded k (own_taken g b 0 nulls child own).1.0 t.1 (rw (new_len (fixed_slots size entries nulls) nulls t.0) at h)

-- a fixed list with its type erased
abbrev pub fixed_sight : {C : Type 0} → Ghosts C → FixedSizeListArray C → Handle
fixed_sight array h =
    list_seen h.slots (array.entry h.child) (λ b. fixed_range h.size (array.size h.child)) [] (array.spans h.child)

-- what the trial makes leads on, and its stop changes nothing
pub fixed_trial_leads : {C : Type 0} (array : Ghosts C) (g : Accounts) (b : List ℕ) (field : Field) (size : ℤ) (nulls : Option NullBuffer) (child : C) (r : Result (FixedSizeListArray C) Stop)
    → ((c d : List ℕ) → Alike (array.spans child) c d → (i : ℕ) → i < array.size child → array.entry child c i ≡ array.entry child d i)
    → r ≡ fixed_list_trial array g b field size nulls child
    → MatchResult r (λ h. TrialLeads b g.loaded (array.spans child) (fixed_sight array h)) (λ e. StopLeads)
fixed_trial_leads array g b field size nulls child r law e =
    fixed_cases (own_reply g b 0 nulls (array.spans child)) (size_reply size) (shape_reply n (array.size child) nulls) (same_form field.form (array.form child))
    (under_reply field.nullable (child_absent_under array b n nulls child)) (taken (fixed_reply (array.form child) n)) (fixed_made array field n nulls child) r _ _ e
    (λ x y. fixed_leads n (array.size child) nulls g b (array.entry child) (array.spans child) law (sym x) y) stop_leads
  where
    n : ℕ
    n = unsigned_abs size
