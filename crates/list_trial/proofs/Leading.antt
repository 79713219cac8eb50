use Rattle.std.proofs.Common.{◌≡◌, ℕ, ◌+◌, ◌-◌, ◌*◌, ◌/◌, ◌^◌, ◌<◌, ◌≤◌, ◌⊎◌, Bool, true, false, cond, eqb, List, ℤ, Ok, Err, Option, Result, sym, refl, ap, inl, inr, arith}
use Rattle.layout.specs.Spans.{Span, Within, Alike}
use Rattle.ledger.specs.Ledger.{Accounts}
use Rattle.form.specs.declared.data_type.Field.{Field}
use Rattle.form.specs.Forms.{layer_reply}
use Rattle.ledger.specs.declared.stop.Stop.{Stop}
use Rattle.ledger.specs.declared.stop.Reason.TheVariants.{NoOffsets}
use Rattle.ledger.specs.Stops.{stopped}
use Rattle.history.specs.Entry.{Entry}
use Rattle.history.specs.Moments.{Handle}
use Rattle.history.specs.Calls.{TrialLeads, StopLeads}
use Rattle.history.proofs.Leading.{trial_leads, stop_leads}
use Rattle.slots.specs.declared.null_buffer.NullBuffer.{NullBuffer}
use Rattle.slots.specs.Slots.{slot_spans}
use Rattle.slots.specs.declared.slots.Slots.{Slots}
use Rattle.slots.specs.Bounds.{length_limit}
use Rattle.slots.specs.Trials.{bytes_end, marks_bytes_end, marks_reply, new_slots}
use Rattle.slots.proofs.SameSlots.{new_len}
use Rattle.slots.proofs.Leaves.{marks_loaded, own_loaded}
use Rattle.array.specs.declared.array.Array.{Ghosts}
use Rattle.array.specs.Lists.{list_seen}
use Rattle.array.proofs.ListLaws.{list_framed}
use Rattle.checks.specs.Checks.{own_reply, field_reply}
use Rattle.checks.proofs.Counted.{own_taken, few_words, list_loaded, four_cases}
use Rattle.list_array.specs.declared.list_array.GenericListArray.{GenericListArray}
use Rattle.list_array.specs.Offsets.{offset_of, list_range, list_words}
use Rattle.list_array.specs.OffsetLaws.{list_inside, list_range_alike}
use Rattle.list_trial.specs.Trial.{offsets_reply, list_made, list_trial}

some_offsets : (f : ℕ → ℤ) (count size : ℕ) → offsets_reply f count size ≡ Ok tt → 0 < count
some_offsets f count size h = by (eqb count 0) refl _ h
  where
    by : (t : Bool) → eqb count 0 ≡ t → (r : Result (Unit {0}) Stop) → cond t (Err (stopped NoOffsets)) r ≡ Ok tt → 0 < count
    by true p r e = let z : ◌≡◌ {A = ℕ} 0 1 = cc in absurd (omega arith)
    by false p r e = grind arith

-- a trial that is taken leads on
pub list_leads : (w place count size : ℕ) (nulls : Option NullBuffer) (b : List ℕ) (loaded : ℕ) (f : List ℕ → ℕ → Entry) (child : List Span)
    → ((c d : List ℕ) → Alike child c d → (i : ℕ) → i < size → f c i ≡ f d i)
    → bytes_end place (w * count) ≤ loaded → marks_bytes_end nulls ≤ loaded → count ≤ length_limit
    → offsets_reply (offset_of w place b) count size ≡ Ok tt → marks_reply nulls (count - 1) ≡ Ok tt
    → TrialLeads b loaded child (list_seen (new_slots (count - 1) nulls) f (list_range w place (new_slots (count - 1) nulls) size) (list_words w place (new_slots (count - 1) nulls)) child)
list_leads w place count size nulls b loaded f child law own marks few offsets seats =
    trial_leads b loaded child (list_seen s f (list_range w place s size) (list_words w place s) child)
    (list_framed s size f (list_range w place s size) (list_words w place s) child (list_inside w place s size) (list_range_alike w place s size) law)
    (list_loaded s (list_words w place s) child loaded words seated)
  where
    s : Slots
    s = new_slots (count - 1) nulls

    len : (new_slots (count - 1) nulls).len ≡ count - 1
    len = new_len (count - 1) nulls (omega arith)

    words : 0 < (new_slots (count - 1) nulls).len → (k : ℕ) → Within (list_words w place (new_slots (count - 1) nulls)) k → k < 8 * loaded
    words some k (inl p) =
        let e = len in
        let n = some_offsets (offset_of w place b) count size offsets in
        let p0 = p.0 in
        let p1 = p.1 in
        let u : w * (0 + (new_slots (count - 1) nulls).len + 1) ≡ w * count = ap (λ (x : ℕ). w * x) (omega arith) in
        own_loaded place (w * count) loaded k own (omega arith) (omega arith)
    words some k (inr p) = absurd p

    seated : (k : ℕ) → Within (slot_spans (new_slots (count - 1) nulls)) k → k < 8 * loaded
    seated k p = marks_loaded nulls (count - 1) loaded k marks seats (rw len at p)

-- an offset list with its type erased
abbrev pub list_sight : {O C : Type 0} → ℕ → Ghosts C → GenericListArray O C → Handle
list_sight w array h =
    list_seen h.slots (array.entry h.child) (list_range w h.place h.slots (array.size h.child)) (list_words w h.place h.slots) (array.spans h.child)

-- the handle that a trial makes leads on
pub list_trial_leads : {O C : Type 0} (w : ℕ) → (w ≡ 4) ⊎ (w ≡ 8) → (array : Ghosts C) (g : Accounts) (b : List ℕ) (field : Field) (place count : ℕ) (nulls : Option NullBuffer) (child : C) (absent : Result ℕ Stop) (h : GenericListArray O C)
    → ((c d : List ℕ) → Alike (array.spans child) c d → (i : ℕ) → i < array.size child → array.entry child c i ≡ array.entry child d i)
    → (own_reply g b (bytes_end place (w * count)) nulls (array.spans child) ≡ Ok tt → g.loaded < 2 ^ 64)
    → Ok h ≡ list_trial w array g b field place count nulls child absent
    → TrialLeads b g.loaded (array.spans child) (list_sight w array h)
list_trial_leads {O = O} {C = C} w known array g b field place count nulls child absent h law low e =
    four_cases (own_reply g b (bytes_end place (w * count)) nulls (array.spans child)) (offsets_reply (offset_of w place b) count (array.size child)) (marks_reply nulls (count - 1)) (field_reply field absent (array.form child) (layer_reply (array.form child) (8 + w / 8)))
    (list_made field place count nulls child) (Ok h) (λ (x : GenericListArray O C). TrialLeads b g.loaded (array.spans child) (list_sight w array x)) StopLeads e
    (λ x y z.
    let o = own_taken g b (bytes_end place (w * count)) nulls (array.spans child) (sym x) in
    list_leads w place count (array.size child) nulls b g.loaded (array.entry child) (array.spans child) law o.0 o.1.0 (few_words w place count g.loaded known o.0 (low x)) y z)
    stop_leads
