use Rattle.std.proofs.Common.{◌≡◌, ℕ, ◌+◌, ◌*◌, ◌/◌, ◌^◌, ◌<◌, ◌≤◌, ◌⊎◌, Bool, true, false, cond, eqb, List, Ok, Err, Option, Result, sym, refl, ap, inl, inr, arith, eqb-true}
use Rattle.layout.specs.Spans.{Span, Within, Alike}
use Rattle.ledger.specs.Ledger.{Accounts}
use Rattle.form.specs.declared.data_type.Field.{Field}
use Rattle.form.specs.Forms.{layer_reply}
use Rattle.ledger.specs.declared.stop.Stop.{Stop}
use Rattle.ledger.specs.declared.stop.Reason.TheVariants.{SizeCountDiffers}
use Rattle.ledger.specs.Stops.{stopped}
use Rattle.history.specs.Entry.{Entry}
use Rattle.history.specs.Moments.{Handle}
use Rattle.history.specs.Calls.{TrialLeads, StopLeads}
use Rattle.history.proofs.Leading.{trial_leads, stop_leads}
use Rattle.slots.specs.declared.null_buffer.NullBuffer.{NullBuffer}
use Rattle.slots.specs.declared.slots.Slots.{Slots}
use Rattle.slots.specs.Slots.{slot_spans}
use Rattle.slots.specs.Bounds.{length_limit}
use Rattle.slots.specs.Trials.{bytes_end, marks_bytes_end, marks_reply, new_slots}
use Rattle.slots.proofs.SameSlots.{new_len}
use Rattle.slots.proofs.Leaves.{marks_loaded, own_loaded}
use Rattle.array.specs.declared.array.Array.{Ghosts}
use Rattle.array.specs.Lists.{list_seen}
use Rattle.array.proofs.ListLaws.{list_framed}
use Rattle.checks.specs.Checks.{own_reply, field_reply}
use Rattle.checks.proofs.Counted.{own_taken, few_words, list_loaded, five_cases}
use Rattle.list_view_array.specs.declared.list_view_array.GenericListViewArray.{GenericListViewArray}
use Rattle.list_view_array.specs.Views.{view_range, view_words}
use Rattle.list_view_array.specs.ViewLaws.{view_inside, view_range_alike}
use Rattle.list_view_trial.specs.Trial.{view_end, ends_reply, sizes_reply, view_own, view_made, list_view_trial}
use Rattle.list_view_trial.specs.declared.scalar_buffer.ScalarBuffer.{ScalarBuffer}

pub same_count : (starts sizes : ℕ) → sizes_reply starts sizes ≡ Ok tt → sizes ≡ starts
same_count starts sizes h = by (eqb sizes starts) refl h
  where
    by : (t : Bool) → eqb sizes starts ≡ t → ◌≡◌ {A = Result (Unit {0}) Stop} (cond t (Ok tt) (Err (stopped SizeCountDiffers))) (Ok tt) → sizes ≡ starts
    by true p e = eqb-true _ _ p
    by false p e = let z : ◌≡◌ {A = ℕ} 0 1 = cc in absurd (omega arith)

-- a trial that is taken leads on
pub view_leads : (w : ℕ) (starts sizes : ScalarBuffer) (size : ℕ) (nulls : Option NullBuffer) (b : List ℕ) (loaded : ℕ) (f : List ℕ → ℕ → Entry) (child : List Span)
    → ((c d : List ℕ) → Alike child c d → (i : ℕ) → i < size → f c i ≡ f d i)
    → view_own w starts sizes ≤ loaded → marks_bytes_end nulls ≤ loaded → starts.len ≤ length_limit
    → marks_reply nulls starts.len ≡ Ok tt → sizes_reply starts.len sizes.len ≡ Ok tt
    → TrialLeads b loaded child (list_seen (new_slots starts.len nulls) f (view_range w starts.place sizes.place (new_slots starts.len nulls) size) (view_words w starts.place sizes.place (new_slots starts.len nulls)) child)
view_leads w starts sizes size nulls b loaded f child law own marks few seats same =
    trial_leads b loaded child (list_seen s f (view_range w p q s size) (view_words w p q s) child)
    (list_framed s size f (view_range w p q s size) (view_words w p q s) child (view_inside w p q s size) (view_range_alike w p q s size) law)
    (list_loaded s (view_words w p q s) child loaded words seated)
  where
    p : ℕ
    p = starts.place

    q : ℕ
    q = sizes.place

    s : Slots
    s = new_slots starts.len nulls

    len : (new_slots starts.len nulls).len ≡ starts.len
    len = new_len starts.len nulls few

    part : (place n k : ℕ) → n ≡ starts.len → bytes_end place (w * n) ≤ loaded → (8 * (place + w * 0) ≤ k) × (k < 8 * (place + w * (0 + (new_slots starts.len nulls).len))) → k < 8 * loaded
    part place n k e l h =
        let h0 = h.0 in
        let h1 = h.1 in
        let z = len in
        let u : w * (0 + (new_slots starts.len nulls).len) ≡ w * n = ap (λ (x : ℕ). w * x) (omega arith) in
        own_loaded place (w * n) loaded k l (omega arith) (omega arith)

    words : 0 < (new_slots starts.len nulls).len → (k : ℕ) → Within (view_words w starts.place sizes.place (new_slots starts.len nulls)) k → k < 8 * loaded
    words some k (inl h) = part starts.place starts.len k refl (omega arith) h
    words some k (inr (inl h)) = part sizes.place sizes.len k (same_count starts.len sizes.len same) (omega arith) h
    words some k (inr (inr h)) = absurd h

    seated : (k : ℕ) → Within (slot_spans (new_slots starts.len nulls)) k → k < 8 * loaded
    seated k h = marks_loaded nulls starts.len loaded k marks seats (rw len at h)

-- a view with its type erased
abbrev pub view_sight : {O C : Type 0} → ℕ → Ghosts C → GenericListViewArray O C → Handle
view_sight w array h =
    list_seen h.slots (array.entry h.child) (view_range w h.starts h.sizes h.slots (array.size h.child)) (view_words w h.starts h.sizes h.slots) (array.spans h.child)

-- the handle that a trial makes leads on
pub view_trial_leads : {O C : Type 0} (w : ℕ) → (w ≡ 4) ⊎ (w ≡ 8) → (array : Ghosts C) (g : Accounts) (b : List ℕ) (field : Field) (starts sizes : ScalarBuffer) (nulls : Option NullBuffer) (child : C) (absent : Result ℕ Stop) (h : GenericListViewArray O C)
    → ((c d : List ℕ) → Alike (array.spans child) c d → (i : ℕ) → i < array.size child → array.entry child c i ≡ array.entry child d i)
    → (own_reply g b (view_own w starts sizes) nulls (array.spans child) ≡ Ok tt → g.loaded < 2 ^ 64)
    → Ok h ≡ list_view_trial w array g b field starts sizes nulls child absent
    → TrialLeads b g.loaded (array.spans child) (view_sight w array h)
view_trial_leads {O = O} {C = C} w known array g b field starts sizes nulls child absent h law low e =
    five_cases (own_reply g b (view_own w starts sizes) nulls (array.spans child)) (marks_reply nulls starts.len) (sizes_reply starts.len sizes.len) (ends_reply (array.size child) (view_end w starts.place sizes.place b) starts.len) (field_reply field absent (array.form child) (layer_reply (array.form child) (10 + w / 8)))
    (view_made field starts sizes nulls child) (Ok h) (λ (x : GenericListViewArray O C). TrialLeads b g.loaded (array.spans child) (view_sight w array x)) StopLeads e
    (λ x y z.
    let o = own_taken g b (view_own w starts sizes) nulls (array.spans child) (sym x) in
    let o0 = o.0 in
    let m : bytes_end starts.place (w * starts.len) ≤ g.loaded = omega arith in
    view_leads w starts sizes (array.size child) nulls b g.loaded (array.entry child) (array.spans child) law o.0 o.1.0 (few_words w starts.place starts.len g.loaded known m (low x)) y z)
    stop_leads
