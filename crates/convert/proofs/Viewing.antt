use Rattle.std.proofs.Common.{◌≡◌, ℕ, ◌+◌, ◌*◌, Bool, true, false, cond, List, is_ok, Ok, Err, Result, refl, MatchResult}
use Rattle.ledger.specs.declared.stop.Stop.{Stop}
use Rattle.ledger.specs.declared.stop.Reason.TheVariants.{NoPlaceLeft}
use Rattle.ledger.specs.Stops.{stopped}
use Rattle.ledger.specs.Ledger.{Accounts, aligned, second, have_places}
use Rattle.form.specs.declared.data_type.Field.{Field}
use Rattle.history.specs.Moments.{Handle}
use Rattle.history.specs.Calls.{TurnLeads, StopLeads}
use Rattle.history.proofs.Leading.{stop_leads}
use Rattle.slots.specs.declared.slots.Slots.{Slots}
use Rattle.array.specs.declared.array.Array.{Ghosts}
use Rattle.array.specs.Windows.{Range}
use Rattle.array.specs.Lists.{list_seen}
use Rattle.list_view_array.specs.declared.list_view_array.GenericListViewArray.{GenericListViewArray}
use Rattle.list_view_array.specs.Views.{view_range, view_words}
use Rattle.convert.specs.Writing.{views_put}
use Rattle.convert.specs.Turning.{made, places, ledger_after, body_after, view_made}

-- a view with its type erased
abbrev pub view_sight : {O C : Type 0} → ℕ → Ghosts C → GenericListViewArray O C → Handle
view_sight w array h =
    list_seen h.slots (array.entry h.child) (view_range w h.starts h.sizes h.slots (array.size h.child)) (view_words w h.starts h.sizes h.slots) (array.spans h.child)

-- a conversion leads on by what it leaves, if it does where the places are there
pub viewed_leads : {O C : Type 0} (w : ℕ) (array : Ghosts C) (g new : Accounts) (s : Slots) (field : Field) (child : C) (ranges : List ℕ → ℕ → Result Range Stop) (b after : List ℕ) (a : Handle) (Below : Type 0)
    (r : Result (GenericListViewArray O C) Stop)
    → r ≡ made (view_made s field child) (places w g s.len) → new ≡ ledger_after w g s.len r → after ≡ body_after w g ranges b s.len r
    → (have_places g (w * s.len) (w * s.len) ≡ true → Below → TurnLeads a g.end b (view_sight {O = O} w array (view_made s field child (aligned g.end, second g (w * s.len))))
    (second g (w * s.len) + w * s.len) (views_put w ranges (aligned g.end) (second g (w * s.len)) b s.len))
    → MatchResult r (λ h. Below → TurnLeads a g.end b (view_sight w array h) new.end after) (λ e. StopLeads)
viewed_leads {O = O} {C = C} w array g new s field child ranges b after a Below r e n l h = by (have_places g (w * s.len) (w * s.len)) refl e n
  where
    p : ℕ
    p = aligned g.end

    q : ℕ
    q = second g (w * s.len)

    by : (t : Bool) → have_places g (w * s.len) (w * s.len) ≡ t → r ≡ made (view_made s field child) (cond t (Ok (p, q)) (Err (stopped NoPlaceLeft)))
        → new ≡ cond (is_ok r) (cond t (record { length = g.length; loaded = g.loaded; end = q + w * s.len }) g) g
        → MatchResult r (λ h. Below → TurnLeads a g.end b (view_sight w array h) new.end after) (λ e. StopLeads)
    by true k e n =
        let n' : new ≡ record { length = g.length; loaded = g.loaded; end = q + w * s.len } = rw e at n in
        let l' : after ≡ views_put w ranges p q b s.len = rw e at l in
        rw (e, n', l') (h k)
    by false k e n = rw e stop_leads
