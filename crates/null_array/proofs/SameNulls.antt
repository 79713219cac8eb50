use Rattle.std.proofs.Common.{◌≡◌, ℕ, ◌+◌, ◌≤◌, Bool, true, false, cond, leb, None, Ok, Err, Result, ap, subst}
use native.Mathlib.Bridge.{le_prop}
use Rattle.ledger.specs.declared.stop.Stop.{Stop}
use Rattle.ledger.specs.declared.stop.Reason.TheVariants.{IndexPastEnd}
use Rattle.ledger.specs.Stops.{stopped}
use Rattle.slots.specs.declared.slots.Slots.{Slots}
use Rattle.slots.specs.Bounds.{length_limit}
use Rattle.slots.specs.Slots.{slots_cut}
use Rattle.slots.specs.Replies.{slice_reply}
use Rattle.slots.specs.Trials.{and_then, new_slots}
use Rattle.null_array.specs.declared.null_array.NullArray.{NullArray}
use Rattle.null_array.specs.Nulls.{null_slots, null_cut, null_leaf}

abbrev null_of : (l : ℕ) → l ≤ length_limit → NullArray
null_of l p = record { len = l; limit = p }

-- null leaves of one length are the same
pub same_nulls : (a c : NullArray) → a.len ≡ c.len → a ≡ c
same_nulls a c e =
    subst (λ x. (p : a.len ≤ length_limit) (q : x ≤ length_limit) → null_of a.len p ≡ null_of x q) e
    (λ p q i. null_of a.len (le_prop p q i)) a.limit c.limit

-- a null leaf of so many slots as a taken cut has
pub cut_taken : (a : NullArray) (start n : ℕ) (x : Slots) (p : x.len ≤ length_limit) → Ok x ≡ slice_reply a.len start n (slots_cut (null_slots a) start n)
    → Ok (null_of x.len p) ≡ slice_reply a.len start n (null_cut a start n)
cut_taken a start n x p h = by (leb (start + n) a.len) h
  where
    by : (t : Bool) → Ok x ≡ cond t (Ok (slots_cut (null_slots a) start n)) (Err (stopped IndexPastEnd)) → Ok (null_of x.len p) ≡ cond t (Ok (null_cut a start n)) (Err (stopped IndexPastEnd))
    by true e = let z : x ≡ slots_cut (null_slots a) start n = cc in ap Ok (same_nulls (null_of x.len p) (null_cut a start n) (ap (λ (y : Slots). y.len) z))
    by false e = cc

-- the same of a trial's slots
pub trial_taken : (len : ℕ) (x : Slots) (p : x.len ≤ length_limit) (q r : Result (Unit {0}) Stop) → Ok x ≡ and_then q (and_then r (Ok (new_slots len None)))
    → Ok (null_of x.len p) ≡ and_then q (and_then r (Ok (null_leaf len)))
trial_taken len x p (Ok _) (Ok _) h = let z : x ≡ new_slots len None = cc in ap Ok (same_nulls (null_of x.len p) (null_leaf len) (ap (λ (y : Slots). y.len) z))
trial_taken len x p (Ok _) (Err e) h = cc
trial_taken len x p (Err e) r h = cc
