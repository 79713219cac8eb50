use Rattle.std.proofs.Common.{◌≡◌, ℕ, ◌<◌, List, [], Option, refl, inl, inr, ⊎_elim, arith, MatchResult}
use Rattle.ledger.specs.Ledger.{Accounts}
use Rattle.layout.specs.Bits.{bit_at}
use Rattle.layout.specs.Spans.{Alike}
use Rattle.layout.proofs.SpanLaws.{mark_alike_lem}
use Rattle.history.specs.Calls.{TrialLeads, StopLeads}
use Rattle.history.proofs.Leading.{trial_leads, seen_framed, stop_leads}
use Rattle.slots.specs.declared.null_buffer.NullBuffer.{NullBuffer}
use Rattle.slots.specs.Slots.{slot_mark}
use Rattle.slots.specs.Trials.{bytes_end, bit_bytes, new_slots}
use Rattle.slots.proofs.Leaves.{leaf_cases, own_loaded}
use Rattle.slots.proofs.SameSlots.{new_len}
use Rattle.boolean_array.specs.declared.boolean_array.BooleanArray.{BooleanArray}
use Rattle.boolean_array.specs.Booleans.{bool_bit, bool_entry, bool_spans, bool_seen, bool_reply}

-- bodies alike in the rested bits show the same
module _ (a : BooleanArray) (b c : List ℕ) (h : Alike (bool_spans a) b c) (i : ℕ) (l : i < a.slots.len) where
  pub bool_mark_alike : slot_mark a.slots b i ≡ slot_mark a.slots c i
  bool_mark_alike = mark_alike_lem a.slots.marks a.slots.len b c i l (λ k p. h k (inr p))

  pub bool_alike : bool_entry a b i ≡ bool_entry a c i
  bool_alike =
      let w : bit_at b (bool_bit a i) ≡ bit_at c (bool_bit a i) = h (bool_bit a i) (inl (omega arith, omega arith)) in
      rw (bool_mark_alike, w) refl

-- a trial leads on
pub bool_leads : (g : Accounts) (b : List ℕ) (place len : ℕ) (nulls : Option NullBuffer)
    → MatchResult (bool_reply g b place len nulls) (λ h. TrialLeads b g.loaded [] (bool_seen h)) (λ _. StopLeads)
bool_leads g b place len nulls =
    leaf_cases g b (bytes_end place (bit_bytes len)) len nulls (λ s. record { place = place; slots = s }) _ _
    (λ own few marks.
    let a : BooleanArray = record { place = place; slots = new_slots len nulls } in
    let e : a.slots.len ≡ len = new_len len nulls few in
    trial_leads b g.loaded [] (bool_seen a)
    (seen_framed a.slots.len (slot_mark a.slots) (bool_entry a) (bool_spans a) (λ c d h i l. bool_mark_alike a c d h i l) (λ c d h i l. bool_alike a c d h i l))
    (λ k p. inl (⊎_elim
    (λ q. let q0 = q.0 in let q1 = q.1 in own_loaded place (bit_bytes len) g.loaded k own (omega arith) (omega arith))
    (λ q. marks k (rw e at q)) p)))
    (λ s. stop_leads)
