use Rattle.std.specs.Prelude.{◌≡◌, ℕ, ◌+◌, ◌*◌, ◌<◌, ◌≤◌, List, [], ℤ, Option, MatchResult, refl}
use Rattle.std.proofs.Common.{ap, inl, inr, ⊎_elim, mul-add, arith}
use Rattle.std.proofs.lemmas.Nat.{mul-le}
use Rattle.ledger.specs.Ledger.{Accounts}
use Rattle.layout.specs.Words.{word_at}
use Rattle.layout.specs.Spans.{Within, Alike}
use Rattle.layout.proofs.SpanLaws.{mark_alike_lem}
use Rattle.layout.proofs.Sameness.{word_alike}
use Rattle.history.specs.Calls.{TrialLeads, StopLeads}
use Rattle.history.proofs.Leading.{trial_leads, seen_framed, stop_leads}
use Rattle.slots.specs.declared.null_buffer.NullBuffer.{NullBuffer}
use Rattle.slots.specs.declared.slots.Slots.{Slots}
use Rattle.slots.specs.Slots.{slot_mark, slots_cut}
use Rattle.slots.specs.Trials.{bytes_end, new_slots, with_slots}
use Rattle.slots.proofs.Leaves.{leaf_cases, own_loaded, slots_mark, slots_within}
use Rattle.slots.proofs.SameSlots.{new_len, cut_first, cut_len}
use Rattle.primitive_array.specs.Numbers.{number_place, number_entry, number_spans, number_seen, number_reply}

-- the words of slots in a run lie in the run's words
in_run : (w place first i n : ℕ) → i < n → (place + w * (first + 0) ≤ place + w * (first + i)) × (place + w * (first + i) + w ≤ place + w * (first + n))
in_run w place first i n l =
    let p = mul-le w (first + 0) w (first + i) (omega arith) (omega arith) in
    let q = mul-le w (first + i + 1) w (first + n) (omega arith) (omega arith) in
    let d = mul-add w (first + i) 1 in
    (omega arith, omega arith)

module _ (w : ℕ) (f : ℕ → ℤ) (place : ℕ) (s : Slots) where
  pub number_mark_alike : (b c : List ℕ) → Alike (number_spans w place s) b c → (i : ℕ) → i < s.len → slot_mark s b i ≡ slot_mark s c i
  number_mark_alike b c h i l = mark_alike_lem s.marks s.len b c i l (λ k p. h k (inr p))

  pub number_alike : (b c : List ℕ) → Alike (number_spans w place s) b c → (i : ℕ) → i < s.len → number_entry w f place s b i ≡ number_entry w f place s c i
  number_alike b c h i l =
      let r = in_run w place s.first i s.len l in
      let r0 = r.0 in
      let r1 = r.1 in
      let e : word_at b (number_place w place s i) w ≡ word_at c (number_place w place s i) w =
      word_alike b c (number_place w place s i) w (λ k p q. h k (inl (omega arith, omega arith))) in
      rw (number_mark_alike b c h i l, e) refl

  -- a cut moves words and marks together
  pub number_cut : (start n : ℕ) → start + n ≤ s.len → (b : List ℕ) (i : ℕ) → number_entry w f place (slots_cut s start n) b i ≡ number_entry w f place s b (start + i)
  number_cut start n h b i =
      let e : (slots_cut s start n).first + i ≡ s.first + (start + i) = let z = cut_first s start n h in omega arith in
      rw (slots_mark s start n h b i, e) refl

  pub number_within : (start n : ℕ) → start + n ≤ s.len → (k : ℕ) → Within (number_spans w place (slots_cut s start n)) k → Within (number_spans w place s) k
  number_within start n h k (inr p) = inr (slots_within s start n h k p)
  number_within start n h k (inl p) =
      let p0 = p.0 in
      let p1 = p.1 in
      let a = cut_first s start n h in
      let z = cut_len s start n h in
      let u = mul-le w (s.first + 0) w ((slots_cut s start n).first + 0) (omega arith) (omega arith) in
      let v = mul-le w ((slots_cut s start n).first + (slots_cut s start n).len) w (s.first + s.len) (omega arith) (omega arith) in
      inl (omega arith, omega arith)

-- a trial leads on, whatever is made of its slots
pub number_leads : {X : Type 0} (w : ℕ) (f : ℕ → ℤ) (g : Accounts) (b : List ℕ) (place len : ℕ) (nulls : Option NullBuffer) (made : Slots → X) (P : X → Type 0)
    → ((s : Slots) → TrialLeads b g.loaded [] (number_seen w f place s) → P (made s))
    → MatchResult (with_slots made (number_reply w g b place len nulls)) P (λ _. StopLeads)
number_leads w f g b place len nulls made P into =
    leaf_cases g b (bytes_end place (w * len)) len nulls made P (λ _. StopLeads)
    (λ own few marks.
    let s = new_slots len nulls in
    let e : (new_slots len nulls).len ≡ len = new_len len nulls few in
    into s (trial_leads b g.loaded [] (number_seen w f place s)
    (seen_framed s.len (slot_mark s) (number_entry w f place s) (number_spans w place s) (number_mark_alike w f place s) (number_alike w f place s))
    (λ k p. inl (⊎_elim
    (λ q.
    let q0 = q.0 in
    let q1 = q.1 in
    let u : w * (0 + (new_slots len nulls).len) ≡ w * len = ap (λ n. w * n) (omega arith) in
    own_loaded place (w * len) g.loaded k own (omega arith) (omega arith))
    (λ q. marks k (rw e at q)) p))))
    (λ s. stop_leads)
