use Rattle.std.proofs.Common.{◌≡◌, ℕ, ◌+◌, ◌-◌, ◌<◌, ◌≤◌, Bool, true, false, cond, eqb, ltb, List, [], ◌++◌, Some, None, Ok, Err, Option, refl, ap, ◌∙◌, ⊎_elim, arith, ltb-true}
use Rattle.ledger.specs.declared.stop.Reason.TheVariants.{BeyondBytes, IndexPastEnd}
use Rattle.ledger.specs.Stops.{stopped}
use Rattle.layout.specs.Spans.{Span, Within, Alike, in_body}
use Rattle.layout.specs.Needs.{Needed}
use Rattle.layout.proofs.SpanLaws.{within_l, within_r, within_either, mark_alike_lem}
use Rattle.history.specs.Entry.{Entry, is_absent}
use Rattle.history.specs.Entry.Entry.{window}
use Rattle.history.specs.Moments.{Framed}
use Rattle.history.proofs.Leading.{seen_framed}
use Rattle.slots.specs.declared.slots.Slots.{Slots}
use Rattle.slots.specs.Slots.{slot_mark, slot_need, slot_spans, slots_cut}
use Rattle.slots.specs.Replies.{find_reply, found}
use Rattle.slots.proofs.Leaves.{absence_needed, slots_within}
use Rattle.slots.proofs.SameSlots.{cut_len}
use Rattle.array.specs.Windows.{Range, Inside, window_in}
use Rattle.array.specs.ItemLaws.{entries_shift}
use Rattle.array.specs.Lists.{list_shown, list_entry, list_spans, list_seen}

-- children alike in their entries have the same windows
pub window_alike : (f g : ℕ → Entry) (size : ℕ) (r : Option Range) → Inside size r → ((i : ℕ) → i < size → f i ≡ g i) → window_in f r ≡ window_in g r
window_alike f g size None o h = refl
window_alike f g size (Some r) o h =
    let o0 = o.0 in
    let o1 = o.1 in
    ap window (entries_shift f g r.0 r.0 (r.1 - r.0) (λ i l. h (r.0 + i) (omega arith)))

-- a window is there
pub window_there : (f : ℕ → Entry) (r : Option Range) → is_absent (window_in f r) ≡ false
window_there f None = refl
window_there f (Some r) = refl

pub list_absence : (s : Slots) (i : ℕ) (f : List ℕ → ℕ → Entry) (range : List ℕ → ℕ → Option Range) → Needed (slot_need s i) (λ b. is_absent (list_entry s f range b i))
list_absence s i f range = absence_needed s i (λ b. window_in (f b) (range b i)) (λ b. window_there (f b) (range b i))

some_slot : (s : Slots) (i : ℕ) → i < s.len → eqb s.len 0 ≡ false
some_slot s i l = grind arith

module _ (s : Slots) (words child : List Span) where
  -- the bits of a list with a slot, one by one
  parts : (b c : List ℕ) → Alike (list_spans s words child) b c → (i : ℕ) → i < s.len → Alike words b c × (Alike (slot_spans s) b c × Alike child b c)
  parts b c h i l =
      let all : Alike (words ++ (slot_spans s ++ child)) b c = rw (some_slot s i l) at h in (
        (λ k p. all k (within_l words (slot_spans s ++ child) k p)),
        (
          (λ k p. all k (within_r words (slot_spans s ++ child) k (within_l (slot_spans s) child k p))),
          (λ k p. all k (within_r words (slot_spans s ++ child) k (within_r (slot_spans s) child k p))),
        ),
      )

  -- bodies alike in a list's bits have the same marks
  pub list_mark_alike : (b c : List ℕ) → Alike (list_spans s words child) b c → (i : ℕ) → i < s.len → slot_mark s b i ≡ slot_mark s c i
  list_mark_alike b c h i l = mark_alike_lem s.marks s.len b c i l (parts b c h i l).1.0

-- a list's ranges: each lies in a child of so many entries, and bodies alike in the words have the same ones
pub record Ranged (s : Slots) (size : ℕ) (range : List ℕ → ℕ → Option Range) (words : List Span) : Type 0 where
  pub inside : (b : List ℕ) (i : ℕ) → i < s.len → Inside size (range b i)
  pub alike : (b c : List ℕ) → Alike words b c → (i : ℕ) → i < s.len → range b i ≡ range c i

-- bodies alike in a list's bits show the same, where the child's entries are the same
module _ {s : Slots} {size : ℕ} {range : List ℕ → ℕ → Option Range} {words : List Span} (r : Ranged s size range words) (child : List Span) {f : List ℕ → ℕ → Entry}
    (same : (b c : List ℕ) → Alike child b c → (i : ℕ) → i < size → f b i ≡ f c i) where
  pub list_shown_alike : (b c : List ℕ) → Alike (list_spans s words child) b c → (i : ℕ) → i < s.len → list_shown f range b i ≡ list_shown f range c i
  list_shown_alike b c h i l =
      let p = parts s words child b c h i l in
      window_alike (f b) (f c) size (range b i) (r.inside b i l) (same b c p.1.1) ∙ ap (window_in (f c)) (r.alike b c p.0 i l)

  pub list_entry_alike : (b c : List ℕ) → Alike (list_spans s words child) b c → (i : ℕ) → i < s.len → list_entry s f range b i ≡ list_entry s f range c i
  list_entry_alike b c h i l = rw (list_mark_alike s words child b c h i l, list_shown_alike b c h i l) refl

pub list_framed : (s : Slots) (size : ℕ) (f : List ℕ → ℕ → Entry) (range : List ℕ → ℕ → Option Range) (words child : List Span)
    → ((b : List ℕ) (i : ℕ) → i < s.len → Inside size (range b i))
    → ((b c : List ℕ) → Alike words b c → (i : ℕ) → i < s.len → range b i ≡ range c i)
    → ((b c : List ℕ) → Alike child b c → (i : ℕ) → i < size → f b i ≡ f c i)
    → Framed (list_seen s f range words child)
list_framed s size f range words child inside alike same =
    let r : Ranged s size range words = record { inside = inside; alike = alike } in
    seen_framed s.len (slot_mark s) (list_shown f range) (list_spans s words child) (list_mark_alike s words child) (list_shown_alike r child same)

-- the bits of a cut are bits of the whole
pub list_within : (s : Slots) (start n : ℕ) (words words' child child' : List Span) → start + n ≤ s.len
    → ((k : ℕ) → 0 < n → Within words' k → Within words k) → ((k : ℕ) → Within child' k → Within child k)
    → (k : ℕ) → Within (list_spans (slots_cut s start n) words' child') k → Within (list_spans s words child) k
list_within s start n words words' child child' l ww cc' k h =
    by (eqb (slots_cut s start n).len 0) refl h
  where
    cut : Slots
    cut = slots_cut s start n

    by : (t : Bool) → eqb cut.len 0 ≡ t → Within (cond t [] (words' ++ (slot_spans cut ++ child'))) k → Within (list_spans s words child) k
    by true e p = absurd p
    by false e p =
        let z = cut_len s start n l in
        let some : eqb s.len 0 ≡ false = grind arith in
        let pos-n : 0 < n = grind arith in
        rw some (⊎_elim
        (λ q. within_l words (slot_spans s ++ child) k (ww k pos-n q))
        (λ q. within_r words (slot_spans s ++ child) k (⊎_elim
        (λ r. within_l (slot_spans s) child k (slots_within s start n l k r))
        (λ r. within_r (slot_spans s) child k (cc' k r))
        (within_either (slot_spans cut) child' k q)))
        (within_either words' (slot_spans cut ++ child') k p))

-- a reply that was taken passed its tests
pub taken_range : {X : Type 0} (size i : ℕ) (need : ℕ → List Span) (range : ℕ → Option X) (b : List ℕ) (p : X) → Ok p ≡ find_reply size need range b i → (i < size) × ((in_body (need i) b ≡ true) × (range i ≡ Some p))
taken_range {X = X} size i need range b p h = by (ltb i size) (in_body (need i) b) (range i) refl refl h
  where
    by : (t u : Bool) (o : Option X) → ltb i size ≡ t → in_body (need i) b ≡ u → Ok p ≡ cond t (cond u (found o) (Err (stopped BeyondBytes))) (Err (stopped IndexPastEnd)) → (i < size) × ((in_body (need i) b ≡ true) × (o ≡ Some p))
    by true true (Some q) x y e = (ltb-true i size x, (y, cc))
    by true true None x y e = cc
    by true false o x y e = cc
    by false u o x y e = cc
