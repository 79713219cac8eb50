use Rattle.std.proofs.Common.{◌≡◌, ℕ, suc, ◌+◌, ◌-◌, ◌*◌, ◌^◌, ◌<◌, ◌≤◌, Bool, true, false, cond, eqb, ltb, ◌⊎◌, List, [], ◌++◌, length, pos, negsuc, Some, Ok, Option, sym, refl, ap, ◌∙◌, inl, inr, ⊎_elim, zero-add, arith, lt-ltb, le-leb}
use Rattle.layout.specs.Bits.{bit_at}
use Rattle.layout.specs.Words.{word_at, signed_of}
use Rattle.layout.specs.Spans.{Span, Within, Alike}
use Rattle.layout.specs.Needs.{Needed}
use Rattle.layout.proofs.SpanLaws.{within_l, within_r, within_either, mark_alike_lem}
use Rattle.history.specs.Entry.{Entry, Slot}
use Rattle.history.specs.Calls.{Turned}
use Rattle.slots.specs.declared.slots.Slots.{Slots}
use Rattle.slots.specs.Slots.{slot_mark, slot_spans}
use Rattle.slots.specs.Replies.{find_reply}
use Rattle.array.specs.Windows.{Range, Inside, window_in}
use Rattle.array.specs.Offsets.{largest_of}
use Rattle.array.specs.Lists.{list_shown, list_spans, list_seen}
use Rattle.array.proofs.ListLaws.{window_alike, taken_range}
use Rattle.list_view_array.specs.Views.{view_of, view_range, view_words}
use Rattle.convert.specs.Writing.{start_of, size_of, views_put, Written, fresh_slots}
use Rattle.convert.proofs.Written.{views_show}

-- a word that is an offset reads as itself
offset_reads : (w n : ℕ) → (w ≡ 4) ⊎ (w ≡ 8) → n ≤ largest_of w → signed_of w n ≡ pos n
unfolding signed_of
offset_reads w n known l = ⊎_elim (λ e. four e) (λ e. eight e) known
  where
    four : w ≡ 4 → cond (ltb (2 * n) (256 ^ w)) (pos n) (negsuc (256 ^ w - suc n)) ≡ pos n
    four e = let k : n ≤ largest_of 4 = rw e at l in rw (e, lt-ltb (2 * n) (256 ^ 4) (omega arith)) refl

    eight : w ≡ 8 → cond (ltb (2 * n) (256 ^ w)) (pos n) (negsuc (256 ^ w - suc n)) ≡ pos n
    eight e = let k : n ≤ largest_of 8 = rw e at l in rw (e, lt-ltb (2 * n) (256 ^ 8) (omega arith)) refl

-- the view of a range that is there is that range
view_same : (cs : ℕ) (r : Range) → (r.0 ≤ r.1) × (r.1 ≤ cs) → view_of cs (pos r.0) (pos (r.1 - r.0)) ≡ Some r
view_same cs r o =
    let o0 = o.0 in
    let o1 = o.1 in
    let e : r.0 + (r.1 - r.0) ≡ r.1 = omega arith in
    rw (e, le-leb r.1 cs o.1) refl

module _ (w : ℕ) (known : (w ≡ 4) ⊎ (w ≡ 8)) (s : Slots) (cs : ℕ) (f : List ℕ → ℕ → Entry) (range : List ℕ → ℕ → Option Range) (need : ℕ → List Span) (words child : List Span)
    (inside : (b : List ℕ) (i : ℕ) → i < s.len → Inside cs (range b i))
    (needs : (i : ℕ) → i < s.len → Needed (need i) (λ b. range b i))
    (among : (i : ℕ) → i < s.len → (k : ℕ) → Within (need i) k → Within words k)
    (childAlike : (b c : List ℕ) → Alike child b c → (i : ℕ) → i < cs → f b i ≡ f c i)
    (b : List ℕ) (used starts sizes end : ℕ)
    (front : used ≤ starts) (room : starts + w * s.len ≤ sizes) (back : sizes + w * s.len ≤ end) (whole : end ≤ length b)
    (below : (k : ℕ) → Within (list_spans s words child) k → k < 8 * used)
    (there : (i : ℕ) → i < s.len → (r : Range) × (Ok r ≡ find_reply s.len need (range b) b i))
    (small : (i : ℕ) → i < s.len → (start_of (find_reply s.len need (range b) b i) ≤ largest_of w) × (size_of (find_reply s.len need (range b) b i) ≤ largest_of w)) where
  abbrev pub after : List ℕ
  after = views_put w (λ d i. find_reply s.len need (range d) d i) starts sizes b s.len

  some : (i : ℕ) → i < s.len → eqb s.len 0 ≡ false
  some i l = grind arith

  -- the bits of a list with a slot lie below
  word_below : (i : ℕ) → i < s.len → (k : ℕ) → Within words k → k < 8 * used
  word_below i l k p = below k (rw (some i l) (within_l words (slot_spans s ++ child) k p))

  mark_below : (i : ℕ) → i < s.len → (k : ℕ) → Within (slot_spans s) k → k < 8 * used
  mark_below i l k p = below k (rw (some i l) (within_r words (slot_spans s ++ child) k (within_l (slot_spans s) child k p)))

  child_below : (i : ℕ) → i < s.len → (k : ℕ) → Within child k → k < 8 * used
  child_below i l k p = below k (rw (some i l) (within_r words (slot_spans s ++ child) k (within_r (slot_spans s) child k p)))

  written : Written w starts sizes (λ i. find_reply s.len need (range b) b i) b after s.len
  written = views_show w known s.len need range starts sizes b needs room (omega arith) (λ i l k p. let z = word_below i l k (among i l k p) in omega arith) small

  kept : (k : ℕ) → k < 8 * used → bit_at after k ≡ bit_at b k
  kept k l = written.kept k (omega arith)

  -- each slot of the view has the range that the slot of the list had
  same_range : (i : ℕ) → i < s.len → view_range w starts sizes (fresh_slots s) cs after i ≡ range b i
  unfolding view_range
  same_range i l =
      let r = (there i l).0 in
      let e = (there i l).1 in
      let t = taken_range s.len i need (range b) b r e in
      let x : word_at after (starts + w * i) w ≡ r.0 = written.begins i l ∙ ap start_of (sym e) in
      let y : word_at after (sizes + w * i) w ≡ r.1 - r.0 = written.counts i l ∙ ap size_of (sym e) in
      let sx : r.0 ≤ largest_of w = rw (sym e) at (small i l).0 in
      let sy : r.1 - r.0 ≤ largest_of w = rw (sym e) at (small i l).1 in
      let o : (r.0 ≤ r.1) × (r.1 ≤ cs) = rw t.1.1 at (inside b i l) in
      rw (zero-add i, x, y, offset_reads w r.0 known sx, offset_reads w (r.1 - r.0) known sy, t.1.1) (view_same cs r o)

  shows : (i : ℕ) → i < s.len → ◌≡◌ {A = Slot} (record { present = slot_mark (fresh_slots s) after i; entry = list_shown f (view_range w starts sizes (fresh_slots s) cs) after i }) (record { present = slot_mark s b i; entry = list_shown f range b i })
  shows i l =
      let m : slot_mark s after i ≡ slot_mark s b i = mark_alike_lem s.marks s.len after b i l (λ k p. kept k (mark_below i l k p)) in
      let v : window_in (f after) (range b i) ≡ window_in (f b) (range b i) = window_alike (f after) (f b) cs (range b i) (inside b i l) (childAlike after b (λ k p. kept k (child_below i l k p))) in
      rw (m, same_range i l, v) refl

  bits : (k : ℕ) → Within (list_spans (fresh_slots s) (view_words w starts sizes (fresh_slots s)) child) k → Within (list_spans s words child) k ⊎ ((8 * used ≤ k) × (k < 8 * end))
  bits k h = by (eqb s.len 0) h
    where
      by : (t : Bool) → Within (cond t [] (view_words w starts sizes (fresh_slots s) ++ (slot_spans (fresh_slots s) ++ child))) k → Within (cond t [] (words ++ (slot_spans s ++ child))) k ⊎ ((8 * used ≤ k) × (k < 8 * end))
      by true p = absurd p
      by false p =
          ⊎_elim
          (λ q. inr (⊎_elim (λ u. let u0 = u.0 in let u1 = u.1 in (omega arith, omega arith)) (⊎_elim (λ u. let u0 = u.0 in let u1 = u.1 in (omega arith, omega arith)) (λ u. absurd u)) q))
          (λ q. inl (within_r words (slot_spans s ++ child) k q))
          (within_either (view_words w starts sizes (fresh_slots s)) (slot_spans (fresh_slots s) ++ child) k p)

  pub views_turned : Turned (list_seen s f range words child) used b (list_seen (fresh_slots s) f (view_range w starts sizes (fresh_slots s) cs) (view_words w starts sizes (fresh_slots s)) child) end after
  views_turned =
      record
      { size = written.size; grows = omega arith; kept = λ k l. sym (kept k l); count = refl; shows = shows; bits = bits }
