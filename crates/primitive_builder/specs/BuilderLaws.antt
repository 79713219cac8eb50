use Rattle.std.specs.Prelude.{◌≡◌, ℕ, ◌+◌, ◌*◌, ◌%◌, ◌^◌, ◌<◌, ◌≤◌, Bool, true, ◌⊎◌, List, ◌++◌, map, length, replicate, ℤ, pos, is_some, Some, None, Ok, Option, nat_eq, refl}
use Rattle.std.proofs.Common.{sym, ap, ◌∙◌, inl, inr, ⊎_elim, mul_assoc, mul-add, mod-eq_of_lt, arith}
use Rattle.std.proofs.Math.Decide.{dec_le}
use Rattle.std.proofs.lemmas.Nat.{mul-le}
use Rattle.std.specs.Option.{unwrap_or}
use Rattle.form.specs.declared.data_type.DataType.{DataType}
use Rattle.layout.specs.Bits.{bit_at, bit_set}
use Rattle.layout.specs.Spans.{Within, Alike}
use Rattle.layout.specs.Words.{word_at}
use Rattle.layout.proofs.Sameness.{word_alike}
use Rattle.history.specs.Calls.{Stepped}
use Rattle.layout.specs.Marks.{mark_spans}
use Rattle.history.specs.Entry.{Slot}
use Rattle.slots.specs.declared.slots.Slots.{Slots}
use Rattle.slots.specs.Slots.{slot_mark}
use Rattle.slots.specs.Trials.{marks_at, new_slots}
use Rattle.primitive_array.specs.Numbers.{number_entry, number_spans}
use Rattle.rows.specs.declared.rows.Rows.{Rows}
use Rattle.rows.specs.Rows.{listed, bit_put, rows_put, nulls_at}
use Rattle.rows.specs.Columns.{InOrder, row_cells, rows_below}
use Rattle.rows.proofs.Lists.{listed_alike, length-listed}
use Rattle.rows.proofs.RowLaws.{length_bit, bit_there, bit_else, length-written, word_there, word_else, nulls_mark, nulls_within}
use Rattle.rows.proofs.ColumnLaws.{cell_below, below_below, rows_apart, rows_length, rows_others, rows_read}
use Rattle.builder.specs.declared.step.Step.{Step}
use Rattle.builder.specs.declared.step.Step.TheVariants.{Value, Null, Nulls, Close}
use Rattle.builder.specs.Steps.{erased, Goes, Shows}
use Rattle.builder.specs.Tables.{step_slots}
use Rattle.builder.specs.Leaves.{leaf_slot, leaf_row, leaf_test, leaf_reply, leaf_means}
use Rattle.builder.proofs.LeafLaws.{leaf_taken, leaf_room, leaf_fits, leaf_goes, leaf_slot_lem}
use Rattle.primitive_builder.specs.Numbers.{number_row, number_leaf, put_number, put_numbers, grown, number_columns, number_own, number_rests, NumbersInside}

either : (m n : ℕ) → (m ≤ n) ⊎ (n < m)
either m n = elim (dec_le m n) [ yes h ↦ inl h | no h ↦ inr (omega arith) ]

module _ (w : ℕ) (whole : ℕ → ℤ) (p : Rows) (at : ℕ) where
  -- row k is read off its two cells
  row_alike : (k : ℕ) (b c : List ℕ) → Alike (row_cells (number_columns w p at) k) b c → number_row w whole p at b k ≡ number_row w whole p at c k
  row_alike k b c h =
      let e = mul_assoc 8 w k in
      let m : bit_set b (8 * p.marks + k) ≡ bit_set c (8 * p.marks + k) = ap (λ x. nat_eq x 1) (h (8 * p.marks + k) (inl (omega arith, omega arith))) in
      let n : word_at b (at + w * k) w ≡ word_at c (at + w * k) w = word_alike b c (at + w * k) w (λ t x y. h t (inr (inl (omega arith, omega arith)))) in
      rw (m, n) refl

  pub number_framed : (b c : List ℕ) → Alike (number_rests w p at) b c → number_leaf w whole p at b ≡ number_leaf w whole p at c
  number_framed b c h =
      ap (λ xs. record { room = p.room; rows = xs })
      (listed_alike (number_row w whole p at b) (number_row w whole p at c) p.count
      (λ i l. row_alike i b c (λ t x. h t (cell_below (number_columns w p at) i p.count l t x))))

  module _ (size : ℕ) (inside : NumbersInside w size p at) where
    order : InOrder 0 (number_columns w p at) p.room
    order = let i0 = inside.behind in (omega arith, (omega arith, tt))

    -- the cells of the rows that there are places for are own bits
    below_own : (n : ℕ) → n ≤ p.room → (t : ℕ) → Within (rows_below (number_columns w p at) n) t → Within (number_own w p at) t
    below_own n l t (inl h) = let h0 = h.0 in let h1 = h.1 in inl (omega arith, omega arith)
    below_own n l t (inr (inl h)) =
        let e = mul_assoc 8 w n in
        let m = mul-le w n w p.room (omega arith) l in
        let h0 = h.0 in let h1 = h.1 in inr (inl (omega arith, omega arith))
    below_own n l t (inr (inr h)) = absurd h

    pub number_owned : (k : ℕ) → Within (number_rests w p at) k → Within (number_own w p at) k
    number_owned k h = below_own p.count inside.taken k h

    pub number_within : (k : ℕ) → Within (number_own w p at) k → k < 8 * size
    number_within k (inl h) = let h1 = h.1 in let i0 = inside.behind in let i1 = inside.fits in omega arith
    number_within k (inr (inl h)) = let h1 = h.1 in let i1 = inside.fits in omega arith
    number_within k (inr (inr h)) = absurd h

    module _ (m : Bool) (n : ℕ) (small : n < 256 ^ w) where
      keeps : (k : ℕ) (b : List ℕ) → length (put_number w p at m n k b) ≡ length b
      keeps k b = length-written w (bit_put b p.marks k m) (at + w * k) (n % 256 ^ w) ∙ length_bit b p.marks k m

      back : (k : ℕ) (b : List ℕ) → k < p.room → length b ≡ size → number_row w whole p at (put_number w p at m n k b) k ≡ (m, whole n)
      back k b l e =
          let i0 = inside.behind in
          let i1 = inside.fits in
          let d = mul-le w (k + 1) w p.room (omega arith) (omega arith) in
          let f = mul-add w k 1 in
          let c = bit_put b p.marks k m in
          let g : length c ≡ length b = length_bit b p.marks k m in
          let x : bit_set (put_number w p at m n k b) (8 * p.marks + k) ≡ m =
          ap (λ x. nat_eq x 1) (word_else w c (at + w * k) (n % 256 ^ w) (8 * p.marks + k) (inl (omega arith))) ∙ bit_there b p.marks k m (omega arith) in
          let r : n % 256 ^ w ≡ n = mod-eq_of_lt small in
          let y : word_at (put_number w p at m n k b) (at + w * k) w ≡ n = word_there w c (at + w * k) (n % 256 ^ w) (omega arith) (rw r small) ∙ r in
          rw (x, y) refl

      others : (k : ℕ) (b : List ℕ) (t : ℕ) → (Within (row_cells (number_columns w p at) k) t → ⊥) → bit_at (put_number w p at m n k b) t ≡ bit_at b t
      others k b t h =
          let e = mul_assoc 8 w k in
          word_else w (bit_put b p.marks k m) (at + w * k) (n % 256 ^ w) t
          (⊎_elim (λ q. ⊎_elim inr (λ r. absurd (h (inr (inl (omega arith, omega arith))))) (either (8 * (at + w * k + w)) t)) inl (either (8 * (at + w * k)) t))
          ∙ bit_else b p.marks k m t (λ q. h (inl (omega arith, omega arith)))

      module _ (n' : ℕ) (room : p.count + n' ≤ p.room) (b : List ℕ) (whole-body : length b ≡ size) where
        abbrev pub after_rows : List ℕ
        after_rows = rows_put (λ j. put_number w p at m n (p.count + j)) n' b

        pub number_rows : listed (number_row w whole p at after_rows) (p.count + n') ≡ listed (number_row w whole p at b) p.count ++ replicate n' (m, whole n)
        number_rows = rows_read (number_row w whole p at) (put_number w p at m n) (number_columns w p at) size p.room 0 (m, whole n) order keeps back others row_alike p.count n' b room whole-body

        pub number_stepped : Stepped (erased (number_own w p at) (number_rests w p at)) b (erased (number_own w (grown p n') at) (number_rests w (grown p n') at)) after_rows
        number_stepped =
            record {
              size = rows_length (number_row w whole p at) (put_number w p at m n) (number_columns w p at) size p.room 0 (m, whole n) order keeps back others row_alike p.count n' b;
              kept = λ t h. sym (rows_others (number_row w whole p at) (put_number w p at m n) (number_columns w p at) size p.room 0 (m, whole n) order keeps back others row_alike p.count n' b t
                  (λ j l c. rows_apart (number_columns w p at) 0 p.room order p.count (p.count + j) (omega arith) (omega arith) t
                  (h (below_own p.room (omega arith) t (cell_below (number_columns w p at) (p.count + j) p.room (omega arith) t c))) c));
              owned = λ t h. h;
              grows = λ t h. below_below (number_columns w p at) p.count (p.count + n') (omega arith) t h;
              rested = λ t h. inr (below_own (p.count + n') room t h);
            }

-- what is read of a number's word, told by a width and a reading that are the same as those of the numbers held
pub tied_read : {v w : ℕ} {f whole : ℕ → ℤ} {word : ℤ → Option ℕ} → v ≡ w → ((n : ℕ) → f n ≡ whole n) → ((z : ℤ) (n : ℕ) → word z ≡ Some n → (f n ≡ z) × (n < 256 ^ v))
    → (z : ℤ) (n : ℕ) → word z ≡ Some n → (whole n ≡ z) × (n < 256 ^ w)
tied_read e t r z n h = let q = r z n h in (sym (t n) ∙ q.0, rw e at q.1)

-- the number of a word that was found
found : (o : Option ℕ) → is_some o ≡ true → o ≡ Some (unwrap_or o 0)
found (Some n) e = refl
found None e = let q : ◌≡◌ {A = ℕ} 0 1 = cc in absurd (omega arith)

module _ (w : ℕ) (whole : ℕ → ℤ) (word : ℤ → Option ℕ) (zero_word : word (pos 0) ≡ Some 0)
    (read : (z : ℤ) (n : ℕ) → word z ≡ Some n → (whole n ≡ z) × (n < 256 ^ w)) where
  -- the word of a taken step's number
  pub step_word : (count room : ℕ) (s : Step) → leaf_test (is_some (word (leaf_row s).1)) count room s ≡ Ok tt → word (leaf_row s).1 ≡ Some (unwrap_or (word (leaf_row s).1) 0)
  step_word count room (Value v) e = found (word v) (leaf_fits (is_some (word v)) count room v e)
  step_word count room Null e = rw zero_word refl
  step_word count room (Nulls n) e = rw zero_word refl
  step_word count room (Close v) e = rw zero_word refl

  pub number_goes : (form : DataType) (size : ℕ) (p : Rows) (at : ℕ) (b : List ℕ) (d : ℕ) (s : Step)
      → NumbersInside w size p at → length b ≡ size → leaf_reply (λ v. is_some (word v)) (number_leaf w whole p at b) d s ≡ Ok tt
      → Goes (leaf_means (λ v. is_some (word v)) form (number_leaf w whole p at b)) (leaf_means (λ v. is_some (word v)) form (number_leaf w whole (grown p (step_slots s)) at (put_numbers w word p at s b)))
      (erased (number_own w p at) (number_rests w p at)) (erased (number_own w (grown p (step_slots s)) at) (number_rests w (grown p (step_slots s)) at)) b (put_numbers w word p at s b) d s
  number_goes form size p at b d s inside e h =
      let t = (leaf_taken (λ v. is_some (word v)) (number_leaf w whole p at b) d s h).1 in
      let c = length-listed (number_row w whole p at b) p.count in
      let u : leaf_test (is_some (word (leaf_row s).1)) p.count p.room s ≡ Ok tt = rw c at t in
      let n = unwrap_or (word (leaf_row s).1) 0 in
      let x = step_word p.count p.room s u in
      let r = read (leaf_row s).1 n x in
      let room : p.count + step_slots s ≤ p.room = leaf_room (is_some (word (leaf_row s).1)) p.count p.room s inside.taken u in
      let q = number_rows w whole p at size inside (leaf_row s).0 n r.1 (step_slots s) room b e in
      let v : ((leaf_row s).0, whole n) ≡ leaf_row s = ap (λ (z : ℤ). ((leaf_row s).0, z)) r.0 in
      record {
        means = leaf_goes (λ v. is_some (word v)) form (number_leaf w whole p at b) (number_leaf w whole (grown p (step_slots s)) at (put_numbers w word p at s b)) d s h
            (ap (λ xs. record { room = p.room; rows = xs }) (q ∙ ap (λ z. listed (number_row w whole p at b) p.count ++ replicate (step_slots s) z) v));
        leaves = number_stepped w whole p at size inside (leaf_row s).0 n r.1 (step_slots s) room b e;
      }

  pub number_stays : (size : ℕ) (p : Rows) (at : ℕ) (b : List ℕ) (d : ℕ) (s : Step) → NumbersInside w size p at
      → leaf_reply (λ v. is_some (word v)) (number_leaf w whole p at b) d s ≡ Ok tt → NumbersInside w size (grown p (step_slots s)) at
  number_stays size p at b d s inside h =
      let t = (leaf_taken (λ v. is_some (word v)) (number_leaf w whole p at b) d s h).1 in
      let c = length-listed (number_row w whole p at b) p.count in
      let u : leaf_test (is_some (word (leaf_row s).1)) p.count p.room s ≡ Ok tt = rw c at t in
      record {
        taken = leaf_room (is_some (word (leaf_row s).1)) p.count p.room s inside.taken u;
        limit = inside.limit;
        behind = inside.behind;
        fits = inside.fits;
      }

-- a snapshot's handle shows the rows that are taken
module _ (w : ℕ) (whole : ℕ → ℤ) (p : Rows) (at : ℕ) (b : List ℕ) (size : ℕ) (inside : NumbersInside w size p at) where
  abbrev pub shot_slots : Slots
  shot_slots = new_slots p.count (nulls_at b p.marks p.count)

  shot_len : shot_slots.len ≡ p.count
  shot_len = let i0 = inside.taken in let i1 = inside.limit in omega arith

  shot_mark : (i : ℕ) → i < p.count → slot_mark shot_slots b i ≡ bit_set b (8 * p.marks + i)
  shot_mark i l = nulls_mark b p.marks p.count i l

  shot_entry : (i : ℕ) → i < p.count → number_entry w whole at shot_slots b i ≡ (leaf_slot (number_row w whole p at b i)).entry
  shot_entry i l = let z : at + w * (0 + i) ≡ at + w * i = ap (λ (k : ℕ). at + w * k) (omega arith) in rw (shot_mark i l, z) refl

  shot_bits : (k : ℕ) → Within (number_spans w at shot_slots) k → Within (number_rests w p at) k
  shot_bits k (inl h) =
      let e = mul_assoc 8 w p.count in
      let z : w * (0 + 0) ≡ 0 = omega arith in
      let n : w * (0 + shot_slots.len) ≡ w * p.count = ap (λ (x : ℕ). w * x) (ap (λ (y : ℕ). 0 + y) shot_len ∙ omega arith) in
      let h0 = h.0 in let h1 = h.1 in inr (inl (omega arith, omega arith))
  shot_bits k (inr h) =
      let r : Within (mark_spans (marks_at (nulls_at b p.marks p.count)) p.count) k = rw shot_len at h in
      let q = nulls_within b p.marks p.count k r in
      let q0 = q.0 in let q1 = q.1 in inl (omega arith, omega arith)

  pub number_shows : Shows (map leaf_slot (listed (number_row w whole p at b) p.count)) (λ i. (leaf_slot (number_row w whole p at b i)).entry) (number_rests w p at) p.count
      shot_slots.len (slot_mark shot_slots b) (number_entry w whole at shot_slots b) (number_entry w whole at shot_slots b) (number_spans w at shot_slots)
  number_shows =
      record {
        whole = shot_len;
        marks = λ i l. shot_mark i l ∙ ap (λ (x : Slot). x.present) (sym (leaf_slot_lem (number_row w whole p at b) p.count i l));
        entries = λ i l. shot_entry i l ∙ ap (λ (x : Slot). x.entry) (sym (leaf_slot_lem (number_row w whole p at b) p.count i l));
        windows = shot_entry;
        bits = shot_bits;
      }
