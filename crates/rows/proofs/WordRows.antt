use Rattle.std.proofs.Common.{◌≡◌, ℕ, ◌+◌, ◌*◌, ◌^◌, ◌<◌, ◌≤◌, Bool, eqb, ◌⊎◌, List, [], ◌∷◌, ◌++◌, length, replicate, refl, ap, ◌∙◌, inl, inr, ⊎_elim, mul_assoc, mul-add, arith}
use native.Mathlib.Decide.{dec_le}
use Rattle.std.proofs.lemmas.Nat.{mul-le}
use Rattle.layout.specs.Bits.{bit_at, bit_set}
use Rattle.layout.specs.Spans.{Within, Alike}
use Rattle.layout.specs.Words.{word_at}
use Rattle.layout.proofs.Sameness.{word_alike}
use Rattle.slots.specs.Trials.{bit_bytes}
use Rattle.rows.specs.Rows.{listed, bit_put, rows_put, marked_word, put_marked_word}
use Rattle.rows.specs.Columns.{Column, bit_column, word_column, InOrder, row_cells}
use Rattle.rows.proofs.RowLaws.{length_bit, bit_there, bit_else, length-written, word_there, word_else}
use Rattle.rows.proofs.ColumnLaws.{rows_length, rows_others, rows_read}

pub either : (m n : ℕ) → (m ≤ n) ⊎ (n < m)
either m n = elim (dec_le m n) [ yes h ↦ inl h | no h ↦ inr (omega arith) ]

-- Rows of a mark and a word are rows of two columns.
module _ {X : Type 0} (f : ℕ → X) (w marks at : ℕ) where
  abbrev pub columns : List Column
  columns = bit_column marks ∷ word_column w at ∷ []

  pub word_row_alike : (k : ℕ) (b c : List ℕ) → Alike (row_cells columns k) b c → marked_word f w marks at b k ≡ marked_word f w marks at c k
  word_row_alike k b c h =
      let e = mul_assoc 8 w k in
      let m : bit_set b (8 * marks + k) ≡ bit_set c (8 * marks + k) = ap (λ x. eqb x 1) (h (8 * marks + k) (inl (omega arith, omega arith))) in
      let n : word_at b (at + w * k) w ≡ word_at c (at + w * k) w = word_alike b c (at + w * k) w (λ t x y. h t (inr (inl (omega arith, omega arith)))) in
      rw (m, n) refl

  -- marks and words of `room` rows, in a body of so many bytes, the words behind the marks
  module _ (size room : ℕ) (behind : marks + bit_bytes room ≤ at) (fits : at + w * room ≤ size) where
    pub word_order : InOrder 0 columns room
    word_order = (omega arith, (omega arith, tt))

    module _ (m : Bool) (n : ℕ) (small : n < 256 ^ w) where
      keeps : (k : ℕ) (b : List ℕ) → length (put_marked_word w marks at m n k b) ≡ length b
      keeps k b = length-written w (bit_put b marks k m) (at + w * k) n ∙ length_bit b marks k m

      back : (k : ℕ) (b : List ℕ) → k < room → length b ≡ size → marked_word f w marks at (put_marked_word w marks at m n k b) k ≡ (m, f n)
      back k b l e =
          let d = mul-le w (k + 1) w room (omega arith) (omega arith) in
          let q = mul-add w k 1 in
          let c = bit_put b marks k m in
          let g : length c ≡ length b = length_bit b marks k m in
          let x : bit_set (put_marked_word w marks at m n k b) (8 * marks + k) ≡ m =
          ap (λ x. eqb x 1) (word_else w c (at + w * k) n (8 * marks + k) (inl (omega arith))) ∙ bit_there b marks k m (omega arith) in
          let y : word_at (put_marked_word w marks at m n k b) (at + w * k) w ≡ n = word_there w c (at + w * k) n (omega arith) small in
          rw (x, y) refl

      others : (k : ℕ) (b : List ℕ) (t : ℕ) → (Within (row_cells columns k) t → ⊥) → bit_at (put_marked_word w marks at m n k b) t ≡ bit_at b t
      others k b t h =
          let e = mul_assoc 8 w k in
          word_else w (bit_put b marks k m) (at + w * k) n t
          (⊎_elim (λ q. ⊎_elim inr (λ r. absurd (h (inr (inl (omega arith, omega arith))))) (either (8 * (at + w * k + w)) t)) inl (either (8 * (at + w * k)) t))
          ∙ bit_else b marks k m t (λ q. h (inl (omega arith, omega arith)))

      pub word_rows_length : (from n' : ℕ) (b : List ℕ) → length (rows_put (λ j. put_marked_word w marks at m n (from + j)) n' b) ≡ length b
      word_rows_length = rows_length (marked_word f w marks at) (put_marked_word w marks at m n) columns size room 0 (m, f n) word_order keeps back others word_row_alike

      pub word_rows_others : (from n' : ℕ) (b : List ℕ) (t : ℕ) → ((j : ℕ) → j < n' → Within (row_cells columns (from + j)) t → ⊥) → bit_at (rows_put (λ j. put_marked_word w marks at m n (from + j)) n' b) t ≡ bit_at b t
      word_rows_others = rows_others (marked_word f w marks at) (put_marked_word w marks at m n) columns size room 0 (m, f n) word_order keeps back others word_row_alike

      pub word_rows_read : (from n' : ℕ) (b : List ℕ) → from + n' ≤ room → length b ≡ size
          → listed (marked_word f w marks at (rows_put (λ j. put_marked_word w marks at m n (from + j)) n' b)) (from + n') ≡ listed (marked_word f w marks at b) from ++ replicate n' (m, f n)
      word_rows_read = rows_read (marked_word f w marks at) (put_marked_word w marks at m n) columns size room 0 (m, f n) word_order keeps back others word_row_alike
