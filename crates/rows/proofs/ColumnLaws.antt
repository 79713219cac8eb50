use Rattle.std.proofs.Common.{◌≡◌, ℕ, zero, suc, ◌+◌, ◌*◌, ◌<◌, ◌≤◌, List, [], ◌∷◌, ◌++◌, length, replicate, sym, refl, ap, ◌∙◌, inl, inr, append_assoc, add-zero, mul-add, arith}
use Rattle.std.proofs.lemmas.Nat.{mul-le}
use Rattle.layout.specs.Bits.{bit_at}
use Rattle.layout.specs.Spans.{Within, Alike}
use Rattle.rows.specs.Rows.{listed, rows_put}
use Rattle.rows.specs.Columns.{Column, row_cells, rows_below, InOrder}
use Rattle.rows.proofs.Lists.{listed_push}

cell_end : (w k n : ℕ) → k < n → w * k + w ≤ w * n
cell_end w k n l =
    let m = mul-le w (k + 1) w n (omega arith) (omega arith) in
    let d = mul-add w k 1 in
    omega arith

wider : (w m n : ℕ) → m ≤ n → w * m ≤ w * n
wider w m n l = mul-le w m w n (omega arith) l

-- row k's cells are among those of the first n rows
pub cell_below : (cs : List Column) (k n : ℕ) → k < n → (t : ℕ) → Within (row_cells cs k) t → Within (rows_below cs n) t
cell_below [] k n l t h = h
cell_below (c ∷ cs) k n l t (inl h) = let e = cell_end c.bits k n l in let h0 = h.0 in let h1 = h.1 in inl (omega arith, omega arith)
cell_below (c ∷ cs) k n l t (inr h) = inr (cell_below cs k n l t h)

pub below_below : (cs : List Column) (m n : ℕ) → m ≤ n → (t : ℕ) → Within (rows_below cs m) t → Within (rows_below cs n) t
below_below [] m n l t h = h
below_below (c ∷ cs) m n l t (inl h) = let e = wider c.bits m n l in let h0 = h.0 in let h1 = h.1 in inl (omega arith, omega arith)
below_below (c ∷ cs) m n l t (inr h) = inr (below_below cs m n l t h)

-- no bit of the columns lies before them
pub from_low : (cs : List Column) (low room : ℕ) → InOrder low cs room → (n : ℕ) → n ≤ room → (t : ℕ) → Within (rows_below cs n) t → low ≤ t
from_low [] low room o n l t h = absurd h
from_low (c ∷ cs) low room o n l t (inl h) = let o0 = o.0 in let h0 = h.0 in omega arith
from_low (c ∷ cs) low room o n l t (inr h) =
    let o0 = o.0 in
    let q = from_low cs (c.from + c.bits * room) room o.1 n l t h in omega arith

-- the cells of a later row are none of the earlier rows'
pub rows_apart : (cs : List Column) (low room : ℕ) → InOrder low cs room → (n k : ℕ) → n ≤ k → k < room → (t : ℕ) → Within (rows_below cs n) t → Within (row_cells cs k) t → ⊥
rows_apart [] low room o n k l m t h g = h
rows_apart (c ∷ cs) low room o n k l m t (inl h) (inl g) = let e = wider c.bits n k l in let h1 = h.1 in let g0 = g.0 in omega arith
rows_apart (c ∷ cs) low room o n k l m t (inl h) (inr g) =
    let q = from_low cs (c.from + c.bits * room) room o.1 (k + 1) (omega arith) t (cell_below cs k (k + 1) (omega arith) t g) in
    let e = wider c.bits n room (omega arith) in
    let h1 = h.1 in omega arith
rows_apart (c ∷ cs) low room o n k l m t (inr h) (inl g) =
    let q = from_low cs (c.from + c.bits * room) room o.1 n (omega arith) t h in
    let e = cell_end c.bits k room m in
    let g1 = g.1 in omega arith
rows_apart (c ∷ cs) low room o n k l m t (inr h) (inr g) = rows_apart cs (c.from + c.bits * room) room o.1 n k l m t h g

-- Rows that are read off their cells and written cell by cell: n new rows stand behind the earlier ones, which stay as they
-- were, and no bit outside their cells changes. Every layer's rows are such.
module _ {R : Type 0} (read : List ℕ → ℕ → R) (put : ℕ → List ℕ → List ℕ) (cs : List Column) (size room low : ℕ) (r : R)
    (order : InOrder low cs room)
    (keeps : (k : ℕ) (b : List ℕ) → length (put k b) ≡ length b)
    (back : (k : ℕ) (b : List ℕ) → k < room → length b ≡ size → read (put k b) k ≡ r)
    (others : (k : ℕ) (b : List ℕ) (t : ℕ) → (Within (row_cells cs k) t → ⊥) → bit_at (put k b) t ≡ bit_at b t)
    (alike : (k : ℕ) (b c : List ℕ) → Alike (row_cells cs k) b c → read b k ≡ read c k) where
  pub rows_length : (at n : ℕ) (b : List ℕ) → length (rows_put (λ j. put (at + j)) n b) ≡ length b
  rows_length at zero b = refl
  rows_length at (suc n) b = keeps (at + n) (rows_put (λ j. put (at + j)) n b) ∙ rows_length at n b

  pub rows_others : (at n : ℕ) (b : List ℕ) (t : ℕ) → ((j : ℕ) → j < n → Within (row_cells cs (at + j)) t → ⊥) → bit_at (rows_put (λ j. put (at + j)) n b) t ≡ bit_at b t
  rows_others at zero b t h = refl
  rows_others at (suc n) b t h =
      others (at + n) (rows_put (λ j. put (at + j)) n b) t (h n (omega arith)) ∙ rows_others at n b t (λ j l. h j (omega arith))

  pub rows_read : (at n : ℕ) (b : List ℕ) → at + n ≤ room → length b ≡ size → listed (read (rows_put (λ j. put (at + j)) n b)) (at + n) ≡ listed (read b) at ++ replicate n r
  rows_read at zero b l e = rw (add-zero at) (sym (append_none (listed (read b) at)))
    where
      append_none : (xs : List R) → xs ++ [] ≡ xs
      append_none [] = refl
      append_none (x ∷ xs) = ap (λ ys. x ∷ ys) (append_none xs)
  rows_read at (suc n) b l e =
      let c = rows_put (λ j. put (at + j)) n b in
      let s : at + suc n ≡ (at + n) + 1 = omega arith in
      let h : listed (read c) (at + n) ≡ listed (read b) at ++ replicate n r = rows_read at n b (omega arith) e in
      let p : listed (read (put (at + n) c)) ((at + n) + 1) ≡ listed (read c) (at + n) ++ (r ∷ []) =
      listed_push (read c) (read (put (at + n) c)) (at + n) r
      (λ i k. alike i (put (at + n) c) c (λ t w. others (at + n) c t (λ g. rows_apart cs low room order (i + 1) (at + n) (omega arith) (omega arith) t (cell_below cs i (i + 1) (omega arith) t w) g)))
      (back (at + n) c (omega arith) (rows_length at n b ∙ e)) in
      rw s (p ∙ ap (λ xs. xs ++ (r ∷ [])) h ∙ append_assoc (listed (read b) at) (replicate n r) (r ∷ []) ∙ ap (λ xs. listed (read b) at ++ xs) (sym (replicate_last n)))
    where
      replicate_last : (m : ℕ) → replicate (suc m) r ≡ replicate m r ++ (r ∷ [])
      replicate_last zero = refl
      replicate_last (suc m) = ap (λ xs. r ∷ xs) (replicate_last m)
