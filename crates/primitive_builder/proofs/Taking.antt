use Rattle.std.proofs.Common.{◌≡◌, ℕ, ◌^◌, ◌<◌, Bool, Some, None, Ok, Option, ℤ, pos, is_some, option_map, unwrap_or, sym, refl, ap, ◌∙◌, w64, SFits, to_z, of_z}
use Rattle.std.proofs.lemmas.Int.{to_z-of_z}
use Rattle.builder.specs.declared.step.Step.{Step}
use Rattle.builder.specs.Leaves.{leaf_row, leaf_test}
use Rattle.primitive_builder.specs.BuilderLaws.{step_word}

-- a number is there where its word is
mapped : {X : Type 0} (of : ℕ → X) (o : Option ℕ) → is_some (option_map of o) ≡ is_some o
mapped of None = refl
mapped of (Some n) = refl

-- what a step's row, the number found of it and the tests of a leaf say, put together
module _ {X : Type 0} (of : ℕ → X) (word : ℤ → Option ℕ) (s : Step) (row : Bool × ℤ) (r : Option X) (f : SFits w64 row.1) (e : row ≡ leaf_row s)
    (q : r ≡ option_map of (word (to_z w64 (of_z w64 row.1)))) where
  pub number_found : r ≡ option_map of (word (leaf_row s).1)
  number_found = q ∙ ap (λ v. option_map of (word v)) (to_z-of_z w64 row.1 f ∙ ap (λ p. p.1) e)

  pub range_told : (t : Bool) → t ≡ is_some r → t ≡ is_some (word (leaf_row s).1)
  range_told t h = h ∙ ap is_some number_found ∙ mapped of (word (leaf_row s).1)

  -- the word of a taken step's number
  module _ (whole : ℕ → ℤ) (v w : ℕ) (to : X → ℕ) (wide : v ≡ w) (own : (n : ℕ) → n < 256 ^ v → to (of n) ≡ n) (zero_word : word (pos 0) ≡ Some 0)
      (read : (z : ℤ) (n : ℕ) → word z ≡ Some n → (whole n ≡ z) × (n < 256 ^ w)) (count room : ℕ)
      (t : Ok tt ≡ leaf_test (is_some (word (leaf_row s).1)) count room s) (x : X) (h : r ≡ Some x) where
    pub word_taken : to x ≡ unwrap_or (word (leaf_row s).1) 0
    word_taken =
        let n = unwrap_or (word (leaf_row s).1) 0 in
        let o : word (leaf_row s).1 ≡ Some n = step_word w whole word zero_word read count room s (sym t) in
        let k : r ≡ Some (of n) = number_found ∙ ap (option_map of) o in
        let u : x ≡ of n = cc in
        let l : n < 256 ^ w = (read (leaf_row s).1 n o).1 in
        ap to u ∙ own n (rw wide l)

    pub word_small : to x < 256 ^ w
    word_small =
        let n = unwrap_or (word (leaf_row s).1) 0 in
        let o : word (leaf_row s).1 ≡ Some n = step_word w whole word zero_word read count room s (sym t) in
        rw word_taken (read (leaf_row s).1 n o).1
