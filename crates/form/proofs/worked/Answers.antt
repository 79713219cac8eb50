use Rattle.std.proofs.Common.{◌≡◌, ◌%◌, ◌<◌, leb, Ok, Result, sym, refl, ap, ◌∙◌, ⊎_elim, arith}
use Rattle.std.proofs.lemmas.Bool.{leb-true, leb-false, lt-leb, cases_Bool, cond-true, cond-false}
use Rattle.std.proofs.lemmas.List.{length-append}
use Rattle.ledger.specs.declared.stop.Stop.{Stop}
use Rattle.form.specs.declared.data_type.DataType.{DataType}
use Rattle.form.specs.Forms.{places, code_in, with_code, leaf_form, layer_reply, fixed_reply}
use Rattle.form.specs.Shapes.{Shape, low_digits, digits_of, digits_in, code_of, form_of, Proper, Sound}
use Rattle.form.specs.Shapes.Shape.{Leaf, Layer, Fixed}
use Rattle.form.specs.Laws.{form_reply}
use Rattle.form.specs.Examples.{then, told, Builds}
use Rattle.form.proofs.Shaped.{layer_extends, fixed_extends}
use Rattle.form.proofs.worked.Goals as goal

-- one more layer, by the call `next`, makes t of s
one_more : (s t : Shape) (next : DataType → Result DataType Stop) → Proper s → digits_in s < digits_in t
    → (Sound s → next (form_of s) ≡ form_reply t) → then (form_reply s) next ≡ form_reply t
one_more s t next p l h =
    ⊎_elim
    (λ e. ap (λ r. then r next) (cond-true (leb (digits_in s) places) _ _ e) ∙ h (p, leb-true (digits_in s) places e))
    (λ e.
    ap (λ r. then r next) (cond-false (leb (digits_in s) places) _ _ e)
    ∙ sym (cond-false (leb (digits_in t) places) _ _ (lt-leb (digits_in t) places (omega (arith, leb-false (digits_in s) places e)))))
    (cases_Bool (leb (digits_in s) places))

builds : Builds
builds (Leaf d) p =
    let e : code_in (leaf_form d) ≡ code_of (Leaf d) = omega arith in
    ap (λ x. Ok (with_code x)) e
builds (Layer d s) p =
    let next : DataType → Result DataType Stop = λ f. layer_reply f d in
    let e : d % 16 ≡ d = omega arith in
    ap (λ r. then r next) (builds s p.2)
    ∙ one_more s (Layer d s) next p.2 (omega arith) (λ h. layer_extends d (form_of s) _ refl s h refl ∙ ap (λ x. form_reply (Layer x s)) e)
builds (Fixed size s) p =
    let next : DataType → Result DataType Stop = λ f. fixed_reply f size in
    ap (λ r. then r next) (builds s p.1)
    ∙ one_more s (Fixed size s) next p.1 (omega (arith, length-append (low_digits 8 size) (digits_of s)))
    (λ h. fixed_extends size (form_of s) _ p.0 refl s h refl)

pub returns-clause-hold : goal.returns-clause-hold
returns-clause-hold c =
    let list = builds (Layer 8 (Leaf 3)) (omega arith) in
    let three = builds (Fixed 3 (Leaf 3)) (omega arith) in
    let long = builds (Fixed 3 (Fixed 3 (Leaf 3))) (omega arith) in
    (ap told list, (ap told three, (ap told long, tt)))

pub returns-clause-builds : goal.returns-clause-builds
returns-clause-builds c = builds
