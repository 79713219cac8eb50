use Rattle.std.proofs.Common.{◌≡◌, ℕ, ◌+◌, Bool, List, Some, is_some, Ok, Err, Result, unwrap_or, ap, ◌∙◌, w64, SFits, rules}
use Rattle.ledger.specs.declared.stop.Stop.{Stop}
use Rattle.builder.specs.Leaves.{leaf_test, leaf_row}
use Rattle.builder.proofs.LeafLaws.{leaf_answers}
use Rattle.rows.specs.Rows.{rows_put}
use Rattle.rows.proofs.Lists.{length-listed}
use Rattle.primitive_builder.specs.Numbers.{number_row, number_leaf, put_number}
use Rattle.primitive_builder.specs.BuilderLaws.{tied_read}
use Rattle.primitive_builder.proofs.Taking.{range_told, word_small, word_taken}
use Rattle.primitive_builder.proofs.PrimitiveBuilderArrayBuilder.take.Goals as goal

pub returns-in_err-check_leaf-clause-answers : goal.returns-in_err-check_leaf-clause-answers
returns-in_err-check_leaf-clause-answers g c =
    let a = c.args.self.now in
    let b = c.args.body.now in
    let s = c.args.step in
    let n = g.T.Native.ArrowNativeType in
    let p = g.T.ArrowPrimitiveType in
    let z : SFits w64 c.leaf_row-mark.result.1 = search rules in
    let q = range_told n.of_word n.word s c.leaf_row-mark.result c.from_i64-number.result z c.leaf_row-mark.ensures c.from_i64-number.ensures c.is_some.result c.is_some.ensures in
    let t : ◌≡◌ {A = Result (Unit {0}) Stop} (Err c.in_err-check_leaf.field-0.0) (leaf_test (is_some (n.word (leaf_row s).1)) a.rows.count a.rows.room s) =
    c.in_err-check_leaf.ensures ∙ ap (λ x. leaf_test x a.rows.count a.rows.room s) q in
    let f : c.from_residual.result ≡ Err c.in_err-check_leaf.field-0.0 = search rules in
    f ∙ leaf_answers (λ v. is_some (n.word v)) b a.length (number_leaf p.width p.whole a.rows a.numbers b) c.args.depth s a.rows.count _ c.if-body-self.false c.if-depth-ne0.false (length-listed (number_row p.width p.whole a.rows a.numbers b) a.rows.count) t

pub put_rows-requires : goal.put_rows-requires
put_rows-requires g c =
    let a = c.args.self.now in
    let b = c.args.body.now in
    let s = c.args.step in
    let n = g.T.Native.ArrowNativeType in
    let p = g.T.ArrowPrimitiveType in
    let m = g.met.T in
    let z : SFits w64 c.leaf_row-mark.result.1 = search rules in
    let q = range_told n.of_word n.word s c.leaf_row-mark.result c.from_i64-number.result z c.leaf_row-mark.ensures c.from_i64-number.ensures c.is_some.result c.is_some.ensures in
    let t : ◌≡◌ {A = Result (Unit {0}) Stop} (Ok tt) (leaf_test (is_some (n.word (leaf_row s).1)) a.rows.count a.rows.room s) =
    c.in_ok-check_leaf.ensures ∙ ap (λ x. leaf_test x a.rows.count a.rows.room s) q in
    let r = tied_read {f = λ k. n.whole (n.of_word k)} m.ArrowPrimitiveType.native_width m.ArrowPrimitiveType.native_whole m.Native.ArrowNativeType.word_read in
    let h : c.from_i64-number.result ≡ Some c.in_ok-number.number = search rules in
    (search rules, word_small n.of_word n.word s c.leaf_row-mark.result c.from_i64-number.result z c.leaf_row-mark.ensures c.from_i64-number.ensures p.whole n.WIDTH p.width n.to_word m.ArrowPrimitiveType.native_width m.Native.ArrowNativeType.word_of_number m.Native.ArrowNativeType.zero_word r a.rows.count a.rows.room t c.in_ok-number.number h)

pub returns-clause-answers : goal.returns-clause-answers
returns-clause-answers g c =
    let a = c.args.self.now in
    let b = c.args.body.now in
    let s = c.args.step in
    let n = g.T.Native.ArrowNativeType in
    let p = g.T.ArrowPrimitiveType in
    let z : SFits w64 c.leaf_row-mark.result.1 = search rules in
    let q = range_told n.of_word n.word s c.leaf_row-mark.result c.from_i64-number.result z c.leaf_row-mark.ensures c.from_i64-number.ensures c.is_some.result c.is_some.ensures in
    let t : ◌≡◌ {A = Result (Unit {0}) Stop} (Ok tt) (leaf_test (is_some (n.word (leaf_row s).1)) a.rows.count a.rows.room s) =
    c.in_ok-check_leaf.ensures ∙ ap (λ x. leaf_test x a.rows.count a.rows.room s) q in
    leaf_answers (λ v. is_some (n.word v)) b a.length (number_leaf p.width p.whole a.rows a.numbers b) c.args.depth s a.rows.count _ c.if-body-self.false c.if-depth-ne0.false (length-listed (number_row p.width p.whole a.rows a.numbers b) a.rows.count) t

pub returns-clause-writes : goal.returns-clause-writes
returns-clause-writes g c =
    let a = c.args.self.now in
    let b = c.args.body.now in
    let s = c.args.step in
    let n = g.T.Native.ArrowNativeType in
    let p = g.T.ArrowPrimitiveType in
    let m = g.met.T in
    let z : SFits w64 c.leaf_row-mark.result.1 = search rules in
    let q = range_told n.of_word n.word s c.leaf_row-mark.result c.from_i64-number.result z c.leaf_row-mark.ensures c.from_i64-number.ensures c.is_some.result c.is_some.ensures in
    let t : ◌≡◌ {A = Result (Unit {0}) Stop} (Ok tt) (leaf_test (is_some (n.word (leaf_row s).1)) a.rows.count a.rows.room s) =
    c.in_ok-check_leaf.ensures ∙ ap (λ x. leaf_test x a.rows.count a.rows.room s) q in
    let r = tied_read {f = λ k. n.whole (n.of_word k)} m.ArrowPrimitiveType.native_width m.ArrowPrimitiveType.native_whole m.Native.ArrowNativeType.word_read in
    let h : c.from_i64-number.result ≡ Some c.in_ok-number.number = search rules in
    let k = word_taken n.of_word n.word s c.leaf_row-mark.result c.from_i64-number.result z c.leaf_row-mark.ensures c.from_i64-number.ensures p.whole n.WIDTH p.width n.to_word m.ArrowPrimitiveType.native_width m.Native.ArrowNativeType.word_of_number m.Native.ArrowNativeType.zero_word r a.rows.count a.rows.room t c.in_ok-number.number h in
    let F : Bool → ℕ → ℕ → List ℕ = λ x v j. rows_put (λ i. put_number p.width a.rows a.numbers x v (a.rows.count + i)) j b in
    let e : c.put_rows.new.body ≡ F c.leaf_row-mark.result.0 (n.to_word c.in_ok-number.number) c.slots-n.result = c.put_rows.ensures in
    e ∙ ap (λ x. F x.0 (n.to_word c.in_ok-number.number) c.slots-n.result) c.leaf_row-mark.ensures ∙ ap (λ v. F (leaf_row s).0 v c.slots-n.result) k ∙ ap (F (leaf_row s).0 (unwrap_or (n.word (leaf_row s).1) 0)) c.slots-n.ensures
