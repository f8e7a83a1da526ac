use Rattle.std.proofs.lemmas.Result.{err_from_is_err_and}
use Rattle.std.proofs.Common.{◌≡◌, ◌+◌, ◌-◌, refl, ◌∙◌, arith}
use Rattle.checker.proofs.DocumentWords.{words_few}
use Rattle.checker.proofs.FromLaws.{from_none, node_at_lem, from_ask, from_goes, from_stops}
use Rattle.checker.proofs.paragraphs_from.Goals as goal

pub overflow_add-j-end : goal.overflow_add-j-end
overflow_add-j-end c =
    let e = c.requires.ends in
    let few = words_few c.args.doc.now c.requires.read in
    omega arith

pub loop-j-init : goal.loop-j-init
loop-j-init c =
    let e : c.args.i + c.args.m - c.args.i ≡ c.args.m = omega arith in
    rw e (c.requires, refl, λ d' r h. h)

pub loop-j-preserved : goal.loop-j-preserved
loop-j-preserved c =
    let n = c.args.i + c.args.m in
    let e : n - (c.loop-j.j + 1) ≡ n - c.loop-j.j - 1 = omega arith in
    rw e (
      from_ask _ _ _ _ _ _ c.loop-j.invariant.0 (omega arith) _ _ _ _ _ c.enter.ensures c.in_ok-enter.was c.enter.auto.a c.enter.auto.work,
      c.enter.auto.dict ∙ c.loop-j.invariant.1,
      λ d' r h. c.loop-j.invariant.2 d' r (from_goes _ _ _ (omega arith) _ (node_at_lem _ _ _ _ c.word-n.ensures.0 c.operand.ensures.0) _ _ _ _ _ _ _ c.enter.ensures c.in_ok-enter.was c.enter.auto.dict d' r h),
    )

pub returns : goal.returns
returns c = λ D R. c.loop-j.invariant.2 _ _ (λ E S. from_none _ _ _ (omega arith) _ _ E S) D R

pub returns-in_err-enter : goal.returns-in_err-enter
returns-in_err-enter c =
    let p = err_from_is_err_and c.from_residual.result c.from_residual.ensures.1 in
    λ D R. rw (p.1, p.2) (c.loop-j.invariant.2 _ _ (λ E S. from_stops _ _ _ (omega arith) _ (node_at_lem _ _ _ _ c.word-n.ensures.0 c.operand.ensures.0) _ _ _ _ _ _ _ c.enter.ensures _ _ c.in_err-enter.was E S) D R)
