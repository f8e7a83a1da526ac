use lib.ListN.{get_or}
use Rattle.reader_rules.specs.Decode.{tree_of, expr_at}
use Rattle.states_rules.specs.Names.{document_names}
use Rattle.evaluator_rules.specs.Rules.{test}
use Rattle.evaluator_scope.specs.Named.{Among, said}
use Rattle.evaluator_scope.proofs.BlockLaws.{scoped_same}
use Rattle.evaluator_operations.proofs.ToldLaws.{exit_told}
use Rattle.evaluator_paragraphs.proofs.StepLaws.{names_end, names_stop, names_go, names_failed}
use Rattle.evaluator_scope.proofs.NamedLaws.{declares_here, declares_later}
use mathlib.Core.Path.{sym, subst, ◌∙◌}
use native.Mathlib.Omega.{arith}
use Prim.Native.Nat.{ℕ}
use Rattle.evaluator_paragraphs.proofs.test_names.Goals as goal

pub held_name-requires : goal.held_name-requires
held_name-requires c =
    (c.requires.0, subst (λ (n : ℕ). Among n (document_names (tree_of c.args.doc.now))) (sym c.word-in-loop-i.ensures.0) (declares_here c.args.x.now c.loop-i.i (omega arith) c.loop-i.invariant.2))

pub returns-in_err-y : goal.returns-in_err-y
returns-in_err-y c =
    let d = c.args.doc.now in
    let st = c.args.state.now in
    let x = c.args.x.now in
    let kept = c.loop-i.invariant.1 in
    record {
      kept = c.in_err-y.ensures.kept ∙ kept;
      told = λ scope g own.
          let t = rw (c.word.ensures.0, c.word-in-loop-i.ensures.0) at (c.in_err-y.ensures.told (said d st c.word-in-loop-i.result) c.held_name.ensures scope (scoped_same st _ _ c.args.n kept g)) in
          exit_told c.from_residual.ensures.1 (c.loop-i.invariant.3 scope g _ (names_stop c.args.v (test (expr_at d (get_or x 1 0)) scope) x c.loop-i.i (said d st) c.loop-i-test.true t) own);
    }

pub returns-then-not-y : goal.returns-then-not-y
returns-then-not-y c =
    let d = c.args.doc.now in
    let st = c.args.state.now in
    let x = c.args.x.now in
    let kept = c.loop-i.invariant.1 in
    record {
      kept = c.in_ok-y.ensures.kept ∙ kept;
      told = λ scope g.
          let t = rw (c.word.ensures.0, c.word-in-loop-i.ensures.0) at (c.in_ok-y.ensures.told (said d st c.word-in-loop-i.result) c.held_name.ensures scope (scoped_same st _ _ c.args.n kept g)) in
          c.loop-i.invariant.3 scope g _ (names_failed c.args.v (test (expr_at d (get_or x 1 0)) scope) x c.loop-i.i (said d st) c.loop-i-test.true t c.if-not-y.true);
    }

pub loop-i-preserved : goal.loop-i-preserved
loop-i-preserved c =
    let d = c.args.doc.now in
    let st = c.args.state.now in
    let x = c.args.x.now in
    let kept = c.loop-i.invariant.1 in (
      c.tests.auto.work ∙ c.loop-i.invariant.0,
      c.in_ok-y.ensures.kept ∙ kept,
      declares_later x c.loop-i.i c.loop-i-test.true c.loop-i.invariant.2,
      λ scope g r m.
          let t = rw (c.word.ensures.0, c.word-in-loop-i.ensures.0) at (c.in_ok-y.ensures.told (said d st c.word-in-loop-i.result) c.held_name.ensures scope (scoped_same st _ _ c.args.n kept g)) in
          c.loop-i.invariant.3 scope g r (names_go c.args.v (test (expr_at d (get_or x 1 0)) scope) x c.loop-i.i (said d st) c.loop-i-test.true t c.if-not-y.false m),
    )

pub returns : goal.returns
returns c =
    let d = c.args.doc.now in
    let st = c.args.state.now in
    let x = c.args.x.now in
    record { kept = c.loop-i.invariant.1; told = λ scope g. c.loop-i.invariant.3 scope g _ (names_end c.args.v (test (expr_at d (get_or x 1 0)) scope) x c.loop-i.i (said d st) (omega (arith, c.loop-i-test.false))) }
