use mathlib.Core.Path.{◌≡◌, sym, ap, ◌∙◌}
use native.Mathlib.Omega.{arith}
use Rattle.evaluator_scope.specs.Blocks.{last_block}
use Rattle.evaluator_scope.proofs.BlockLaws.{block_hit, block_hidden, block_other, block_none}
use Rattle.evaluator_scope.proofs.find.Goals as goal

pub returns-then-word-ne-WAITING : goal.returns-then-word-ne-WAITING
returns-then-word-ne-WAITING c =
    let h = sym (block_hit c.args.work.now c.args.name _ c.loop-b-test.true (sym c.word.ensures.0 ∙ c.if-word-name.true) (λ e. c.if-word-ne-WAITING.true (c.word-then-word-name.ensures.0 ∙ e))) in
    (c.loop-b.invariant ∙ h ∙ omega arith, omega arith)

pub loop-b-preserved-else-word-ne-WAITING : goal.loop-b-preserved-else-word-ne-WAITING
loop-b-preserved-else-word-ne-WAITING c = c.loop-b.invariant ∙ block_hidden _ _ _ c.loop-b-test.true (sym c.word-then-word-name.ensures.0 ∙ c.if-word-ne-WAITING.false)

pub loop-b-preserved : goal.loop-b-preserved
loop-b-preserved c = c.loop-b.invariant ∙ block_other _ _ _ c.loop-b-test.true (λ e. c.if-word-name.false (c.word.ensures.0 ∙ e))

pub returns : goal.returns
returns c =
    let z : c.loop-b.b ≡ 0 = omega arith in
    c.loop-b.invariant ∙ ap (last_block c.args.work.now c.args.name) z ∙ sym (block_none _ _)
