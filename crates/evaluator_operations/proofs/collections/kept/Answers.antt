use Rattle.values.specs.Value.{encode}
use Rattle.values.proofs.Holding.{held_short, held_long}
use Rattle.evaluator_operations.proofs.OperationLaws.{keep_fine, keep_over}
use Rattle.evaluator_operations.proofs.collections.kept.Goals as goal

pub returns-then-v-gt-VALUE : goal.returns-then-v-gt-VALUE
returns-then-v-gt-VALUE c = λ x e n. keep_over _ x c.refusal.ensures (held_long _ (encode x) e c.if-v-gt-VALUE.true)

pub returns : goal.returns
returns c = λ x e n. keep_fine _ x (record { words = e; short = held_short _ (encode x) e c.if-v-gt-VALUE.false; narrow = n })
