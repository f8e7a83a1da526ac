use Rattle.values.specs.Value.{encode}
use Rattle.values.specs.Held.{over}
use Rattle.values.specs.declared.held.Held.{Held}
use Rattle.values.proofs.Holding.{held_len}
use mathlib.Core.Path.{ap}
use native.Mathlib.Omega.{arith}
use Rattle.evaluator_scope.proofs.named.bounded.Goals as goal

pub returns-then-len-gt-VALUE : goal.returns-then-len-gt-VALUE
unfolding over
returns-then-len-gt-VALUE c = (omega (arith, ap (λ (h : Held). h.len) c.over.ensures), λ x g. absurd (omega (arith, c.if-len-gt-VALUE.true, held_len c.args.v (encode x) g.words g.short, g.short)))
