use Rattle.std.proofs.Common.{◌∙◌}
use Rattle.values.proofs.Holding.{built_keep, built_over}
use Rattle.values.proofs.building.built.Goals as goal

pub returns-then-at-gt-VALUE : goal.returns-then-at-gt-VALUE
returns-then-at-gt-VALUE c = λ ws b. c.over.ensures ∙ built_over _ ws _ b c.if-at-gt-VALUE.true

pub returns : goal.returns
returns c = λ ws b. built_keep _ ws _ b c.if-at-gt-VALUE.false
