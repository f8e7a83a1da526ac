use mathlib.Core.Path.{sym, ◌∙◌}
use native.Mathlib.Omega.{arith}
use Rattle.types_unifier.proofs.Turns.{pos}
use Rattle.types_solver.proofs.Visiting.{arity_0, arity_count}
use Rattle.types_solver.proofs.acyclicity.arity.Goals as goal

pub returns-then-field-eq-UNKNOWN : goal.returns-then-field-eq-UNKNOWN
returns-then-field-eq-UNKNOWN c = (arity_0 _ _ (sym c.field.ensures.0 ∙ c.if-field-eq-UNKNOWN.true), omega arith)

pub returns : goal.returns
returns c = (c.field-2.ensures.0 ∙ arity_count _ _ (pos c.field.ensures.0 c.if-field-eq-UNKNOWN.false), c.field-2.ensures.1)
