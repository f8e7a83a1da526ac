use mathlib.Core.Path.{refl, sym, ◌∙◌}
use native.Mathlib.Omega.{arith}
use mathlib.Core.Bool.{true, false}
use Rattle.types_rules.proofs.Terms.{bool_no}
use Rattle.types_cells.specs.Settled.{word_at}
use Rattle.types_solver.proofs.openness.is_open.Goals as goal

pub returns-then-word-lt-SETTLED : goal.returns-then-word-lt-SETTLED
unfolding word_at
returns-then-word-lt-SETTLED c = let e = c.word.ensures.0 in let l = c.if-word-lt-SETTLED.true in record { holds = λ z. (sym c.field.ensures.0 ∙ c.if-field-ne-UNKNOWN.false, omega arith); fails = λ z. absurd (bool_no true refl z) }

pub returns : goal.returns
unfolding word_at
returns c = let e = c.word.ensures.0 in let l = c.if-word-lt-SETTLED.false in record { holds = λ z. absurd (bool_no false z refl); fails = λ z q. let y = q.1 in omega arith }
