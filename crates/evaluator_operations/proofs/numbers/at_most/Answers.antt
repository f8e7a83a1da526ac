use mathlib.Core.Path.{sym, ◌∙◌}
use mir.Syntax.{w32}
use mir.Val.{SFits}
use mir.ValLaws.{to_z-of_z}
use Rattle.evaluator_operations.proofs.OperationLaws.{at_most_left, at_most_right, at_most_both}
use Rattle.evaluator_operations.proofs.numbers.at_most.Goals as goal

pub returns-in-None : goal.returns-in-None
returns-in-None c = λ x y hx hy. at_most_left _ 0 x y c.refusal.ensures (sym c.in-None.is ∙ hx.integer)

pub returns-in-None-b : goal.returns-in-None-b
returns-in-None-b c = λ x y hx hy. at_most_right _ 0 x y c.refusal-in-None-b.ensures hx.narrow _ (sym c.in-Some.is ∙ hx.integer) (sym c.in-None-b.is ∙ hy.integer)

pub returns-in-Some-b : goal.returns-in-Some-b
returns-in-Some-b c =
    λ x y hx hy.
    let fi : SFits w32 c.in-Some.i = record { sfits = c.in-Some.known_told-1-own.given.0.1 } in
    let fj : SFits w32 c.in-Some-b.j = record { sfits = c.in-Some-b.known_told-in-Some-1-own.given.0.1 } in
    at_most_both _ 0 x y hx.narrow hy.narrow _ _ (sym c.in-Some.is ∙ hx.integer) (sym c.in-Some-b.is ∙ hy.integer) (rw (to_z-of_z w32 _ fi, to_z-of_z w32 _ fj))
