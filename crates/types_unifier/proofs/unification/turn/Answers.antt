use mathlib.Core.Path.{sym, subst}
use Rattle.types_cells.specs.Calls.{Known, Root}
use Rattle.types_unifier.proofs.Turns.{known_a, known_b, skip_turned}
use Rattle.types_unifier.proofs.unification.turn.Goals as goal

pub find-x-requires : goal.find-x-requires
find-x-requires c = subst (λ z. Known c.args.a.now z) (sym c.word.ensures.0) (known_a _ _ _ c.requires)

pub find-y-requires : goal.find-y-requires
find-y-requires c = subst (λ z. Known c.args.a.now z) (sym c.word-2.ensures.0) (known_b _ _ _ c.requires)

pub returns-then-x-y : goal.returns-then-x-y
returns-then-x-y c =
    skip_turned _ _ _ c.requires _ _ (subst (λ z. Root c.args.a.now z c.find-x.result) c.word.ensures.0 c.find-x.ensures)
    (subst (λ z. Root c.args.a.now z c.find-y.result) c.word-2.ensures.0 c.find-y.ensures) c.if-x-y.true
