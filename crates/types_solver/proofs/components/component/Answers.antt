use mathlib.Core.Path.{sym, ◌∙◌}
use mathlib.Core.Logic.{⊎_elim}
use native.Mathlib.Nat.{eq-zero-or-pos}
use native.Mathlib.Omega.{arith}
use Rattle.types_solver.proofs.Looking.{looking_root, looking_few, looked_root}
use Rattle.types_solver.proofs.components.component.Goals as goal

pub field-requires : goal.field-requires
field-requires c = let l = looking_few _ _ _ (looking_root _ _ _ _ c.requires c.find-r.ensures) in (omega arith, omega arith)

pub unknown_component-requires : goal.unknown_component-requires
unknown_component-requires c = (looking_root _ _ _ _ c.requires c.find-r.ensures, sym c.field.ensures.0 ∙ c.if-field-eq-UNKNOWN.true)

pub returns-then-field-eq-UNKNOWN : goal.returns-then-field-eq-UNKNOWN
returns-then-field-eq-UNKNOWN c = looked_root _ _ _ _ _ _ c.find-r.ensures c.unknown_component.ensures

pub former_component-requires : goal.former_component-requires
former_component-requires c = (looking_root _ _ _ _ c.requires c.find-r.ensures, ⊎_elim (λ z. absurd (c.if-field-eq-UNKNOWN.false (c.field.ensures.0 ∙ z))) (λ p. p) (eq-zero-or-pos _))

pub returns : goal.returns
returns c = looked_root _ _ _ _ _ _ c.find-r.ensures c.former_component.ensures
