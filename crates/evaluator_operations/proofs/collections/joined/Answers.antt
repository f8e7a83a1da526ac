use mathlib.Core.Path.{◌∙◌, ap}
use mathlib.Core.List.{List, ◌++◌}
use Prim.Native.Nat.{ℕ}
use Rattle.values.specs.Held.{keep}
use Rattle.evaluator_operations.proofs.OperationLaws.{held_whole}
use Rattle.evaluator_operations.proofs.collections.joined.Goals as goal

pub returns : goal.returns
returns c = λ ws x e h. c.append.ensures ws e ∙ ap (λ (l : List ℕ). keep (ws ++ l)) (c.span.ensures ∙ held_whole _ x h)
