use mathlib.Core.Path.{◌≡◌}
use mathlib.Core.List.{◌∷◌}
use Rattle.values.specs.Held.{keep}
use Rattle.values.specs.Value.{encodes}
use Rattle.values.specs.Givens.{elements_from}
use Rattle.values_forms.proofs.givens.given_set.Given as goal

abbrev pub invariant-loop-k : goal.invariant-loop-k
invariant-loop-k l = l.v ≡ keep (3 ∷ l.n ∷ encodes (elements_from l.g 0 l.k))
