-- When classes of nodes have finite types ("Types are finite"), and these types.
use Rattle.std.specs.Prelude.{suc, zero, ℕ, Bool, false, true, List, [], ◌∷◌, map}
use Rattle.types_rules.specs.Follows.{View, shape, unk}
use Rattle.types_rules.specs.Former.{and}
use Rattle.types_rules.specs.Types.{Ty, Tys, node, tcons, tnil}

unfoldable pub from_list : List Ty → Tys
from_list [] = tnil
from_list (g ∷ l) = tcons g (from_list l)

unfoldable pub allb : {N : Type 0} → (N → Bool) → List N → Bool
allb p [] = true
allb p (n ∷ ns) = and (p n) (allb p ns)

-- Is the depth below n at most d? With r the representatives.
unfoldable pub bounded_view : {N : Type 0} → (N → Bool) → View N → Bool
bounded_view f unk = true
bounded_view f (shape h cs) = allb f cs

unfoldable pub bounded : {N : Type 0} → (N → N) → (N → View N) → ℕ → N → Bool
bounded r view zero n = false
bounded r view (suc d) n = bounded_view (λ c. bounded r view d c) (view (r n))

-- The type of n, with τ at the unknowns.
unfoldable pub type_of_view : {N : Type 0} → (N → Ty) → Ty → View N → Ty
type_of_view f g unk = g
type_of_view f g (shape h cs) = node h (from_list (map f cs))

unfoldable pub type_of : {N : Type 0} → (N → N) → (N → View N) → (N → Ty) → ℕ → N → Ty
type_of r view τ zero n = τ (r n)
type_of r view τ (suc d) n = type_of_view (λ c. type_of r view τ d c) (τ (r n)) (view (r n))
