-- Laws of types, finite or possibly infinite.
use mathlib.Core.List.{List, [], ◌∷◌}
use mathlib.Core.Path.{◌≡◌, ap, refl}
use Rattle.types_rules.proofs.Classify.{from_list_inj}
use Rattle.types_rules.proofs.Infinite.{mk_i_c, mk_i_h, whole_one}
use Rattle.types_rules.proofs.Solutions.{node_0, node_1}
use Rattle.types_rules.specs.Finite.{from_list}
use Rattle.types_rules.specs.Former.{Former}
use Rattle.types_rules.specs.Infinite.{whole as wholeInf, wholes as wholesInf}
use Rattle.types_rules.specs.Trees.{Extent, Tree, build, finite, infinite, whole}
use Rattle.types_rules.specs.Types.{Ty, Tys, node, tcons, tnil}

-- Formers are one-to-one.
pub build_former : (w : Extent) (h k : Former) (a b : List (Tree w)) → build w h a ≡ build w k b → h ≡ k
build_former finite h k a b q = node_0 _ _ _ _ q
build_former infinite h k a b q = mk_i_h _ _ _ _ q

pub build_parts : (w : Extent) (h k : Former) (a b : List (Tree w)) → build w h a ≡ build w k b → a ≡ b
build_parts finite h k a b q = from_list_inj a b (node_1 _ _ _ _ q)
build_parts infinite h k a b q = mk_i_c _ _ _ _ q

-- The document's types among them.
pub whole_same : (w : Extent) (g k : Ty) → whole w g ≡ whole w k → g ≡ k
whole_same finite g k q = q
whole_same infinite g k q = whole_one g k q

unfoldable pub wholes : (w : Extent) → Tys → List (Tree w)
wholes w tnil = []
wholes w (tcons g gs) = whole w g ∷ wholes w gs

from_wholes : (gs : Tys) → gs ≡ from_list (wholes finite gs)
unfolding wholes from_list
from_wholes tnil = refl
from_wholes (tcons g gs) = ap (tcons g) (from_wholes gs)

wholes_inf : (gs : Tys) → wholesInf gs ≡ wholes infinite gs
unfolding wholes wholeInf
wholes_inf tnil = refl
wholes_inf (tcons g gs) = ap (λ l. wholeInf g ∷ l) (wholes_inf gs)

pub whole_node : (w : Extent) (h : Former) (gs : Tys) → whole w (node h gs) ≡ build w h (wholes w gs)
unfolding wholeInf
whole_node finite h gs = ap (node h) (from_wholes gs)
whole_node infinite h gs = ap (build infinite h) (wholes_inf gs)
