-- The component of a binding (finding 35).
use Rattle.std.specs.Prelude.{ℕ, eqb, Bool, false, true, List, [], ◌∷◌}
use Rattle.std.proofs.Math.Option.{Option, none, some}
use Rattle.types_rules.specs.Former.{identifiers}
use Rattle.types_rules.specs.Substitution.{member}
use Rattle.types_rules.specs.Types.{Term, Terms, Ty, Tys, con, cons, nil, node, tcons, tnil, unknown}

-- The term is a binding with component c. Every solution of a state makes a term one exactly where, resolved, it is one (`every-component`).
unfoldable pub has : ℕ → Term → Bool
has c (unknown x) = false
has c (con h ts) = member c (identifiers h)

unfoldable pub has_type : ℕ → Ty → Bool
has_type c (node h ts) = member c (identifiers h)

-- The type of the component c.
unfoldable pub pick : ℕ → List ℕ → Terms → Option Term
pick c [] ts = none
pick c (i ∷ is) nil = none
pick c (i ∷ is) (cons t ts) = elim (eqb i c) [ true ↦ some t | false ↦ pick c is ts ]

unfoldable pub pick_type : ℕ → List ℕ → Tys → Option Ty
pick_type c [] ts = none
pick_type c (i ∷ is) tnil = none
pick_type c (i ∷ is) (tcons t ts) = elim (eqb i c) [ true ↦ some t | false ↦ pick_type c is ts ]

unfoldable pub component : ℕ → Term → Option Term
component c (unknown x) = none
component c (con h ts) = pick c (identifiers h) ts

unfoldable pub component_type : ℕ → Ty → Option Ty
component_type c (node h ts) = pick_type c (identifiers h) ts
