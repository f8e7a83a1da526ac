-- Possibly infinite types, and what an assignment of them to the unknowns makes of a term. Where equations put no different formers side by side, such types
-- fit, and only there (proofs/Infinite): 39 says that all of them are infinite.
use Rattle.std.specs.Prelude.{suc, zero, ℕ, eqb, length, false, true, List, [], ◌∷◌}
use Rattle.std.proofs.Math.Option.{Option, none, some}
use Rattle.types_rules.specs.Former.{Former, identifiers}
use Rattle.types_rules.specs.Types.{Term, Terms, Ty, Tys, con, cons, nil, node, tcons, tnil, unknown}

-- A type with unknowns in a structure with formers.
unfoldable mutual
  pub eval : {D : Type 0} → (Former → List D → D) → (ℕ → D) → Term → D
  eval build σ (unknown x) = σ x
  eval build σ (con h ts) = build h (evals build σ ts)

  pub evals : {D : Type 0} → (Former → List D → D) → (ℕ → D) → Terms → List D
  evals build σ nil = []
  evals build σ (cons t ts) = eval build σ t ∷ evals build σ ts

-- Possibly infinite types: what stands at each path, the former and the number of its parts.
pub data Info : Type 0 where
  nothing : Info
  info : Former → ℕ → Info

abbrev pub Inf : Type 0
Inf = List ℕ → Info

unfoldable pub at_path : {D : Type 0} → (D → Info) → List D → ℕ → Info
at_path f [] i = nothing
at_path f (d ∷ ds) zero = f d
at_path f (d ∷ ds) (suc i) = at_path f ds i

unfoldable pub mk_i : Former → List Inf → Inf
mk_i h ds [] = info h (length ds)
mk_i h ds (i ∷ p) = at_path (λ d. d p) ds i

-- A type as a possibly infinite one.
unfoldable mutual
  pub whole : Ty → Inf
  whole (node h gs) = mk_i h (wholes gs)

  pub wholes : Tys → List Inf
  wholes tnil = []
  wholes (tcons g gs) = whole g ∷ wholes gs

-- What the possibly infinite types ρ make of a term.
abbrev pub under_inf : (ℕ → Inf) → Term → Inf
under_inf ρ t = eval mk_i ρ t

-- The type of the component c, where the former at the top has its identifier.
unfoldable pub place_inf : ℕ → List ℕ → ℕ → (ℕ → Inf) → Option Inf
place_inf c [] n e = none
place_inf c (i ∷ is) zero e = none
place_inf c (i ∷ is) (suc n) e = elim (eqb i c) [ true ↦ some (e zero) | false ↦ place_inf c is n (λ k. e (suc k)) ]

unfoldable pub top_inf : ℕ → Info → (ℕ → Inf) → Option Inf
top_inf c nothing e = none
top_inf c (info h n) e = place_inf c (identifiers h) n e

unfoldable pub component_inf : ℕ → Inf → Option Inf
component_inf c d = top_inf c (d []) (λ k p. d (k ∷ p))
