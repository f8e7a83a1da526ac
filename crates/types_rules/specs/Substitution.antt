-- Substitutions: bindings of unknowns to terms, the newest first; and the states that unification goes through.
use Rattle.std.specs.Prelude.{ℕ, eqb, Bool, false, true, List, [], ◌∷◌, ◌≡◌}
use Rattle.types_rules.specs.Former.{and}
use Rattle.types_rules.specs.Types.{Each, Term, Terms, Ty, con, cons, nil, under, unknown}

-- Does x stand in t?
unfoldable pub or : Bool → Bool → Bool
or true b = true
or false b = b

unfoldable mutual
  pub occurs : ℕ → Term → Bool
  occurs x (unknown y) = eqb y x
  occurs x (con h ts) = occurs_any x ts

  pub occurs_any : ℕ → Terms → Bool
  occurs_any x nil = false
  occurs_any x (cons t ts) = or (occurs x t) (occurs_any x ts)

-- t with u for x.
unfoldable mutual
  pub replace : ℕ → Term → Term → Term
  replace x u (unknown y) = elim (eqb y x) [ true ↦ u | false ↦ unknown y ]
  replace x u (con h ts) = con h (replaces x u ts)

  pub replaces : ℕ → Term → Terms → Terms
  replaces x u nil = nil
  replaces x u (cons t ts) = cons (replace x u t) (replaces x u ts)

-- x ↦ g, and τ elsewhere.
unfoldable pub update : (ℕ → Ty) → ℕ → Ty → ℕ → Ty
update τ x g y = elim (eqb y x) [ true ↦ g | false ↦ τ y ]

-- The unknowns that are bound, the newest binding first.
pub data Substitution : Type 0 where
  empty : Substitution
  bind : ℕ → Term → Substitution → Substitution

abbrev pub Respects : (ℕ → Ty) → Substitution → Type 0
Respects σ empty = Unit {0}
Respects σ (bind x t s) = (σ x ≡ under σ t) × Respects σ s

unfoldable pub resolve : Substitution → Term → Term
resolve empty t = t
resolve (bind x u s) t = replace x u (resolve s t)

unfoldable pub without : ℕ → List ℕ → List ℕ
without x [] = []
without x (y ∷ ys) = elim (eqb y x) [ true ↦ without x ys | false ↦ y ∷ without x ys ]

-- Lists of unknowns.
unfoldable pub member : ℕ → List ℕ → Bool
member x [] = false
member x (y ∷ ys) = or (eqb y x) (member x ys)

-- The term has no unknown. A term has one type in all solutions of a state exactly where, resolved, it has none (`open-several`).
unfoldable mutual
  pub ground : Term → Bool
  ground (unknown x) = false
  ground (con h ts) = grounds ts

  pub grounds : Terms → Bool
  grounds nil = true
  grounds (cons t ts) = and (ground t) (grounds ts)

-- The solution of a state with the types τ at the free unknowns (`sol-sat`).
unfoldable pub sol : (ℕ → Ty) → Substitution → ℕ → Ty
sol τ empty = τ
sol τ (bind x t s) = sol (update τ x (under τ t)) s

-- The bindings are in order: F are the unknowns that are still free.
abbrev pub Tri : (ℕ → Type 0) → Substitution → Type 0
Tri F empty = Unit {0}
Tri F (bind x t s) = (F x → ⊥) × Each F t × Tri (λ y. eqb y x ≡ false → F y) s

-- All the unknowns, free or bound.
abbrev pub Base : (ℕ → Type 0) → Substitution → ℕ → Type 0
Base F empty y = F y
Base F (bind x t s) y = Base (λ z. eqb z x ≡ false → F z) s y

abbrev pub Dom : (ℕ → Type 0) → Substitution → Type 0
Dom N empty = Unit {0}
Dom N (bind x t s) = N x × Dom N s

-- A state: vs are the free unknowns, and N has all.
pub record State (N : ℕ → Type 0) (vs : List ℕ) (s : Substitution) : Type 0 where
  pub tri : Tri (λ y. member y vs ≡ true) s
  pub dom : Dom N s
  pub sub : (y : ℕ) → member y vs ≡ true → N y
  pub all : (y : ℕ) → N y → Base (λ y. member y vs ≡ true) s y
