-- Types, terms (types with unknowns), what an assignment of types to the unknowns makes of a term, and sizes ("a type's size counts each of these formers once").
use Rattle.std.specs.Prelude.{◌+◌, suc, ℕ}
use Rattle.types_rules.specs.Former.{Former, int, power}

-- The document's types.
mutual
  pub data Ty : Type 0 where
    node : Former → Tys → Ty

  pub data Tys : Type 0 where
    tnil : Tys
    tcons : Ty → Tys → Tys

-- Types with unknowns.
mutual
  pub data Term : Type 0 where
    unknown : ℕ → Term
    con : Former → Terms → Term

  pub data Terms : Type 0 where
    nil : Terms
    cons : Term → Terms → Terms

unfoldable mutual
  pub under : (ℕ → Ty) → Term → Ty
  under σ (unknown x) = σ x
  under σ (con h ts) = node h (unders σ ts)

  pub unders : (ℕ → Ty) → Terms → Tys
  unders σ nil = tnil
  unders σ (cons t ts) = tcons (under σ t) (unders σ ts)

-- Sizes, and what an unknown inside a type costs.
unfoldable mutual
  pub size : Ty → ℕ
  size (node h ts) = suc (sizes ts)

  pub sizes : Tys → ℕ
  sizes tnil = 0
  sizes (tcons t ts) = size t + sizes ts

unfoldable mutual
  pub term_size : Term → ℕ
  term_size (unknown x) = 1
  term_size (con h ts) = suc (term_sizes ts)

  pub term_sizes : Terms → ℕ
  term_sizes nil = 0
  term_sizes (cons t ts) = term_size t + term_sizes ts

-- Every unknown of t has P.
unfoldable mutual
  pub Each : (ℕ → Type 0) → Term → Type 0
  Each P (unknown y) = P y
  Each P (con h ts) = Eachs P ts

  pub Eachs : (ℕ → Type 0) → Terms → Type 0
  Eachs P nil = Unit {0}
  Eachs P (cons t ts) = Each P t × Eachs P ts

abbrev pub integer_type : Ty
integer_type = node int tnil

abbrev pub ℙℤ : Ty
ℙℤ = node power (tcons integer_type tnil)
