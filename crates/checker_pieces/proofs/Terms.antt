-- Terms, and what valuations make of them.
use mathlib.Core.Path.{◌≡◌, ap, refl}
use mathlib.Core.List.{List}
use Prim.Native.Nat.{ℕ}
use Rattle.types_rules.specs.Equations.{In}
use Rattle.types_rules.specs.Types.{tcons, node, Term, Terms, unknown, con, nil, cons, under, unders, Each, Eachs}
use Rattle.checker_rules.specs.Unknowns.{Valuation}

-- Valuations that agree on the unknowns of a term give it one type.
mutual
  unfolding under Each

  pub under_same : (U : List ℕ) (τ τ' : Valuation) → ((x : ℕ) → In x U → τ x ≡ τ' x) → (a : Term) → Each (λ x. In x U) a → under τ a ≡ under τ' a
  under_same U τ τ' h (unknown x) i = h x i
  under_same U τ τ' h (con k ts) i = ap (node k) (unders_same U τ τ' h ts i)

  pub unders_same : (U : List ℕ) (τ τ' : Valuation) → ((x : ℕ) → In x U → τ x ≡ τ' x) → (ts : Terms) → Eachs (λ x. In x U) ts → unders τ ts ≡ unders τ' ts
  unders_same U τ τ' h nil i = refl
  unders_same U τ τ' h (cons a ts) i = λ z. tcons (under_same U τ τ' h a i.0 z) (unders_same U τ τ' h ts i.1 z)
