-- Sizes of terms without unknowns, and a type of any size.
use mathlib.Core.Path.{◌≡◌, refl, ap, ap₂}
use Prim.Native.Nat.{ℕ, zero, suc, ◌+◌, ◌<◌}
use native.Mathlib.Omega.{arith}
use Rattle.types_rules.specs.Former.{power}
use Rattle.types_rules.specs.Types.{Ty, node, tnil, tcons, Term, unknown, con, Terms, nil, cons, under, unders, size, sizes, term_size, term_sizes, Each}
use Rattle.types_rules.specs.Types.{Eachs, integer_type}
use Rattle.checker_rules.specs.Unknowns.{Valuation}

mutual
  unfolding under term_size size Each

  pub size_each : (σ : Valuation) (t : Term) → Each (λ y. ⊥) t → size (under σ t) ≡ term_size t
  size_each σ (unknown x) h = absurd h
  size_each σ (con k ts) h = ap suc (sizes_each σ ts h)

  sizes_each : (σ : Valuation) (ts : Terms) → Eachs (λ y. ⊥) ts → sizes (unders σ ts) ≡ term_sizes ts
  sizes_each σ nil h = refl
  sizes_each σ (cons t ts) h = ap₂ ◌+◌ (size_each σ t h.0) (sizes_each σ ts h.1)

-- A type of more than n formers.
unfoldable pub tower : ℕ → Ty
tower zero = integer_type
tower (suc n) = node power (tcons (tower n) tnil)

pub tower_size : (n : ℕ) → n < size (tower n)
unfolding tower size
tower_size zero = omega arith
tower_size (suc n) = omega (arith, tower_size n)
