-- What solutions in finite types say.
use mathlib.Core.Path.{◌≡◌, refl, ap₂}
use mathlib.Core.List.{List, [], ◌∷◌}
use Prim.Native.Nat.{ℕ}
use native.Mathlib.Omega.{arith}
use Rattle.types_rules.proofs.Classify.{build}
use Rattle.types_rules.specs.Equations.{AllP, Pairs, Solves, end, pair}
use Rattle.types_rules.specs.Finite.{from_list}
use Rattle.types_rules.specs.Former.{Former}
use Rattle.types_rules.specs.Types.{Ty}

gs_inj : (a b : List Ty) → from_list a ≡ from_list b → a ≡ b
unfolding from_list
gs_inj [] [] q = refl
gs_inj [] (y ∷ b) q = let z : ◌≡◌ {A = ℕ} 0 1 = cc in absurd (omega arith)
gs_inj (x ∷ a) [] q = let z : ◌≡◌ {A = ℕ} 0 1 = cc in absurd (omega arith)
gs_inj (x ∷ a) (y ∷ b) q = let e : x ≡ y = cc in let t : from_list a ≡ from_list b = cc in ap₂ ◌∷◌ e (gs_inj a b t)

pub mk_c : (h k : Former) (a b : List Ty) → build h a ≡ build k b → a ≡ b
mk_c h k a b q = let t : from_list a ≡ from_list b = cc in gs_inj a b t

pub sat_all : {D : Type 0} (σ : ℕ → D) (R : ℕ → ℕ → Type 0) → ((a b : ℕ) → R a b → σ a ≡ σ b) → (L : Pairs ℕ) → AllP R L → Solves σ L
sat_all σ R f end h = tt
sat_all σ R f (pair a b L) h = (f a b h.0, sat_all σ R f L h.1)
