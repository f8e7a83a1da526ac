-- Both sides of the equations of a node: cells, and the terms that they denote.
use mathlib.Core.Path.{◌≡◌, sym, ◌∙◌}
use mathlib.Core.List.{List, [], ◌∷◌}
use Prim.Native.Nat.{ℕ, ◌+◌, ◌≤◌, ◌<◌}
use native.Mathlib.Omega.{arith}
use Rattle.types_rules.proofs.Filling.{high_pairs, high_term}
use Rattle.types_rules.specs.Equations.{Pairs, Solves, end, pair}
use Rattle.types_rules.specs.Types.{Term}
use Rattle.types_solver.specs.Equation.{pairs_with, Within}
use Rattle.types_solver.proofs.Equating.{with_before}
use Rattle.checker_pieces.specs.Stage.{SidesBy}

pub sides_map : (R S : ℕ → Term → Type 0) → ((c : ℕ) (a : Term) → R c a → S c a) → (l : List ℕ) (y k : ℕ) (es : Pairs Term) → SidesBy R l y k es → SidesBy S l y k es
unfolding SidesBy
sides_map R S f [] y k end r = tt
sides_map R S f [] y k (pair a b es) r = absurd r
sides_map R S f (c ∷ l) y k end r = absurd r
sides_map R S f (c ∷ l) y k (pair a b es) r = (f c a r.0, f y b r.1, sides_map R S f l (y + k) k es r.2)

pub sides_high : (R : ℕ → Term → Type 0) (B : ℕ) (l : List ℕ) (y k : ℕ) (es : Pairs Term) → high_pairs es ≤ B → SidesBy R l y k es → SidesBy (λ c a. R c a × (high_term a ≤ B)) l y k es
unfolding SidesBy high_pairs
sides_high R B [] y k end q r = tt
sides_high R B [] y k (pair a b es) q r = absurd r
sides_high R B (c ∷ l) y k end q r = absurd r
sides_high R B (c ∷ l) y k (pair a b es) q r = ((r.0, omega arith), (r.1, omega arith), sides_high R B l (y + k) k es (omega arith) r.2)

pub sides_within : (n : ℕ) (l : List ℕ) (y k : ℕ) (es : Pairs Term) → SidesBy (λ c a. c < n) l y k es → Within n l y k
unfolding SidesBy Within
sides_within n [] y k es r = tt
sides_within n (c ∷ l) y k end r = absurd r
sides_within n (c ∷ l) y k (pair a b es) r = (r.0, r.1, sides_within n l (y + k) k es r.2)

-- Values σ of cells and v of terms that are equal on both sides: σ solves the equations of the cells exactly where v solves those of the terms.
module _ {D : Type 0} (σ : ℕ → D) (v : Term → D) (R : ℕ → Term → Type 0) (f : (c : ℕ) (a : Term) → R c a → σ c ≡ v a) where
  pub sides_solve : (l : List ℕ) (y k : ℕ) (es : Pairs Term) → SidesBy R l y k es → (P : Pairs ℕ) → Solves v es → Solves σ P → Solves σ (pairs_with l y k P)
  unfolding SidesBy pairs_with
  sides_solve [] y k end r P h q = q
  sides_solve [] y k (pair a b es) r P h q = absurd r
  sides_solve (c ∷ l) y k end r P h q = absurd r
  sides_solve (c ∷ l) y k (pair a b es) r P h q = sides_solve l (y + k) k es r.2 (pair c y P) h.1 (f c a r.0 ∙ h.0 ∙ sym (f y b r.1), q)

  pub sides_solved : (l : List ℕ) (y k : ℕ) (es : Pairs Term) → SidesBy R l y k es → (P : Pairs ℕ) → Solves σ (pairs_with l y k P) → Solves v es
  unfolding SidesBy pairs_with
  sides_solved [] y k end r P h = tt
  sides_solved [] y k (pair a b es) r P h = absurd r
  sides_solved (c ∷ l) y k end r P h = absurd r
  sides_solved (c ∷ l) y k (pair a b es) r P h =
      (sym (f c a r.0) ∙ (with_before σ l (y + k) k (pair c y P) h).0 ∙ f y b r.1, sides_solved l (y + k) k es r.2 (pair c y P) h)
