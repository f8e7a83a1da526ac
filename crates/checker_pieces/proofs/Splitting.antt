-- 33 AND 39: the solutions of the store of possibly infinite types are the valuations of such types that meet the items so far, as those of types are. Each of
-- the former is a solution of types with stand-ins, filled (types_rules, proofs/Filling), so that what a piece says of types is enough.
use mathlib.Core.Path.{◌≡◌, sym, ap, fun_ext, ◌∙◌}
use mathlib.Core.List.{List}
use Prim.Native.Nat.{ℕ, suc, ◌+◌, ◌≤◌}
use native.Mathlib.Omega.{arith}
use Rattle.types_rules.proofs.Classify.{Links, by_solves, links, solution_by}
use Rattle.types_rules.proofs.Filling.{fill, fill_solution, fill_solves, fill_under, high_pairs, high_term, stand}
use Rattle.types_rules.specs.Equations.{Pairs, Solves}
use Rattle.types_rules.specs.Infinite.{Inf, under_inf}
use Rattle.types_rules.specs.Trees.{finite, infinite}
use Rattle.types_rules.specs.Types.{Ty, Term, under}
use Rattle.checker_rules.specs.Unknowns.{Valuation}
use Rattle.checker_rules.specs.Items.{◌⨾◌, Meets, MeetsIn}
use Rattle.checker_rules.proofs.EquationalItems.{Equational, equational}
use Rattle.types_cells.specs.Store.{frozen}
use Rattle.types_unifier.specs.Merging.{NoSolution}
use Rattle.types_solver.specs.Answers.{Finite, SolutionIn, SolutionOf}
use Rattle.types_solver.specs.Equation.{pairs_with}
use Rattle.types_solver.proofs.Equating.{with_before}
use Rattle.types_solver.proofs.StandIns.{filled, open_filled, open_solution, solution_finite, tally}
use Rattle.checker_pieces.specs.Piece.{Solution, Matches, Piece}
use Rattle.checker_pieces.specs.Stage.{Ghost, Cell, SidesBy, Sides}
use Rattle.checker_pieces.proofs.Between.{passes_after}
use Rattle.checker_pieces.proofs.Sides.{sides_high, sides_solve, sides_solved}

module _ (s d : List ℕ) (n : ℕ) (G : Ghost) (Q : Piece s d n G.equations G.before G.items G.known G.mentioned G.cells) where
  abbrev plain : (σ : ℕ → Ty) → Solution s d n G.equations σ → SolutionOf s d n G.equations
  plain σ S = record { σ = σ; fits = S.fits; sat = S.sat; obeys = S.obeys }

  -- The equations of the items.
  met : (τ : Valuation) × Meets (G.before ⨾ G.items) τ
  met = let q = Q.complete Q.some.0 Q.some.1 Q.start.0 Q.start.1 in (q.0, q.1)

  pub own_equations : Equational (G.before ⨾ G.items)
  own_equations = equational (G.before ⨾ G.items) (passes_after G.before G.items Q.opened Q.passes) met.0 met.1

  module _ (l : List ℕ) (y k : ℕ) (es : Pairs Term) (D : Sides s d n G l y k es) where
    -- No solution of types: no valuation of types.
    pub no_valuation : (SolutionOf s d n (pairs_with l y k G.equations) → ⊥) → (τ : Valuation) → Meets (G.before ⨾ G.items) τ → Solves (under τ) es → ⊥
    no_valuation none τ h e =
        let q = Q.sound τ h in
        none (record {
          σ = q.0;
          fits = q.1.fits;
          sat = sides_solve q.0 (under τ) (Cell s d n G) (λ c a C. C.denotes τ h q.0 q.1 q.2) l y k es D G.equations e q.1.sat;
          obeys = q.1.obeys;
        })

    -- Above all givens of the store, of the items and of the equations.
    B : ℕ
    B = suc (tally s + tally d) + (high_pairs own_equations.E + high_pairs es)

    high_store : suc (tally s + tally d) ≤ B
    unfolding B
    high_store = omega arith

    high_items : high_pairs own_equations.E ≤ B
    unfolding B
    high_items = omega arith

    abbrev Side : ℕ → Term → Type 0
    Side c a = Cell s d n G c a × (high_term a ≤ B)

    sides : SidesBy Side l y k es
    unfolding B
    sides = sides_high (Cell s d n G) B l y k es (omega arith) D

    -- A valuation ρ of possibly infinite types is one of types with stand-ins, filled: the store's solution of these, filled, belongs to ρ.
    module _ (ρ : ℕ → Inf) (h : MeetsIn (G.before ⨾ G.items) infinite ρ) where
      abbrev K : Links own_equations.E
      K = links own_equations.E own_equations.some

      abbrev τ : Valuation
      τ = solution_by own_equations.E K (stand B)

      meets_τ : Meets (G.before ⨾ G.items) τ
      meets_τ = (own_equations.is finite τ).1 (by_solves own_equations.E K (stand B))

      is_filled : (λ x. fill B ρ (τ x)) ≡ ρ
      is_filled = fun_ext (λ x. fill_solution own_equations.E K B high_items ρ ((own_equations.is infinite ρ).0 h) x)

      Y : SolutionIn infinite s d n G.equations
      Y = let q = Q.sound τ meets_τ in filled s d n B high_store G.equations (plain q.0 q.1) ρ

      side_of : (c : ℕ) (a : Term) → Side c a → Y.σ c ≡ under_inf ρ a
      unfolding Y filled
      side_of c a C =
          let q = Q.sound τ meets_τ in
          ap (fill B ρ) (C.0.denotes τ meets_τ q.0 q.1 q.2) ∙ fill_under B ρ τ a C.1 ∙ ap (λ v. under_inf v a) is_filled

      pub no_typing : NoSolution s d n (pairs_with l y k G.equations) → Solves (under_inf ρ) es → ⊥
      no_typing none e =
          none infinite Y.σ Y.fits (sides_solve Y.σ (under_inf ρ) Side side_of l y k es sides G.equations e Y.sat) Y.obeys

    -- A solution X of possibly infinite types is one of types with stand-ins, filled: the valuation that belongs to the latter, filled, belongs to X.
    module _ (X : SolutionIn infinite s d n (pairs_with l y k G.equations)) where
      abbrev X₀ : SolutionIn infinite s d n G.equations
      X₀ = record { σ = X.σ; fits = X.fits; sat = with_before X.σ l y k G.equations X.sat; obeys = X.obeys }

      F : Finite (frozen s) n Q.L
      F = solution_finite s d n G.equations Q.L Q.solved (plain Q.some.0 Q.some.1)

      abbrev O : SolutionOf s d n G.equations
      O = open_solution s d n B high_store G.equations Q.L Q.solved Q.pinned F

      abbrev S : Solution s d n G.equations O.σ
      S = record { fits = O.fits; sat = O.sat; obeys = O.obeys }

      υ : (τ : Valuation) × Meets (G.before ⨾ G.items) τ × Matches G.cells τ O.σ
      υ = let q = Q.complete O.σ S Q.start.0 Q.start.1 in (q.0, q.1, q.2)

      abbrev filled_υ : ℕ → Inf
      filled_υ x = fill B X.σ (υ.0 x)

      side_of' : (c : ℕ) (a : Term) → Side c a → X.σ c ≡ under_inf filled_υ a
      side_of' c a C =
          sym (open_filled s d n B high_store G.equations Q.L Q.solved Q.pinned F X₀ c C.0.made)
          ∙ ap (fill B X.σ) (C.0.denotes υ.0 υ.1 O.σ S υ.2) ∙ fill_under B X.σ υ.0 a C.1

      pub some_typing : (ρ : ℕ → Inf) × MeetsIn (G.before ⨾ G.items) infinite ρ × Solves (under_inf ρ) es
      some_typing = (
        filled_υ,
        (own_equations.is infinite filled_υ).1 (fill_solves B X.σ υ.0 own_equations.E high_items ((own_equations.is finite υ.0).0 υ.1)),
        sides_solved X.σ (under_inf filled_υ) Side side_of' l y k es sides G.equations X.sat,
      )
