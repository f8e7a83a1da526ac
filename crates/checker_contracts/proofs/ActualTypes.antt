-- The actuals of an Include, as a list of types: those at their places stand for them.
use mathlib.Core.Path.{◌≡◌, refl, subst, ap₂}
use mathlib.Core.List.{List, [], ◌∷◌, ◌++◌}
use mathlib.Core.Logic.{⊎_elim}
use Prim.Native.Nat.{ℕ, zero, suc, ◌+◌, ◌≤◌, ◌<◌}
use native.Mathlib.Omega.{arith}
use lib.ListN.{length, get_or, take}
use Rattle.types_rules.specs.Types.{Tys, tnil, tcons, unders}
use Rattle.checker_rules.specs.Items.{Items, Meets}
use Rattle.checker_rules.specs.Unknowns.{Valuation, row}
use Rattle.types_cells.specs.Settled.{heap}
use Rattle.types_instances.specs.Filled.{Row}
use Rattle.checker_includes.specs.Components.{AllStandFor, ActualTypes}
use Rattle.checker_contracts.specs.Includes.{ActualAt, ActualOwned, ActualFresh}
use Rattle.checker_contracts.specs.Visits.{Owned, Fresh}
use Rattle.checker_contracts.proofs.Nodes.{owned_left, owned_right, owned_node}

-- WHOSE UNKNOWNS: those of the actuals and the Include's own.
pub actual_owned : (k j : ℕ) (l : List ℕ) (x : ℕ) → ActualOwned k j l x → Owned (l ++ (k ∷ [])) x
actual_owned k j l x o = ⊎_elim (λ a. owned_left l (k ∷ []) x a) (λ a. owned_right l (k ∷ []) x (owned_node k x (a.0, a.2, a.3))) o

pub actual_fresh : (k j : ℕ) (l U : List ℕ) → Fresh (l ++ (k ∷ [])) U → ActualFresh k j l U
actual_fresh k j l U F x o = F x (actual_owned k j l x o)

module _ (s d : List ℕ) (H : Items) (U : List ℕ) (k : ℕ) where
  -- q actuals from number j on.
  record TypesFrom (j q : ℕ) (places : List ℕ) : Type 0 where
    types : Tys
    settled : (τ : Valuation) → Meets H τ → unders τ (row k (suc j) q) ≡ types
    shown : Tys
    stand : Row (heap s d) (take q places) shown
    alike : AllStandFor shown types

  types_from : (j q : ℕ) (places : List ℕ) → q ≤ length places → ((i o : ℕ) → i < q → o ≡ j + i → ActualAt s d H U k o (get_or places i 0)) → TypesFrom j q places
  unfolding row unders AllStandFor
  types_from j zero places l each = record { types = tnil; settled = λ τ m. refl; shown = tnil; stand = tt; alike = tt }
  types_from j (suc q) [] l each = absurd (omega arith)
  types_from j (suc q) (p ∷ places) l each =
      let A = each 0 j (omega arith) (omega arith) in
      let B = types_from (suc j) q places (omega arith) (λ i o y e. each (suc i) o (omega arith) (omega arith)) in
      record {
        types = tcons A.type B.types;
        settled = λ τ m. ap₂ tcons (A.settled τ m) (B.settled τ m);
        shown = tcons A.shown B.shown;
        stand = (A.reads, B.stand);
        alike = (A.alike, B.alike);
      }

  pub actual_types : (q : ℕ) (places : List ℕ) → q ≤ length places → ((i : ℕ) → i < q → ActualAt s d H U k i (get_or places i 0)) → ActualTypes s d H U k q (take q places)
  actual_types q places l each =
      let T = types_from 0 q places l (λ i o y e. subst (λ z. ActualAt s d H U k z (get_or places i 0)) (let z : i ≡ o = omega arith in z) (each i y)) in
      record { types = T.types; settled = T.settled; shown = T.shown; stand = T.stand; alike = T.alike; over = λ j y. (each j y).over }
