-- What `all_equal` promises, from the solver's answer.
use mathlib.Core.Path.{subst}
use mathlib.Core.List.{List}
use Prim.Native.Nat.{ℕ}
use Rattle.types_solver.specs.Equation.{Equation}
use Rattle.checker_pieces.specs.Stage.{Comparing, Equated}
use Rattle.checker_pieces.proofs.Equating.{equated, equated_goes, equated_later, stop}

module _ (s d : List ℕ) (n : ℕ) (l : List ℕ) (y k : ℕ) (C : Comparing s d n l y k) where
  pub answered : (s' : List ℕ) (number : ℕ) → Equation s s' d n l y k number → Equated s s' d n l y k number
  answered s' number M = record {
    low = M.low;
    still = M.still;
    goes = λ q top G S es D m.
        let M' = subst (Equation s s' d n l y k) q M in (
          equated_goes s s' d n l y k G S.piece es D m M',
          equated s s' d n l y k G S.piece es D m M',
          equated_later s s' d n l y k G S.piece es D m M',
        );
    stops = λ q top G S es D m. stop s s' d n l y k G S.piece es D m number M q;
  }
