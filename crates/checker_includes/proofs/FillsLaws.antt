-- Signatures whose rows' types are filled in: what an Include brings, and what is placed as it is.
use mathlib.Core.Path.{◌≡◌, sym, subst}
use mathlib.Core.List.{List}
use Prim.Native.Nat.{ℕ, suc, ◌+◌}
use native.Mathlib.Omega.{arith}
use Rattle.types_rules.specs.Equations.{In}
use Rattle.types_rules.specs.Types.{tnil, Term, Each}
use Rattle.checker_rules.specs.Unknowns.{slot, row}
use Rattle.checker_rules.specs.Items.{Items}
use Rattle.checker_rules.specs.Signatures.{Signature}
use Rattle.checker_signatures.specs.Carried.{Carries}
use Rattle.checker_signatures.proofs.CarryLaws.{carries_other}
use Rattle.checker_lookup.specs.Components.{Component}
use Rattle.checker_lookup.proofs.RowInstances.{instance_each, row_each}
use Rattle.checker_pieces.specs.Piece.{Settled}
use Rattle.types_instances.proofs.FillLaws.{fill_none}
use Rattle.checker_includes.specs.Components.{Placed, Fills, ActualTypes}
use Rattle.checker_includes.proofs.AgreeLaws.{component_settled}

-- Components of a recorded schema, with the actuals' element types.
module _ (s d : List ℕ) (H : Items) (U : List ℕ) (i z : ℕ) (places : List ℕ) (A : ActualTypes s d H U i z places) where
  component_fills : (t : Term) (p : ℕ) → Component s d (row i 1 z) t p → Fills s d H U A.types t p
  component_fills t p C = record {
    type = C.type;
    reads = C.reads;
    settled = component_settled s d H U i z places t p A C;
    over = subst (Each (λ y. In y U)) (sym C.means)
        (instance_each (λ y. In y U) (row i 1 z) C.type
        (row_each (λ y. In y U) i 1 z (λ j l. subst (λ y. In (slot i y) U) (let e : suc j ≡ 1 + j = omega arith in e) (A.over j l))));
  }

  pub components_fill : (q : Signature) (rs : List (ℕ × ℕ)) → Carries (Component s d (row i 1 z)) q rs → Carries (Fills s d H U A.types) q rs
  components_fill q rs C = carries_other (Component s d (row i 1 z)) (Fills s d H U A.types) component_fills q rs C

-- With no types for its parameters, a type is itself.
module _ (s d : List ℕ) (H : Items) (U : List ℕ) where
  one_fills : (t : Term) (p : ℕ) → Placed s d H U t p → Fills s d H U tnil t p
  one_fills t p P =
      let T = P.typed in
      record { type = T.type; reads = T.reads; settled = subst (Settled H t) (sym (fill_none T.type)) T.settled; over = T.over }

  pub placed_fill : (q : Signature) (rs : List (ℕ × ℕ)) → Carries (Placed s d H U) q rs → Carries (Fills s d H U tnil) q rs
  placed_fill q rs C = carries_other (Placed s d H U) (Fills s d H U tnil) one_fills q rs C
