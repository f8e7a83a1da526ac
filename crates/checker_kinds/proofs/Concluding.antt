-- A rule that ends with the type of its node: that of a cell which was built.
use mathlib.Core.Path.{◌≡◌, refl}
use mathlib.Core.List.{List}
use Prim.Native.Nat.{ℕ, ◌<◌}
use native.Mathlib.Omega.{arith}
use Rattle.reader_rules.specs.Tree.{Exprs}
use Rattle.types_rules.specs.Equations.{In}
use Rattle.types_rules.specs.Types.{Term}
use Rattle.checker_rules.specs.Conditions.{typed}
use Rattle.checker_rules.specs.Unknowns.{slot}
use Rattle.types_cells.specs.Store.{frozen}
use Rattle.types_cells.specs.Calls.{Above}
use Rattle.types_solver.specs.Growth.{Builds}
use Rattle.checker_pieces.specs.Stage.{Ghost, Stands, Cell, Unvisited, SlotOf, Uses, Ruled}
use Rattle.checker_pieces.specs.Building.{Introduced}
use Rattle.checker_pieces.proofs.Stages.{stands_built, introduced_typed, introduced_before, introduced_wider, rule_goes}
use Rattle.checker_kinds.specs.Formers.{OperandCells, DerivedList, Derived}

pub own_slot : (k j : ℕ) → j < 8 → (y : ℕ) → y ≡ slot k j → SlotOf k y
own_slot k j l y e = (j, l, e)

-- The type of node k is that of the cell c, of the cells built from s to s'.
module _ (s s' d : List ℕ) (n n' top top' : ℕ) (B : Builds s s' d n n') (A : Above (frozen s') n' top') (G : Ghost) (St : Stands s d n top G) (c : ℕ) (t : Term) (C : Cell s' d n' G c t) (k : ℕ)
    (new : In (slot k 0) G.mentioned → ⊥) where
  pub concluded : Introduced s s' d n top n' top' G (typed k t) (SlotOf k) (slot k 0) c
  concluded =
      let I = introduced_typed s' d n' top' G (stands_built s s' d n n' top B G St top' A) c t C k new in
      let J = introduced_before s' s' d n' top' n' top' G (typed k t) (λ y. y ≡ slot k 0) I.advanced s n top B St (slot k 0) c I.placed in
      introduced_wider s s' d n top n' top' G (typed k t) (λ y. y ≡ slot k 0) J.advanced (SlotOf k) (own_slot k 0 (omega arith)) (slot k 0) c J.placed

-- Rules that ask nothing of the types.
module _ (s s' d : List ℕ) (n n' top top' c used : ℕ) (B : Builds s s' d n n') (A : Above (frozen s') n' top') (U : Uses s s' n top n' top' used) where
  passed : (G : Ghost) → Stands s d n top G → (k : ℕ) → Unvisited k G → (t : Term) → Cell s' d n' G c t → Ruled s s' d n top k 0 c n' top' G (typed k t)
  passed G St k W t C = rule_goes s s' d n top k 0 c n' top' G (typed k t) refl (concluded s s' d n n' top top' B A G St c t C k (W 0 (omega arith)))

  pub listed : (l : List ℕ) (t : Exprs → Term) → ((G : Ghost) → Stands s d n top G → (xs : Exprs) → OperandCells s d n G l xs → Cell s' d n' G c (t xs)) →
      DerivedList s s' d n top l 0 c n' top' used (λ k xs. typed k (t xs))
  listed l t f = record { low = B.grows.low; wide = B.grows.wide; uses = λ e. U; ruled = λ G St k W xs K. passed G St k W (t xs) (f G St xs K) }

  pub derived : (x : ℕ) (t : Term → Term) → ((G : Ghost) → Stands s d n top G → (a : Term) → Cell s d n G x a → Cell s' d n' G c (t a)) →
      Derived s s' d n top x 0 c n' top' used (λ k a. typed k (t a))
  derived x t f = record { low = B.grows.low; wide = B.grows.wide; uses = λ e. U; ruled = λ G St k W a K. passed G St k W (t a) (f G St a K) }
