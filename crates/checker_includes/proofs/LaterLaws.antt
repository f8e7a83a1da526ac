-- Items more: the types of actuals and of rows stay.
use mathlib.Core.List.{List}
use Prim.Native.Nat.{ℕ}
use Rattle.types_rules.specs.Types.{Term}
use Rattle.checker_rules.specs.Items.{Items, ◌⨾◌, MeetsIn}
use Rattle.checker_rules.specs.Signatures.{Signature}
use Rattle.checker_signatures.specs.Carried.{Carries}
use Rattle.checker_signatures.proofs.CarryLaws.{carries_other}
use Rattle.checker_pieces.proofs.Between.{settled_later}
use Rattle.checker_includes.specs.Components.{Placed, ActualTypes}

module _ (s d : List ℕ) (H c : Items) (U : List ℕ) where
  pub actuals_later : (i z : ℕ) (places : List ℕ) → ActualTypes s d H U i z places → ActualTypes s d (H ⨾ c) U i z places
  unfolding MeetsIn
  actuals_later i z places A = record { types = A.types; settled = λ τ m. A.settled τ m.0; shown = A.shown; stand = A.stand; alike = A.alike; over = A.over }

  one_later : (t : Term) (p : ℕ) → Placed s d H U t p → Placed s d (H ⨾ c) U t p
  one_later t p P =
      let T = P.typed in
      record { typed = record { type = T.type; reads = T.reads; settled = settled_later H c t T.type T.settled; over = T.over }; small = P.small }

  pub placed_later : (r : Signature) (rs : List (ℕ × ℕ)) → Carries (Placed s d H U) r rs → Carries (Placed s d (H ⨾ c) U) r rs
  placed_later r rs C = carries_other (Placed s d H U) (Placed s d (H ⨾ c) U) one_later r rs C
