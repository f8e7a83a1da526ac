-- A FINDING: nothing is said of what is left of the areas, nor of items that pass.
use mathlib.Core.Path.{◌≡◌}
use mathlib.Core.List.{List}
use Prim.Native.Nat.{ℕ}
use Rattle.checker_rules.specs.Dictionary.{Dictionary}
use Rattle.checker_rules.specs.Items.{Items, Refuses, MeetsIn}
use Rattle.checker_rules.specs.Scopes.{Scope}
use Rattle.checker_pieces.specs.Piece.{Steady}
use Rattle.checker_lookup.specs.Scoped.{Scoped}
use Rattle.checker_contracts.specs.Visits.{idle}
use Rattle.checker_contracts.specs.Done.{Done}

pub done_refused : {s d w : List ℕ} {stack : ℕ} {kept left X : Type 0} {given : X → Items → List ℕ → Type 0} {items : X → Scope → Dictionary → Items}
    {went : X → Items → List ℕ → Scope → Dictionary → Type 0} {number place : ℕ} → kept → (number ≡ 0 → ⊥) →
    ((H : Items) (U : List ℕ) → Steady H U → (Γ : Scope) (D : Dictionary) → Scoped s d w stack (idle H U) Γ D → (x : X) → given x H U → Refuses (items x Γ D) (MeetsIn H) number place) →
    Done s d w stack kept left X given items went number place
done_refused k e r = record { still = k; areas = λ z. absurd (e z); goes = λ z. absurd (e z); stops = λ z. r }
