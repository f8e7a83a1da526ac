-- The power of a signature's binding, as the type of a node.
use mathlib.Core.Path.{◌≡◌, subst}
use mathlib.Core.List.{List, [], ◌∷◌}
use Prim.Native.Nat.{ℕ, suc, ◌+◌}
use native.Mathlib.Omega.{arith}
use Rattle.types_rules.specs.Former.{power}
use Rattle.types_rules.specs.Types.{cons, nil}
use Rattle.checker_rules.specs.Conditions.{typed}
use Rattle.checker_rules.specs.Signatures.{binding_of}
use Rattle.checker_rules.specs.Unknowns.{slot, power_of}
use Rattle.checker_pieces.specs.Stage.{SlotOf}
use Rattle.checker_pieces.specs.Building.{Building, Built}
use Rattle.checker_pieces.proofs.Stages.{building, built_cell, one_cell, typed_here}
use Rattle.checker_lookup.specs.Enlarged.{Enlarged}
use Rattle.checker_lookup.specs.Bindings.{Bound, SchemaSetAsked, SchemaSetTyped}
use Rattle.checker_lookup.proofs.Standing.{enlarged_on, built_enlarged}
use Rattle.checker_lookup.proofs.ReferenceLaws.{introduced_enlarged}

module _ (s d w : List ℕ) (base m n top : ℕ) (B : SchemaSetAsked s d w base m n top) (s₁ : List ℕ) (c cell end : ℕ) (D : Bound s s₁ d w base m n top c cell end) where
  pub power_asked : Building s₁ cell end 1 (c ∷ [])
  power_asked =
      let G = B.binding.ghost in
      building s₁ d cell end 1 G (D.enlarged.stands G B.binding.stands) (D.enlarged.uses 1 B.room) (c ∷ []) (cons (binding_of B.binding.signature) nil)
      (one_cell s₁ d cell G c (binding_of B.binding.signature) (D.denoted G B.binding.stands B.binding.signature B.binding.carried))

  pub schema_set_lem : (s₂ : List ℕ) → Built s₁ s₂ cell end (end + 1) 1 power (c ∷ []) → SchemaSetTyped s s₂ d w base m n top cell (cell + 1) (end + 1)
  schema_set_lem s₂ K =
      let z : suc cell ≡ cell + 1 = omega arith in
      let E : Enlarged s₁ s₂ d cell end (suc cell) (end + 1) 1 = built_enlarged s₁ s₂ d cell end (suc cell) (end + 1) 1 (K.builds d) (λ A. K.above) K.uses in
      let F : Enlarged s s₂ d n top (suc cell) (end + 1) (suc m + 1) = enlarged_on s s₁ s₂ d n top cell end (suc cell) (end + 1) (suc m) 1 D.enlarged E in
      subst (λ (k : ℕ). SchemaSetTyped s s₂ d w base m n top cell k (end + 1)) z
      (record {
        low = F.low;
        uses = F.uses;
        typed = λ G S r C k U.
            let t = power_of (binding_of r) in
            introduced_enlarged s s₂ s₂ d n top (suc cell) (end + 1) (suc cell) (end + 1) (suc m + 1) G (typed k t) (SlotOf k) (slot k 0) cell F S
            (typed_here s₂ d (suc cell) (end + 1) G (F.stands G S) cell t
            (built_cell s₁ s₂ d cell end (end + 1) 1 power (c ∷ []) K G (D.enlarged.stands G S) (cons (binding_of r) nil) (one_cell s₁ d cell G c (binding_of r) (D.denoted G S r C)))
            k (U 0 (omega arith)));
      })
