-- What the steps that visit no node tell.
use Rattle.std.specs.Prelude.{◌≡◌, Bool, true, false, List, [], ◌∷◌, ℕ, ◌-◌, ◌≤◌, get_or}
use Rattle.types_rules.specs.Equations.{In}
use Rattle.types_rules.specs.Types.{Ty, Term, Each, size}
use Rattle.checker_rules.specs.Conditions.{merge_declared, new_names}
use Rattle.checker_rules.specs.Dictionary.{Dictionary}
use Rattle.checker_rules.specs.Items.{Items, Refuses, MeetsIn}
use Rattle.checker_rules.specs.Signatures.{Signature}
use Rattle.types_cells.specs.Settled.{heap, Reads}
use Rattle.types_solver.specs.Sizes.{cap}
use Rattle.checker_signatures.specs.Rows.{rows}
use Rattle.checker_signatures.specs.Carried.{Carries}
use Rattle.checker_dictionary.specs.Index.{Indexed}
use Rattle.checker_pieces.specs.Piece.{Steady, Walked, Settled}
use Rattle.checker_kinds.specs.Equations.{equality_items, membership_items, comparison_items}
use Rattle.checker_includes.specs.Components.{Placed}
use Rattle.checker_contracts.specs.Visits.{globals_if}

-- 21 to 23: the items of a relation, by its kind
abbrev pub relation_items : ℕ → ℕ → Term → Term → Items
relation_items q = get_or (equality_items ∷ membership_items ∷ comparison_items ∷ []) (q - 21) equality_items

-- 36 of a Decl whose identifiers is have the term t of type g, of size v capped at 33. Its words stand at `at` where it is small.
pub record FitsTold (s d w : List ℕ) (base m : ℕ) (is : List ℕ) (at v : ℕ) (fine : Bool) : Type 0 where
  pub goes : fine ≡ true → (H : Items) (U : List ℕ) (n : ℕ) (t : Term) (g : Ty) (r : Signature) → Steady H U → Settled H t g → Each (λ x. In x U) t → v ≡ cap (size g) →
      (size g ≤ 32 → Reads (heap s d) at g) → Carries (Placed s d H U) r (rows w base m) → Walked H (merge_declared n is t r) U U (λ x. ⊥)
  pub stops : fine ≡ false → (H : Items) (U : List ℕ) (n : ℕ) (t : Term) (g : Ty) (r : Signature) → Steady H U → Settled H t g → Each (λ x. In x U) t → v ≡ cap (size g) →
      (size g ≤ 32 → Reads (heap s d) at g) → Carries (Placed s d H U) r (rows w base m) → Refuses (merge_declared n is t r) (MeetsIn H) 36 n

-- 36, second case, where the Text is an Axiom's; otherwise nothing is global.
pub record NewIfTold (global : Bool) (d w is : List ℕ) (fine : Bool) : Type 0 where
  pub goes : fine ≡ true → (D : Dictionary) (H : Items) (U : List ℕ) (n : ℕ) → Indexed D d w → Steady H U → Walked H (new_names n is (globals_if global D)) U U (λ x. ⊥)
  pub stops : fine ≡ false → (D : Dictionary) (H : Items) (U : List ℕ) (n : ℕ) → Indexed D d w → Steady H U → Refuses (new_names n is (globals_if global D)) (MeetsIn H) 36 n
