-- Items, signatures and scopes with other node numbers: unknown k of node n becomes unknown k of node f n.
use mathlib.Core.Option.{Option, some, none as nothing}
use Prim.Native.Nat.{ℕ, ◌/◌, ◌%◌}
use Rattle.types_rules.specs.Types.{Term, unknown, con, Terms, nil, cons}
use Rattle.types_rules.specs.Equations.{Pairs, end, pair}
use Rattle.types_rules.specs.Trees.{Extent, Tree}
use Rattle.checker_rules.specs.Unknowns.{Valuation, slot}
use Rattle.checker_rules.specs.Items.{Items, skip, ◌⨾◌, fresh, equations, equate, select, small, refusal, piece}
use Rattle.checker_rules.specs.Dictionary.{Named, unnamed, of_local, of_global}
use Rattle.checker_rules.specs.Signatures.{Signature, no_names, naming}
use Rattle.checker_rules.specs.Scopes.{Scope, globals, local}

-- A node has 8 slots; a readable document uses 7 of them.
unfoldable pub move_slot : (ℕ → ℕ) → ℕ → ℕ
move_slot f x = slot (f (x / 8)) (x % 8)

module _ (f : ℕ → ℕ) where
  unfoldable mutual
    pub map_term : Term → Term
    map_term (unknown x) = unknown (move_slot f x)
    map_term (con h ts) = con h (map_terms ts)

    pub map_terms : Terms → Terms
    map_terms nil = nil
    map_terms (cons t ts) = cons (map_term t) (map_terms ts)

  unfoldable pub map_pairs : Pairs Term → Pairs Term
  map_pairs end = end
  map_pairs (pair a b es) = pair (map_term a) (map_term b) (map_pairs es)

  unfoldable pub map_items : Items → Items
  map_items skip = skip
  map_items (a ⨾ b) = map_items a ⨾ map_items b
  map_items (fresh x) = fresh (move_slot f x)
  map_items (equations n es) = equations (f n) (map_pairs es)
  map_items (equate e n a b) = equate e (f n) (map_term a) (map_term b)
  map_items (select n i a x) = select (f n) i (map_term a) (move_slot f x)
  map_items (small n a) = small (f n) (map_term a)
  map_items (refusal e n) = refusal e (f n)
  map_items (piece n t) = piece (f n) (map_items t)

  unfoldable pub map_signature : Signature → Signature
  map_signature no_names = no_names
  map_signature (naming i t s) = naming i (map_term t) (map_signature s)

  unfoldable pub map_named : Named → Named
  map_named unnamed = unnamed
  map_named (of_local t) = of_local (map_term t)
  map_named (of_global p g) = of_global p g

  unfoldable pub map_scope : Scope → Scope
  map_scope (globals D) = globals D
  map_scope (local i t Γ) = local i (map_term t) (map_scope Γ)

  unfoldable pub map_option : Option Term → Option Term
  map_option (some t) = some (map_term t)
  map_option nothing = nothing

  -- the typing that the unknowns of the tree have in a table for the other tree, of types or of possibly infinite types
  abbrev pub pull : Valuation → Valuation
  pull τ = λ x. τ (move_slot f x)

  abbrev pub pull_in : (w : Extent) → (ℕ → Tree w) → ℕ → Tree w
  pull_in w τ = λ x. τ (move_slot f x)
