-- THETA (R10, R19): the binding of a schema's components, with the types that their decorated identifiers have in scope.
use Rattle.std.specs.Prelude.{◌≡◌, Bool, true, false, List, ℕ, ◌+◌, ◌-◌, ◌*◌, ◌≤◌, ◌<◌, ◌^◌, ltb, length, get_or}
use Rattle.checker_rules.specs.Dictionary.{Dictionary}
use Rattle.checker_rules.specs.Items.{Items, skip, ◌⨾◌, fresh, equations, equate, select, small, refusal, piece}
use Rattle.checker_rules.specs.Rules.{theta_name, theta_names, type_in_scope, theta_signature, theta_items}
use Rattle.checker_rules.specs.Conditions.{refuse_if}
use Rattle.checker_rules.specs.Scopes.{Scope, name_at, schema_named}
use Rattle.checker_rules.specs.Signatures.{Signature, names_of, some_stroked}
use Rattle.checker_rules.specs.Strokes.{decorate, takes}
use Rattle.types_cells.specs.Layout.{area_size}
use Rattle.types_cells.specs.Settled.{lower}
use Rattle.checker_dictionary.specs.Index.{index_end}
use Rattle.checker_signatures.specs.Tables.{table_words}
use Rattle.checker_signatures.specs.Rows.{rows as rows_of, identifiers_of}
use Rattle.checker_signatures.specs.Carried.{Carries}
use Rattle.checker_pieces.specs.Piece.{Stops}
use Rattle.checker_pieces.specs.Stage.{Ghost, Stands, Uses, Unvisited, Ruled, node_cells}
use Rattle.checker_lookup.specs.Scoped.{SettledAt, Scoped}
use Rattle.checker_lookup.specs.References.{Referring}

-- ONE IDENTIFIER: the place of its settled type, where it is in scope and not generic. The place is r - 1; 0: the identifier is absent or generic, 31.
pub record InScope (d w : List ℕ) (rows id r : ℕ) : Type 0 where
  pub absent : r ≡ 0 → (s : List ℕ) (G : Ghost) (Γ : Scope) (D : Dictionary) → Scoped s d w rows G Γ D → (k : ℕ) → theta_name true k (name_at id Γ) ≡ refusal 31 k
  pub present : (r ≡ 0 → ⊥) → (s : List ℕ) (G : Ghost) (Γ : Scope) (D : Dictionary) → Scoped s d w rows G Γ D → length s ≡ area_size →
      ((k : ℕ) → theta_name true k (name_at id Γ) ≡ skip) × SettledAt s d G (type_in_scope (name_at id Γ)) (r - 1)

-- The m rows at `base` lie above a scope of `rows` rows and the index, where identifiers with the stroke k are looked up.
pub record RowsAsked (d w : List ℕ) (rows base m k : ℕ) : Type 0 where
  pub store : List ℕ
  pub size : length store ≡ area_size
  pub few : length d < 2 ^ 31
  pub ghost : Ghost
  pub scope : Scope
  pub dictionary : Dictionary
  pub scoped : Scoped store d w rows ghost scope dictionary
  pub below : 2 * rows ≤ base
  pub above : index_end ≤ base
  pub table : base + 2 * m ≤ length w
  pub stroke : k < 4

-- ONE COMPONENT i: where it takes the stroke, the decorated identifier is in scope, and its settled type stands at q.
pub record ComponentInScope (s d : List ℕ) (G : Ghost) (Γ : Scope) (k i q : ℕ) : Type 0 where
  pub passes : (n : ℕ) → theta_name (takes k i) n (name_at (decorate k i) Γ) ≡ skip
  pub settled : takes k i ≡ true → SettledAt s d G (type_in_scope (name_at (decorate k i) Γ)) q

-- The row at `at` has the place of that type; false: 31.
pub record RowPlaced (d w w' : List ℕ) (rows at k : ℕ) (fine : Bool) : Type 0 where
  pub others : (i : ℕ) → (i ≡ at + 1 → ⊥) → get_or w' i 0 ≡ get_or w i 0
  pub placed : fine ≡ true → (s : List ℕ) (G : Ghost) (Γ : Scope) (D : Dictionary) → Scoped s d w rows G Γ D → length s ≡ area_size → ComponentInScope s d G Γ k (get_or w at 0) (get_or w' (at + 1) 0)
  pub refused : fine ≡ false → (s : List ℕ) (G : Ghost) (Γ : Scope) (D : Dictionary) → Scoped s d w rows G Γ D → (n : ℕ) →
      theta_name (takes k (get_or w at 0)) n (name_at (decorate k (get_or w at 0)) Γ) ≡ refusal 31 n

-- Items that ask nothing.
unfoldable pub Idle : Items → Type 0
Idle skip = Unit {0}
Idle (a ⨾ b) = Idle a × Idle b
Idle (fresh x) = ⊥
Idle (equations n es) = ⊥
Idle (equate f n a b) = ⊥
Idle (select n i a x) = ⊥
Idle (small n a) = ⊥
Idle (refusal f n) = ⊥
Idle (piece n t) = ⊥

-- The scope Γ stands in w, and the m rows at `base` have the identifiers of the signature r.
pub record RowsOver (s d w : List ℕ) (rows base m : ℕ) (G : Ghost) (Γ : Scope) (r : Signature) : Type 0 where
  pub dictionary : Dictionary
  pub scoped : Scoped s d w rows G Γ dictionary
  pub size : length s ≡ area_size
  pub names : names_of r ≡ identifiers_of (rows_of w base m)

-- ALL COMPONENTS: each row has the place of its type in scope; false: 31.
pub record RowsPlaced (d w w' : List ℕ) (rows base m k : ℕ) (fine : Bool) : Type 0 where
  pub below : (i : ℕ) → i < base → get_or w' i 0 ≡ get_or w i 0
  pub names : (j : ℕ) → get_or w' (base + 2 * j) 0 ≡ get_or w (base + 2 * j) 0
  pub passes : fine ≡ true → (s : List ℕ) (G : Ghost) (Γ : Scope) (r : Signature) → RowsOver s d w rows base m G Γ r → (n : ℕ) → Idle (theta_names n k r Γ)
  pub carries : fine ≡ true → (s : List ℕ) (G : Ghost) (Γ : Scope) (r : Signature) → RowsOver s d w rows base m G Γ r → some_stroked k r ≡ false →
      Carries (SettledAt s d G) (theta_signature k r Γ) (rows_of w' base m)
  pub stops : fine ≡ false → (s : List ℕ) (G : Ghost) (Γ : Scope) (r : Signature) → RowsOver s d w rows base m G Γ r → (n : ℕ) (H t : Items) → Stops H t (theta_names n k r Γ) 31 n

-- THE CHECKS of a schema with p parameters: 31, 32, 37.
pub record Fine (s d w' : List ℕ) (base m p k : ℕ) (G : Ghost) (Γ : Scope) (r : Signature) : Type 0 where
  pub names : (n : ℕ) → Idle (theta_names n k r Γ)
  pub parameters : p ≡ 0
  pub strokes : some_stroked k r ≡ false
  pub carries : Carries (SettledAt s d G) (theta_signature k r Γ) (rows_of w' base m)

pub record ThetaChecks (d w w' : List ℕ) (rows base m p k number : ℕ) : Type 0 where
  pub below : (i : ℕ) → i < base → get_or w' i 0 ≡ get_or w i 0
  pub goes : number ≡ 0 → (s : List ℕ) (G : Ghost) (Γ : Scope) (r : Signature) → RowsOver s d w rows base m G Γ r → Fine s d w' base m p k G Γ r
  pub stops : (number ≡ 0 → ⊥) → (s : List ℕ) (G : Ghost) (Γ : Scope) (r : Signature) → RowsOver s d w rows base m G Γ r → (n : ℕ) (H t rest : Items) →
      Stops H t (theta_names n k r Γ ⨾ refuse_if (ltb 0 p) 32 n ⨾ refuse_if (some_stroked k r) 37 n ⨾ rest) number n

-- THE RULE. The words of w from `base` on are free.
pub record ThetaAsked (s d w : List ℕ) (n top rows base k : ℕ) : Type 0 where
  pub referring : Referring s d w n top rows
  pub below : 2 * rows ≤ base
  pub above : index_end ≤ base
  pub free : base + table_words ≤ length w
  pub stroke : k < 4

pub record ThetaRuled (s s' d w w' : List ℕ) (n top rows base id k number cell n' top' : ℕ) : Type 0 where
  pub low : lower s' ≡ lower s
  pub uses : number ≡ 0 → Uses s s' n top n' top' node_cells
  pub below : (i : ℕ) → i < base → get_or w' i 0 ≡ get_or w i 0
  pub ruled : (G : Ghost) → Stands s d n top G → (node : ℕ) → Unvisited node G → (Γ : Scope) (D : Dictionary) → Scoped s d w rows G Γ D →
      Ruled s s' d n top node number cell n' top' G (theta_items node k (schema_named id Γ) Γ)
