-- Includes: name, count, actuals, stroke and renames (31, 32; 33, 34 and 39 of the actuals; 37). What the Include brings stands as rows in the work area, with
-- the places of the recorded component types; the actuals' types are in the pool, at the places in a row of four words.
use Rattle.std.specs.Prelude.{◌≡◌, ◌⊎◌, List, [], ◌∷◌, ℕ, suc, ◌+◌, ◌*◌, ◌≤◌, ◌<◌, length, get_or, take}
use Rattle.reader_rules.specs.Limited.{LimitedInclude, LimitedExprs}
use Rattle.reader_rules.specs.Tree.{Include, include, Exprs, exprs_length, include_node}
use Rattle.reader_rules.specs.TreeNumbers.{include_numbers, exprs_numbers}
use Rattle.types_rules.specs.Equations.{In}
use Rattle.types_rules.specs.Formed.{Ascending}
use Rattle.types_rules.specs.Types.{Ty}
use Rattle.checker_rules.specs.Conditions.{small_types}
use Rattle.checker_rules.specs.Dictionary.{Dictionary}
use Rattle.checker_rules.specs.Items.{Items, ◌⨾◌}
use Rattle.checker_rules.specs.Rules.{include_items, actual_items}
use Rattle.checker_rules.specs.Scopes.{Scope, include_signature}
use Rattle.checker_rules.specs.Unknowns.{slot, unknown_at, row}
use Rattle.types_cells.specs.Layout.{dictionary_at, type_words}
use Rattle.types_cells.specs.Settled.{heap, Reads}
use Rattle.checker_signatures.specs.Rows.{rows, identifiers_of}
use Rattle.checker_signatures.specs.Carried.{Carries}
use Rattle.checker_pieces.specs.Piece.{Steady, Walked, Settled}
use Rattle.checker_lookup.specs.Scoped.{Scoped}
use Rattle.checker_lookup.specs.Components.{Component}
use Rattle.checker_includes.specs.Components.{Placed, StandsFor, ActualTypes}
use Rattle.checker_includes.specs.Storing.{Stored}
use Rattle.checker_contracts.specs.Room.{path_type_words, node_type_words, pool_end}
use Rattle.checker_contracts.specs.Visits.{Owned, Fresh, idle, Spared}
use Rattle.checker_contracts.specs.Predicates.{Walking}
use Rattle.checker_contracts.specs.Done.{Done, Signed}

-- the number of an Include's actuals
unfoldable pub actual_count : Include → ℕ
actual_count (include n s k xs rs) = exprs_length xs

pub record IncludeAsk (s d w : List ℕ) (stack at free : ℕ) (i : Include) (places : List ℕ) : Type 0 where
  pub height : ℕ
  pub texts : ℕ
  pub limited : LimitedInclude height texts i
  pub walking : Walking s d w stack at free height (include_numbers i)
  pub row : length places ≡ 4

-- The Include's items pass after H; what it brings.
pub record Brought (s d w : List ℕ) (m free : ℕ) (H : Items) (U : List ℕ) (Γ : Scope) (i : Include) (places : List ℕ) : Type 0 where
  pub unknowns : List ℕ
  pub walked : Walked H (include_items i Γ) U unknowns (Owned (include_numbers i))
  pub actuals : ActualTypes s d (H ⨾ include_items i Γ) unknowns (include_node i) (actual_count i) (take (actual_count i) places)
  pub components : Carries (Component s d (row (include_node i) 1 (actual_count i))) (include_signature i Γ) (rows w free m)

-- What stays in any case, places being the row for the actuals; and what is left of the areas: the m rows refer to recorded types.
pub record IncludeKept (w w' : List ℕ) (stack free : ℕ) (places places' : List ℕ) : Type 0 where
  pub spared : Spared w w' stack free
  pub row : length places' ≡ length places

pub record IncludeLeft (s s' w' : List ℕ) (at at' free m count : ℕ) : Type 0 where
  pub stored : Stored s s' at at'
  pub short : at' ≤ at + type_words * count
  pub few : m ≤ 16
  pub recorded : (j : ℕ) → j < m → dictionary_at ≤ get_or w' (free + 2 * j + 1) 0
  pub ascending : Ascending (identifiers_of (rows w' free m))

pub record IncludeDone (s s' d w w' : List ℕ) (stack at free : ℕ) (i : Include) (places places' : List ℕ) (number place m at' : ℕ) : Type 0 where
  pub done : Done s d w stack (IncludeKept w w' stack free places places') (IncludeLeft s s' w' at at' free m (actual_count i)) (Unit {0}) (λ x H U. Fresh (include_numbers i) U)
      (λ x Γ D. include_items i Γ) (λ x H U Γ D. Brought s' d w' m free H U Γ i places') number place

-- The unknowns of node k from number i on.
abbrev pub SlotsFrom : ℕ → ℕ → ℕ → Type 0
SlotsFrom k i x = (j : ℕ) × (i ≤ j) × (j < 8) × (x ≡ slot k j)

-- ACTUALS of the Include at node k, from number j on (counted from 0): each a closed piece. Unknown j + 1 of node k and those after it are theirs.
abbrev pub ActualOwned : ℕ → ℕ → List ℕ → ℕ → Type 0
ActualOwned k j l x = Owned l x ⊎ SlotsFrom k (suc j) x

abbrev pub ActualFresh : ℕ → ℕ → List ℕ → List ℕ → Type 0
ActualFresh k j l U = (x : ℕ) → ActualOwned k j l x → In x U → ⊥

pub record ActualsAsk (s d w : List ℕ) (stack at free k j : ℕ) (xs : Exprs) (places : List ℕ) : Type 0 where
  pub height : ℕ
  pub texts : ℕ
  pub limited : LimitedExprs height texts xs
  pub walking : Walking s d w stack at free height (exprs_numbers xs)
  pub few : length (exprs_numbers xs) ≤ 24
  pub own : (x : ℕ) → SlotsFrom k (suc j) x → In x walking.known → ⊥
  pub apart : In k (exprs_numbers xs) → ⊥
  pub row : length places ≡ 4
  pub count : j + exprs_length xs ≤ 4
  pub pool : at + type_words * exprs_length xs + node_type_words * walking.bound + path_type_words * height ≤ pool_end

-- The element type of actual number i of the Include at node k, and the place of a type that stands for it.
pub record ActualAt (s d : List ℕ) (H : Items) (U : List ℕ) (k i p : ℕ) : Type 0 where
  pub type : Ty
  pub settled : Settled H (unknown_at k (suc i)) type
  pub shown : Ty
  pub reads : Reads (heap s d) p shown
  pub alike : StandsFor shown type
  pub over : In (slot k (suc i)) U

pub record ActualsWent (s d : List ℕ) (H : Items) (U : List ℕ) (Γ : Scope) (k j : ℕ) (xs : Exprs) (places : List ℕ) : Type 0 where
  pub unknowns : List ℕ
  pub walked : Walked H (actual_items xs k (suc j) Γ) U unknowns (ActualOwned k j (exprs_numbers xs))
  pub each : (i : ℕ) → j ≤ i → i < j + exprs_length xs → ActualAt s d (H ⨾ actual_items xs k (suc j) Γ) unknowns k i (get_or places i 0)

-- The places of earlier actuals stay in any case.
pub record ActualsKept (w w' : List ℕ) (stack free j : ℕ) (places places' : List ℕ) : Type 0 where
  pub spared : Spared w w' stack free
  pub row : length places' ≡ length places
  pub earlier : (i : ℕ) → i < j → get_or places' i 0 ≡ get_or places i 0

pub record ActualsLeft (s s' : List ℕ) (at at' count : ℕ) : Type 0 where
  pub stored : Stored s s' at at'
  pub short : at' ≤ at + type_words * count

pub record ActualsDone (s s' d w w' : List ℕ) (stack at free k j : ℕ) (xs : Exprs) (places places' : List ℕ) (number place at' : ℕ) : Type 0 where
  pub done : Done s d w stack (ActualsKept w w' stack free j places places') (ActualsLeft s s' at at' (exprs_length xs)) (Unit {0}) (λ x H U. ActualFresh k j (exprs_numbers xs) U)
      (λ x Γ D. actual_items xs k (suc j) Γ) (λ x H U Γ D. ActualsWent s' d H U Γ k j xs places') number place

-- AN INCLUDE AS A SCHEMA EXPRESSION, or of a SchemaSet: 38 too, and its types written out.
pub record BringsAsk (s d w : List ℕ) (stack at free : ℕ) (i : Include) : Type 0 where
  pub height : ℕ
  pub texts : ℕ
  pub limited : LimitedInclude height texts i
  pub walking : Walking s d w stack at free height (include_numbers i)

pub record Shown (s d w : List ℕ) (m free : ℕ) (H : Items) (U : List ℕ) (Γ : Scope) (i : Include) : Type 0 where
  pub unknowns : List ℕ
  pub walked : Walked H (include_items i Γ ⨾ small_types (include_node i) (include_signature i Γ)) U unknowns (Owned (include_numbers i))
  pub signature : Carries (Placed s d (H ⨾ (include_items i Γ ⨾ small_types (include_node i) (include_signature i Γ))) unknowns) (include_signature i Γ) (rows w free m)

pub record BringsDone (s s' d w w' : List ℕ) (stack at free : ℕ) (i : Include) (number place m at' : ℕ) : Type 0 where
  pub done : Done s d w stack (Spared w w' stack free) (Signed s s' at at' m) (Unit {0}) (λ x H U. Fresh (include_numbers i) U)
      (λ x Γ D. include_items i Γ ⨾ small_types (include_node i) (include_signature i Γ)) (λ x H U Γ D. Shown s' d w' m free H U Γ i) number place
