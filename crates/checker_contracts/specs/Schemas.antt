-- Schema expressions: a Text, an Include, a Conjunction. What one declares is a table of m rows at `free`.
use Rattle.std.specs.Prelude.{◌≡◌, List, ℕ, ◌+◌, ◌*◌, ◌≤◌}
use Rattle.reader_rules.specs.Limited.{LimitedSchema}
use Rattle.reader_rules.specs.Tree.{Schema}
use Rattle.reader_rules.specs.TreeNumbers.{schema_numbers}
use Rattle.checker_rules.specs.Dictionary.{Dictionary}
use Rattle.checker_rules.specs.Items.{Items, ◌⨾◌}
use Rattle.checker_rules.specs.Rules.{schema_items}
use Rattle.checker_rules.specs.Scopes.{Scope, schema_signature}
use Rattle.checker_signatures.specs.Rows.{rows}
use Rattle.checker_signatures.specs.Carried.{Carries}
use Rattle.checker_pieces.specs.Piece.{Steady, Walked}
use Rattle.checker_lookup.specs.Scoped.{Scoped}
use Rattle.checker_includes.specs.Components.{Placed}
use Rattle.checker_includes.specs.Storing.{Stored}
use Rattle.checker_contracts.specs.Visits.{Owned, Fresh, idle, Spared}
use Rattle.checker_contracts.specs.Predicates.{Walking}
use Rattle.checker_contracts.specs.Done.{Done, Signed}

pub record SchemaAsk (s d w : List ℕ) (stack at free : ℕ) (x : Schema) : Type 0 where
  pub height : ℕ
  pub texts : ℕ
  pub limited : LimitedSchema height texts x
  pub walking : Walking s d w stack at free height (schema_numbers x)

pub record SchemaWent (s d w : List ℕ) (m free : ℕ) (H : Items) (U : List ℕ) (Γ : Scope) (x : Schema) : Type 0 where
  pub unknowns : List ℕ
  pub walked : Walked H (schema_items x Γ) U unknowns (Owned (schema_numbers x))
  pub signature : Carries (Placed s d (H ⨾ schema_items x Γ) unknowns) (schema_signature x Γ) (rows w free m)

pub record SchemaDone (s s' d w w' : List ℕ) (stack at free : ℕ) (x : Schema) (number place m at' : ℕ) : Type 0 where
  pub done : Done s d w stack (Spared w w' stack free) (Signed s s' at at' m) (Unit {0}) (λ y H U. Fresh (schema_numbers x) U) (λ y Γ D. schema_items x Γ)
      (λ y H U Γ D. SchemaWent s' d w' m free H U Γ x) number place
