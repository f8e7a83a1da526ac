-- An Include's schema on words: looked up, and the names of its components with stroke and renames.
use Rattle.std.specs.Prelude.{◌≡◌, true, false, List, ℕ, ◌+◌, ◌≤◌, ◌<◌, ◌^◌, length, get_or}
use Rattle.checker_rules.specs.Dictionary.{Dictionary}
use Rattle.checker_dictionary.specs.Index.{Indexed}
use Rattle.checker_dictionary.specs.Lookup.{parameters_at, type_at, SchemaFound}
use Rattle.checker_signatures.specs.Rows.{renames}
use Rattle.checker_signatures.specs.Tables.{Beside, Brings, half_table}
use Rattle.checker_lookup.specs.Components.{ComponentsAsked, ComponentRows}
use Rattle.types_cells.specs.Layout.{dictionary_at}

-- e is the newest entry of the schema `name`.
abbrev pub Newest : List ℕ → List ℕ → ℕ → ℕ → Type 0
Newest d w name e = (D : Dictionary) → Indexed D d w → SchemaFound D d name e

-- Its entry has q parameters, and its type stands at the place `at`.
pub record SchemaThere (d w : List ℕ) (name q at : ℕ) : Type 0 where
  pub entry : ℕ
  pub newest : Newest d w name entry
  pub some : entry ≡ 0 → ⊥
  pub count : parameters_at d entry ≡ q
  pub at_is : at ≡ type_at d entry
  pub near : at < 2 ^ 33

-- 31, 32, or the schema.
pub data SchemaLooked (d w : List ℕ) (name q number at : ℕ) : Type 0 where
  absent : number ≡ 31 → Newest d w name 0 → SchemaLooked d w name q number at
  miscounted : number ≡ 32 → (e : ℕ) → Newest d w name e → (e ≡ 0 → ⊥) → (parameters_at d e ≡ q → ⊥) → SchemaLooked d w name q number at
  there : number ≡ 0 → SchemaThere d w name q at → SchemaLooked d w name q number at

-- The m rows of its components stand at free + 32.
pub record RenameAsk (w : List ℕ) (free m : ℕ) (p : List ℕ) : Type 0 where
  pub beside : Beside (length w) free m (free + half_table) m
  pub near : free < 2 ^ 32
  pub stroke : get_or p 2 0 < 4
  pub few : get_or p 3 0 ≤ 4
  pub first : get_or p 3 0 + 4 ≤ length p

pub data RowsRenamed (w w' : List ℕ) (free m : ℕ) (p : List ℕ) (k end number place count at' : ℕ) : Type 0 where
  wrong : number ≡ 37 → place ≡ k → count ≡ 0 → at' ≡ 0 → length w' ≡ length w → (c : ℕ) → Brings w w' (free + half_table) m free (get_or p 2 0) (renames p (get_or p 3 0 + 4)) true c →
      RowsRenamed w w' free m p k end number place count at'
  right : number ≡ 0 → place ≡ k → at' ≡ end → length w' ≡ length w → Brings w w' (free + half_table) m free (get_or p 2 0) (renames p (get_or p 3 0 + 4)) false count →
      RowsRenamed w w' free m p k end number place count at'

-- The actuals returned the finding number₀ at place₀, or ended at `end`.
pub record NamedAsk (s d w : List ℕ) (free : ℕ) (p : List ℕ) (schema number₀ : ℕ) : Type 0 where
  pub near : free < 2 ^ 32
  pub components : number₀ ≡ 0 → ComponentsAsked s d w (dictionary_at + schema) (free + half_table)
  pub rename : number₀ ≡ 0 → (w₁ : List ℕ) (m : ℕ) → ComponentRows s d w w₁ (dictionary_at + schema) (free + half_table) m → RenameAsk w₁ free m p

pub data NamedTold (s d w w' : List ℕ) (free : ℕ) (p : List ℕ) (schema k number₀ place₀ end number place count at' : ℕ) : Type 0 where
  refused : (number₀ ≡ 0 → ⊥) → number ≡ number₀ → place ≡ place₀ → w' ≡ w → NamedTold s d w w' free p schema k number₀ place₀ end number place count at'
  components : number₀ ≡ 0 → (w₁ : List ℕ) (m : ℕ) → ComponentRows s d w w₁ (dictionary_at + schema) (free + half_table) m → RowsRenamed w₁ w' free m p k end number place count at' →
      NamedTold s d w w' free p schema k number₀ place₀ end number place count at'
