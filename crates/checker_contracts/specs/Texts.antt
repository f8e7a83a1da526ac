-- Texts and their lines. The signature of the lines so far is a table of m rows at `base` in the work area, an identifier and the place of its type each.
use Rattle.std.specs.Prelude.{◌≡◌, Bool, List, ℕ, ◌+◌, ◌*◌, ◌-◌, ◌≤◌, ◌<◌, length}
use Rattle.reader_rules.specs.Limited.{LimitedText, LimitedLines}
use Rattle.reader_rules.specs.Tree.{Text, Lines}
use Rattle.reader_rules.specs.TreeNumbers.{text_numbers, lines_numbers}
use Rattle.checker_rules.specs.Dictionary.{Dictionary}
use Rattle.checker_rules.specs.Items.{Items, ◌⨾◌}
use Rattle.checker_rules.specs.Rules.{text_items, lines_items}
use Rattle.checker_rules.specs.Scopes.{Scope, text_signature, lines_signature, inside}
use Rattle.checker_rules.specs.Signatures.{Signature}
use Rattle.checker_signatures.specs.Tables.{table_words}
use Rattle.checker_signatures.specs.Rows.{rows}
use Rattle.checker_signatures.specs.Carried.{Carries}
use Rattle.checker_pieces.specs.Piece.{Steady, Walked}
use Rattle.checker_lookup.specs.Scoped.{Scoped}
use Rattle.checker_includes.specs.Components.{Placed}
use Rattle.checker_includes.specs.Storing.{Stored}
use Rattle.checker_contracts.specs.Room.{frames_at, path_type_words, node_type_words, pool_end}
use Rattle.checker_contracts.specs.Visits.{Owned, Fresh, idle, Spared, globals_if}
use Rattle.checker_contracts.specs.Predicates.{Walking}
use Rattle.checker_contracts.specs.Done.{Done, Signed}
use Rattle.types_cells.specs.Layout.{type_words}

pub record TextAsk (s d w : List ℕ) (rows at free : ℕ) (t : Text) : Type 0 where
  pub height : ℕ
  pub texts : ℕ
  pub limited : LimitedText height texts t
  pub walking : Walking s d w rows at free height (text_numbers t)

-- The Text's items pass after H. Its signature stands in the table at `free`, and what its predicate and the body beside it see in the scope's rows.
pub record Declared (s d w : List ℕ) (stack m free : ℕ) (H : Items) (U : List ℕ) (Γ : Scope) (D : Dictionary) (global : Bool) (t : Text) : Type 0 where
  pub unknowns : List ℕ
  pub walked : Walked H (text_items t Γ (globals_if global D)) U unknowns (Owned (text_numbers t))
  pub signature : Carries (Placed s d (H ⨾ text_items t Γ (globals_if global D)) unknowns) (text_signature t Γ) (rows w free m)
  pub within : Scoped s d w (stack + m) (idle (H ⨾ text_items t Γ (globals_if global D)) unknowns) (inside t Γ) D

pub record TextDone (s s' d w w' : List ℕ) (stack at free : ℕ) (t : Text) (global : Bool) (number place m at' : ℕ) : Type 0 where
  pub done : Done s d w stack (Spared w w' stack free) (Signed s s' at at' m) (Unit {0}) (λ x H U. Fresh (text_numbers t) U) (λ x Γ D. text_items t Γ (globals_if global D))
      (λ x H U Γ D. Declared s' d w' stack m free H U Γ D global t) number place

-- LINES, the m rows of those before at `base`. A single line is one before `end`.
pub record LinesAsk (s d w : List ℕ) (stack base m at free : ℕ) (ls : Lines) : Type 0 where
  pub height : ℕ
  pub texts : ℕ
  pub limited : LimitedLines height texts ls
  pub walking : Walking s d w stack at free height (lines_numbers ls)
  pub signature : Signature
  pub carried : Carries (Placed s d walking.before walking.known) signature (rows w base m)
  pub few : m ≤ 16
  pub low : frames_at ≤ base
  pub beside : base + table_words ≤ free
  pub pool : at + type_words * (16 - m) + node_type_words * walking.bound + path_type_words * height ≤ pool_end

pub record LinesWent (s d w : List ℕ) (base m : ℕ) (H : Items) (U : List ℕ) (Γ : Scope) (G : Dictionary) (r : Signature) (ls : Lines) : Type 0 where
  pub unknowns : List ℕ
  pub walked : Walked H (lines_items ls Γ G r) U unknowns (Owned (lines_numbers ls))
  pub signature : Carries (Placed s d (H ⨾ lines_items ls Γ G r) unknowns) (lines_signature ls Γ r) (rows w base m)

-- What is left of the areas: rows more, each with its type.
pub record LinesLeft (s s' : List ℕ) (m m' at at' : ℕ) : Type 0 where
  pub stored : Stored s s' at at'
  pub more : m ≤ m'
  pub short : at' ≤ at + type_words * (m' - m)
  pub few : m' ≤ 16

-- r is the signature of the lines before.
pub record LinesDone (s s' d w w' : List ℕ) (stack base m at free : ℕ) (ls : Lines) (global : Bool) (number place m' at' : ℕ) : Type 0 where
  pub done : Done s d w stack (Spared w w' stack base) (LinesLeft s s' m m' at at') Signature (λ r H U. Fresh (lines_numbers ls) U × Carries (Placed s d H U) r (rows w base m))
      (λ r Γ D. lines_items ls Γ (globals_if global D) r) (λ r H U Γ D. LinesWent s' d w' base m' H U Γ (globals_if global D) r ls) number place
