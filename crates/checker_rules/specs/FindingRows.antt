-- The rows 31, 32, 36, 37 and 38 of document 01's table of findings: one law for each row and each kind of node that can get the number, where it comes and
-- nowhere else. (33, 34, 35 and 39: specs/PieceEquations and specs/SideBySide; which kinds can get which numbers: specs/Places.) P are the valuations that
-- meet the items before; h at j is the finding. For 36 and 38 the types are settled, so that any typing τ so far says which they are.
use Rattle.std.specs.Prelude.{◌≡◌, true, List, ◌⊎◌, ◌↔◌, ℕ, ◌<◌}
use Rattle.reader_rules.specs.Tree.{Expr, reference, theta, schema_set, Exprs, Lines, Include, include, Schema, from, both, given, abbreviation, include_node}
use Rattle.types_rules.specs.Types.{size}
use Rattle.types_rules.specs.Trees.{finite}
use Rattle.checker_rules.specs.Unknowns.{Valuation, power_of}
use Rattle.checker_rules.specs.Items.{piece, And, Passes, Refuses, Typings}
use Rattle.checker_rules.specs.Dictionary.{Dictionary, unnamed, no_schema}
use Rattle.checker_rules.specs.Signatures.{no_names, binding_of, count_names, merge}
use Rattle.checker_rules.specs.Scopes.{Scope, globals, name_at, schema_named, with_parameters, include_signature, schema_signature}
use Rattle.checker_rules.specs.Conditions.{small_types, typed}
use Rattle.checker_rules.specs.Rules.{expr_items, exprs_items, lines_items, include_items, actual_items, schema_items, paragraph_items}
use Rattle.checker_rules.specs.Globals.{is_global}
use Rattle.checker_rules.specs.Typing.{type_in}
use Rattle.checker_rules.specs.Findings.{Or, WrongActuals, ThetaUnknown, HasParameters, ThetaStroked, Counted, WrongCount, IncludeNames, GlobalTwice, Clashes, TooBig, LinesFind}

pub record FindingRows : Type 1 where
  -- Ref: "name unknown"; "actuals neither 0 nor the parameter count". Its actuals come first (R9).
  pub ref31 : (n i : ℕ) (xs : Exprs) (Γ : Scope) (P : Typings) (j : ℕ) → Refuses (expr_items (reference n i xs) Γ) P 31 j
      ↔ (Refuses (exprs_items xs Γ) P 31 j ⊎ (Passes (exprs_items xs Γ) P × ((j ≡ n) × (name_at i Γ ≡ unnamed))))
  pub ref32 : (n i : ℕ) (xs : Exprs) (Γ : Scope) (P : Typings) (j : ℕ) → Refuses (expr_items (reference n i xs) Γ) P 32 j
      ↔ (Refuses (exprs_items xs Γ) P 32 j ⊎ (Passes (exprs_items xs Γ) P × ((j ≡ n) × WrongActuals xs (name_at i Γ))))
  -- Theta: "name unknown; Theta identifier absent or generic"; "Theta has 0" actuals; "stroke on a stroked component"; strictly by number (R10)
  pub theta31 : (n s k : ℕ) (Γ : Scope) (P : Typings) (j : ℕ) → Refuses (expr_items (theta n s k) Γ) P 31 j ↔ ((j ≡ n) × ThetaUnknown k (schema_named s Γ) Γ)
  pub theta32 : (n s k : ℕ) (Γ : Scope) (P : Typings) (j : ℕ) → Refuses (expr_items (theta n s k) Γ) P 32 j
      ↔ ((j ≡ n) × (ThetaUnknown k (schema_named s Γ) Γ → ⊥) × HasParameters (schema_named s Γ))
  pub theta37 : (n s k : ℕ) (Γ : Scope) (P : Typings) (j : ℕ) → Refuses (expr_items (theta n s k) Γ) P 37 j
      ↔ ((j ≡ n) × (ThetaUnknown k (schema_named s Γ) Γ → ⊥) × (HasParameters (schema_named s Γ) → ⊥) × ThetaStroked k (schema_named s Γ))
  -- Include: "looks up the name, compares the count, then visits and closes each actual in turn"; then 37, "stroke on a stroked component; bad rename"
  pub include31 : (n s k : ℕ) (xs : Exprs) (rs : List (ℕ × ℕ)) (Γ : Scope) (P : Typings) (j : ℕ) → Refuses (include_items (include n s k xs rs) Γ) P 31 j
      ↔ (((j ≡ n) × (schema_named s Γ ≡ no_schema)) ⊎ (Counted (schema_named s Γ) xs × Refuses (actual_items xs n 1 Γ) P 31 j))
  pub include32 : (n s k : ℕ) (xs : Exprs) (rs : List (ℕ × ℕ)) (Γ : Scope) (P : Typings) (j : ℕ) → Refuses (include_items (include n s k xs rs) Γ) P 32 j
      ↔ (((j ≡ n) × WrongCount (schema_named s Γ) xs) ⊎ (Counted (schema_named s Γ) xs × Refuses (actual_items xs n 1 Γ) P 32 j))
  pub include37 : (n s k : ℕ) (xs : Exprs) (rs : List (ℕ × ℕ)) (Γ : Scope) (P : Typings) (j : ℕ) → Refuses (include_items (include n s k xs rs) Γ) P 37 j
      ↔ (Counted (schema_named s Γ) xs × (Refuses (actual_items xs n 1 Γ) P 37 j ⊎ (Passes (actual_items xs n 1 Γ) P × ((j ≡ n) × IncludeNames (schema_named s Γ) k rs))))
  -- the lines of a Text, each with 36, then 38, at its Decl or Include (`LinesFind`)
  pub lines : (ls : Lines) (Γ : Scope) (G : Dictionary) (P : Typings) (τ : Valuation) → P finite τ → (h j : ℕ) → Refuses (lines_items ls Γ G no_names) P h j ↔ LinesFind ls Γ G no_names P h j
  -- an Include as a schema expression, and that of a SchemaSet: "component type of any Include, over size 32", at the Include
  pub from38 : (i : Include) (Γ : Scope) (P : Typings) → Passes (include_items i Γ) P → (τ : Valuation) → And P (include_items i Γ) finite τ → (h j : ℕ)
      → Refuses (schema_items (from i) Γ) P h j ↔ ((h ≡ 38) × (j ≡ include_node i) × TooBig τ (include_signature i Γ))
  pub schema_set38 : (i : Include) (Γ : Scope) (P : Typings) → Passes (include_items i Γ) P → (k : ℕ) (τ : Valuation) → And P (include_items i Γ) finite τ → (h j : ℕ)
      → Refuses (expr_items (schema_set k i) Γ) P h j
      ↔ Or 38 (include_node i) (TooBig τ (include_signature i Γ)) h j
      (Refuses (typed k (power_of (binding_of (include_signature i Γ)))) (And (And P (include_items i Γ)) (small_types (include_node i) (include_signature i Γ))) h j)
  -- Conjunction: "merging identifiers with different types", then "signature over 16 identifiers"
  pub conjunction : (n : ℕ) (x y : Schema) (Γ : Scope) (P : Typings) → Passes (schema_items x Γ) P → Passes (schema_items y Γ) (And P (schema_items x Γ))
      → (τ : Valuation) → And (And P (schema_items x Γ)) (schema_items y Γ) finite τ → (h j : ℕ) → Refuses (schema_items (both n x y) Γ) P h j
      ↔ Or 36 n (Clashes τ (schema_signature y Γ) (schema_signature x Γ)) h j ((h ≡ 38) × (j ≡ n) × (16 < count_names (merge (schema_signature y Γ) (schema_signature x Γ))))
  -- Given and Abbreviation: "an identifier global by an earlier paragraph too"; "declared type .. over size 32", an Abbreviation's the type of its E
  pub given36 : (n : ℕ) (is : List ℕ) (D : Dictionary) (P : Typings) (h j : ℕ) → Refuses (paragraph_items (given n is) D) P h j ↔ ((h ≡ 36) × (j ≡ n) × GlobalTwice is D)
  pub abbreviations : (n i : ℕ) (ps : List ℕ) (a : Expr) (D : Dictionary) (P : Typings) → Passes (piece n (expr_items a (with_parameters ps 1 (globals D)))) P
      → (τ : Valuation) → And P (piece n (expr_items a (with_parameters ps 1 (globals D)))) finite τ → (h j : ℕ) → Refuses (paragraph_items (abbreviation n i ps a) D) P h j
      ↔ Or 36 n (is_global i D ≡ true) h j ((h ≡ 38) × (j ≡ n) × (32 < size (type_in τ a)))
