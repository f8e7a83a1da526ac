-- Scopes: where a Ref and a schema name are looked up, and what a Text, an Include and a schema expression declare (document 01, "Scope" and "Include").
use Rattle.std.specs.Prelude.{cond, List, [], ◌∷◌, ℕ, suc, eqb}
use Rattle.reader_rules.specs.Tree.{Text, text, Lines, end, declaration, inclusion, Include, include, Schema, plain, from, both, exprs_length}
use Rattle.types_rules.specs.Types.{Term, Terms}
use Rattle.types_rules.specs.Instance.{instance}
use Rattle.checker_rules.specs.Unknowns.{unknown_at, row, power_of, parameter_of}
use Rattle.checker_rules.specs.Dictionary.{Dictionary, Named, of_local, name_in, NamedSchema, no_schema, a_schema, schema_in}
use Rattle.checker_rules.specs.Signatures.{Signature, no_names, naming, components_of, merge, declare, stroke_all, rename_all}

-- The identifiers of the Texts around, innermost first, then the parameters, then the earlier paragraphs.
pub data Scope : Type 0 where
  globals : Dictionary → Scope
  local : ℕ → Term → Scope → Scope

unfoldable pub name_at : ℕ → Scope → Named
name_at i (globals D) = name_in i D
name_at i (local j t Γ) = cond (eqb i j) (of_local t) (name_at i Γ)

-- schema names are found in earlier paragraphs alone
unfoldable pub schema_named : ℕ → Scope → NamedSchema
schema_named s (globals D) = schema_in s D
schema_named s (local j t Γ) = schema_named s Γ

-- A parameter X, the k-th from 1 on, has type power X.
unfoldable pub with_parameters : List ℕ → ℕ → Scope → Scope
with_parameters [] k Γ = Γ
with_parameters (i ∷ is) k Γ = with_parameters is (suc k) (local i (power_of (parameter_of k)) Γ)

unfoldable pub enter : Signature → Scope → Scope
enter no_names Γ = Γ
enter (naming i t s) Γ = enter s (local i t Γ)

-- Include: the schema's signature with the stroke on each identifier, all pairs renamed at once, the actuals' element types for the parameters. The
-- element type of the k-th actual is unknown k of the Include.
unfoldable pub brought : NamedSchema → Terms → ℕ → List (ℕ × ℕ) → Signature
brought no_schema actuals k rs = no_names
brought (a_schema p g) actuals k rs = rename_all rs (stroke_all k (components_of (instance actuals g)))

unfoldable pub include_signature : Include → Scope → Signature
include_signature (include n s k xs rs) Γ = brought (schema_named s Γ) (row n 1 (exprs_length xs)) k rs

-- A Text declares what its lines do, each line with the scope around the Text: lines do not see its identifiers.
unfoldable pub lines_signature : Lines → Scope → Signature → Signature
lines_signature end Γ r = r
lines_signature (declaration n a is ls) Γ r = lines_signature ls Γ (declare is (unknown_at n 0) r)
lines_signature (inclusion i ls) Γ r = lines_signature ls Γ (merge (include_signature i Γ) r)

unfoldable pub text_signature : Text → Scope → Signature
text_signature (text n p ls) Γ = lines_signature ls Γ no_names

-- What its predicate and the body beside it see.
unfoldable pub inside : Text → Scope → Scope
inside t Γ = enter (text_signature t Γ) Γ

unfoldable pub schema_signature : Schema → Scope → Signature
schema_signature (plain t) Γ = text_signature t Γ
schema_signature (from i) Γ = include_signature i Γ
schema_signature (both n a b) Γ = merge (schema_signature b Γ) (schema_signature a Γ)
