-- Schema expressions, from node to node: their kinds, and a Conjunction's two sides.
use mathlib.Core.Path.{◌≡◌, refl, sym, ap, subst, ◌∙◌}
use mathlib.Core.Bool.{false}
use mathlib.Core.Logic.{⊎_elim}
use mathlib.Core.List.{List}
use Prim.Native.Nat.{ℕ, ◌+◌, ◌<◌}
use native.Mathlib.Omega.{arith}
use lib.ListN.{get_or}
use Rattle.layout.specs.Layout.{part}
use Rattle.reader_rules.specs.Kinds.{schema_expressions, texts, includes}
use Rattle.reader_rules.specs.Nodes.{kind_at}
use Rattle.reader_rules.specs.Promise.{At}
use Rattle.reader_rules.specs.Tree.{both}
use Rattle.reader_rules.specs.Decode.{schema_at, text_at, include_at}
use Rattle.reader_rules.proofs.TreeShape.{Two}
use Rattle.reader_rules.proofs.TreeText.{schema_kinds, schema_both, schema_plain, schema_from, as_text, as_include}
use Rattle.checker_signatures.specs.Tables.{table_words}
use Rattle.checker_contracts.specs.Joining.{JoinAsk, Joined}
use Rattle.checker_contracts.specs.Schemas.{SchemaAsk, SchemaDone}
use Rattle.checker_contracts.specs.Texts.{TextAsk, TextDone}
use Rattle.checker_contracts.specs.Includes.{BringsAsk, BringsDone}
use Rattle.checker_contracts.proofs.SchemaKinds.{text_asked, text_schema, include_asked, include_schema}
use Rattle.checker_contracts.proofs.Conjoining.{both_first, both_first_stops, both_second, both_second_stops}
use Rattle.checker_contracts.proofs.Keeping.{join_asked, both_joined}

-- A SCHEMA EXPRESSION. q is its kind, p its words.
module _ (doc p : List ℕ) (k q : ℕ) (N : At doc schema_expressions k) (ep : p ≡ part doc k) (eq : q ≡ get_or p 0 0) (s d w : List ℕ) (stack at free : ℕ) (A : SchemaAsk s d w stack at free (schema_at doc k)) where
  kind : q ≡ kind_at doc k
  kind = eq ∙ ap (λ z. get_or z 0 0) ep

  pub plain_at_lem : q ≡ 10 → At doc texts k
  plain_at_lem e = as_text doc schema_expressions k N (sym kind ∙ e)

  pub plain_ask : q ≡ 10 → TextAsk s d w stack at free (text_at doc k)
  plain_ask e = text_asked s d w stack at free (schema_at doc k) (text_at doc k) (schema_plain doc k (sym kind ∙ e)) A

  pub plain_done : q ≡ 10 → (s' w' : List ℕ) (number place m at' : ℕ) → TextDone s s' d w w' stack at free (text_at doc k) false number place m at' →
      SchemaDone s s' d w w' stack at free (schema_at doc k) number place m at'
  plain_done e = text_schema s d w stack at free (schema_at doc k) (text_at doc k) (schema_plain doc k (sym kind ∙ e))

  pub from_at : q ≡ 12 → At doc includes k
  from_at e = as_include doc schema_expressions k N (sym kind ∙ e)

  pub from_ask : q ≡ 12 → BringsAsk s d w stack at free (include_at doc k)
  from_ask e = include_asked s d w stack at free (schema_at doc k) (include_at doc k) (schema_from doc k (sym kind ∙ e)) A

  pub from_done : q ≡ 12 → (s' w' : List ℕ) (number place m at' : ℕ) → BringsDone s s' d w w' stack at free (include_at doc k) number place m at' →
      SchemaDone s s' d w w' stack at free (schema_at doc k) number place m at'
  from_done e = include_schema s d w stack at free (schema_at doc k) (include_at doc k) (schema_from doc k (sym kind ∙ e))

  -- 15, with the operands x and y
  module _ (no_text : q ≡ 10 → ⊥) (no-include : q ≡ 12 → ⊥) where
    fifteen : kind_at doc k ≡ 15
    fifteen = ⊎_elim (λ z. absurd (no_text (kind ∙ z))) (λ y. ⊎_elim (λ z. absurd (no-include (kind ∙ z))) (λ z. z) y) (schema_kinds doc k N)

    operands : Two doc k schema_expressions schema_expressions (get_or (part doc k) 1 0) (get_or (part doc k) 2 0) (schema_at doc k ≡ both k (schema_at doc (get_or (part doc k) 1 0)) (schema_at doc (get_or (part doc k) 2 0)))
    operands = schema_both doc k N fifteen (get_or (part doc k) 1 0) (get_or (part doc k) 2 0) refl refl

    abbrev x₀ : ℕ
    x₀ = get_or (part doc k) 1 0

    abbrev y₀ : ℕ
    y₀ = get_or (part doc k) 2 0

    A' : SchemaAsk s d w stack at free (both k (schema_at doc x₀) (schema_at doc y₀))
    A' = subst (SchemaAsk s d w stack at free) operands.tree A

    back : (s' w' : List ℕ) (number place m at' : ℕ) → SchemaDone s s' d w w' stack at free (both k (schema_at doc x₀) (schema_at doc y₀)) number place m at' →
        SchemaDone s s' d w w' stack at free (schema_at doc k) number place m at'
    back s' w' number place m at' D = subst (λ z. SchemaDone s s' d w w' stack at free z number place m at') (sym operands.tree) D

    pub near : free + table_words < 100000
    near = let z = A.walking.room.frames in omega arith

    module _ (x : ℕ) (ex : x ≡ get_or p 1 0) where
      first_is : x ≡ x₀
      first_is = ex ∙ ap (λ z. get_or z 1 0) ep

      pub left_at : At doc schema_expressions x
      left_at = subst (At doc schema_expressions) (sym first_is) operands.left.at

      pub left_lower : x < k
      left_lower = subst (λ z. z < k) (sym first_is) operands.left.below

      pub left_asked : SchemaAsk s d w stack at free (schema_at doc x)
      left_asked = subst (λ z. SchemaAsk s d w stack at free (schema_at doc z)) (sym first_is) (both_first s d w stack at free k (schema_at doc x₀) (schema_at doc y₀) A')

      module _ (s₁ w₁ : List ℕ) (number place m at₁ : ℕ) (P : SchemaDone s s₁ d w w₁ stack at free (schema_at doc x) number place m at₁) where
        P' : SchemaDone s s₁ d w w₁ stack at free (schema_at doc x₀) number place m at₁
        P' = subst (λ z. SchemaDone s s₁ d w w₁ stack at free (schema_at doc z) number place m at₁) first_is P

        pub left_stops_lem : (number ≡ 0 → ⊥) → SchemaDone s s₁ d w w₁ stack at free (schema_at doc k) number place m at₁
        left_stops_lem z = back s₁ w₁ number place m at₁ (both_first_stops s d w stack at free k (schema_at doc x₀) (schema_at doc y₀) A' s₁ w₁ number place m at₁ P' z)

        module _ (fine : number ≡ 0) (y : ℕ) (ey : y ≡ get_or p 2 0) where
          second_is : y ≡ y₀
          second_is = ey ∙ ap (λ z. get_or z 2 0) ep

          pub right_at : At doc schema_expressions y
          right_at = subst (At doc schema_expressions) (sym second_is) operands.right.at

          pub right_lower : y < k
          right_lower = subst (λ z. z < k) (sym second_is) operands.right.below

          pub right_asked : SchemaAsk s₁ d w₁ stack at₁ (free + table_words) (schema_at doc y)
          right_asked = subst (λ z. SchemaAsk s₁ d w₁ stack at₁ (free + table_words) (schema_at doc z)) (sym second_is)
              (both_second s d w stack at free k (schema_at doc x₀) (schema_at doc y₀) A' s₁ w₁ number place m at₁ P' fine)

          module _ (s₂ w₂ : List ℕ) (number' place' n at₂ : ℕ) (Q : SchemaDone s₁ s₂ d w₁ w₂ stack at₁ (free + table_words) (schema_at doc y) number' place' n at₂) where
            Q' : SchemaDone s₁ s₂ d w₁ w₂ stack at₁ (free + table_words) (schema_at doc y₀) number' place' n at₂
            Q' = subst (λ z. SchemaDone s₁ s₂ d w₁ w₂ stack at₁ (free + table_words) (schema_at doc z) number' place' n at₂) second_is Q

            pub right_stops_lem : (number' ≡ 0 → ⊥) → SchemaDone s s₂ d w w₂ stack at free (schema_at doc k) number' place' n at₂
            right_stops_lem z =
                back s₂ w₂ number' place' n at₂
                (both_second_stops s d w stack at free k (schema_at doc x₀) (schema_at doc y₀) A' s₁ w₁ number place m at₁ P' fine s₂ w₂ number' place' n at₂ Q' z)

            module _ (fine' : number' ≡ 0) where
              pub rows_asked : JoinAsk s₂ d w₂ free m n at₁ at₂
              rows_asked = join_asked s d w stack at free k (schema_at doc x₀) (schema_at doc y₀) A' s₁ w₁ number place m at₁ P' fine s₂ w₂ number' place' n at₂ Q' fine'

              pub rows_joined : (s₃ w₃ : List ℕ) (f z c e : ℕ) → Joined s₂ s₃ d w₂ w₃ free m n at₁ at₂ k f z c e → SchemaDone s s₃ d w w₃ stack at free (schema_at doc k) f z c e
              rows_joined s₃ w₃ f z c e J =
                  back s₃ w₃ f z c e
                  (both_joined s d w stack at free k (schema_at doc x₀) (schema_at doc y₀) A' s₁ w₁ number place m at₁ P' fine s₂ w₂ number' place' n at₂ Q' fine' s₃ w₃ f z c e J)
