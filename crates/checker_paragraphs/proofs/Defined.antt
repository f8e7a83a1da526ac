-- Paragraphs with parameters by the words of their node: Schema, Abbreviation.
use mathlib.Core.Path.{◌≡◌, refl, sym, ap, subst, ◌∙◌}
use mathlib.Core.List.{List}
use Prim.Native.Nat.{ℕ, ◌+◌, ◌-◌, ◌≤◌}
use native.Mathlib.Omega.{arith}
use lib.ListN.{length, get_or, take, drop, replicate}
use lib.Seq.{sets, length-take-le}
use lib.ListN.{length-drop}
use Rattle.layout.specs.Layout.{part}
use Rattle.reader_rules.specs.Decode.{paragraph_at, schema_at}
use Rattle.reader_rules.specs.Kinds.{paragraphs, schema_expressions}
use Rattle.reader_rules.specs.Nodes.{kind_at, operand_at}
use Rattle.reader_rules.specs.Promise.{At}
use Rattle.reader_rules.specs.Tree.{Paragraph, schema}
use Rattle.reader_rules.proofs.TreeParagraph.{Defined, paragraph_schema}
use Rattle.types_rules.specs.Types.{Tys}
use Rattle.types_cells.specs.Settled.{heap}
use Rattle.types_solver.specs.Written.{Wrote}
use Rattle.checker_signatures.specs.Rows.{rows}
use Rattle.checker_contracts.specs.Room.{frames_at, entries_at}
use Rattle.checker_contracts.specs.Paragraphs.{ParagraphAsk, ParagraphDone}
use Rattle.checker_contracts.specs.Schemas.{SchemaAsk, SchemaDone}
use Rattle.checker_entries.specs.Entries.{TypesAt, schema_of, entry_waits, TableAsk}
use Rattle.checker_entries.specs.Parameters.{ParametersAsk, ParametersPushed}
use Rattle.checker_entries.proofs.SchemaParagraph.{schema_asked, schema_stopped, schema_table, schema_done}
use Rattle.checker_closing.specs.Nodes.{Node, LinedAt}
use Rattle.checker_closing.specs.declared.results.Lined.{Lined}
use Rattle.checker_paragraphs.proofs.ParagraphNodes.{paragraph_told}

-- The finding-free promise does not depend on the place.
pub anywhere : {s s' d w w' : List ℕ} {p : Paragraph} {x y at count : ℕ} → ParagraphDone s s' d w w' p 0 x at count → ParagraphDone s s' d w w' p 0 y at count
anywhere D = record { size = D.size; index = D.index; low = D.low; goes = D.goes; stops = λ z. absurd (z refl) }

module _ {doc p : List ℕ} {k : ℕ} (N : Node doc p paragraphs k) {s d w : List ℕ} (A : ParagraphAsk s d w (paragraph_at doc k)) {n : ℕ} (en : n ≡ get_or p 2 0) where
  count_is : n ≡ operand_at doc k 2
  count_is = en ∙ ap (λ z. get_or z 2 0) N.words

  abbrev ps : List ℕ
  ps = take n (drop 3 p)

  -- 4
  module _ (q : kind_at doc k ≡ 4) where
    four : Defined doc k schema_expressions n (operand_at doc k (n + 3)) (paragraph_at doc k ≡ schema k (operand_at doc k 1) (take n (drop 3 (part doc k))) (schema_at doc (operand_at doc k (n + 3))))
    four = paragraph_schema doc k N.at q n (operand_at doc k (n + 3)) count_is refl

    pub schema_parameters : ParametersAsk s w p 0 n
    schema_parameters =
        let l = four.words in
        let e = ap length N.words in
        let v = A.wide in
        record { size = A.size; clean = A.clean; wide = omega arith; few = four.few; order = omega arith; inside = omega arith }

    given_count : n ≡ length ps
    given_count =
        let l = four.words in
        let e = ap length N.words in
        let z = length-drop 3 p in
        sym (length-take-le n (drop 3 p) (omega arith))

    module _ {x name : ℕ} (ex : x ≡ get_or p (n + 3) 0) (ei : name ≡ get_or p 1 0) where
      body_is : x ≡ operand_at doc k (n + 3)
      body_is = ex ∙ ap (λ z. get_or z (n + 3) 0) N.words

      tree : paragraph_at doc k ≡ schema k name ps (schema_at doc x)
      tree =
          four.tree
          ∙ ap (λ z. schema k z (take n (drop 3 (part doc k))) (schema_at doc (operand_at doc k (n + 3)))) (sym (ei ∙ ap (λ z. get_or z 1 0) N.words))
          ∙ ap (λ z. schema k name (take n (drop 3 z)) (schema_at doc (operand_at doc k (n + 3)))) (sym N.words)
          ∙ ap (λ z. schema k name ps (schema_at doc z)) (sym body_is)

      module _ {s₁ w₁ : List ℕ} {at₁ : ℕ} (P : ParametersPushed s s₁ w w₁ ps 0 n at₁) where
        pub schema_ask : At doc schema_expressions x × SchemaAsk s₁ d w₁ n at₁ frames_at (schema_at doc x)
        schema_ask = (subst (At doc schema_expressions) (sym body_is) four.body.at, schema_asked s d w (paragraph_at doc k) k name ps (schema_at doc x) tree A s₁ w₁ n at₁ P four.few)

        module _ {s₂ w₂ : List ℕ} {number place m at₂ : ℕ} (T : SchemaDone s₁ s₂ d w₁ w₂ n at₁ frames_at (schema_at doc x) number place m at₂) where
          pub schema_stops : (number ≡ 0 → ⊥) → (at count : ℕ) → ParagraphDone s s₂ d w w₂ (paragraph_at doc k) number place at count
          schema_stops z = schema_stopped s d w (paragraph_at doc k) k name ps (schema_at doc x) tree A s₁ w₁ n at₁ P four.few s₂ w₂ number place m at₂ T z

          module _ (fine : number ≡ 0) where
            pub schema_rows_lem : TableAsk s₂ d w₂ frames_at m (entries_at + 6)
            schema_rows_lem = schema_table s d w (paragraph_at doc k) k name ps (schema_at doc x) tree A s₁ w₁ n at₁ P four.few s₂ w₂ number place m at₂ T fine

            pub schema_low : m ≤ 16
            schema_low = (T.done.areas fine).few

            pub schema_told : {s₃ w₃ : List ℕ} {end : ℕ} {r : Lined} → ((gs : Tys) → TypesAt (heap s₂ d) (rows w₂ frames_at m) gs → Wrote w₂ w₃ entries_at end (entry_waits (schema_of name n (rows w₂ frames_at m) gs))) →
                s₃ ≡ sets s₂ 1 (replicate (at₂ - 1) 0) → LinedAt r 0 k 1 entries_at → ParagraphDone s s₃ d w w₃ (paragraph_at doc k) r.number r.place r.at r.count
            schema_told {s₃} {w₃} {end} W h L =
                paragraph_told L (anywhere (schema_done s d w (paragraph_at doc k) k name ps (schema_at doc x) tree A s₁ w₁ n at₁ P four.few s₂ w₂ number place m at₂ T fine s₃ w₃ end given_count h W))
