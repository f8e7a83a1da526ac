-- A Schema: its parameters in scope, its schema expression, and one entry.
use mathlib.Core.Path.{◌≡◌, refl, sym, ap, subst, ◌∙◌}
use mathlib.Core.List.{List, [], ◌∷◌}
use Prim.Native.Nat.{ℕ, ◌+◌, ◌-◌, ◌≤◌}
use native.Mathlib.Omega.{arith}
use lib.ListN.{length, replicate, length-append}
use lib.Seq.{sets, length-sets}
use Rattle.reader_rules.specs.Limited.{LimitedParagraph}
use Rattle.reader_rules.specs.Tree.{Paragraph, schema, Schema}
use Rattle.reader_rules.specs.TreeNumbers.{paragraph_numbers, schema_numbers}
use Rattle.types_rules.specs.Types.{Ty, Tys}
use Rattle.checker_rules.specs.Dictionary.{Dictionary, ◌▸◌, schema_entry, entry_words}
use Rattle.checker_rules.specs.Entries.{extend}
use Rattle.checker_rules.specs.Items.{skip, ◌⨾◌, MeetsIn}
use Rattle.checker_rules.specs.Rules.{paragraph_items, schema_items}
use Rattle.checker_rules.specs.Scopes.{Scope, globals, with_parameters, schema_signature}
use Rattle.types_cells.specs.Settled.{lower, heap}
use Rattle.types_solver.specs.Written.{Wrote}
use Rattle.checker_signatures.specs.Rows.{rows}
use Rattle.checker_signatures.proofs.RowLaws.{rows_length_lem}
use Rattle.checker_dictionary.specs.Waiting.{with_entries, waiting}
use Rattle.checker_lookup.specs.Scoped.{Scoped, DictionaryHeld}
use Rattle.checker_lookup.proofs.HeldLaws.{SameIndex, same_on}
use Rattle.checker_includes.specs.Storing.{Stored}
use Rattle.checker_contracts.specs.Room.{frames_at, entries_at}
use Rattle.checker_contracts.specs.Paragraphs.{ParagraphAsk, ParagraphDone}
use Rattle.checker_contracts.specs.Schemas.{SchemaAsk, SchemaDone, SchemaWent}
use Rattle.checker_contracts.specs.Visits.{idle}
use Rattle.checker_contracts.proofs.Nodes.{once_left}
use Rattle.checker_contracts.proofs.Scopes.{stored_on}
use Rattle.checker_contracts.proofs.Wiping.{wiped_low}
use Rattle.checker_entries.specs.Entries.{TypesAt, schema_of, entry_waits, TableAsk}
use Rattle.checker_entries.specs.Parameters.{ParametersPushed}
use Rattle.checker_entries.proofs.Beginning.{nothing_before, nothing_known, no_rows, room_below, walking_below, passes_any, refuses_any}
use Rattle.checker_entries.proofs.CarriedTypes.{TypesOf, types_of, binding_of_lem}
use Rattle.checker_entries.proofs.Waits.{one_waits, schema_few, wrote_index}

module _ (s d w : List ℕ) (p : Paragraph) (k name : ℕ) (ps : List ℕ) (x : Schema) (e : p ≡ schema k name ps x) (A' : ParagraphAsk s d w p)
    (s₁ w₁ : List ℕ) (n at₁ : ℕ) (P : ParametersPushed s s₁ w w₁ ps 0 n at₁) (few : n ≤ 4) where
  A : ParagraphAsk s d w (schema k name ps x)
  A = subst (ParagraphAsk s d w) e A'

  abbrev around : Dictionary → Scope
  around D = with_parameters ps 1 (globals D)

  begun : (D : Dictionary) → DictionaryHeld D d w → Scoped s₁ d w₁ n (idle skip []) (around D) D
  begun D R = P.scoped d (globals D) D (no_rows s d w D R)

  pub schema_asked : SchemaAsk s₁ d w₁ n at₁ frames_at x
  unfolding LimitedParagraph paragraph_numbers
  schema_asked =
      let o = P.place in
      let z = P.size in
      let v = A.wide in
      record {
        height = 10;
        texts = 4;
        limited = A.limited.1;
        walking =
            walking_below s₁ d w₁ n at₁ (schema_numbers x) (around A.dictionary) A.dictionary (P.stored.size ∙ A.size) A.few P.stored.after
            (once_left (schema_numbers x) (k ∷ []) A.once) (room_below w₁ n at₁ (omega arith) few (omega arith) (omega arith)) (begun A.dictionary A.recorded);
      }

  module _ (s₂ w₂ : List ℕ) (number place m at₂ : ℕ) (T : SchemaDone s₁ s₂ d w₁ w₂ n at₁ frames_at x number place m at₂) where
    same₂ : SameIndex w w₂
    same₂ = same_on w w₁ w₂ P.index T.done.still.index

    pub schema_stopped : (number ≡ 0 → ⊥) → (at count : ℕ) → ParagraphDone s s₂ d w w₂ p number place at count
    unfolding paragraph_items
    schema_stopped z at count = subst (λ y. ParagraphDone s s₂ d w w₂ y number place at count) (sym e) (record {
      size = T.done.still.size ∙ P.size;
      index = same₂;
      low = λ y. absurd (z y);
      goes = λ y. absurd (z y);
      stops = λ y D R. refuses_any (schema_items x (around D)) number place (T.done.stops y skip [] nothing_before (around D) D (begun D R) tt (nothing_known (schema_numbers x)));
    })

    module _ (fine : number ≡ 0) where
      went : (D : Dictionary) → DictionaryHeld D d w → SchemaWent s₂ d w₂ m frames_at skip [] (around D) x
      went D R = T.done.goes fine skip [] nothing_before (around D) D (begun D R) tt (nothing_known (schema_numbers x))

      own : (D : Dictionary) → DictionaryHeld D d w → TypesOf s₂ d (skip ⨾ schema_items x (around D)) (schema_signature x (around D)) (rows w₂ frames_at m)
      own D R = let X = went D R in types_of s₂ d (skip ⨾ schema_items x (around D)) X.unknowns (schema_signature x (around D)) (rows w₂ frames_at m) X.signature

      stored : Stored s s₂ 1 at₂
      stored = stored_on s s₁ s₂ 1 at₁ at₂ P.stored (T.done.areas fine).stored

      pub schema_table : TableAsk s₂ d w₂ frames_at m (entries_at + 6)
      schema_table =
          let O = own A.dictionary A.recorded in
          let z = A.few in
          let l = (T.done.areas fine).few in
          record {
            areas = record { size = stored.size ∙ A.size; few = omega arith };
            types = O.types;
            stand = O.stand;
            small = O.small;
            before = omega arith;
            near = omega arith;
          }

      pub schema_done : (s₃ w₃ : List ℕ) (end : ℕ) → n ≡ length ps → s₃ ≡ sets s₂ 1 (replicate (at₂ - 1) 0) →
          ((gs : Tys) → TypesAt (heap s₂ d) (rows w₂ frames_at m) gs → Wrote w₂ w₃ entries_at end (entry_waits (schema_of name n (rows w₂ frames_at m) gs))) → ParagraphDone s s₃ d w w₃ p 0 place entries_at 1
      unfolding paragraph_items extend MeetsIn with_entries waiting
      schema_done s₃ w₃ end c h W = subst (λ y. ParagraphDone s s₃ d w w₃ y 0 place entries_at 1) (sym e) (record {
        size = let O = own A.dictionary A.recorded in ap length (W O.types O.stand).area ∙ length-sets w₂ entries_at (entry_waits (schema_of name n (rows w₂ frames_at m) O.types)) ∙ T.done.still.size ∙ P.size;
        index = let O = own A.dictionary A.recorded in same_on w w₂ w₃ same₂ (wrote_index w₂ w₃ entries_at end (entry_waits (schema_of name n (rows w₂ frames_at m) O.types)) (omega arith) (W O.types O.stand));
        low = λ z.
            let o = P.place in
            let q = (T.done.areas fine).short in
            let l = (T.done.areas fine).few in
            ap lower h ∙ wiped_low s s₂ 1 at₂ A.size A.clean (omega arith) (omega arith) stored;
        goes = λ z D R.
            let X = went D R in
            let O = own D R in
            let S = X.walked.steady.some in
            let E = schema_of name (length ps) (rows w₂ frames_at m) O.types in
            let f = schema_few (heap s₂ d) name (length ps) (rows w₂ frames_at m) O.types O.stand O.small in
            let r = rows_length_lem w₂ frames_at m in
            let l = (T.done.areas fine).few in
            let v = A.wide in
            let y = T.done.still.size in
            let y' = P.size in
            let a = length-append (entry_words E) [] in
            record {
              passes = passes_any (schema_items x (around D)) X.walked.goes;
              table = S.0;
              meets = S.1.1;
              entries = E ∷ [];
              counted = refl;
              waits = one_waits E w₂ w₃ entries_at end (omega arith) (subst (λ j. Wrote w₂ w₃ entries_at end (entry_waits (schema_of name j (rows w₂ frames_at m) O.types))) c (W O.types O.stand));
              short = omega arith;
              extends = ap (λ (g : Ty). D ▸ schema_entry name (length ps) g)
                  (binding_of_lem s₂ d (skip ⨾ schema_items x (around D)) X.unknowns (schema_signature x (around D)) (rows w₂ frames_at m) X.signature O S.0 S.1);
            };
        stops = λ z. absurd (z refl);
      })
