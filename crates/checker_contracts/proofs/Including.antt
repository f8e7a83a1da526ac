-- An Include: its schema (31) and count (32), its actuals, then the components with stroke and renames (37).
use borrow.Author.Tests.{eq-eqb, ne_eqb}
use mathlib.Core.Path.{◌≡◌, refl, sym, ap, subst, ◌∙◌}
use mathlib.Core.Bool.{Bool, true, false}
use mathlib.Core.List.{List, [], ◌∷◌, ◌++◌}
use mathlib.Core.Logic.{inl, inr, ⊎_elim}
use Prim.Native.Nat.{ℕ, ◌+◌, ◌*◌, ◌-◌, ◌≤◌, ◌<◌}
use native.Mathlib.Nat.{eq-zero-or-pos}
use native.Mathlib.Omega.{arith}
use lib.ListN.{length, get_or, drop}
use lib.Seq.{sets, length-sets}
use Rattle.reader_rules.specs.Limited.{LimitedInclude}
use Rattle.reader_rules.specs.Tree.{Include, include, Exprs, exprs_length, include_node}
use Rattle.reader_rules.specs.TreeNumbers.{include_numbers, exprs_numbers}
use Rattle.types_rules.specs.Former.{binding}
use Rattle.types_rules.specs.Formed.{FormedType, Arity, Ascending}
use Rattle.types_rules.specs.Instance.{instance}
use Rattle.types_rules.specs.Types.{Ty, Tys, node, Term, nil}
use Rattle.checker_rules.specs.Conditions.{refuse_if}
use Rattle.checker_rules.specs.Dictionary.{Dictionary, NamedSchema, no_schema, a_schema, schema_in}
use Rattle.checker_rules.specs.Items.{Items, skip, ◌⨾◌, refusal, Meets, Refuses, MeetsIn}
use Rattle.checker_rules.specs.Rules.{include_rule, include_items, actual_items}
use Rattle.checker_rules.specs.Scopes.{Scope, schema_named, brought, include_signature}
use Rattle.checker_rules.specs.Signatures.{Signature, components_of, stroke_all, rename_all, wrong_names}
use Rattle.checker_rules.specs.Unknowns.{row}
use Rattle.types_cells.specs.Layout.{dictionary_at, area_size}
use Rattle.types_cells.specs.Settled.{heap, Reads}
use Rattle.checker_dictionary.specs.Index.{Indexed}
use Rattle.checker_dictionary.specs.Lookup.{parameters_at, type_at, SchemaFound, Recorded as Entry}
use Rattle.checker_dictionary.proofs.LookupLaws.{schema_formed}
use Rattle.checker_signatures.specs.Rows.{rows, stack as stack_of, flat, identifiers_of, stroke_rows, rename_rows}
use Rattle.checker_signatures.specs.Tables.{Beside, Brings, half_table}
use Rattle.checker_signatures.specs.Carried.{Carries}
use Rattle.checker_signatures.proofs.CallLaws.{brought_wrong, brought_names}
use Rattle.checker_signatures.proofs.RowLaws.{rows_length_lem, get_d_below}
use Rattle.checker_signatures.proofs.ScopeLaws.{stacked_schema}
use Rattle.checker_signatures.proofs.TableLaws.{table_length, table_rows, rename_count}
use Rattle.checker_signatures.proofs.IncludeLaws.{stroke_length}
use Rattle.checker_pieces.specs.Piece.{Steady, Walked}
use Rattle.checker_pieces.proofs.Between.{walked_skip, walked_then, walked_mine, refuses_first, refuses_second, refused}
use Rattle.checker_lookup.specs.Components.{Component, ComponentsAsked, ComponentsOf, ComponentRows}
use Rattle.checker_lookup.specs.Scoped.{SettledAt, SchemaType, DictionaryHeld, Scoped}
use Rattle.checker_lookup.proofs.ComponentLaws.{components_high}
use Rattle.checker_lookup.proofs.LookingUp.{dictionary_reads}
use Rattle.checker_lookup.proofs.ThetaRules.{schema_limited}
use Rattle.checker_includes.proofs.NewRowLaws.{renamed_ascending}
use Rattle.checker_contracts.specs.Includes.{actual_count, IncludeAsk, IncludeDone, ActualAt, ActualFresh, ActualOwned, ActualsAsk, ActualsWent, ActualsDone}
use Rattle.checker_contracts.specs.Visits.{Owned, Fresh, idle, Spared}
use Rattle.checker_contracts.proofs.ActualTypes.{actual_owned, actual_fresh, actual_types}
use Rattle.checker_contracts.proofs.TableRows.{carries_row}
use Rattle.checker_contracts.proofs.Nodes.{once_apart}
use Rattle.checker_contracts.proofs.Passing.{walking_first}
use Rattle.checker_contracts.proofs.Scopes.{spared_refl, spared_on}
use Rattle.checker_contracts.proofs.Refused.{done_refused}

-- A refusal that its flag decides.
refuse_none : (b : Bool) (f n : ℕ) → b ≡ false → refuse_if b f n ≡ skip
unfolding refuse_if
refuse_none b f n e = ap (λ x. refuse_if x f n) e

refuse_one : (b : Bool) (f n : ℕ) → b ≡ true → refuse_if b f n ≡ refusal f n
unfolding refuse_if
refuse_one b f n e = ap (λ x. refuse_if x f n) e

-- THE ITEMS, by what the dictionary has.
module _ (n id k : ℕ) (xs : Exprs) (rs : List (ℕ × ℕ)) (Γ : Scope) where
  abbrev own : Include
  own = include n id k xs rs

  items_absent : schema_named id Γ ≡ no_schema → include_items own Γ ≡ refusal 31 n
  unfolding include_items include_rule
  items_absent e = ap (λ f. include_rule f own (actual_items xs n 1 Γ)) e

  module _ (p : ℕ) (g : Ty) (e : schema_named id Γ ≡ a_schema p g) where
    items_count : (exprs_length xs ≡ p → ⊥) → include_items own Γ ≡ refusal 32 n
    unfolding include_items include_rule
    items_count ne = let z = ne_eqb (exprs_length xs) p ne in ap (λ f. include_rule f own (actual_items xs n 1 Γ)) e ∙ rw z

    items_found : exprs_length xs ≡ p → include_items own Γ ≡ (actual_items xs n 1 Γ ⨾ refuse_if (wrong_names k rs (components_of (instance nil g))) 37 n)
    unfolding include_items include_rule
    items_found q = let z = eq-eqb (exprs_length xs) p q in ap (λ f. include_rule f own (actual_items xs n 1 Γ)) e ∙ rw z

    signature_found : include_signature own Γ ≡ rename_all rs (stroke_all k (components_of (instance (row n 1 (exprs_length xs)) g)))
    unfolding include_signature brought
    signature_found = ap (λ f. brought f (row n 1 (exprs_length xs)) k rs) e

module _ (s d w : List ℕ) (stack at free n id k : ℕ) (xs : Exprs) (rs : List (ℕ × ℕ)) (places : List ℕ) (A : IncludeAsk s d w stack at free (include n id k xs rs) places) where
  abbrev i : Include
  i = include n id k xs rs

  abbrev l : List ℕ
  l = exprs_numbers xs

  -- What comes after any items.
  abbrev After : (Items → List ℕ → Scope → Type 0) → Type 0
  After P = (H : Items) (U : List ℕ) → Steady H U → (Γ : Scope) (D : Dictionary) → Scoped s d w stack (idle H U) Γ D → (u : Unit {0}) → Fresh (include_numbers i) U → P H U Γ

  stopped : (s' w' places' : List ℕ) (number place m at' : ℕ) → (number ≡ 0 → ⊥) → Spared w w' stack free → length places' ≡ length places →
      After (λ H U Γ. Refuses (include_items i Γ) (MeetsIn H) number place) → IncludeDone s s' d w w' stack at free i places places' number place m at'
  stopped s' w' places' number place m at' ne S z r = record { done = done_refused (record { spared = S; row = z }) ne r }

  module _ (e : ℕ) (found : (D : Dictionary) → Indexed D d w → SchemaFound D d id e) where
    in_dictionary : (H : Items) (U : List ℕ) (Γ : Scope) (D : Dictionary) → Scoped s d w stack (idle H U) Γ D → schema_named id Γ ≡ schema_in id D
    in_dictionary H U Γ D C = stacked_schema (SettledAt s d (idle H U)) D id Γ (stack_of w 0 stack) C.stacked

    -- 31
    pub include_absent : e ≡ 0 → (m at' : ℕ) → IncludeDone s s d w w stack at free i places places 31 n m at'
    include_absent z m at' =
        stopped s w places 31 n m at' (λ q. omega arith) (spared_refl w stack free) refl
        (λ H U S Γ D C u F.
        subst (λ c. Refuses c (MeetsIn H) 31 n) (sym (items_absent n id k xs rs Γ (in_dictionary H U Γ D C ∙ (found D C.recorded.holds).absent z))) (refused H 31 n))

    module _ (some : e ≡ 0 → ⊥) where
      entry : (D : Dictionary) → DictionaryHeld D d w → Entry NamedSchema (schema_in id D) a_schema d e
      entry D R = (found D R.holds).present (⊎_elim (λ z. absurd (some z)) (λ z. omega arith) (eq-zero-or-pos e))

      -- 32
      pub include_count : (p : ℕ) → p ≡ parameters_at d e → (p ≡ exprs_length xs → ⊥) → (m at' : ℕ) → IncludeDone s s d w w stack at free i places places 32 n m at'
      include_count p ep ne m at' =
          stopped s w places 32 n m at' (λ q. omega arith) (spared_refl w stack free) refl
          (λ H U S Γ D C u F.
          let E = entry D C.recorded in
          subst (λ c. Refuses c (MeetsIn H) 32 n)
          (sym (items_count n id k xs rs Γ E.parameters E.type (in_dictionary H U Γ D C ∙ E.means) (λ q. ne (ep ∙ E.counted ∙ sym q)))) (refused H 32 n))

      -- THE ACTUALS.
      module _ (ep : parameters_at d e ≡ exprs_length xs) (few_actuals : exprs_length xs ≤ 4) where
        pub actuals_ask : ActualsAsk s d w stack at free n 0 xs places
        unfolding LimitedInclude include_numbers walking_first
        actuals_ask =
            let h = A.limited.0 in
            let p = A.walking.room.pool in
            record {
              height = A.height - 1;
              texts = A.texts;
              limited = A.limited.2;
              walking = walking_first s d w stack at free A.height (A.height - 1) l (n ∷ []) (omega arith) A.walking;
              few = A.limited.1;
              own = λ x o q. actual_fresh n 0 l A.walking.known A.walking.fresh x (inr o) q;
              apart = λ q. once_apart l (n ∷ []) A.walking.once n q (inl refl);
              row = A.row;
              count = omega arith;
              pool = omega arith;
            }

        module _ (s₁ w₁ places₁ : List ℕ) (number place at₁ : ℕ) (P : ActualsDone s s₁ d w w₁ stack at free n 0 xs places places₁ number place at₁) where
          items_are : (H : Items) (U : List ℕ) (Γ : Scope) (D : Dictionary) (C : Scoped s d w stack (idle H U) Γ D) →
              include_items i Γ ≡ (actual_items xs n 1 Γ ⨾ refuse_if (wrong_names k rs (components_of (instance nil (entry D C.recorded).type))) 37 n)
          items_are H U Γ D C =
              let E = entry D C.recorded in
              items_found n id k xs rs Γ E.parameters E.type (in_dictionary H U Γ D C ∙ E.means) (sym ep ∙ E.counted)

          fresh : (U : List ℕ) → Fresh (include_numbers i) U → ActualFresh n 0 l U
          unfolding include_numbers
          fresh U F = actual_fresh n 0 l U F

          -- 33, 34 or 39 of an actual, or the finding of a node below
          pub include_refused : (number ≡ 0 → ⊥) → (m at' : ℕ) → IncludeDone s s₁ d w w₁ stack at free i places places₁ number place m at'
          include_refused ne m at' =
              stopped s₁ w₁ places₁ number place m at' ne P.done.still.spared P.done.still.row
              (λ H U S Γ D C u F.
              subst (λ c. Refuses c (MeetsIn H) number place) (sym (items_are H U Γ D C))
              (refuses_first H (actual_items xs n 1 Γ) _ number place (P.done.stops ne H U S Γ D C tt (fresh U F))))

          -- THE COMPONENTS, of the binding at q in the dictionary.
          module _ (fine : number ≡ 0) (q : ℕ) (eq : q ≡ type_at d e) where
            size : length s₁ ≡ area_size
            size = (P.done.areas fine).stored.size ∙ A.walking.size

            module _ (D : Dictionary) (R : DictionaryHeld D d w) where
              limits : SchemaType (entry D R).type
              limits = schema_limited D id (entry D R).parameters (entry D R).type R.limited (entry D R).means

              abbrev ids : List ℕ
              ids = limits.1.0

              abbrev gs : Tys
              gs = limits.1.1

              binding_reads : Reads (heap s₁ d) (dictionary_at + q) (node (binding ids) gs)
              binding_reads =
                  let E = entry D R in
                  subst (Reads (heap s₁ d) (dictionary_at + q)) limits.1.2
                  (dictionary_reads s₁ d q E.type E.after size (schema_formed D id E.parameters E.type R.formed E.means) (ap (λ x. drop x d) eq ∙ E.written))

              few_ids : length ids ≤ 16
              unfolding FormedType Arity
              few_ids = let a = binding_reads.formed.0.0 in let b = (subst (λ g. SchemaType g) limits.1.2 limits).0 in omega arith

            pub components_ask : ComponentsAsked s₁ d w₁ (dictionary_at + q) (free + half_table)
            components_ask =
                let D = A.walking.dictionary in
                let R = A.walking.scoped.recorded in
                let a = few_ids D R in
                let b = A.walking.room.frames in
                let c = A.walking.room.wide in
                let f = A.walking.few in
                let z = P.done.still.spared.size in
                record {
                  areas = record { size = size; few = omega arith };
                  few = f;
                  identifiers = ids D R;
                  types = gs D R;
                  reads = binding_reads D R;
                  table = omega arith;
                }

            module _ (w₂ : List ℕ) (c : ℕ) (K : ComponentRows s₁ d w₁ w₂ (dictionary_at + q) (free + half_table) c) where
              of : (D : Dictionary) (R : DictionaryHeld D d w) → ComponentsOf s₁ d w₁ w₂ (dictionary_at + q) (free + half_table) c (ids D R) (gs D R)
              of D R = K.of (ids D R) (gs D R) (binding_reads D R)

              own_rows : ComponentsOf s₁ d w₁ w₂ (dictionary_at + q) (free + half_table) c (ids A.walking.dictionary A.walking.scoped.recorded) (gs A.walking.dictionary A.walking.scoped.recorded)
              own_rows = of A.walking.dictionary A.walking.scoped.recorded

              few_rows : c ≤ 16
              few_rows = let a = few_ids A.walking.dictionary A.walking.scoped.recorded in let b = own_rows.count in omega arith

              size₂ : length w₂ ≡ length w
              size₂ = table_length w₁ (free + half_table) w₂ _ c own_rows.table ∙ P.done.still.spared.size

              pub bring_ask : Beside (length w₂) free c (free + half_table) c
              bring_ask =
                  let a = few_rows in
                  let z = size₂ in
                  let f = A.walking.room.frames in
                  let v = A.walking.room.wide in
                  record { room = omega arith; inside = omega arith; apart = inl (omega arith) }

              module _ (w₃ : List ℕ) (wrong : Bool) (m : ℕ) (B : Brings w₂ w₃ (free + half_table) c free k rs wrong m) (z : length w₃ ≡ length w₂) where
                below : (j : ℕ) → j < free → get_or w₃ j 0 ≡ get_or w₁ j 0
                below j y =
                    B.below j (omega arith) y ∙ ap (λ v. get_or v j 0) own_rows.table.words ∙ get_d_below (flat _) w₁ (free + half_table) j (omega arith)

                spared : Spared w w₃ stack free
                spared =
                    let t = A.walking.room.stack in
                    let o = A.walking.room.low in
                    spared_on w w₁ w₃ stack free P.done.still.spared
                    (record { size = z ∙ table_length w₁ (free + half_table) w₂ _ c own_rows.table; scope = λ j y. below j (omega arith); index = λ j x y. below j (omega arith); frames = λ j x y. below j y })

                -- what is wrong with the names
                wrong_is : (D : Dictionary) (R : DictionaryHeld D d w) → wrong ≡ wrong_names k rs (components_of (instance nil (entry D R).type))
                wrong_is D R =
                    brought_wrong (Component s₁ d nil) w₂ w₃ (free + half_table) c free k rs wrong m B (components_of (instance nil (node (binding (ids D R)) (gs D R)))) ((of D R).carries nil)
                    ∙ ap (λ g. wrong_names k rs (components_of (instance nil g))) (sym (limits D R).1.2)

                -- 37
                pub include_wrong : wrong ≡ true → (m' at' : ℕ) → IncludeDone s s₁ d w w₃ stack at free i places places₁ 37 n m' at'
                include_wrong b m' at' =
                    stopped s₁ w₃ places₁ 37 n m' at' (λ x. omega arith) spared P.done.still.row
                    (λ H U S Γ D C u F.
                    let W = P.done.goes fine H U S Γ D C tt (fresh U F) in
                    let c = actual_items xs n 1 Γ in
                    subst (λ c. Refuses c (MeetsIn H) 37 n) (sym (items_are H U Γ D C))
                    (refuses_second H c _ 37 n W.walked.goes
                    (subst (λ x. Refuses x (MeetsIn (H ⨾ c)) 37 n) (sym (refuse_one _ 37 n (sym (wrong_is D C.recorded) ∙ b))) (refused (H ⨾ c) 37 n))))

                module _ (right : wrong ≡ false) where
                  -- The rows that are brought, with any terms for the parameters.
                  brought_rows : (R : Term → ℕ → Type 0) (q' : Signature) → Carries R q' (rows w₂ (free + half_table) c) → Carries R (rename_all rs (stroke_all k q')) (rows w₃ free m)
                  brought_rows R q' Q = brought_names R w₂ w₃ (free + half_table) c free k rs wrong m B q' Q right (let b = bring_ask.room in b)

                  few_brought : m ≤ 16
                  few_brought =
                      let a = (B.words right).count in
                      let b = rename_count rs (stroke_rows k (rows w₂ (free + half_table) c)) in
                      let x = stroke_length k (rows w₂ (free + half_table) c) in
                      let y = rows_length_lem w₂ (free + half_table) c in
                      let f = few_rows in
                      omega arith

                  abbrev High : Term → ℕ → Type 0
                  High t p = Component s₁ d nil t p × (dictionary_at ≤ p)

                  high : (j : ℕ) → j < m → dictionary_at ≤ get_or w₃ (free + 2 * j + 1) 0
                  high j y =
                      let D = A.walking.dictionary in
                      let R = A.walking.scoped.recorded in
                      (carries_row High _ w₃ free m j
                      (brought_rows High _ (components_high s₁ d w₁ w₂ (dictionary_at + q) (free + half_table) c (ids D R) (gs D R) own_rows (omega arith) nil)) y).1.1

                  ascends : Ascending (identifiers_of (rows w₃ free m))
                  ascends =
                      let M = B.words right in
                      let q' = stroke_rows k (rows w₂ (free + half_table) c) in
                      let x = few_brought in
                      let y = length-sets w₂ (free + half_table) (flat q') in
                      let f = A.walking.room.frames in
                      let v = A.walking.room.wide in
                      let o = size₂ in
                      subst (λ l. Ascending (identifiers_of l)) (sym (table_rows (sets w₂ (free + half_table) (flat q')) free w₃ (rename_rows rs q') m M (omega arith))) (renamed_ascending rs q')

                  components : (H : Items) (U : List ℕ) (Γ : Scope) (D : Dictionary) → Scoped s d w stack (idle H U) Γ D →
                      Carries (Component s₁ d (row n 1 (exprs_length xs))) (include_signature i Γ) (rows w₃ free m)
                  components H U Γ D C =
                      let X = row n 1 (exprs_length xs) in
                      let E = entry D C.recorded in
                      let g = node (binding (ids D C.recorded)) (gs D C.recorded) in
                      subst (λ q'. Carries (Component s₁ d X) q' (rows w₃ free m))
                      (ap (λ x. rename_all rs (stroke_all k (components_of (instance X x)))) (sym (limits D C.recorded).1.2)
                      ∙ sym (signature_found n id k xs rs Γ E.parameters E.type (in_dictionary H U Γ D C ∙ E.means)))
                      (brought_rows (Component s₁ d X) _ ((of D C.recorded).carries X))

                  walked : (H : Items) (U : List ℕ) → Steady H U → (Γ : Scope) (D : Dictionary) (C : Scoped s d w stack (idle H U) Γ D) → (W : ActualsWent s₁ d H U Γ n 0 xs places₁) →
                      Walked H (include_items i Γ) U W.unknowns (Owned (include_numbers i))
                  unfolding include_numbers
                  walked H U S Γ D C W =
                      let a = actual_items xs n 1 Γ in
                      subst (λ c. Walked H c U W.unknowns (Owned (l ++ (n ∷ []))))
                      (sym (items_are H U Γ D C ∙ ap (λ x. a ⨾ x) (refuse_none _ 37 n (sym (wrong_is D C.recorded) ∙ right))))
                      (walked_then H a skip U W.unknowns W.unknowns (Owned (l ++ (n ∷ []))) S
                      (walked_mine H a U W.unknowns (ActualOwned n 0 l) (Owned (l ++ (n ∷ []))) (actual_owned n 0 l) W.walked)
                      (walked_skip (H ⨾ a) W.unknowns (Owned (l ++ (n ∷ []))) W.walked.steady))

                  actual_later : (H : Items) (U : List ℕ) (Γ : Scope) (D : Dictionary) (C : Scoped s d w stack (idle H U) Γ D) (W : ActualsWent s₁ d H U Γ n 0 xs places₁) (j : ℕ) →
                      ActualAt s₁ d (H ⨾ actual_items xs n 1 Γ) W.unknowns n j (get_or places₁ j 0) → ActualAt s₁ d (H ⨾ include_items i Γ) W.unknowns n j (get_or places₁ j 0)
                  unfolding MeetsIn
                  actual_later H U Γ D C W j T = record {
                    type = T.type;
                    settled = λ τ y. T.settled τ (y.0, (subst (λ c. Meets c τ) (items_are H U Γ D C) y.1).0);
                    shown = T.shown;
                    reads = T.reads;
                    alike = T.alike;
                    over = T.over;
                  }

                  pub include_done : (place' : ℕ) → IncludeDone s s₁ d w w₃ stack at free i places places₁ 0 place' m at₁
                  unfolding actual_count include_node
                  include_done place' = record {
                    done = record {
                      still = record { spared = spared; row = P.done.still.row };
                      areas = λ x. record {
                        stored = (P.done.areas fine).stored;
                        short = (P.done.areas fine).short;
                        few = few_brought;
                        recorded = high;
                        ascending = ascends;
                      };
                      goes = λ x H U S Γ D C u F.
                          let W = P.done.goes fine H U S Γ D C tt (fresh U F) in
                          let v = walked H U S Γ D C W in
                          let o = A.row in
                          let p = P.done.still.row in
                          record {
                            unknowns = W.unknowns;
                            walked = v;
                            actuals = actual_types s₁ d (H ⨾ include_items i Γ) W.unknowns n (exprs_length xs) places₁ (omega arith) (λ j y. actual_later H U Γ D C W j (W.each j (omega arith) (omega arith)));
                            components = components H U Γ D C;
                          };
                      stops = λ x. absurd (x refl);
                    };
                  }
