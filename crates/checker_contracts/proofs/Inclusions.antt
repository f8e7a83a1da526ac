-- An Include as a line alone: its own findings; 36 beside the lines before, and where a name is global already; 38 of types, and of the signature.
use mathlib.Core.Path.{◌≡◌, refl, sym, ap, subst, ◌∙◌}
use mathlib.Core.Bool.{Bool, true, false}
use mathlib.Core.List.{List, [], ◌++◌}
use mathlib.Core.Logic.{inl}
use Prim.Native.Nat.{ℕ, ◌+◌, ◌*◌, ◌≤◌, ◌<◌}
use native.Mathlib.Omega.{arith}
use lib.ListN.{length, get_or, take}
use Rattle.reader_rules.specs.Limited.{LimitedLines}
use Rattle.reader_rules.specs.Tree.{Include, Lines, end, inclusion, include_node}
use Rattle.reader_rules.specs.TreeNumbers.{include_numbers, lines_numbers}
use Rattle.types_rules.specs.Formed.{Ascending}
use Rattle.types_rules.specs.Types.{Ty}
use Rattle.checker_rules.specs.Conditions.{merge_names, new_names, small_types, few_names}
use Rattle.checker_rules.specs.Dictionary.{Dictionary}
use Rattle.checker_rules.specs.Items.{Items, skip, ◌⨾◌, Meets, Refuses, MeetsIn}
use Rattle.checker_rules.specs.Rules.{include_items, lines_items}
use Rattle.checker_rules.specs.Scopes.{Scope, include_signature, lines_signature}
use Rattle.checker_rules.specs.Signatures.{Signature, names_of, count_names, merge}
use Rattle.checker_rules.specs.Unknowns.{Valuation, row}
use Rattle.types_cells.specs.Layout.{pool_size}
use Rattle.types_cells.specs.Settled.{heap, Reads}
use Rattle.types_cells.proofs.Reading.{reads_one}
use Rattle.checker_dictionary.specs.Index.{Indexed}
use Rattle.checker_lookup.proofs.HeldLaws.{indexed_in}
use Rattle.checker_signatures.specs.Rows.{rows, flat, identifiers_of, merge_rows}
use Rattle.checker_signatures.specs.Tables.{Table, Beside, table_words}
use Rattle.checker_signatures.specs.Carried.{Carries}
use Rattle.checker_signatures.proofs.CallLaws.{carried}
use Rattle.checker_signatures.proofs.CarryLaws.{carries_names, carries_merge, carries_count}
use Rattle.checker_signatures.proofs.RowLaws.{rows_length_lem, rows_kept, get_d_below}
use Rattle.checker_signatures.proofs.TableLaws.{table_length, merge_count}
use Rattle.types_instances.specs.Moved.{Below}
use Rattle.types_instances.proofs.CleanLaws.{clean_below}
use Rattle.checker_pieces.specs.Piece.{Steady, Walked}
use Rattle.checker_pieces.proofs.Between.{walked_mine}
use Rattle.checker_lookup.specs.Scoped.{Scoped}
use Rattle.checker_lookup.specs.Components.{Component}
use Rattle.checker_includes.specs.Components.{Placed, ActualTypes}
use Rattle.checker_includes.specs.Filling.{AgreeAsk, AgreeTold, SmallTold}
use Rattle.checker_includes.specs.NewRows.{new_rows}
use Rattle.checker_includes.specs.Storing.{Stored, KeepAsk, RowsKept}
use Rattle.checker_includes.proofs.FillsLaws.{components_fill}
use Rattle.checker_contracts.specs.Includes.{actual_count, IncludeAsk, Brought, IncludeDone}
use Rattle.checker_contracts.specs.Predicates.{Walking}
use Rattle.checker_contracts.specs.Texts.{LinesAsk, LinesDone}
use Rattle.checker_contracts.specs.Visits.{Owned, Fresh, idle, Spared, globals_if}
use Rattle.checker_contracts.proofs.Brought.{stored_again, actuals_more, brought_ask, brought_keep}
use Rattle.checker_contracts.proofs.TableRows.{carries_row, rows_ready}
use Rattle.checker_contracts.proofs.Counting.{few_noted, few_refused}
use Rattle.checker_contracts.proofs.ItemOrder.{Order, nothing, grouped, listed, after, AllPass, AllWalked, refuses_at, all_walked}
use Rattle.checker_contracts.proofs.LineItems.{line_order}
use Rattle.checker_contracts.proofs.Merged.{merged_more, names_same, new_same}
use Rattle.checker_contracts.proofs.Nodes.{fresh_left, owned_left}
use Rattle.checker_contracts.proofs.Passing.{walking_first}
use Rattle.checker_contracts.proofs.Scopes.{stored_reads, carries_stored, carries_spared, carries_later, spared_less, spared_on}
use Rattle.checker_contracts.proofs.Refused.{done_refused}

-- The items of the line, in order.
module _ (i : Include) where
  abbrev n : ℕ
  n = include_node i

  abbrev merging : Scope → Signature → Items
  merging Γ r = merge_names n (include_signature i Γ) r

  abbrev newly : Scope → Dictionary → Items
  newly Γ G = new_names n (names_of (include_signature i Γ)) G

  abbrev smalls : Scope → Items
  smalls Γ = small_types n (include_signature i Γ)

  abbrev fewly : Scope → Signature → Items
  fewly Γ r = few_names n (merge (include_signature i Γ) r)

  abbrev order : Scope → Dictionary → Signature → Order
  order Γ G r = line_order (include_items i Γ) (merging Γ r) (newly Γ G) (smalls Γ) (fewly Γ r) nothing

  abbrev items : Scope → Dictionary → Signature → Items
  items Γ G r = grouped (order Γ G r)

module _ (s d w : List ℕ) (stack base m at free : ℕ) (i : Include) (global : Bool) (Q : LinesAsk s d w stack base m at free (inclusion i end)) where
  abbrev line : Lines
  line = inclusion i end

  K : Walking s d w stack at free Q.height (include_numbers i)
  unfolding lines_numbers
  K = walking_first s d w stack at free Q.height Q.height (include_numbers i) [] (omega arith) Q.walking

  pub inclusion_ask : (places : List ℕ) → length places ≡ 4 → IncludeAsk s d w stack at free i places
  unfolding LimitedLines
  inclusion_ask places z = record { height = Q.height; texts = Q.texts; limited = Q.limited.0; walking = K; row = z }

  -- A FINDING.
  abbrev Refused : ℕ → ℕ → Type 0
  Refused f k = (Γ : Scope) (D : Dictionary) (H : Items) (U : List ℕ) → Steady H U → Scoped s d w stack (idle H U) Γ D → Fresh (include_numbers i) U →
      (r : Signature) → Carries (Placed s d H U) r (rows w base m) → Refuses (items i Γ (globals_if global D) r) (MeetsIn H) f k

  refuses : (s' w' : List ℕ) (f k m' at' : ℕ) → Spared w w' stack base → (f ≡ 0 → ⊥) → Refused f k → LinesDone s s' d w w' stack base m at free line global f k m' at'
  unfolding lines_items lines_numbers grouped
  refuses s' w' f k m' at' P e R = record { done = done_refused P e (λ H U S Γ D C r I. let F = I.0 in let J = I.1 in R Γ D H U S C (fresh_left (include_numbers i) [] U F) r J) }

  module _ (places s₁ w₁ places₁ : List ℕ) (number place c at₁ : ℕ) (I : IncludeDone s s₁ d w w₁ stack at free i places places₁ number place c at₁) where
    spared₁ : Spared w w₁ stack base
    spared₁ = let b = Q.beside in spared_less w w₁ stack stack free base (omega arith) (omega arith) I.done.still.spared

    -- the Include's own finding
    pub inclusion_refused : (number ≡ 0 → ⊥) → (m' at' : ℕ) → LinesDone s s₁ d w w₁ stack base m at free line global number place m' at'
    unfolding listed after AllPass
    inclusion_refused ne m' at' =
        refuses s₁ w₁ number place m' at' spared₁ ne
        (λ Γ D H U S C F r J.
        refuses_at (order i Γ (globals_if global D) r) H 0 number place tt (I.done.stops ne H U S Γ D C tt F))

    module _ (fine : number ≡ 0) where
      abbrev actuals : List ℕ
      actuals = take (actual_count i) places₁

      low : at < pool_size
      low = let p = K.room.pool in omega arith

      -- The lines' table, in the areas after the Include.
      table₁ : (H : Items) (U : List ℕ) (r : Signature) → Carries (Placed s d H U) r (rows w base m) → Carries (Placed s₁ d H U) r (rows w₁ base m)
      table₁ H U r J =
          let b = Q.beside in
          let f = Q.few in
          carries_stored s s₁ d at at₁ K.size K.clean K.room.some low (I.done.areas fine).stored H U r (rows w₁ base m)
          (carries_spared w w₁ stack free base m (Placed s d H U) r I.done.still.spared Q.low (omega arith) J)

      pub inclusion_agree : AgreeAsk s₁ d w₁ base m free c actuals
      inclusion_agree =
          let b = Q.beside in
          let f = Q.few in
          let z = I.done.still.spared.size in
          let v = K.room.wide in
          let x = K.room.frames in
          record {
            brought = brought_ask s s₁ d w w₁ stack at free Q.height i places places₁ number place c at₁ K I fine;
            table = rows_ready s₁ d w₁ base m Q.walking.before Q.walking.known Q.signature (table₁ Q.walking.before Q.walking.known Q.signature Q.carried) (omega arith);
          }

      pub inclusion_inside : free + 2 * c ≤ length w₁
      inclusion_inside = inclusion_agree.brought.table.inside

      -- After any items.
      module _ (Γ : Scope) (D : Dictionary) (H : Items) (U : List ℕ) (S : Steady H U) (C : Scoped s d w stack (idle H U) Γ D) (F : Fresh (include_numbers i) U) (r : Signature)
          (J : Carries (Placed s d H U) r (rows w base m)) where
        abbrev a : Items
        a = include_items i Γ

        B : Brought s₁ d w₁ c free H U Γ i places₁
        B = I.done.goes fine H U S Γ D C tt F

        -- the table after more items
        table_later : (H' : Items) → ((τ : Valuation) → Meets H' τ → Meets H τ) → Carries (Placed s₁ d H' B.unknowns) r (rows w₁ base m)
        table_later H' says = carries_later s₁ d H H' U B.unknowns B.walked.wider says r (rows w₁ base m) (table₁ H U r J)

      -- 36, beside the lines before
      pub inclusion_clash : AgreeTold s₁ d w₁ base m free c actuals false → (m' at' : ℕ) → LinesDone s s₁ d w w₁ stack base m at free line global 36 (include_node i) m' at'
      unfolding MeetsIn listed after AllPass
      inclusion_clash T m' at' =
          refuses s₁ w₁ 36 (n i) m' at' spared₁ (λ z. omega arith)
          (λ Γ D H U S C F r J.
          let X = B Γ D H U S C F r J in
          let h = a Γ D H U S C F r J in
          refuses_at (order i Γ (globals_if global D) r) H 1 36 (n i) (X.walked.goes, tt)
          (T.stops refl (H ⨾ h) X.unknowns (n i) (n i) (actual_count i) (include_signature i Γ) r X.walked.steady X.actuals X.components
          (table_later Γ D H U S C F r J (H ⨾ h) (λ τ q. q.0))))

      module _ (T₂ : AgreeTold s₁ d w₁ base m free c actuals true) where
        module _ (Γ : Scope) (D : Dictionary) (H : Items) (U : List ℕ) (S : Steady H U) (C : Scoped s d w stack (idle H U) Γ D) (F : Fresh (include_numbers i) U) (r : Signature)
            (J : Carries (Placed s d H U) r (rows w base m)) where
          abbrev X : Brought s₁ d w₁ c free H U Γ i places₁
          X = B Γ D H U S C F r J

          abbrev H₁ : Items
          H₁ = H ⨾ include_items i Γ

          W₂ : Walked H₁ (merging i Γ r) X.unknowns X.unknowns (λ x. ⊥)
          unfolding MeetsIn
          W₂ = T₂.goes refl H₁ X.unknowns (n i) (n i) (actual_count i) (include_signature i Γ) r X.walked.steady X.actuals X.components
              (table_later Γ D H U S C F r J H₁ (λ τ q. q.0))

          names : identifiers_of (rows w₁ free c) ≡ names_of (include_signature i Γ)
          names = sym (carries_names (Component s₁ d (row (n i) 1 (actual_count i))) (include_signature i Γ) (rows w₁ free c) X.components)

        -- 36, a name that is global already
        pub inclusion_known : ((E : Dictionary) (H : Items) (U : List ℕ) (k : ℕ) → Indexed E d w₁ → Steady H U → Refuses (new_names k (identifiers_of (rows w₁ free c)) (globals_if global E)) (MeetsIn H) 36 k) →
            (m' at' : ℕ) → LinesDone s s₁ d w w₁ stack base m at free line global 36 (include_node i) m' at'
        unfolding listed after AllPass
        inclusion_known N m' at' =
            refuses s₁ w₁ 36 (n i) m' at' spared₁ (λ z. omega arith)
            (λ Γ D H U S C F r J.
            let Y = W₂ Γ D H U S C F r J in
            let h = H₁ Γ D H U S C F r J in
            refuses_at (order i Γ (globals_if global D) r) H 2 36 (n i) ((X Γ D H U S C F r J).walked.goes, (Y.goes, tt))
            (subst (λ l. Refuses (new_names (n i) l (globals_if global D)) (MeetsIn (h ⨾ merging i Γ r)) 36 (n i)) (names Γ D H U S C F r J)
            (N D (h ⨾ merging i Γ r) (X Γ D H U S C F r J).unknowns (n i) (indexed_in D d w w₁ spared₁.index C.recorded.holds) Y.steady)))

        module _ (T₃ : (E : Dictionary) (H : Items) (U : List ℕ) (k : ℕ) → Indexed E d w₁ → Steady H U → Walked H (new_names k (identifiers_of (rows w₁ free c)) (globals_if global E)) U U (λ x. ⊥)) where
          module _ (Γ : Scope) (D : Dictionary) (H : Items) (U : List ℕ) (S : Steady H U) (C : Scoped s d w stack (idle H U) Γ D) (F : Fresh (include_numbers i) U) (r : Signature)
              (J : Carries (Placed s d H U) r (rows w base m)) where
            abbrev X₃ : Brought s₁ d w₁ c free H U Γ i places₁
            X₃ = B Γ D H U S C F r J

            abbrev b : Items
            b = merging i Γ r

            abbrev e : Items
            e = newly i Γ (globals_if global D)

            abbrev H₂ : Items
            H₂ = H ⨾ include_items i Γ

            abbrev H₃ : Items
            H₃ = (H₂ ⨾ b) ⨾ e

            W₃ : Walked (H₂ ⨾ b) e X₃.unknowns X₃.unknowns (λ x. ⊥)
            W₃ = subst (λ l. Walked (H₂ ⨾ b) (new_names (n i) l (globals_if global D)) X₃.unknowns X₃.unknowns (λ x. ⊥)) (names Γ D H U S C F r J)
                (T₃ D (H₂ ⨾ b) X₃.unknowns (n i) (indexed_in D d w w₁ spared₁.index C.recorded.holds) (W₂ Γ D H U S C F r J).steady)

            actuals₃ : ActualTypes s₁ d H₃ X₃.unknowns (n i) (actual_count i) actuals
            unfolding MeetsIn
            actuals₃ = actuals_more s₁ d H₂ H₃ X₃.unknowns (n i) (actual_count i) actuals (λ τ q. q.0.0) X₃.actuals

          -- 38, a component's type
          pub inclusion_large : SmallTold s₁ d w₁ free c actuals false → (m' at' : ℕ) → LinesDone s s₁ d w w₁ stack base m at free line global 38 (include_node i) m' at'
          unfolding listed after AllPass
          inclusion_large T m' at' =
              refuses s₁ w₁ 38 (n i) m' at' spared₁ (λ z. omega arith)
              (λ Γ D H U S C F r J.
              let Y = X₃ Γ D H U S C F r J in
              refuses_at (order i Γ (globals_if global D) r) H 3 38 (n i) (Y.walked.goes, ((W₂ Γ D H U S C F r J).goes, ((W₃ Γ D H U S C F r J).goes, tt)))
              (T.stops refl (H₃ Γ D H U S C F r J) Y.unknowns (n i) (n i) (actual_count i) (include_signature i Γ) (W₃ Γ D H U S C F r J).steady (actuals₃ Γ D H U S C F r J) Y.components))

          module _ (T₄ : SmallTold s₁ d w₁ free c actuals true) (few_actuals : actual_count i ≤ 4) where
            -- The table's types were stored before the actuals.
            below : (j : ℕ) → j < m → (g : Ty) → Reads (heap s₁ d) (get_or w₁ (base + 2 * j + 1) 0) g → Below at (get_or w₁ (base + 2 * j + 1) 0) g
            below j l g R =
                let H = Q.walking.before in
                let U = Q.walking.known in
                let o = Q.beside in
                let f = Q.few in
                let p = get_or w₁ (base + 2 * j + 1) 0 in
                let P = (carries_row (Placed s d H U) Q.signature w₁ base m j (carries_spared w w₁ stack free base m (Placed s d H U) Q.signature I.done.still.spared Q.low (omega arith) Q.carried) l).1 in
                subst (Below at p)
                (reads_one (heap s₁ d) p P.typed.type g (stored_reads s s₁ d at at₁ K.size K.clean K.room.some low (I.done.areas fine).stored p P.typed.type P.typed.reads) R)
                (clean_below s d at p P.typed.type K.size K.room.some low K.clean P.typed.reads)

            pub inclusion_keep : KeepAsk s₁ d w₁ base m free c actuals at at₁ (free + table_words)
            inclusion_keep =
                let b = Q.beside in
                brought_keep s s₁ d w w₁ stack at free Q.height i places places₁ number place c at₁ K I fine T₄ few_actuals base m inclusion_agree.table (omega arith) below

            -- KEPT AND MERGED.
            module _ (s₂ w₂ : List ℕ) (at₂ : ℕ) (E : RowsKept s₁ s₂ d w₁ w₂ base m free c actuals at at₁ (free + table_words) at₂) where
              pub inclusion_merge : Beside (length w₂) base (m + c) free c
              inclusion_merge =
                  let z = E.size in
                  let x = inclusion_inside in
                  let y = (I.done.areas fine).few in
                  let b = Q.beside in
                  let t = Q.few in
                  record { room = omega arith; inside = omega arith; apart = inl (omega arith) }

              spared₂ : Spared w w₂ stack free
              spared₂ =
                  let t = K.room.stack in
                  let o = K.room.low in
                  let y = (I.done.areas fine).few in
                  spared_on w w₁ w₂ stack free I.done.still.spared
                  (record { size = E.size; scope = λ j l. E.words j (omega arith) (λ x u v. omega arith); index = λ j x l. E.words j (omega arith) (λ x u v. omega arith); frames = λ j x l. E.words j (omega arith) (λ x u v. omega arith) })

              stored₂ : Stored s s₂ at at₂
              stored₂ = stored_again s s₁ s₂ at at₁ at₂ (I.done.areas fine).stored E.stored

              module _ (w₃ : List ℕ) (count : ℕ) (M : Table w₂ w₃ base (merge_rows (rows w₂ free c) (rows w₂ base m)) count) where
                spared₃ : Spared w w₃ stack base
                spared₃ =
                    let t = K.room.stack in
                    let o = Q.low in
                    let b = Q.beside in
                    spared_on w w₂ w₃ stack base (spared_less w w₂ stack stack free base (omega arith) (omega arith) spared₂)
                    (record { size = table_length w₂ base w₃ _ count M; scope = λ j l. kept j (omega arith); index = λ j x l. kept j (omega arith); frames = λ j x l. kept j l })
                  where
                    kept : (j : ℕ) → j < base → get_or w₃ j 0 ≡ get_or w₂ j 0
                    kept j l = ap (λ v. get_or v j 0) M.words ∙ get_d_below (flat (merge_rows (rows w₂ free c) (rows w₂ base m))) w₂ base j l

                module _ (Γ : Scope) (D : Dictionary) (H : Items) (U : List ℕ) (S : Steady H U) (C : Scoped s d w stack (idle H U) Γ D) (F : Fresh (include_numbers i) U) (r : Signature)
                    (J : Carries (Placed s d H U) r (rows w base m)) where
                  abbrev X₄ : Brought s₁ d w₁ c free H U Γ i places₁
                  X₄ = B Γ D H U S C F r J

                  abbrev H₄ : Items
                  H₄ = ((H ⨾ include_items i Γ) ⨾ merging i Γ r) ⨾ newly i Γ (globals_if global D)

                  abbrev H₅ : Items
                  H₅ = H₄ ⨾ smalls i Γ

                  W₄ : Walked H₄ (smalls i Γ) X₄.unknowns X₄.unknowns (λ x. ⊥)
                  W₄ = T₄.goes refl H₄ X₄.unknowns (n i) (n i) (actual_count i) (include_signature i Γ) (W₃ Γ D H U S C F r J).steady (actuals₃ Γ D H U S C F r J) X₄.components

                  -- what the Include brought, and the lines' table, in their places
                  brought₅ : Carries (Placed s₂ d H₅ X₄.unknowns) (include_signature i Γ) (rows w₂ free c)
                  unfolding MeetsIn
                  brought₅ =
                      let Y = actuals_more s₁ d H₄ H₅ X₄.unknowns (n i) (actual_count i) actuals (λ τ q. q.0) (actuals₃ Γ D H U S C F r J) in
                      E.placed H₅ X₄.unknowns (n i) (include_signature i Γ) r Y.shown Y.types Y.stand Y.alike
                      (components_fill s₁ d H₅ X₄.unknowns (n i) (actual_count i) actuals Y (include_signature i Γ) (rows w₁ free c) X₄.components)
                      (table_later Γ D H U S C F r J H₅ (λ τ q. q.0.0.0.0)) (λ τ q. q.0.0.1) (λ τ q. q.1) W₄.steady

                  table₅ : Carries (Placed s₂ d H₅ X₄.unknowns) r (rows w₂ base m)
                  unfolding MeetsIn
                  table₅ =
                      let b = Q.beside in
                      let f = Q.few in
                      carries_later s₂ d H H₅ U X₄.unknowns X₄.walked.wider (λ τ q. q.0.0.0.0) r (rows w₂ base m)
                      (carries_stored s s₂ d at at₂ K.size K.clean K.room.some low stored₂ H U r (rows w₂ base m)
                      (carries_spared w w₂ stack free base m (Placed s d H U) r spared₂ Q.low (omega arith) J))

                  merged₅ : Carries (Placed s₂ d H₅ X₄.unknowns) (merge (include_signature i Γ) r) (merge_rows (rows w₂ free c) (rows w₂ base m))
                  merged₅ = carries_merge (Placed s₂ d H₅ X₄.unknowns) (include_signature i Γ) r (rows w₂ free c) (rows w₂ base m) brought₅ table₅

                  counted : count_names (merge (include_signature i Γ) r) ≡ count
                  counted = carries_count (Placed s₂ d H₅ X₄.unknowns) _ _ merged₅ ∙ sym M.count

                -- 38, the signature
                pub inclusion_many : 16 < count → (m' at' : ℕ) → LinesDone s s₂ d w w₃ stack base m at free line global 38 (include_node i) m' at'
                unfolding listed after AllPass
                inclusion_many l m' at' =
                    refuses s₂ w₃ 38 (n i) m' at' spared₃ (λ z. omega arith)
                    (λ Γ D H U S C F r J.
                    let x = counted Γ D H U S C F r J in
                    refuses_at (order i Γ (globals_if global D) r) H 4 38 (n i) ((X₄ Γ D H U S C F r J).walked.goes, ((W₂ Γ D H U S C F r J).goes, ((W₃ Γ D H U S C F r J).goes, ((W₄ Γ D H U S C F r J).goes, tt))))
                    (few_refused (H₅ Γ D H U S C F r J) (n i) (merge (include_signature i Γ) r) (omega arith)))

                -- rows more, as many as types were written
                grows : m + new_rows (rows w₁ free c) (rows w₁ base m) ≤ count
                grows =
                    let b = Q.beside in
                    let f = Q.few in
                    let y = (I.done.areas fine).few in
                    let e = rows_kept w₁ w₂ base m (λ j x l. E.words j (omega arith) (λ v u o. omega arith)) in
                    let g = new_same w₁ w₂ (rows w₁ base m) free c (λ j l. E.words (free + 2 * j) (omega arith) (λ v u o. omega arith)) in
                    let h = merged_more (rows w₂ free c) (rows w₁ base m) (subst Ascending (sym (names_same w₁ w₂ free c (λ j l. E.words (free + 2 * j) (omega arith) (λ v u o. omega arith)))) (I.done.areas fine).ascending) in
                    let x = rows_length_lem w₁ base m in
                    let k = M.count ∙ ap (λ l. length (merge_rows (rows w₂ free c) l)) e in
                    omega arith

                abbrev Mine : ℕ → Type 0
                Mine = Owned (include_numbers i ++ [])

                pub inclusion_done : (place' : ℕ) → count ≤ 16 → LinesDone s s₂ d w w₃ stack base m at free line global 0 place' count at₂
                unfolding lines_items lines_signature lines_numbers MeetsIn grouped listed AllWalked
                inclusion_done place' l = record {
                  done = record {
                    still = spared₃;
                    areas = λ z. record {
                      stored = stored₂;
                      more = let x = grows in omega arith;
                      short = let x = grows in let y = E.new in omega arith;
                      few = l;
                    };
                    goes = λ z H U S Γ D C r I. let F' = I.0 in let J = I.1 in
                        let F = fresh_left (include_numbers i) [] U F' in
                        let G = globals_if global D in
                        let Y = X₄ Γ D H U S C F r J in
                        let x = counted Γ D H U S C F r J in
                        let k = inclusion_merge.room in
                        record {
                          unknowns = Y.unknowns;
                          walked =
                              all_walked (order i Γ G r) H U Y.unknowns Mine S (
                                Y.unknowns,
                                walked_mine H (include_items i Γ) U Y.unknowns (Owned (include_numbers i)) Mine (λ v o. owned_left (include_numbers i) [] v o) Y.walked,
                                (
                                  Y.unknowns,
                                  walked_mine (H ⨾ include_items i Γ) (merging i Γ r) Y.unknowns Y.unknowns (λ v. ⊥) Mine (λ v o. absurd o) (W₂ Γ D H U S C F r J),
                                  (
                                    Y.unknowns,
                                    walked_mine ((H ⨾ include_items i Γ) ⨾ merging i Γ r) (newly i Γ G) Y.unknowns Y.unknowns (λ v. ⊥) Mine (λ v o. absurd o) (W₃ Γ D H U S C F r J),
                                    (
                                      Y.unknowns,
                                      walked_mine (H₄ Γ D H U S C F r J) (smalls i Γ) Y.unknowns Y.unknowns (λ v. ⊥) Mine (λ v o. absurd o) (W₄ Γ D H U S C F r J),
                                      (
                                        Y.unknowns,
                                        few_noted (H₅ Γ D H U S C F r J) Y.unknowns Mine (n i) (merge (include_signature i Γ) r) (W₄ Γ D H U S C F r J).steady (omega arith),
                                        refl,
                                      ),
                                    ),
                                  ),
                                ),
                              );
                          signature =
                              carried (Placed s₂ d (H ⨾ items i Γ G r) Y.unknowns) w₂ w₃ base (merge_rows (rows w₂ free c) (rows w₂ base m)) count (merge (include_signature i Γ) r) M
                              (let y = M.count in let v = merge_count (rows w₂ free c) (rows w₂ base m) in let p = rows_length_lem w₂ free c in let q = rows_length_lem w₂ base m in omega arith)
                              (carries_later s₂ d (H₅ Γ D H U S C F r J) (H ⨾ items i Γ G r) Y.unknowns Y.unknowns (λ v o. o)
                              (λ τ q. ((((q.0, q.1.0), q.1.1.0.0), q.1.1.0.1), q.1.1.1.0.0)) (merge (include_signature i Γ) r) (merge_rows (rows w₂ free c) (rows w₂ base m)) (merged₅ Γ D H U S C F r J));
                        };
                    stops = λ z. absurd (z refl);
                  };
                }
