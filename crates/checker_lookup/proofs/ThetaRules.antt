-- The whole rule of a Theta: its schema, the schema's components, the checks, the binding.
use mathlib.Core.Path.{◌≡◌, refl, sym, ap, subst, ◌∙◌}
use mathlib.Core.Bool.{Bool, true, false, cond}
use mathlib.Core.List.{List}
use mathlib.Core.Logic.{⊎_elim}
use Prim.Native.Nat.{ℕ, suc, ◌+◌, ◌≤◌, ◌<◌}
use native.Mathlib.Nat.{eq-zero-or-pos}
use native.Mathlib.Omega.{arith}
use lib.Dec.{eqb, ltb}
use lib.ListN.{length, get_or, drop}
use Rattle.types_rules.specs.Former.{binding}
use Rattle.types_rules.specs.Formed.{FormedType, Arity}
use Rattle.types_rules.specs.Instance.{instance}
use Rattle.types_rules.specs.Types.{Ty, Tys, node, nil}
use Rattle.checker_rules.specs.Conditions.{typed, refuse_if}
use Rattle.checker_rules.specs.Dictionary.{Dictionary, blank, ◌▸◌, name_entry, schema_entry, NamedSchema, no_schema, a_schema, schema_in}
use Rattle.checker_rules.specs.Items.{◌⨾◌}
use Rattle.checker_rules.specs.Rules.{theta_names, theta_items, theta_signature}
use Rattle.checker_rules.specs.Scopes.{Scope, schema_named}
use Rattle.checker_rules.specs.Signatures.{Signature, names_of, binding_of, components_of, some_stroked}
use Rattle.checker_rules.specs.Unknowns.{slot}
use Rattle.types_cells.specs.Layout.{dictionary_at, area_size}
use Rattle.types_cells.specs.Settled.{heap, Reads}
use Rattle.checker_dictionary.specs.Index.{Indexed}
use Rattle.checker_dictionary.specs.Lookup.{parameters_at, type_at, SchemaFound, Recorded as Entry}
use Rattle.checker_dictionary.proofs.LookupLaws.{schema_formed}
use Rattle.checker_signatures.specs.Rows.{stack, flat, rows as rows_of}
use Rattle.checker_signatures.specs.Tables.{Table}
use Rattle.checker_signatures.proofs.CarryLaws.{carries_names}
use Rattle.checker_signatures.proofs.RowLaws.{get_d_below}
use Rattle.checker_signatures.proofs.ScopeLaws.{stacked_schema}
use Rattle.checker_signatures.proofs.TableLaws.{table_length}
use Rattle.checker_pieces.specs.Stage.{Ghost, SlotOf, Ruled, node_cells}
use Rattle.checker_pieces.specs.Building.{Introduced}
use Rattle.checker_pieces.proofs.Stages.{rule_goes, rule_stops, room_less, typed_here}
use Rattle.checker_lookup.specs.Bindings.{Binding, Bound}
use Rattle.checker_lookup.specs.Components.{Component, ComponentsAsked, ComponentsOf, ComponentRows}
use Rattle.checker_lookup.specs.Scoped.{SettledAt, SchemaType, Limited, DictionaryHeld, Scoped}
use Rattle.checker_lookup.specs.Thetas.{RowsAsked, RowsOver, Fine, ThetaChecks, ThetaAsked, ThetaRuled}
use Rattle.checker_lookup.proofs.CheckLaws.{idle_if, no_parameters}
use Rattle.checker_lookup.proofs.IdleLaws.{introduced_idle}
use Rattle.checker_lookup.proofs.LookingUp.{dictionary_reads}
use Rattle.checker_lookup.proofs.LookingUpApplied.{stopped}
use Rattle.checker_lookup.proofs.PlacedLaws.{scoped_below}
use Rattle.checker_lookup.proofs.ReferenceLaws.{introduced_enlarged}

-- The type of a recorded schema.
unfoldable OfSchema : NamedSchema → Type 0
OfSchema no_schema = Unit {0}
OfSchema (a_schema p g) = SchemaType g

schema_limits : (D : Dictionary) (i : ℕ) → Limited D → OfSchema (schema_in i D)
unfolding Limited OfSchema schema_in
schema_limits blank i l = tt
schema_limits (D ▸ name_entry j p g) i l = schema_limits D i l.0
schema_limits (D ▸ schema_entry j p g) i l = go (eqb i j) (schema_limits D i l.0)
  where
    go : (b : Bool) → OfSchema (schema_in i D) → OfSchema (cond b (a_schema p g) (schema_in i D))
    go true h = l.1
    go false h = h

pub schema_limited : (D : Dictionary) (i p : ℕ) (g : Ty) → Limited D → schema_in i D ≡ a_schema p g → SchemaType g
unfolding OfSchema
schema_limited D i p g l e = subst OfSchema e (schema_limits D i l)

-- the words below a table
under_table : (w w' : List ℕ) (base : ℕ) (rs : List (ℕ × ℕ)) (m : ℕ) → Table w w' base rs m → (i : ℕ) → i < base → get_or w' i 0 ≡ get_or w i 0
under_table w w' base rs m T i l = ap (λ (v : List ℕ). get_or v i 0) T.words ∙ get_d_below (flat rs) w base i l

-- The items of a Theta whose checks are fine.
module _ (s s' d : List ℕ) (n top n' top' : ℕ) (G : Ghost) (node k p : ℕ) (g : Ty) (Γ : Scope) (w : List ℕ) (base m : ℕ) where
  abbrev r : Signature
  r = components_of (instance nil g)

  theta_introduced : Fine s d w base m p k G Γ r → (c : ℕ) → Introduced s s' d n top n' top' G (typed node (binding_of (theta_signature k r Γ))) (SlotOf node) (slot node 0) c →
      Introduced s s' d n top n' top' G (theta_items node k (a_schema p g) Γ) (SlotOf node) (slot node 0) c
  unfolding theta_items
  theta_introduced F c I =
      let t = typed node (binding_of (theta_signature k r Γ)) in
      let b = refuse_if (some_stroked k r) 37 node in
      let a = refuse_if (ltb 0 p) 32 node in
      introduced_idle (theta_names node k r Γ) (F.names node) s s' d n top n' top' G (a ⨾ b ⨾ t) (SlotOf node) (slot node 0) c
      (introduced_idle a (idle_if (ltb 0 p) 32 node (no_parameters p F.parameters)) s s' d n top n' top' G (b ⨾ t) (SlotOf node) (slot node 0) c
      (introduced_idle b (idle_if (some_stroked k r) 37 node F.strokes) s s' d n top n' top' G t (SlotOf node) (slot node 0) c I))

module _ (s d w : List ℕ) (n top rows base id k : ℕ) (B : ThetaAsked s d w n top rows base k) (e : ℕ) (found : (D : Dictionary) → Indexed D d w → SchemaFound D d id e) where
  in_dictionary : (G : Ghost) (Γ : Scope) (D : Dictionary) → Scoped s d w rows G Γ D → schema_named id Γ ≡ schema_in id D
  in_dictionary G Γ D C = stacked_schema (SettledAt s d G) D id Γ (stack w 0 rows) C.stacked

  -- 31: no schema
  pub no_schema_lem : e ≡ 0 → (cell n' top' : ℕ) → ThetaRuled s s d w w n top rows base id k 31 cell n' top'
  unfolding theta_items
  no_schema_lem z cell n' top' = record {
    low = refl;
    uses = λ q. absurd (omega arith);
    below = λ i l. refl;
    ruled = λ G S node U Γ D C.
        stopped s d n top node 30 cell n' top' G (theta_items node k (schema_named id Γ) Γ) (ap (λ (x : NamedSchema). theta_items node k x Γ) (in_dictionary G Γ D C ∙ (found D C.recorded.holds).absent z));
  }

  module _ (some : e ≡ 0 → ⊥) (q : ℕ) (eq : q ≡ type_at d e) where
    size : length s ≡ area_size
    size = B.referring.stands.piece.solved.held.size

    module _ (D : Dictionary) (R : DictionaryHeld D d w) where
      entry_some : 1 ≤ e
      entry_some = ⊎_elim (λ z. absurd (some z)) (λ z. omega arith) (eq-zero-or-pos e)

      abbrev entry : Entry NamedSchema (schema_in id D) a_schema d e
      entry = (found D R.holds).present entry_some

      abbrev limits : SchemaType entry.type
      limits = schema_limited D id entry.parameters entry.type R.limited entry.means

      abbrev ids : List ℕ
      ids = limits.1.0

      abbrev gs : Tys
      gs = limits.1.1

      is_binding : entry.type ≡ node (binding ids) gs
      is_binding = limits.1.2

      binding_reads : Reads (heap s d) (dictionary_at + q) (node (binding ids) gs)
      binding_reads =
          subst (Reads (heap s d) (dictionary_at + q)) is_binding
          (dictionary_reads s d q entry.type entry.after size (schema_formed D id entry.parameters entry.type R.formed entry.means)
          (ap (λ (x : ℕ). drop x d) eq ∙ entry.written))

      few_ids : length ids ≤ 16
      unfolding FormedType Arity
      few_ids = let a = binding_reads.formed.0.0 in let b = (subst (λ (g : Ty). SchemaType g) is_binding limits).0 in omega arith

    pub components_asked : ComponentsAsked s d w (dictionary_at + q) base
    components_asked =
        let D = B.referring.dictionary in
        let R = B.referring.scoped.recorded in
        let l = few_ids D R in
        let z = B.free in
        let f = B.referring.stands.few in
        record {
          areas = record { size = size; few = omega arith };
          few = f;
          identifiers = ids D R;
          types = gs D R;
          reads = binding_reads D R;
          table = omega arith;
        }

    module _ (w₁ : List ℕ) (m : ℕ) (K : ComponentRows s d w w₁ (dictionary_at + q) base m) where
      rows_of_lem : (D : Dictionary) (R : DictionaryHeld D d w) → ComponentsOf s d w w₁ (dictionary_at + q) base m (ids D R) (gs D R)
      rows_of_lem D R = K.of (ids D R) (gs D R) (binding_reads D R)

      abbrev own : ComponentsOf s d w w₁ (dictionary_at + q) base m (ids B.referring.dictionary B.referring.scoped.recorded) (gs B.referring.dictionary B.referring.scoped.recorded)
      own = rows_of_lem B.referring.dictionary B.referring.scoped.recorded

      few : m ≤ 16
      few = let a = few_ids B.referring.dictionary B.referring.scoped.recorded in let b = own.count in omega arith

      below₁ : (i : ℕ) → i < base → get_or w₁ i 0 ≡ get_or w i 0
      below₁ i l = under_table w w₁ base _ m own.table i l

      same_size : length w₁ ≡ length w
      same_size = table_length w base w₁ _ m own.table

      scoped₁ : (G : Ghost) (Γ : Scope) (D : Dictionary) → Scoped s d w rows G Γ D → Scoped s d w₁ rows G Γ D
      scoped₁ G Γ D C = scoped_below s d w w₁ rows base B.below B.above below₁ G Γ D C

      pub rows_asked : RowsAsked d w₁ rows base m k
      rows_asked =
          let r = B.referring in
          let a = few in
          let b = same_size in
          let f = B.free in
          record {
            store = s;
            size = size;
            few = r.stands.few;
            ghost = r.ghost;
            scope = r.scope;
            dictionary = r.dictionary;
            scoped = scoped₁ r.ghost r.scope r.dictionary r.scoped;
            below = B.below;
            above = B.above;
            table = omega arith;
            stroke = B.stroke;
          }

      above : (G : Ghost) (Γ : Scope) (D : Dictionary) (C : Scoped s d w rows G Γ D) → RowsOver s d w₁ rows base m G Γ (components_of (instance nil (entry D C.recorded).type))
      above G Γ D C =
          let R = C.recorded in
          record {
            dictionary = D;
            scoped = scoped₁ G Γ D C;
            size = size;
            names =
                ap (λ (g : Ty). names_of (components_of (instance nil g))) (is_binding D R)
                ∙ carries_names (Component s d nil) (components_of (instance nil (node (binding (ids D R)) (gs D R)))) (rows_of w₁ base m) ((rows_of_lem D R).carries nil);
          }

      module _ (p : ℕ) (ep : p ≡ parameters_at d e) (w₂ : List ℕ) (number : ℕ) (T : ThetaChecks d w₁ w₂ rows base m p k number) where
        found_schema : (G : Ghost) (Γ : Scope) (D : Dictionary) (C : Scoped s d w rows G Γ D) → schema_named id Γ ≡ a_schema p (entry D C.recorded).type
        found_schema G Γ D C =
            let E = entry D C.recorded in
            in_dictionary G Γ D C ∙ E.means ∙ ap (λ (x : ℕ). a_schema x E.type) (sym (ep ∙ E.counted))

        below₂ : (i : ℕ) → i < base → get_or w₂ i 0 ≡ get_or w i 0
        below₂ i l = T.below i l ∙ below₁ i l

        -- 31, 32 or 37
        pub theta_refused : (number ≡ 0 → ⊥) → (cell n' top' : ℕ) → ThetaRuled s s d w w₂ n top rows base id k number cell n' top'
        unfolding theta_items
        theta_refused ne cell n' top' = record {
          low = refl;
          uses = λ z. absurd (ne z);
          below = below₂;
          ruled = λ G S node U Γ D C.
              let g = (entry D C.recorded).type in
              subst (λ (x : NamedSchema). Ruled s s d n top node number cell n' top' G (theta_items node k x Γ)) (sym (found_schema G Γ D C))
              (rule_stops s s d n top node number cell n' top' G (theta_items node k (a_schema p g) Γ) ne
              (T.stops ne s G Γ (components_of (instance nil g)) (above G Γ D C) node G.before G.items (typed node (binding_of (theta_signature k (components_of (instance nil g)) Γ)))));
        }

        module _ (z : number ≡ 0) where
          fine : (G : Ghost) (Γ : Scope) (D : Dictionary) (C : Scoped s d w rows G Γ D) → Fine s d w₂ base m p k G Γ (components_of (instance nil (entry D C.recorded).type))
          fine G Γ D C = T.goes z s G Γ (components_of (instance nil (entry D C.recorded).type)) (above G Γ D C)

          pub theta_binding : length w₂ ≡ length w₁ → Binding s d w₂ base m n top
          theta_binding l =
              let r = B.referring in
              let a = few in
              let b = same_size in
              let f = B.free in
              record {
                ghost = r.ghost;
                stands = r.stands;
                signature = theta_signature k (components_of (instance nil (entry r.dictionary r.scoped.recorded).type)) r.scope;
                carried = (fine r.ghost r.scope r.dictionary r.scoped).carries;
                table = omega arith;
                room = room_less s n top (suc m) node_cells (omega arith) r.room;
              }

          pub theta_typed : (s' : List ℕ) (cell n' top' : ℕ) → Bound s s' d w₂ base m n top cell n' top' → ThetaRuled s s' d w w₂ n top rows base id k 0 cell n' top'
          theta_typed s' cell n' top' X = record {
            low = X.enlarged.low;
            uses = λ y x Q. X.enlarged.uses x (let a = few in room_less s n top (suc m + x) (node_cells + x) (omega arith) Q);
            below = below₂;
            ruled = λ G S node U Γ D C.
                let E = X.enlarged in
                let g = (entry D C.recorded).type in
                let sig = theta_signature k (components_of (instance nil g)) Γ in
                let t = binding_of sig in
                let F = fine G Γ D C in
                subst (λ (x : NamedSchema). Ruled s s' d n top node 0 cell n' top' G (theta_items node k x Γ)) (sym (found_schema G Γ D C))
                (rule_goes s s' d n top node 0 cell n' top' G (theta_items node k (a_schema p g) Γ) refl
                (theta_introduced s s' d n top n' top' G node k p g Γ w₂ base m F cell
                (introduced_enlarged s s' s' d n top n' top' n' top' (suc m) G (typed node t) (SlotOf node) (slot node 0) cell E S
                (typed_here s' d n' top' G (E.stands G S) cell t (X.denoted G S sig F.carries) node (U 0 (omega arith))))));
          }
