-- Names with actuals looked up: 32 for a local name, and where the actuals are not as many as the parameters.
use mathlib.Core.Path.{◌≡◌, refl, sym, ap, subst, ◌∙◌}
use mathlib.Core.Bool.{Bool, true, false, cond}
use mathlib.Core.List.{List}
use mathlib.Core.Logic.{⊎_elim}
use Prim.Native.Nat.{ℕ, suc, ◌+◌, ◌≤◌, ◌<◌}
use native.Mathlib.Omega.{arith}
use native.Mathlib.Nat.{eq-zero-or-pos}
use lib.Dec.{eqb}
use lib.ListN.{length}
use borrow.Author.Tests.{eqb-true, eq-eqb}
use Rattle.reader_rules.specs.Tree.{Exprs, none, more, exprs_length}
use Rattle.types_rules.specs.Instance.{instance}
use Rattle.types_rules.specs.Types.{Ty, Term}
use Rattle.checker_rules.specs.Conditions.{typed, types_of, are_powers}
use Rattle.checker_rules.specs.Dictionary.{Dictionary, Named, unnamed, of_local, of_global, name_in}
use Rattle.checker_rules.specs.Items.{Items, ◌⨾◌, refusal}
use Rattle.checker_rules.specs.Rules.{reference_items}
use Rattle.checker_rules.specs.Scopes.{name_at}
use Rattle.checker_rules.specs.Unknowns.{row}
use Rattle.checker_dictionary.specs.Index.{Indexed}
use Rattle.checker_dictionary.specs.Lookup.{parameters_at, type_at, NameFound}
use Rattle.checker_signatures.specs.Tables.{Finds}
use Rattle.checker_signatures.proofs.CallLaws.{found_local, no_local}
use Rattle.types_cells.specs.Layout.{dictionary_at}
use Rattle.types_cells.specs.Store.{run}
use Rattle.checker_pieces.specs.Piece.{Stops}
use Rattle.checker_pieces.specs.Building.{Cells}
use Rattle.checker_pieces.specs.Stage.{Ghost, Ruled}
use Rattle.checker_pieces.proofs.PowerRows.{rows_length_lem}
use Rattle.checker_pieces.proofs.RowLaws.{cells_count}
use Rattle.checker_pieces.proofs.Stages.{rule_stops}
use Rattle.checker_lookup.specs.Scoped.{SettledAt}
use Rattle.checker_lookup.specs.References.{Refers, ApplyingAt, AppliedAt, ConsultedWith, GlobalApplied, ReferringWith, RefersWith}
use Rattle.checker_lookup.proofs.LookingUp.{refused, entry, named, type_reads, recorded_at, consulted}

-- The items of a Ref with one actual at least.
module _ (k : ℕ) where
  unknown_name : (xs : Exprs) → reference_items k xs unnamed ≡ refusal 31 k
  unfolding reference_items
  unknown_name none = refl
  unknown_name (more a xs) = refl

  local_name : (xs : Exprs) (t : Term) → 1 ≤ exprs_length xs → reference_items k xs (of_local t) ≡ refusal 32 k
  unfolding reference_items exprs_length
  local_name none t l = absurd (omega arith)
  local_name (more a xs) t l = refl

  other_count_lem : (xs : Exprs) (p : ℕ) (g : Ty) → 1 ≤ exprs_length xs → (exprs_length xs ≡ p → ⊥) → reference_items k xs (of_global p g) ≡ refusal 32 k
  unfolding reference_items exprs_length
  other_count_lem none p g l ne = absurd (omega arith)
  other_count_lem (more a xs) p g l ne = go (eqb (exprs_length (more a xs)) p) refl
    where
      go : (b : Bool) → eqb (exprs_length (more a xs)) p ≡ b → cond b (are_powers k (more a xs) 1 ⨾ typed k (instance (row k 1 p) g)) (refusal 32 k) ≡ refusal 32 k
      go true e = absurd (ne (eqb-true (exprs_length (more a xs)) p e))
      go false e = refl

  same_count_lem : (xs : Exprs) (p : ℕ) (g : Ty) → 1 ≤ exprs_length xs → exprs_length xs ≡ p → reference_items k xs (of_global p g) ≡ (are_powers k xs 1 ⨾ typed k (instance (row k 1 p) g))
  unfolding reference_items exprs_length
  same_count_lem none p g l e = absurd (omega arith)
  same_count_lem (more a xs) p g l e =
      ap (λ (b : Bool). cond b (are_powers k (more a xs) 1 ⨾ typed k (instance (row k 1 p) g)) (refusal 32 k)) (eq-eqb (exprs_length (more a xs)) p e)

no_expressions : (xs : Exprs) → exprs_length xs ≡ 0 → none ≡ xs
unfolding exprs_length
no_expressions none e = refl
no_expressions (more a xs) e = absurd (omega arith)

-- As many actuals as cells.
actuals_count : (s d : List ℕ) (n : ℕ) (G : Ghost) (parts : List ℕ) (m : ℕ) → m ≤ length parts → (xs : Exprs) → Cells s d n G (run parts 0 m) (types_of xs) → exprs_length xs ≡ m
actuals_count s d n G parts m l xs K = sym (cells_count s d n G (run parts 0 m) xs K) ∙ rows_length_lem parts m l

-- The rule stops with a refusal.
pub stopped : (s d : List ℕ) (n top k f cell n' top' : ℕ) (G : Ghost) (own : Items) → own ≡ refusal (suc f) k → Ruled s s d n top k (suc f) cell n' top' G own
stopped s d n top k f cell n' top' G own e =
    rule_stops s s d n top k (suc f) cell n' top' G own (λ q. omega arith) (subst (λ (x : Items). Stops G.before G.items x (suc f) k) (sym e) (refused G.before G.items (suc f) k))

-- A NAME OF THE DICTIONARY, whose entry is e.
module _ (s d w : List ℕ) (n top id : ℕ) (parts : List ℕ) (m : ℕ) (B : ConsultedWith s d w n top parts m) (e : ℕ) (found : (D : Dictionary) → Indexed D d w → NameFound D d id e) where
  pub applied_unknown : e ≡ 0 → (cell n' top' : ℕ) → GlobalApplied s s d w n top id parts m 31 cell n' top'
  applied_unknown z cell n' top' = record {
    low = refl;
    uses = λ q. absurd (omega arith);
    ruled = λ G S k U D R xs acts. stopped s d n top k 30 cell n' top' G (reference_items k xs (name_in id D)) (ap (reference_items k xs) ((found D R.holds).absent z) ∙ unknown_name k xs);
  }

  module _ (some : e ≡ 0 → ⊥) (p : ℕ) (ep : p ≡ parameters_at d e) where
    pub applied_count : (p ≡ m → ⊥) → (cell n' top' : ℕ) → GlobalApplied s s d w n top id parts m 32 cell n' top'
    applied_count ne cell n' top' = record {
      low = refl;
      uses = λ q. absurd (omega arith);
      ruled = λ G S k U D R xs acts.
          let cnt = actuals_count s d n G parts m B.within xs acts in
          stopped s d n top k 31 cell n' top' G (reference_items k xs (name_in id D))
          (ap (reference_items k xs) (named s d w n top id e found some p ep (type_at d e) refl D R)
          ∙ other_count_lem k xs p (entry s d w n top id e found some p ep (type_at d e) refl D R).type (let l = B.some in omega (arith, l, cnt)) (λ q. ne (sym q ∙ cnt)));
    }

    module _ (same : p ≡ m) (q : ℕ) (eq : q ≡ type_at d e) where
      em : m ≡ parameters_at d e
      em = sym same ∙ ep

      pub applying_at : ApplyingAt s d n top (dictionary_at + q) m parts
      unfolding recorded_at
      applying_at = record { recorded = recorded_at s d w n top id e found some m em q eq B.consulted; expressions = B.expressions; actuals = B.actuals; within = B.within }

      pub global_applied : (s' : List ℕ) (number cell n' top' : ℕ) → AppliedAt s s' d n top (dictionary_at + q) m parts number cell n' top' → GlobalApplied s s' d w n top id parts m number cell n' top'
      global_applied s' number cell n' top' X = record {
        low = X.low;
        uses = X.uses;
        ruled = λ G S k U D R xs acts.
            let cnt = actuals_count s d n G parts m B.within xs acts in
            let g = (entry s d w n top id e found some m em q eq D R).type in
            subst (Ruled s s' d n top k number cell n' top' G)
            (sym (ap (reference_items k xs) (named s d w n top id e found some m em q eq D R) ∙ same_count_lem k xs m g (let l = B.some in omega (arith, l, cnt)) cnt))
            (X.ruled G S g (type_reads s d w n top id e found some m em q eq D R S.piece.solved.held.size) k U xs acts);
      }

-- A NAME IN SCOPE.
module _ (s d w : List ℕ) (n top rows id : ℕ) (parts : List ℕ) (m : ℕ) (B : ReferringWith s d w n top rows parts m) where
  pub refers_plain : m ≡ 0 → (s' : List ℕ) (number cell n' top' : ℕ) → Refers s s' d w n top rows id number cell n' top' → RefersWith s s' d w n top rows id parts m number cell n' top'
  refers_plain z s' number cell n' top' X = record {
    low = X.low;
    uses = X.uses;
    ruled = λ G S k U Γ D C xs acts.
        let cnt = actuals_count s d n G parts m B.within xs acts in
        subst (λ (x : Exprs). Ruled s s' d n top k number cell n' top' G (reference_items k x (name_at id Γ))) (no_expressions xs (cnt ∙ z)) (X.ruled G S k U Γ D C);
  }

  module _ (ne : m ≡ 0 → ⊥) (r : ℕ) (F : Finds w 0 rows id r) where
    positive : 1 ≤ m
    positive = ⊎_elim (λ z. absurd (ne z)) (λ z. omega arith) (eq-zero-or-pos m)

    pub refers_local : r < rows → (cell n' top' : ℕ) → RefersWith s s d w n top rows id parts m 32 cell n' top'
    refers_local l cell n' top' = record {
      low = refl;
      uses = λ q. absurd (omega arith);
      ruled = λ G S k U Γ D C xs acts.
          let x = found_local (SettledAt s d G) D w 0 rows Γ C.stacked id r F l in
          let y = positive in
          let cnt = actuals_count s d n G parts m B.within xs acts in
          stopped s d n top k 31 cell n' top' G (reference_items k xs (name_at id Γ)) (ap (reference_items k xs) x.1 ∙ local_name k xs x.0 (omega (arith, y, cnt)));
    }

    pub consulted_with : ConsultedWith s d w n top parts m
    unfolding consulted
    consulted_with = record { consulted = consulted s d w n top rows id r B.referring F; expressions = B.expressions; actuals = B.actuals; within = B.within; some = positive }

    pub refers_global : rows ≤ r → (s' : List ℕ) (number cell n' top' : ℕ) → GlobalApplied s s' d w n top id parts m number cell n' top' → RefersWith s s' d w n top rows id parts m number cell n' top'
    refers_global l s' number cell n' top' X = record {
      low = X.low;
      uses = X.uses;
      ruled = λ G S k U Γ D C xs acts.
          subst (λ (y : Named). Ruled s s' d n top k number cell n' top' G (reference_items k xs y)) (sym (no_local (SettledAt s d G) D w 0 rows Γ C.stacked id r F l))
          (X.ruled G S k U D C.recorded xs acts);
    }
