-- One identifier of a Theta: a row of the scope, or an entry without parameters.
use mathlib.Core.Path.{◌≡◌, refl, sym, ap, subst, ◌∙◌}
use mathlib.Core.Bool.{true}
use mathlib.Core.List.{List}
use Prim.Native.Nat.{ℕ, zero, suc, ◌+◌, ◌*◌, ◌-◌, ◌≤◌, ◌<◌}
use native.Mathlib.Omega.{arith}
use lib.ListN.{get_or}
use Rattle.types_rules.specs.Equations.{In}
use Rattle.types_rules.specs.Instance.{instance}
use Rattle.types_rules.specs.Types.{Ty, nil, Eachs}
use Rattle.types_rules.proofs.Instance.{instance_none}
use Rattle.checker_rules.specs.Dictionary.{Dictionary, Named, of_global, name_in}
use Rattle.checker_rules.specs.Items.{refusal}
use Rattle.checker_rules.specs.Rules.{theta_name, type_in_scope}
use Rattle.checker_rules.specs.Scopes.{Scope, name_at}
use Rattle.types_cells.specs.Layout.{dictionary_at}
use Rattle.types_cells.specs.Settled.{heap, Reads}
use Rattle.checker_dictionary.specs.Index.{Indexed}
use Rattle.checker_dictionary.specs.Lookup.{parameters_at, type_at, NameFound}
use Rattle.checker_signatures.specs.Tables.{Finds}
use Rattle.checker_signatures.proofs.CallLaws.{found_local, no_local}
use Rattle.checker_pieces.specs.Stage.{Ghost}
use Rattle.checker_lookup.specs.Scoped.{SettledAt, Scoped}
use Rattle.checker_lookup.specs.Thetas.{InScope}
use Rattle.checker_lookup.proofs.LookingUp.{entry, named, type_reads}
use Rattle.checker_lookup.proofs.RowInstances.{instance_each}

-- A recorded type without parameters is settled.
recorded_settled : (s d : List ℕ) (G : Ghost) (p : ℕ) (g : Ty) → Reads (heap s d) p g → SettledAt s d G (instance nil g) p
unfolding Eachs
recorded_settled s d G p g R = record { over = instance_each (λ x. In x G.mentioned) nil g tt; type = g; reads = R; means = λ τ m. instance_none τ g }

-- What Theta asks of a name.
generic_name : (k p : ℕ) (g : Ty) → (p ≡ 0 → ⊥) → theta_name true k (of_global p g) ≡ refusal 31 k
unfolding theta_name
generic_name k zero g ne = absurd (ne refl)
generic_name k (suc p) g ne = refl

module _ (d w : List ℕ) (rows id r : ℕ) (F : Finds w 0 rows id r) where
  pub scope_local : r < rows → (p : ℕ) → p ≡ get_or w (2 * r + 1) 0 → InScope d w rows id (p + 1)
  unfolding theta_name type_in_scope
  scope_local l p e = record {
    absent = λ z. absurd (omega arith);
    present = λ z s G Γ D C size.
        let x = found_local (SettledAt s d G) D w 0 rows Γ C.stacked id r F l in
        let a : 0 + 2 * r + 1 ≡ 2 * r + 1 = omega arith in
        let b : p ≡ p + 1 - 1 = omega arith in
        let here = ap (λ (k : ℕ). get_or w k 0) a ∙ sym e ∙ b in (
          λ k. ap (theta_name true k) x.1,
          subst (λ (y : Named). SettledAt s d G (type_in_scope y) (p + 1 - 1)) (sym x.1) (subst (SettledAt s d G x.0) here x.2),
        );
  }

  module _ (l : rows ≤ r) (e : ℕ) (found : (D : Dictionary) → Indexed D d w → NameFound D d id e) where
    global_name : (s : List ℕ) (G : Ghost) (Γ : Scope) (D : Dictionary) → Scoped s d w rows G Γ D → name_at id Γ ≡ name_in id D
    global_name s G Γ D C = no_local (SettledAt s d G) D w 0 rows Γ C.stacked id r F l

    pub scope_unknown : e ≡ 0 → InScope d w rows id 0
    unfolding theta_name
    scope_unknown z = record {
      absent = λ q s G Γ D C k. ap (theta_name true k) (global_name s G Γ D C ∙ (found D C.recorded.holds).absent z);
      present = λ q. absurd (q refl);
    }

    module _ (some : e ≡ 0 → ⊥) (p : ℕ) (ep : p ≡ parameters_at d e) where
      pub scope_generic : (p ≡ 0 → ⊥) → InScope d w rows id 0
      scope_generic ne = record {
        absent = λ q s G Γ D C k.
            let g = (entry s d w 0 0 id e found some p ep (type_at d e) refl D C.recorded).type in
            ap (theta_name true k) (global_name s G Γ D C ∙ named s d w 0 0 id e found some p ep (type_at d e) refl D C.recorded) ∙ generic_name k p g ne;
        present = λ q. absurd (q refl);
      }

      pub scope_recorded : p ≡ 0 → (q : ℕ) → q ≡ type_at d e → InScope d w rows id (dictionary_at + 1 + q)
      unfolding theta_name type_in_scope
      scope_recorded z q eq = record {
        absent = λ y. absurd (omega arith);
        present = λ y s G Γ D C size.
            let e0 = sym z ∙ ep in
            let g = (entry s d w 0 0 id e found some 0 e0 q eq D C.recorded).type in
            let name = global_name s G Γ D C ∙ named s d w 0 0 id e found some 0 e0 q eq D C.recorded in
            let b : dictionary_at + q ≡ dictionary_at + 1 + q - 1 = omega arith in (
              λ k. ap (theta_name true k) name,
              subst (λ (x : Named). SettledAt s d G (type_in_scope x) (dictionary_at + 1 + q - 1)) (sym name)
                  (subst (SettledAt s d G (instance nil g)) b (recorded_settled s d G (dictionary_at + q) g (type_reads s d w 0 0 id e found some 0 e0 q eq D C.recorded size))),
            );
      }

pub place_after : (d w : List ℕ) (rows id q : ℕ) → InScope d w rows id (dictionary_at + 1 + q) → InScope d w rows id (dictionary_at + q + 1)
place_after d w rows id q I = let e : dictionary_at + 1 + q ≡ dictionary_at + q + 1 = omega arith in subst (InScope d w rows id) e I

pub ruleset scope_cases = (scope_local, scope_unknown, scope_recorded, place_after)
