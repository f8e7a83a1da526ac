-- One parameter more in scope.
use mathlib.Core.Path.{◌≡◌, refl, sym, ap, subst, ◌∙◌}
use mathlib.Core.List.{List, [], ◌∷◌}
use Prim.Native.Nat.{ℕ, suc, ◌+◌, ◌*◌, ◌-◌, ◌≤◌, ◌<◌}
use native.Mathlib.Omega.{arith}
use lib.ListN.{length, get_or, set, take, drop}
use lib.Seq.{sets, length-sets}
use Rattle.words.proofs.Lists.{drop_next}
use Rattle.types_rules.specs.Formed.{WellFormed, FormedType, Arity}
use Rattle.types_rules.specs.Former.{parameter, power, tag, identifiers}
use Rattle.types_rules.specs.Types.{Ty, node, tnil, tcons, Each, under}
use Rattle.types_rules.specs.Words.{words, second, part_words}
use Rattle.checker_rules.specs.Dictionary.{Dictionary}
use Rattle.checker_rules.specs.Items.{skip}
use Rattle.checker_rules.specs.Scopes.{Scope, local, with_parameters}
use Rattle.checker_rules.specs.Unknowns.{power_of, parameter_of}
use Rattle.types_cells.specs.Settled.{heap, Reads}
use Rattle.checker_signatures.specs.Rows.{flat, stack}
use Rattle.checker_signatures.specs.Carried.{Stacked}
use Rattle.checker_signatures.specs.Tables.{Pushed}
use Rattle.checker_signatures.proofs.CallLaws.{pushed_local}
use Rattle.checker_signatures.proofs.RowLaws.{get_d_above, flat_length}
use Rattle.types_instances.specs.Clean.{Clean}
use Rattle.types_instances.proofs.CleanLaws.{written_clean, written_below}
use Rattle.types_instances.proofs.Moving.{moved_new}
use Rattle.checker_lookup.specs.Scoped.{SettledAt, Scoped}
use Rattle.checker_lookup.proofs.HeldLaws.{SameIndex, same_on, held_in}
use Rattle.checker_includes.specs.Storing.{Stored}
use Rattle.checker_contracts.specs.Visits.{idle}
use Rattle.checker_contracts.proofs.Scopes.{scoped_stored, stored_on}
use Rattle.checker_entries.specs.Parameters.{ParametersAsk, ParametersPushed}

abbrev parameter_set : ℕ → Ty
parameter_set k = node power (tcons (node (parameter k) tnil) tnil)

set_formed : (k : ℕ) → WellFormed (parameter_set k)
unfolding FormedType Arity
set_formed k = (refl, ((refl, tt), tt))

set_words : (k : ℕ) → words (parameter_set k) ≡ 3 ∷ 6 ∷ k ∷ []
unfolding words tag second identifiers part_words
set_words k = refl

pub parameters_done : (s w p : List ℕ) (j n at : ℕ) → ParametersAsk s w p j n → n ≤ j → at ≡ 4 * j + 1 → ParametersPushed s s w w (take (n - j) (drop (j + 3) p)) j n at
unfolding with_parameters
parameters_done s w p j n at A l e =
    let o = A.order in
    let z : j ≡ n = omega arith in
    let y : n - j ≡ 0 = omega arith in
    record {
      stored = record { size = refl; before = λ i q. refl; after = subst (Clean s) (sym e) A.clean; more = omega arith };
      place = omega arith;
      size = refl;
      index = λ i low high. refl;
      scoped = λ d Γ D C. subst (λ k. Scoped s d w n (idle skip []) (with_parameters (take k (drop (j + 3) p)) (suc j) Γ) D) (sym y) (subst (λ k. Scoped s d w k (idle skip []) Γ D) z C);
    }

module _ (s s₁ s₂ s₃ w w₁ p : List ℕ) (j n at i r : ℕ) (A : ParametersAsk s w p j n) (more : j < n) (e : at ≡ 4 * j + 1) (h₁ : s₁ ≡ set s at 3) (h₂ : s₂ ≡ set s₁ (at + 1) 6)
    (h₃ : s₃ ≡ set s₂ (at + 2) (j + 1)) (ei : i ≡ get_or p (j + 3) 0) (P : Pushed w w₁ 0 j ((i, at) ∷ []) r) where
  -- the words of the type
  wrote : s₃ ≡ sets s at (words (parameter_set (suc j)))
  wrote =
      let p₁ : at + 1 ≡ suc at = omega arith in
      let p₂ : at + 2 ≡ suc (suc at) = omega arith in
      let p₃ : j + 1 ≡ suc j = omega arith in
      let k₂ = h₂ ∙ ap (λ (k : ℕ). set s₁ k 6) p₁ in
      let k₃ = h₃ ∙ ap (λ (k : ℕ). set s₂ k (j + 1)) p₂ ∙ ap (λ (k : ℕ). set s₂ (suc (suc at)) k) p₃ in
      k₃
      ∙ ap (λ (z : List ℕ). set z (suc (suc at)) (suc j)) (k₂ ∙ ap (λ (z : List ℕ). set z (suc at) 6) h₁)
      ∙ ap (sets s at) (sym (set_words (suc j)))

  three : length (words (parameter_set (suc j))) ≡ 3
  three = ap length (set_words (suc j))

  here : Clean s at
  here = subst (Clean s) (sym e) A.clean

  low : at + 3 < 100
  low = let f = A.few in omega arith

  stored : Stored s s₃ at (at + 4)
  stored = record {
    size = ap length wrote ∙ length-sets s at (words (parameter_set (suc j)));
    before = λ k q. ap (λ z. get_or z k 0) wrote ∙ written_below s at (words (parameter_set (suc j))) k q;
    after = subst (λ z. Clean z (at + 4)) (sym wrote) (subst (Clean (sets s at (words (parameter_set (suc j))))) (let z : at + length (words (parameter_set (suc j))) + 1 ≡ at + 4 = (let t = three in omega arith) in z)
        (written_clean s at (words (parameter_set (suc j))) here));
    more = omega arith;
  }

  size₁ : length w₁ ≡ length w
  size₁ = ap length P.words ∙ length-sets w (0 + 2 * j) (flat ((i, at) ∷ []))

  same₁ : SameIndex w w₁
  same₁ k least most =
      let f = A.few in
      let c = flat_length ((i, at) ∷ []) in
      ap (λ z. get_or z k 0) P.words ∙ get_d_above (flat ((i, at) ∷ [])) w (0 + 2 * j) k (omega arith)

  pub parameters_asked : ParametersAsk s₃ w₁ p (j + 1) n
  parameters_asked =
      let z = size₁ in
      let y = A.wide in
      record {
        size = stored.size ∙ A.size;
        clean = subst (Clean s₃) (let x : at + 4 ≡ 4 * (j + 1) + 1 = omega arith in x) stored.after;
        wide = omega arith;
        few = A.few;
        order = omega arith;
        inside = A.inside;
      }

  one_more : (d : List ℕ) (Γ : Scope) (D : Dictionary) → Scoped s d w j (idle skip []) Γ D → Scoped s₃ d w₁ (j + 1) (idle skip []) (local i (power_of (parameter_of (suc j))) Γ) D
  unfolding Each under
  one_more d Γ D C =
      let l = low in
      let t = three in
      let f = A.few in
      let u = A.wide in
      let B = scoped_stored s s₃ d at (at + 4) A.size here (omega arith) (omega arith) stored w j (idle skip []) Γ D C in
      record {
        stacked = subst (λ k. Stacked (SettledAt s₃ d (idle skip [])) (local i (power_of (parameter_of (suc j))) Γ) (stack w₁ 0 k) D) P.count
            (pushed_local (SettledAt s₃ d (idle skip [])) D w 0 j Γ B.stacked w₁ i at r (power_of (parameter_of (suc j))) P (omega arith)
            (record {
              over = (tt, tt);
              type = parameter_set (suc j);
              reads = subst (λ z. Reads (heap z d) at (parameter_set (suc j))) (sym wrote) (moved_new s at (words (parameter_set (suc j))) A.size (omega arith) d (parameter_set (suc j)) (set_formed (suc j)) refl);
              means = λ τ m. refl;
            }));
        recorded = held_in D d w w₁ same₁ C.recorded;
      }

  pub parameters_next : (s' w' : List ℕ) (end : ℕ) → ParametersPushed s₃ s' w₁ w' (take (n - (j + 1)) (drop (j + 1 + 3) p)) (j + 1) n end →
      ParametersPushed s s' w w' (take (n - j) (drop (j + 3) p)) j n end
  unfolding with_parameters
  parameters_next s' w' end N = record {
    stored = subst (λ k. Stored s s' k end) e
        (stored_on s s₃ s' at (at + 4) end stored (subst (λ k. Stored s₃ s' k end) (let x : 4 * (j + 1) + 1 ≡ at + 4 = omega arith in x) N.stored));
    place = N.place;
    size = N.size ∙ size₁;
    index = same_on w w₁ w' same₁ N.index;
    scoped = λ d Γ D C.
        subst (λ l. Scoped s' d w' n (idle skip []) (with_parameters l (suc j) Γ) D) (sym split)
        (subst (λ k. Scoped s' d w' n (idle skip []) (with_parameters (take (n - (j + 1)) (drop (j + 1 + 3) p)) k (local i (power_of (parameter_of (suc j))) Γ)) D)
        (let x : suc (j + 1) ≡ suc (suc j) = omega arith in x) (N.scoped d (local i (power_of (parameter_of (suc j))) Γ) D (one_more d Γ D C)));
  }
    where
      split : take (n - j) (drop (j + 3) p) ≡ i ∷ take (n - (j + 1)) (drop (j + 1 + 3) p)
      split =
          let q = A.inside in
          let x : n - j ≡ suc (n - (j + 1)) = omega arith in
          let y : j + 3 + 1 ≡ j + 1 + 3 = omega arith in
          ap (λ (k : ℕ). take k (drop (j + 3) p)) x
          ∙ ap (take (suc (n - (j + 1)))) (drop_next p (j + 3) (omega arith) ∙ ap (λ (k : ℕ). k ∷ drop (j + 3 + 1) p) (sym ei) ∙ ap (λ (k : ℕ). i ∷ drop k p) y)
