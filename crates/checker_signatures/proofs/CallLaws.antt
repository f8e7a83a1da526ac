-- What the calls promise, said of signatures and scopes.
use mathlib.Core.Path.{◌≡◌, refl, sym, ap, subst, ◌∙◌}
use mathlib.Core.Bool.{Bool, false}
use mathlib.Core.List.{List, [], ◌∷◌}
use mathlib.Core.Option.{Option, some, none as nothing}
use Prim.Native.Nat.{ℕ, ◌+◌, ◌*◌, ◌≤◌, ◌<◌}
use native.Mathlib.Omega.{arith}
use lib.ListN.{length, get_or}
use lib.Seq.{sets, length-sets}
use Rattle.types_rules.specs.Types.{Term}
use Rattle.checker_rules.specs.Dictionary.{Dictionary, of_local, name_in}
use Rattle.checker_rules.specs.Signatures.{Signature, term_in, stroke_all, rename_all, wrong_names}
use Rattle.checker_rules.specs.Scopes.{Scope, local, name_at, enter}
use Rattle.checker_signatures.specs.Rows.{rows, flat, stroke_rows, rename_rows, place_in, stack, push_rows}
use Rattle.checker_signatures.specs.Tables.{Table, Finds, Brings, Pushed}
use Rattle.checker_signatures.specs.Carried.{Carries, Stacked}
use Rattle.checker_signatures.proofs.RowLaws.{rows_length_lem}
use Rattle.checker_signatures.proofs.TableLaws.{table_rows, rename_count}
use Rattle.checker_signatures.proofs.IncludeLaws.{stroke_length}
use Rattle.checker_signatures.proofs.CarryLaws.{Both, carries_term, both_some, both_none, carries_wrong, carries_stroke, carries_rename}
use Rattle.checker_signatures.proofs.ScopeLaws.{Resolves, stacked_name, stacked_enter, newest_last, stack_push}

module _ (R : Term → ℕ → Type 0) where
  -- a table that stands for a signature, read where it was written
  pub carried : (w v : List ℕ) (b : ℕ) (rs : List (ℕ × ℕ)) (n : ℕ) (s : Signature) → Table w v b rs n → b + 2 * n ≤ length w → Carries R s rs
      → Carries R s (rows v b n)
  carried w v b rs n s t h k = subst (Carries R s) (sym (table_rows w b v rs n t h)) k

  -- find, in a signature
  module _ (w : List ℕ) (b m i r : ℕ) (f : Finds w b m i r) (s : Signature) (k : Carries R s (rows w b m)) where
    pub found_term : r < m → (t : Term) × (term_in i s ≡ some t) × R t (get_or w (b + 2 * r + 1) 0)
    found_term h =
        both_some R (term_in i s) (get_or w (b + 2 * r + 1) 0) (subst (Both R (term_in i s)) (f.there h) (carries_term R i s (rows w b m) k))

    pub no_term : m ≤ r → term_in i s ≡ nothing
    no_term h = both_none R (term_in i s) (subst (Both R (term_in i s)) (f.absent h) (carries_term R i s (rows w b m) k))

  -- bring
  module _ (w v : List ℕ) (source m base k : ℕ) (ps : List (ℕ × ℕ)) (wrong : Bool) (n : ℕ) (g : Brings w v source m base k ps wrong n) (s : Signature)
      (c : Carries R s (rows w source m)) where
    pub brought_wrong : wrong ≡ wrong_names k ps s
    brought_wrong = g.finding ∙ sym (carries_wrong R k ps s (rows w source m) c)

    pub brought_names : wrong ≡ false → base + 2 * m ≤ length w → Carries R (rename_all ps (stroke_all k s)) (rows v base n)
    brought_names e h =
        let rs = stroke_rows k (rows w source m) in
        let u = sets w source (flat rs) in
        let t = g.words e in
        let a = t.count in
        let d = rename_count ps rs in
        let l = stroke_length k (rows w source m) in
        let q = rows_length_lem w source m in
        let z = length-sets w source (flat rs) in
        carried u v base (rename_rows ps rs) n (rename_all ps (stroke_all k s)) t (omega arith)
        (carries_rename R ps (stroke_all k s) rs (carries_stroke R k s (rows w source m) c))

  module _ (D : Dictionary) (w : List ℕ) (b n : ℕ) (Γ : Scope) (k : Stacked R Γ (stack w b n) D) where
    -- find, in a scope
    module _ (i r : ℕ) (f : Finds w b n i r) where
      resolved : (o : Option ℕ) → place_in i (rows w b n) ≡ o → Resolves R i Γ D o
      resolved o e = subst (Resolves R i Γ D) (newest_last i w b n ∙ e) (stacked_name R D i Γ (stack w b n) k)

      pub found_local : r < n → (t : Term) × (name_at i Γ ≡ of_local t) × R t (get_or w (b + 2 * r + 1) 0)
      unfolding Resolves
      found_local h = resolved (some (get_or w (b + 2 * r + 1) 0)) (f.there h)

      pub no_local : n ≤ r → name_at i Γ ≡ name_in i D
      unfolding Resolves
      no_local h = resolved nothing (f.absent h)

    -- push and push_row
    pushed : (v : List ℕ) (rs : List (ℕ × ℕ)) (r : ℕ) → Pushed w v b n rs r → b + 2 * (n + length rs) ≤ length w → stack v b r ≡ push_rows rs (stack w b n)
    pushed v rs r p h =
        ap (stack v b) p.count ∙ ap (λ (u : List ℕ). stack u b (n + length rs)) p.words ∙ stack_push w b n rs h

    pub pushed_signature : (v : List ℕ) (source m r : ℕ) (s : Signature) → Pushed w v b n (rows w source m) r → b + 2 * (n + m) ≤ length w
        → Carries R s (rows w source m) → Stacked R (enter s Γ) (stack v b r) D
    pushed_signature v source m r s p h c =
        let l = rows_length_lem w source m in
        subst (λ (st : List (ℕ × ℕ)). Stacked R (enter s Γ) st D) (sym (pushed v (rows w source m) r p (rw l h)))
        (stacked_enter R D s Γ (rows w source m) (stack w b n) c k)

    pub pushed_local : (v : List ℕ) (i p r : ℕ) (t : Term) → Pushed w v b n ((i, p) ∷ []) r → b + 2 * (n + 1) ≤ length w → R t p
        → Stacked R (local i t Γ) (stack v b r) D
    unfolding Stacked push_rows
    pushed_local v i p r t q h e =
        subst (λ (st : List (ℕ × ℕ)). Stacked R (local i t Γ) st D) (sym (pushed v ((i, p) ∷ []) r q h)) (refl, e, k)
