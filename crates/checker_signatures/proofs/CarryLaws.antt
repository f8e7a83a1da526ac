-- Rows that stand for a signature do so after each operation, and answer as it does.
use mathlib.Core.Path.{◌≡◌, refl, sym, ap, subst}
use mathlib.Core.Bool.{Bool, true, false, cond}
use mathlib.Core.List.{List, [], ◌∷◌}
use mathlib.Core.Option.{Option, some, none as nothing}
use Prim.Native.Nat.{ℕ, suc}
use lib.Dec.{ltb, eqb}
use lib.ListN.{length}
use Rattle.types_rules.specs.Types.{Term}
use Rattle.checker_rules.specs.Strokes.{decorate}
use Rattle.checker_rules.specs.Signatures.{Signature, no_names, naming, count_names, names_of, or_else, term_in, has_name, insert_name, merge, declare, stroke_all}
use Rattle.checker_rules.specs.Signatures.{renamed, rename_all, some_stroked, wrong_old, wrong_names}
use Rattle.checker_signatures.specs.Rows.{identifiers_of, or_place, place_in, has_row, insert_row, merge_rows, declare_rows, stroke_rows, rename_rows}
use Rattle.checker_signatures.specs.Rows.{stroked_rows, wrong_old_rows, wrong_rows}
use Rattle.checker_signatures.specs.Carried.{Carries}

-- R between what is found, or nothing found on both sides
unfoldable pub Both : (Term → ℕ → Type 0) → Option Term → Option ℕ → Type 0
Both R nothing nothing = Unit {0}
Both R nothing (some p) = ⊥
Both R (some t) nothing = ⊥
Both R (some t) (some p) = R t p

module _ (R : Term → ℕ → Type 0) where
  pub carries_insert : (i : ℕ) (t : Term) (p : ℕ) (s : Signature) (rs : List (ℕ × ℕ)) → R t p → Carries R s rs
      → Carries R (insert_name i t s) (insert_row i p rs)
  unfolding insert_name insert_row Carries
  carries_insert i t p no_names [] e h = (refl, e, tt)
  carries_insert i t p no_names (r ∷ rs) e h = absurd h
  carries_insert i t p (naming j u s) [] e h = absurd h
  carries_insert i t p (naming j u s) (r ∷ rs) e h =
      subst
      (λ (k : ℕ). Carries R (cond (eqb i k) (naming k u s) (cond (ltb i k) (naming i t (naming k u s)) (naming k u (insert_name i t s)))) (insert_row i p (r ∷ rs)))
      (sym h.0)
      (go (eqb i r.0) (ltb i r.0) (carries_insert i t p s rs e h.2))
    where
      go : (a b : Bool) → Carries R (insert_name i t s) (insert_row i p rs)
          → Carries
          R
          (cond a (naming r.0 u s) (cond b (naming i t (naming r.0 u s)) (naming r.0 u (insert_name i t s))))
          (cond a (r ∷ rs) (cond b ((i, p) ∷ r ∷ rs) (r ∷ insert_row i p rs)))
      go true b k = (refl, h.1, h.2)
      go false true k = (refl, e, (refl, h.1, h.2))
      go false false k = (refl, h.1, k)

  pub carries_merge : (s r : Signature) (xs rs : List (ℕ × ℕ)) → Carries R s xs → Carries R r rs → Carries R (merge s r) (merge_rows xs rs)
  unfolding merge merge_rows Carries
  carries_merge no_names r [] rs h k = k
  carries_merge no_names r (x ∷ xs) rs h k = absurd h
  carries_merge (naming i t s) r [] rs h k = absurd h
  carries_merge (naming i t s) r (x ∷ xs) rs h k =
      carries_merge s (insert_name i t r) xs (insert_row x.0 x.1 rs) h.2
      (subst (λ (j : ℕ). Carries R (insert_name j t r) (insert_row x.0 x.1 rs)) (sym h.0) (carries_insert x.0 t x.1 r rs h.1 k))

  pub carries_declare : (is : List ℕ) (t : Term) (p : ℕ) (s : Signature) (rs : List (ℕ × ℕ)) → R t p → Carries R s rs
      → Carries R (declare is t s) (declare_rows is p rs)
  unfolding declare declare_rows
  carries_declare [] t p s rs e h = h
  carries_declare (i ∷ is) t p s rs e h = carries_declare is t p (insert_name i t s) (insert_row i p rs) e (carries_insert i t p s rs e h)

  pub carries_stroke : (k : ℕ) (s : Signature) (rs : List (ℕ × ℕ)) → Carries R s rs → Carries R (stroke_all k s) (stroke_rows k rs)
  unfolding stroke_all stroke_rows Carries
  carries_stroke k no_names [] h = tt
  carries_stroke k no_names (r ∷ rs) h = absurd h
  carries_stroke k (naming i t s) [] h = absurd h
  carries_stroke k (naming i t s) (r ∷ rs) h = (ap (decorate k) h.0, h.1, carries_stroke k s rs h.2)

  pub carries_rename : (ps : List (ℕ × ℕ)) (s : Signature) (rs : List (ℕ × ℕ)) → Carries R s rs → Carries R (rename_all ps s) (rename_rows ps rs)
  unfolding rename_all rename_rows Carries
  carries_rename ps no_names [] h = tt
  carries_rename ps no_names (r ∷ rs) h = absurd h
  carries_rename ps (naming i t s) [] h = absurd h
  carries_rename ps (naming i t s) (r ∷ rs) h =
      subst (λ (j : ℕ). Carries R (insert_name (renamed ps j) t (rename_all ps s)) (rename_rows ps (r ∷ rs))) (sym h.0)
      (carries_insert (renamed ps r.0) t r.1 (rename_all ps s) (rename_rows ps rs) h.1 (carries_rename ps s rs h.2))

  -- answers
  pub carries_count : (s : Signature) (rs : List (ℕ × ℕ)) → Carries R s rs → count_names s ≡ length rs
  unfolding count_names Carries
  carries_count no_names [] h = refl
  carries_count no_names (r ∷ rs) h = absurd h
  carries_count (naming i t s) [] h = absurd h
  carries_count (naming i t s) (r ∷ rs) h = ap suc (carries_count s rs h.2)

  pub carries_names : (s : Signature) (rs : List (ℕ × ℕ)) → Carries R s rs → names_of s ≡ identifiers_of rs
  unfolding names_of identifiers_of Carries
  carries_names no_names [] h = refl
  carries_names no_names (r ∷ rs) h = absurd h
  carries_names (naming i t s) [] h = absurd h
  carries_names (naming i t s) (r ∷ rs) h = let a = h.0 in let b = carries_names s rs h.2 in cc

  pub carries_has : (i : ℕ) (s : Signature) (rs : List (ℕ × ℕ)) → Carries R s rs → has_name i s ≡ has_row i rs
  unfolding has_name has_row Carries
  carries_has i no_names [] h = refl
  carries_has i no_names (r ∷ rs) h = absurd h
  carries_has i (naming j t s) [] h = absurd h
  carries_has i (naming j t s) (r ∷ rs) h = let a = h.0 in let b = carries_has i s rs h.2 in cc

  both_else : (a c : Option Term) (b d : Option ℕ) → Both R a b → Both R c d → Both R (or_else a c) (or_place b d)
  unfolding or_else or_place Both
  both_else nothing c nothing d h k = k
  both_else nothing c (some p) d h k = absurd h
  both_else (some t) c nothing d h k = absurd h
  both_else (some t) c (some p) d h k = h

  pub carries_term : (i : ℕ) (s : Signature) (rs : List (ℕ × ℕ)) → Carries R s rs → Both R (term_in i s) (place_in i rs)
  unfolding term_in place_in Carries Both
  carries_term i no_names [] h = tt
  carries_term i no_names (r ∷ rs) h = absurd h
  carries_term i (naming j t s) [] h = absurd h
  carries_term i (naming j t s) (r ∷ rs) h =
      subst (λ (k : ℕ). Both R (or_else (term_in i s) (cond (eqb i k) (some t) nothing)) (place_in i (r ∷ rs))) (sym h.0)
      (both_else (term_in i s) (cond (eqb i r.0) (some t) nothing) (place_in i rs) (cond (eqb i r.0) (some r.1) nothing) (carries_term i s rs h.2) (go (eqb i r.0)))
    where
      go : (b : Bool) → Both R (cond b (some t) nothing) (cond b (some r.1) nothing)
      go true = h.1
      go false = tt

  pub both_some : (o : Option Term) (p : ℕ) → Both R o (some p) → (t : Term) × (o ≡ some t) × R t p
  unfolding Both
  both_some nothing p h = absurd h
  both_some (some t) p h = (t, refl, h)

  pub both_none : (o : Option Term) → Both R o nothing → o ≡ nothing
  unfolding Both
  both_none nothing h = refl
  both_none (some t) h = absurd h

  -- 37
  pub carries_stroked : (k : ℕ) (s : Signature) (rs : List (ℕ × ℕ)) → Carries R s rs → some_stroked k s ≡ stroked_rows k rs
  unfolding some_stroked stroked_rows Carries
  carries_stroked k no_names [] h = refl
  carries_stroked k no_names (r ∷ rs) h = absurd h
  carries_stroked k (naming i t s) [] h = absurd h
  carries_stroked k (naming i t s) (r ∷ rs) h = let a = h.0 in let b = carries_stroked k s rs h.2 in cc

  pub carries_old : (ps : List (ℕ × ℕ)) (s : Signature) (rs : List (ℕ × ℕ)) → Carries R s rs → wrong_old ps s ≡ wrong_old_rows ps rs
  unfolding wrong_old wrong_old_rows
  carries_old [] s rs h = refl
  carries_old (p ∷ ps) s rs h = let a = carries_has p.0 s rs h in let b = carries_old ps s rs h in cc

  pub carries_wrong : (k : ℕ) (ps : List (ℕ × ℕ)) (s : Signature) (rs : List (ℕ × ℕ)) → Carries R s rs → wrong_names k ps s ≡ wrong_rows k ps rs
  unfolding wrong_names wrong_rows
  carries_wrong k ps s rs h =
      let q = carries_stroke k s rs h in
      let a = carries_stroked k s rs h in
      let b = carries_old ps (stroke_all k s) (stroke_rows k rs) q in
      let c = carries_count (rename_all ps (stroke_all k s)) (rename_rows ps (stroke_rows k rs)) (carries_rename ps (stroke_all k s) (stroke_rows k rs) q) in
      let d = carries_count s rs h in
      cc

-- places that stand for terms in another way, as after a change of the words
pub carries_other : (R Q : Term → ℕ → Type 0) → ((t : Term) (p : ℕ) → R t p → Q t p) → (s : Signature) (rs : List (ℕ × ℕ)) → Carries R s rs → Carries Q s rs
unfolding Carries
carries_other R Q f no_names [] h = tt
carries_other R Q f no_names (r ∷ rs) h = absurd h
carries_other R Q f (naming i t s) [] h = absurd h
carries_other R Q f (naming i t s) (r ∷ rs) h = (h.0, f t r.1 h.1, carries_other R Q f s rs h.2)
