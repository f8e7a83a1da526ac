-- A property T of each term of a signature: merging, declaring, strokes and renaming keep it.
use mathlib.Core.Bool.{Bool, true, false, cond}
use mathlib.Core.List.{List, [], ◌∷◌}
use mathlib.Core.Option.{Option, some, none as nothing}
use Prim.Native.Nat.{ℕ}
use lib.Dec.{ltb, eqb}
use Rattle.types_rules.specs.Types.{Term}
use Rattle.checker_rules.specs.Signatures.{Signature, no_names, naming, or_else, term_in, insert_name, merge, declare, stroke_all, renamed, rename_all}

module _ (T : Term → Type 0) where
  abbrev pub Having : Signature → Type 0
  Having no_names = Unit {0}
  Having (naming i t s) = T t × Having s

  abbrev pub HavingOption : Option Term → Type 0
  HavingOption (some t) = T t
  HavingOption nothing = Unit {0}

  pub none_having : Having no_names
  none_having = tt

  either : (b : Bool) (s r : Signature) → Having s → Having r → Having (cond b s r)
  either true s r h k = h
  either false s r h k = k

  pub insert_having : (i : ℕ) (t : Term) (s : Signature) → T t → Having s → Having (insert_name i t s)
  unfolding insert_name
  insert_having i t no_names e h = (e, tt)
  insert_having i t (naming j u s) e h =
      either (eqb i j) (naming j u s) _ h (either (ltb i j) (naming i t (naming j u s)) (naming j u (insert_name i t s)) (e, h) (h.0, insert_having i t s e h.1))

  pub merge_having : (s r : Signature) → Having s → Having r → Having (merge s r)
  unfolding merge
  merge_having no_names r h k = k
  merge_having (naming i t s) r h k = merge_having s (insert_name i t r) h.1 (insert_having i t r h.0 k)

  pub declare_having : (is : List ℕ) (t : Term) (r : Signature) → T t → Having r → Having (declare is t r)
  unfolding declare
  declare_having [] t r e k = k
  declare_having (i ∷ is) t r e k = declare_having is t (insert_name i t r) e (insert_having i t r e k)

  pub stroke_having : (k : ℕ) (s : Signature) → Having s → Having (stroke_all k s)
  unfolding stroke_all
  stroke_having k no_names h = tt
  stroke_having k (naming i t s) h = (h.0, stroke_having k s h.1)

  pub rename_having : (rs : List (ℕ × ℕ)) (s : Signature) → Having s → Having (rename_all rs s)
  unfolding rename_all
  rename_having rs no_names h = tt
  rename_having rs (naming i t s) h = insert_having (renamed rs i) t (rename_all rs s) h.0 (rename_having rs s h.1)

  pub term_in_having : (i : ℕ) (s : Signature) → Having s → HavingOption (term_in i s)
  unfolding term_in
  term_in_having i no_names h = tt
  term_in_having i (naming j t s) h = go (term_in i s) (eqb i j) (term_in_having i s h.1)
    where
      go : (o : Option Term) (b : Bool) → HavingOption o → HavingOption (or_else o (cond b (some t) nothing))
      go (some u) b k = unfold or_else in k
      go nothing true k = unfold or_else in h.0
      go nothing false k = unfold or_else in tt
