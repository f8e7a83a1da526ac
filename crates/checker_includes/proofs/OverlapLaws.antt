-- Identifiers beside a table whose types are of size 32 at most, where their own type is larger.
use mathlib.Core.Path.{◌≡◌, refl, sym, ap, subst, ◌∙◌}
use mathlib.Core.Bool.{Bool, true, false}
use mathlib.Core.List.{List, [], ◌∷◌}
use Prim.Native.Nat.{ℕ, ◌+◌, ◌≤◌, ◌<◌}
use native.Mathlib.Omega.{arith}
use lib.ListN.{length, get_or, drop}
use Rattle.words.proofs.Lists.{drop_next}
use Rattle.types_rules.specs.Types.{Term, size}
use Rattle.types_rules.proofs.Terms.{bool_no}
use Rattle.checker_rules.specs.Items.{Items, ◌⨾◌, Refuses, MeetsIn}
use Rattle.checker_rules.specs.Signatures.{Signature, term_in}
use Rattle.checker_rules.specs.Conditions.{same_type, merge_declared}
use Rattle.checker_signatures.specs.Rows.{rows}
use Rattle.checker_signatures.specs.Tables.{Finds}
use Rattle.checker_signatures.specs.Carried.{Carries}
use Rattle.checker_signatures.proofs.CallLaws.{found_term, no_term}
use Rattle.checker_pieces.specs.Piece.{Steady, Walked}
use Rattle.checker_pieces.proofs.Between.{walked_skip, walked_then, equal_refused, settled_later, refuses_first, refuses_second}
use Rattle.checker_includes.specs.Components.{Placed}
use Rattle.checker_includes.specs.Storing.{OverlapTold}
use Rattle.checker_includes.proofs.LaterLaws.{placed_later}

abbrev None : ℕ → Type 0
None x = ⊥

module _ (s d w : List ℕ) (base m : ℕ) where
  overlap_none : (is : List ℕ) → is ≡ [] → OverlapTold s d w base m is true
  unfolding merge_declared
  overlap_none is e = record {
    goes = λ z H U n t r S C. subst (λ l. Walked H (merge_declared n l t r) U U None) (sym e) (walked_skip H U None S);
    stops = λ z. absurd (bool_no true refl z);
  }

  module _ (is : List ℕ) (i : ℕ) (js : List ℕ) (e : is ≡ i ∷ js) (f : ℕ) (F : Finds w base m i f) where
    overlap_break : f < m → OverlapTold s d w base m is false
    unfolding merge_declared same_type
    overlap_break l = record {
      goes = λ z. absurd (bool_no false z refl);
      stops = λ z H U n t g r S A b C.
          let o = found_term (Placed s d H U) w base m i f F r C l in
          let B = o.2 in
          let k = B.small in
          subst (λ x. Refuses (merge_declared n x t r) (MeetsIn H) 36 n) (sym e)
          (refuses_first H (same_type n t (term_in i r)) (merge_declared n js t r) 36 n
          (subst (λ x. Refuses (same_type n t x) (MeetsIn H) 36 n) (sym o.1)
          (equal_refused H 36 n t o.0 g B.typed.type A B.typed.settled (λ q. let y = ap size q in omega arith))));
    }

    overlap_next : m ≤ f → (b : Bool) → OverlapTold s d w base m js b → OverlapTold s d w base m is b
    unfolding merge_declared same_type
    overlap_next l b N = record {
      goes = λ z H U n t r S C.
          let c = same_type n t (term_in i r) in
          let W = first H U n t r S C in
          subst (λ x. Walked H (merge_declared n x t r) U U None) (sym e)
          (walked_then H c (merge_declared n js t r) U U U None S W (N.goes z (H ⨾ c) U n t r W.steady (placed_later s d H c U r _ C)));
      stops = λ z H U n t g r S A q C.
          let c = same_type n t (term_in i r) in
          let W = first H U n t r S C in
          subst (λ x. Refuses (merge_declared n x t r) (MeetsIn H) 36 n) (sym e)
          (refuses_second H c (merge_declared n js t r) 36 n W.goes (N.stops z (H ⨾ c) U n t g r W.steady (settled_later H c t g A) q (placed_later s d H c U r _ C)));
    }
      where
        first : (H : Items) (U : List ℕ) (n : ℕ) (t : Term) (r : Signature) → Steady H U → Carries (Placed s d H U) r (rows w base m) → Walked H (same_type n t (term_in i r)) U U None
        first H U n t r S C = subst (λ x. Walked H (same_type n t x) U U None) (sym (no_term (Placed s d H U) w base m i f F r C l)) (walked_skip H U None S)

-- The words of a part from j on.
module _ (w : List ℕ) (base m : ℕ) where
  pub overlap_end : (ws : List ℕ) (j : ℕ) → drop j ws ≡ [] → (s d : List ℕ) → OverlapTold s d w base m (drop j ws) true
  overlap_end ws j e s d = overlap_none s d w base m (drop j ws) e

  module _ (ws : List ℕ) (j i : ℕ) (l : j < length ws) (e : i ≡ get_or ws j 0) (f : ℕ) (F : Finds w base m i f) where
    here : drop j ws ≡ i ∷ drop (j + 1) ws
    here = drop_next ws j l ∙ ap (λ z. z ∷ drop (j + 1) ws) (sym e)

    pub overlap_stop : f < m → (s d : List ℕ) → OverlapTold s d w base m (drop j ws) false
    overlap_stop q s d = overlap_break s d w base m (drop j ws) i (drop (j + 1) ws) here f F q

    pub overlap_go : m ≤ f → (b : Bool) → ((s d : List ℕ) → OverlapTold s d w base m (drop (j + 1) ws) b) → (s d : List ℕ) → OverlapTold s d w base m (drop j ws) b
    overlap_go q b N s d = overlap_next s d w base m (drop j ws) i (drop (j + 1) ws) here f F q b (N s d)
