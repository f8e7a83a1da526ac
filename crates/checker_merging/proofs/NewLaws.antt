-- Identifiers that no earlier paragraph made global, one after another.
use mathlib.Core.Path.{◌≡◌, refl, sym, ap, subst, ◌∙◌}
use mathlib.Core.Bool.{Bool, true, false}
use mathlib.Core.List.{List, [], ◌∷◌}
use Prim.Native.Nat.{ℕ, suc, ◌+◌, ◌-◌, ◌*◌, ◌≤◌, ◌<◌}
use native.Mathlib.Omega.{arith}
use lib.ListN.{length, get_or, drop}
use Rattle.words.proofs.Lists.{drop_next}
use Rattle.reader_rules.specs.Decode.{pairs_from}
use Rattle.types_rules.proofs.Terms.{bool_no}
use Rattle.checker_rules.specs.Dictionary.{Dictionary, name_in}
use Rattle.checker_rules.specs.Items.{Items, ◌⨾◌, Refuses, MeetsIn}
use Rattle.checker_rules.specs.Conditions.{new_name, new_names}
use Rattle.checker_dictionary.specs.Index.{Indexed}
use Rattle.checker_dictionary.specs.Lookup.{NameFound}
use Rattle.checker_signatures.specs.Rows.{rows, identifiers_of}
use Rattle.checker_pieces.specs.Piece.{Steady, Walked}
use Rattle.checker_pieces.proofs.Between.{walked_skip, walked_then, refused, refuses_first, refuses_second}
use Rattle.checker_merging.specs.Merging.{NewTold}

abbrev None : ℕ → Type 0
None x = ⊥

module _ (d w : List ℕ) where
  pub new_none : (is : List ℕ) → is ≡ [] → NewTold d w is true
  unfolding new_names
  new_none is e = record {
    goes = λ z D H U n A S. subst (λ l. Walked H (new_names n l D) U U None) (sym e) (walked_skip H U None S);
    stops = λ z. absurd (bool_no true refl z);
  }

  module _ (is : List ℕ) (i : ℕ) (js : List ℕ) (e : is ≡ i ∷ js) (k : ℕ) (F : (D : Dictionary) → Indexed D d w → NameFound D d i k) where
    pub new_break : 1 ≤ k → NewTold d w is false
    unfolding new_names new_name
    new_break l = record {
      goes = λ z. absurd (bool_no false z refl);
      stops = λ z D H U n A S.
          let m = ((F D A).present l).means in
          subst (λ x. Refuses (new_names n x D) (MeetsIn H) 36 n) (sym e)
          (refuses_first H (new_name n (name_in i D)) (new_names n js D) 36 n (subst (λ x. Refuses (new_name n x) (MeetsIn H) 36 n) (sym m) (refused H 36 n)));
    }

    pub new_next : k ≡ 0 → (b : Bool) → NewTold d w js b → NewTold d w is b
    unfolding new_names new_name
    new_next l b N = record {
      goes = λ z D H U n A S.
          let c = new_name n (name_in i D) in
          let W = first D H U n A S in
          subst (λ x. Walked H (new_names n x D) U U None) (sym e) (walked_then H c (new_names n js D) U U U None S W (N.goes z D (H ⨾ c) U n A W.steady));
      stops = λ z D H U n A S.
          let c = new_name n (name_in i D) in
          let W = first D H U n A S in
          subst (λ x. Refuses (new_names n x D) (MeetsIn H) 36 n) (sym e) (refuses_second H c (new_names n js D) 36 n W.goes (N.stops z D (H ⨾ c) U n A W.steady));
    }
      where
        first : (D : Dictionary) (H : Items) (U : List ℕ) (n : ℕ) → Indexed D d w → Steady H U → Walked H (new_name n (name_in i D)) U U None
        first D H U n A S = subst (λ x. Walked H (new_name n x) U U None) (sym ((F D A).absent l)) (walked_skip H U None S)

  -- the words of a part from j on
  module _ (ws : List ℕ) (j i : ℕ) (l : j < length ws) (e : i ≡ get_or ws j 0) (k : ℕ) (F : (D : Dictionary) → Indexed D d w → NameFound D d i k) where
    here : drop j ws ≡ i ∷ drop (j + 1) ws
    here = drop_next ws j l ∙ ap (λ z. z ∷ drop (j + 1) ws) (sym e)

    pub names_stop : (k ≡ 0 → ⊥) → NewTold d w (drop j ws) false
    names_stop q = new_break (drop j ws) i (drop (j + 1) ws) here k F (omega (arith, q))

    pub names_go : k ≡ 0 → (b : Bool) → NewTold d w (drop (j + 1) ws) b → NewTold d w (drop j ws) b
    names_go q b N = new_next (drop j ws) i (drop (j + 1) ws) here k F q b N

  -- the rows of a table
  pub rows_end : (source m : ℕ) → m ≡ 0 → NewTold d w (identifiers_of (rows w source m)) true
  unfolding pairs_from identifiers_of
  rows_end source m e = new_none (identifiers_of (rows w source m)) (ap (λ z. identifiers_of (rows w source z)) e)

  module _ (source m n i : ℕ) (some : n < m) (e : i ≡ get_or w (source + 2 * n) 0) (k : ℕ) (F : (D : Dictionary) → Indexed D d w → NameFound D d i k) where
    abbrev at : ℕ
    at = source + 2 * n

    there : identifiers_of (rows w at (m - n)) ≡ i ∷ identifiers_of (rows w (source + 2 * (n + 1)) (m - (n + 1)))
    unfolding pairs_from identifiers_of
    there =
        ap (λ z. identifiers_of (rows w at z)) (let z : m - n ≡ suc (m - (n + 1)) = omega (arith, some) in z)
        ∙ ap (λ z. z ∷ identifiers_of (rows w (suc (suc at)) (m - (n + 1)))) (sym e)
        ∙ ap (λ z. i ∷ identifiers_of (rows w z (m - (n + 1)))) (let z : suc (suc at) ≡ source + 2 * (n + 1) = omega arith in z)

    pub rows_stop : (k ≡ 0 → ⊥) → NewTold d w (identifiers_of (rows w at (m - n))) false
    rows_stop q = new_break (identifiers_of (rows w at (m - n))) i (identifiers_of (rows w (source + 2 * (n + 1)) (m - (n + 1)))) there k F (omega (arith, q))

    pub rows_go : k ≡ 0 → (b : Bool) → NewTold d w (identifiers_of (rows w (source + 2 * (n + 1)) (m - (n + 1)))) b → NewTold d w (identifiers_of (rows w at (m - n))) b
    rows_go q b N = new_next (identifiers_of (rows w at (m - n))) i (identifiers_of (rows w (source + 2 * (n + 1)) (m - (n + 1)))) there k F q b N
