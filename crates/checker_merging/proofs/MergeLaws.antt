-- One identifier beside a signature; a Decl's identifiers, and the rows of another signature, one after another.
use mathlib.Core.Path.{◌≡◌, refl, sym, ap, subst, ◌∙◌}
use mathlib.Core.Bool.{Bool, true, false}
use mathlib.Core.List.{List, [], ◌∷◌}
use Prim.Native.Nat.{ℕ, suc, ◌+◌, ◌-◌, ◌*◌, ◌≤◌, ◌<◌}
use native.Mathlib.Omega.{arith}
use lib.ListN.{length, get_or, drop}
use Rattle.words.proofs.Lists.{drop_next}
use Rattle.types_rules.specs.Types.{Ty, Term}
use Rattle.types_rules.proofs.Terms.{bool_no}
use Rattle.checker_rules.specs.Items.{Items, ◌⨾◌, Refuses, MeetsIn}
use Rattle.checker_rules.specs.Signatures.{Signature, no_names, naming, term_in}
use Rattle.checker_rules.specs.Conditions.{same_type, merge_declared, merge_names}
use Rattle.types_cells.specs.Settled.{heap, Reads, SameType}
use Rattle.reader_rules.specs.Decode.{pairs_from}
use Rattle.checker_signatures.specs.Rows.{rows}
use Rattle.checker_signatures.specs.Tables.{Finds}
use Rattle.checker_signatures.specs.Carried.{Carries}
use Rattle.checker_signatures.proofs.CallLaws.{found_term, no_term}
use Rattle.checker_signatures.proofs.CarryLaws.{carries_other}
use Rattle.checker_pieces.specs.Piece.{Steady, Walked}
use Rattle.checker_pieces.proofs.Between.{walked_skip, walked_then, equal_noted, equal_refused, settled_later, refuses_first, refuses_second}
use Rattle.checker_merging.specs.Merging.{TypedAt, OneTold, DeclaredTold, RowsTold}

abbrev None : ℕ → Type 0
None x = ⊥

module _ (s d w : List ℕ) (base m p id r : ℕ) (F : Finds w base m id r) where
  abbrev R : Items → List ℕ → Term → ℕ → Type 0
  R H U = TypedAt s d H U

  abbrev q : ℕ
  q = get_or w (base + 2 * r + 1) 0

  module _ (h : r < m) (b : Bool) (q' : ℕ) (at : q' ≡ q) (S : SameType s d p q' b) where
    there : (k : Ty) → Reads (heap s d) q k → Reads (heap s d) q' k
    there k B = subst (λ z. Reads (heap s d) z k) (sym at) B

    same : b ≡ true → (g k : Ty) → Reads (heap s d) p g → Reads (heap s d) q k → g ≡ k
    same e g k A B = (S.tells g k A (there k B)).holds e

    apart : b ≡ false → (g k : Ty) → Reads (heap s d) p g → Reads (heap s d) q k → g ≡ k → ⊥
    apart e g k A B = (S.tells g k A (there k B)).fails e

    pub one_found : OneTold s d w base m p id b
    unfolding same_type
    one_found = record { goes = goes'; stops = stops' }
      where
        goes' : b ≡ true → (H : Items) (U : List ℕ) (n : ℕ) (t : Term) (z : Signature) → Steady H U → TypedAt s d H U t p → Carries (TypedAt s d H U) z (rows w base m) →
            Walked H (same_type n t (term_in id z)) U U None
        goes' e H U n t z D A C =
            let f = found_term (R H U) w base m id r F z C h in
            let B = f.2 in
            subst (λ o. Walked H (same_type n t o) U U None) (sym f.1)
            (equal_noted H U None 36 n t f.0 A.type D A.settled (λ τ k. B.settled τ k ∙ sym (same e A.type B.type A.reads B.reads)))

        stops' : b ≡ false → (H : Items) (U : List ℕ) (n : ℕ) (t : Term) (z : Signature) → Steady H U → TypedAt s d H U t p → Carries (TypedAt s d H U) z (rows w base m) →
            Refuses (same_type n t (term_in id z)) (MeetsIn H) 36 n
        stops' e H U n t z D A C =
            let f = found_term (R H U) w base m id r F z C h in
            let B = f.2 in
            subst (λ o. Refuses (same_type n t o) (MeetsIn H) 36 n) (sym f.1)
            (equal_refused H 36 n t f.0 A.type B.type A.settled B.settled (apart e A.type B.type A.reads B.reads))

  pub one_absent : m ≤ r → OneTold s d w base m p id true
  unfolding same_type
  one_absent h = record { goes = goes'; stops = λ e. absurd (bool_no true refl e) }
    where
      goes' : true ≡ true → (H : Items) (U : List ℕ) (n : ℕ) (t : Term) (z : Signature) → Steady H U → TypedAt s d H U t p → Carries (TypedAt s d H U) z (rows w base m) →
          Walked H (same_type n t (term_in id z)) U U None
      goes' e H U n t z D A C = subst (λ o. Walked H (same_type n t o) U U None) (sym (no_term (R H U) w base m id r F z C h)) (walked_skip H U None D)

-- Items more: types stay.
pub typed_later : (s d : List ℕ) (H c : Items) (U : List ℕ) (t : Term) (p : ℕ) → TypedAt s d H U t p → TypedAt s d (H ⨾ c) U t p
typed_later s d H c U t p A = record { type = A.type; reads = A.reads; settled = settled_later H c t A.type A.settled; over = A.over }

pub carries_later : (s d : List ℕ) (H c : Items) (U : List ℕ) (z : Signature) (rs : List (ℕ × ℕ)) → Carries (TypedAt s d H U) z rs → Carries (TypedAt s d (H ⨾ c) U) z rs
carries_later s d H c U z rs C = carries_other (TypedAt s d H U) (TypedAt s d (H ⨾ c) U) (typed_later s d H c U) z rs C

-- A Decl's identifiers.
module _ (s d w : List ℕ) (base m p : ℕ) where
  pub declared_none : (is : List ℕ) → is ≡ [] → DeclaredTold s d w base m p is true
  unfolding merge_declared
  declared_none is e = record {
    goes = λ z H U n t r S A C. subst (λ l. Walked H (merge_declared n l t r) U U None) (sym e) (walked_skip H U None S);
    stops = λ z. absurd (bool_no true refl z);
  }

  module _ (is : List ℕ) (i : ℕ) (js : List ℕ) (e : is ≡ i ∷ js) where
    pub declared_break : OneTold s d w base m p i false → DeclaredTold s d w base m p is false
    unfolding merge_declared
    declared_break O = record {
      goes = λ z. absurd (bool_no false z refl);
      stops = λ z H U n t r S A C. subst (λ l. Refuses (merge_declared n l t r) (MeetsIn H) 36 n) (sym e)
          (refuses_first H (same_type n t (term_in i r)) (merge_declared n js t r) 36 n (O.stops refl H U n t r S A C));
    }

    pub declared_next : OneTold s d w base m p i true → (b : Bool) → DeclaredTold s d w base m p js b → DeclaredTold s d w base m p is b
    unfolding merge_declared
    declared_next O b N = record {
      goes = λ z H U n t r S A C.
          let c = same_type n t (term_in i r) in
          let W = O.goes refl H U n t r S A C in
          subst (λ l. Walked H (merge_declared n l t r) U U None) (sym e)
          (walked_then H c (merge_declared n js t r) U U U None S W (N.goes z (H ⨾ c) U n t r W.steady (typed_later s d H c U t p A) (carries_later s d H c U r _ C)));
      stops = λ z H U n t r S A C.
          let c = same_type n t (term_in i r) in
          let W = O.goes refl H U n t r S A C in
          subst (λ l. Refuses (merge_declared n l t r) (MeetsIn H) 36 n) (sym e)
          (refuses_second H c (merge_declared n js t r) 36 n W.goes (N.stops z (H ⨾ c) U n t r W.steady (typed_later s d H c U t p A) (carries_later s d H c U r _ C)));
    }

  -- The words of a part from j on.
  module _ (ws : List ℕ) (j i : ℕ) (l : j < length ws) (e : i ≡ get_or ws j 0) (c : Bool) (O : OneTold s d w base m p i c) where
    here : drop j ws ≡ i ∷ drop (j + 1) ws
    here = drop_next ws j l ∙ ap (λ z. z ∷ drop (j + 1) ws) (sym e)

    pub declared_stop : c ≡ false → DeclaredTold s d w base m p (drop j ws) false
    declared_stop q = declared_break (drop j ws) i (drop (j + 1) ws) here (subst (OneTold s d w base m p i) q O)

    pub declared_go : c ≡ true → (b : Bool) → DeclaredTold s d w base m p (drop (j + 1) ws) b → DeclaredTold s d w base m p (drop j ws) b
    declared_go q b N = declared_next (drop j ws) i (drop (j + 1) ws) here (subst (OneTold s d w base m p i) q O) b N

-- The rows of another signature.
module _ (s d w : List ℕ) (base m : ℕ) where
  pub rows_none : (source k : ℕ) → k ≡ 0 → RowsTold s d w base m source k true
  unfolding merge_names pairs_from Carries
  rows_none source k e = record { goes = goes'; stops = λ z. absurd (bool_no true refl z) }
    where
      none : (H : Items) (U : List ℕ) (n : ℕ) (q r : Signature) → Steady H U → Carries (TypedAt s d H U) q [] → Walked H (merge_names n q r) U U None
      none H U n no_names r S C = walked_skip H U None S
      none H U n (naming i t q) r S C = absurd C

      goes' : true ≡ true → (H : Items) (U : List ℕ) (n : ℕ) (q r : Signature) → Steady H U → Carries (TypedAt s d H U) q (rows w source k) →
          Carries (TypedAt s d H U) r (rows w base m) → Walked H (merge_names n q r) U U None
      goes' z H U n q r S C D = none H U n q r S (subst (λ j. Carries (TypedAt s d H U) q (rows w source j)) e C)

  module _ (source k j : ℕ) (e : k ≡ suc j) where
    abbrev i₀ : ℕ
    i₀ = get_or w source 0

    abbrev p₀ : ℕ
    p₀ = get_or w (suc source) 0

    pub rows_break : OneTold s d w base m p₀ i₀ false → RowsTold s d w base m source k false
    unfolding merge_names pairs_from Carries
    rows_break O = record { goes = λ z. absurd (bool_no false z refl); stops = λ z H U n q r S C D. stops' H U n q r S (subst (λ x. Carries (TypedAt s d H U) q (rows w source x)) e C) D }
      where
        stops' : (H : Items) (U : List ℕ) (n : ℕ) (q r : Signature) → Steady H U → Carries (TypedAt s d H U) q (rows w source (suc j)) →
            Carries (TypedAt s d H U) r (rows w base m) → Refuses (merge_names n q r) (MeetsIn H) 36 n
        stops' H U n no_names r S C D = absurd C
        stops' H U n (naming i t q) r S C D = refuses_first H (same_type n t (term_in i r)) (merge_names n q r) 36 n
            (subst (λ x. Refuses (same_type n t (term_in x r)) (MeetsIn H) 36 n) (sym C.0) (O.stops refl H U n t r S C.1 D))

    pub rows_next : OneTold s d w base m p₀ i₀ true → (b : Bool) → RowsTold s d w base m (suc (suc source)) j b → RowsTold s d w base m source k b
    unfolding merge_names pairs_from Carries
    rows_next O b N = record {
      goes = λ z H U n q r S C D. goes' z H U n q r S (subst (λ x. Carries (TypedAt s d H U) q (rows w source x)) e C) D;
      stops = λ z H U n q r S C D. stops' z H U n q r S (subst (λ x. Carries (TypedAt s d H U) q (rows w source x)) e C) D;
    }
      where
        first : (H : Items) (U : List ℕ) (n i : ℕ) (t : Term) (r : Signature) → Steady H U → i ≡ i₀ → TypedAt s d H U t p₀ → Carries (TypedAt s d H U) r (rows w base m) →
            Walked H (same_type n t (term_in i r)) U U None
        first H U n i t r S q A D = subst (λ x. Walked H (same_type n t (term_in x r)) U U None) (sym q) (O.goes refl H U n t r S A D)

        goes' : b ≡ true → (H : Items) (U : List ℕ) (n : ℕ) (q r : Signature) → Steady H U → Carries (TypedAt s d H U) q (rows w source (suc j)) →
            Carries (TypedAt s d H U) r (rows w base m) → Walked H (merge_names n q r) U U None
        goes' z H U n no_names r S C D = absurd C
        goes' z H U n (naming i t q) r S C D =
            let c = same_type n t (term_in i r) in
            let W = first H U n i t r S C.0 C.1 D in
            walked_then H c (merge_names n q r) U U U None S W (N.goes z (H ⨾ c) U n q r W.steady (carries_later s d H c U q _ C.2) (carries_later s d H c U r _ D))

        stops' : b ≡ false → (H : Items) (U : List ℕ) (n : ℕ) (q r : Signature) → Steady H U → Carries (TypedAt s d H U) q (rows w source (suc j)) →
            Carries (TypedAt s d H U) r (rows w base m) → Refuses (merge_names n q r) (MeetsIn H) 36 n
        stops' z H U n no_names r S C D = absurd C
        stops' z H U n (naming i t q) r S C D =
            let c = same_type n t (term_in i r) in
            let W = first H U n i t r S C.0 C.1 D in
            refuses_second H c (merge_names n q r) 36 n W.goes (N.stops z (H ⨾ c) U n q r W.steady (carries_later s d H c U q _ C.2) (carries_later s d H c U r _ D))

  -- Row number n of k.
  module _ (source k n : ℕ) (some : n < k) (i p : ℕ) (ei : i ≡ get_or w (source + 2 * n) 0) (ep : p ≡ get_or w (source + 2 * n + 1) 0) (c : Bool) (O : OneTold s d w base m p i c) where
    abbrev at : ℕ
    at = source + 2 * n

    less : k - n ≡ suc (k - (n + 1))
    less = omega (arith, some)

    told : OneTold s d w base m (get_or w (suc at) 0) (get_or w at 0) c
    told = subst (λ z. OneTold s d w base m z (get_or w at 0) c) (ep ∙ ap (λ z. get_or w z 0) (let z : at + 1 ≡ suc at = omega arith in z)) (subst (λ z. OneTold s d w base m p z c) ei O)

    pub rows_stop : c ≡ false → RowsTold s d w base m at (k - n) false
    rows_stop q = rows_break at (k - n) (k - (n + 1)) less (subst (OneTold s d w base m _ _) q told)

    pub rows_go : c ≡ true → (b : Bool) → RowsTold s d w base m (source + 2 * (n + 1)) (k - (n + 1)) b → RowsTold s d w base m at (k - n) b
    rows_go q b N = rows_next at (k - n) (k - (n + 1)) less (subst (OneTold s d w base m _ _) q told) b
        (subst (λ z. RowsTold s d w base m z (k - (n + 1)) b) (let z : source + 2 * (n + 1) ≡ suc (suc at) = omega arith in z) N)
