-- 36 for what an Include brings: one component beside a signature, then the rows one after another.
use mathlib.Core.Path.{◌≡◌, refl, sym, ap, subst, ◌∙◌}
use mathlib.Core.Bool.{Bool, true, false}
use mathlib.Core.List.{List, []}
use Prim.Native.Nat.{ℕ, suc, ◌+◌, ◌-◌, ◌*◌, ◌≤◌, ◌<◌}
use native.Mathlib.Omega.{arith}
use lib.ListN.{get_or}
use Rattle.types_rules.specs.Types.{Ty, Term, under, size}
use Rattle.types_rules.proofs.Terms.{bool_no}
use Rattle.checker_rules.specs.Unknowns.{row}
use Rattle.checker_rules.specs.Items.{Items, ◌⨾◌, Refuses, MeetsIn}
use Rattle.checker_rules.specs.Signatures.{Signature, no_names, naming, term_in}
use Rattle.checker_rules.specs.Conditions.{same_type, merge_names}
use Rattle.reader_rules.specs.Decode.{pairs_from}
use Rattle.types_cells.specs.Settled.{heap, Reads, Readable}
use Rattle.checker_signatures.specs.Rows.{rows}
use Rattle.checker_signatures.specs.Tables.{Finds}
use Rattle.checker_signatures.specs.Carried.{Carries}
use Rattle.checker_signatures.proofs.CallLaws.{found_term, no_term}
use Rattle.checker_pieces.specs.Piece.{Steady, Walked, Settled}
use Rattle.checker_pieces.proofs.Between.{walked_skip, walked_then, equal_noted, equal_refused, refuses_first, refuses_second}
use Rattle.types_instances.specs.Fill.{fill}
use Rattle.types_instances.proofs.FillLaws.{fill_under}
use Rattle.checker_lookup.specs.Components.{Component}
use Rattle.checker_includes.specs.Components.{Placed, ActualTypes}
use Rattle.checker_includes.specs.Filling.{Comparing, SameFilled, RowsAsk, AgreeAsk, OneAsk, OneTold, AgreeTold}
use Rattle.checker_includes.proofs.StandLaws.{stands_back, fill_alike}
use Rattle.checker_includes.proofs.LaterLaws.{actuals_later, placed_later}
use Rattle.checker_includes.proofs.RowSteps.{from_first, from_next}

abbrev pub None : ℕ → Type 0
None x = ⊥

module _ (s d : List ℕ) where
  -- A component's type: the recorded type with the actuals' element types for its parameters.
  pub component_settled : (H : Items) (U : List ℕ) (i z : ℕ) (places : List ℕ) (t : Term) (p : ℕ) (A : ActualTypes s d H U i z places) (C : Component s d (row i 1 z) t p) →
      Settled H t (fill A.types C.type)
  component_settled H U i z places t p A C τ m = ap (under τ) C.means ∙ fill_under τ (row i 1 z) C.type ∙ ap (λ hs. fill hs C.type) (A.settled τ m)

-- One component, beside the row where its identifier is found.
module _ (s d w : List ℕ) (base m p id : ℕ) (places : List ℕ) (r : ℕ) (F : Finds w base m id r) where
  abbrev q : ℕ
  q = get_or w (base + 2 * r + 1) 0

  module _ (h : r < m) (b : Bool) (q' : ℕ) (at : q' ≡ q) (S : SameFilled s d p places q' b) where
    there : (k : Ty) → Reads (heap s d) q k → Reads (heap s d) q' k
    there k B = subst (λ z. Reads (heap s d) z k) (sym at) B

    pub one_found : OneTold s d w base m p id places b
    unfolding same_type
    one_found = record { goes = goes'; stops = stops' }
      where
        goes' : b ≡ true → (H : Items) (U : List ℕ) (n i z : ℕ) (t : Term) (x : Signature) → Steady H U → ActualTypes s d H U i z places → Component s d (row i 1 z) t p →
            Carries (Placed s d H U) x (rows w base m) → Walked H (same_type n t (term_in id x)) U U None
        goes' e H U n i z t x D A C K =
            let f = found_term (Placed s d H U) w base m id r F x K h in
            let B = f.2 in
            let k = B.typed.type in
            let y = (S.tells C.type k A.shown C.reads (there k B.typed.reads) A.stand).holds e in
            let v = sym (fill_alike A.shown A.types A.alike C.type (subst (λ g. size g ≤ 32) (sym y) B.small)) ∙ y in
            subst (λ o. Walked H (same_type n t o) U U None) (sym f.1)
            (equal_noted H U None 36 n t f.0 k D (λ τ j. component_settled s d H U i z places t p A C τ j ∙ v) B.typed.settled)

        stops' : b ≡ false → (H : Items) (U : List ℕ) (n i z : ℕ) (t : Term) (x : Signature) → Steady H U → ActualTypes s d H U i z places → Component s d (row i 1 z) t p →
            Carries (Placed s d H U) x (rows w base m) → Refuses (same_type n t (term_in id x)) (MeetsIn H) 36 n
        stops' e H U n i z t x D A C K =
            let f = found_term (Placed s d H U) w base m id r F x K h in
            let B = f.2 in
            let k = B.typed.type in
            let T = S.tells C.type k A.shown C.reads (there k B.typed.reads) A.stand in
            subst (λ o. Refuses (same_type n t o) (MeetsIn H) 36 n) (sym f.1)
            (equal_refused H 36 n t f.0 (fill A.types C.type) k (component_settled s d H U i z places t p A C) B.typed.settled
            (λ y. T.fails e (sym (fill_alike A.types A.shown (stands_back _ _ A.alike) C.type (subst (λ g. size g ≤ 32) (sym y) B.small)) ∙ y)))

  pub one_absent : m ≤ r → OneTold s d w base m p id places true
  unfolding same_type
  one_absent h = record { goes = goes'; stops = λ e. absurd (bool_no true refl e) }
    where
      goes' : true ≡ true → (H : Items) (U : List ℕ) (n i z : ℕ) (t : Term) (x : Signature) → Steady H U → ActualTypes s d H U i z places → Component s d (row i 1 z) t p →
          Carries (Placed s d H U) x (rows w base m) → Walked H (same_type n t (term_in id x)) U U None
      goes' e H U n i z t x D A C K = subst (λ o. Walked H (same_type n t o) U U None) (sym (no_term (Placed s d H U) w base m id r F x K h)) (walked_skip H U None D)

pub comparing_of : (s d w : List ℕ) (base m p : ℕ) (places : List ℕ) (r q : ℕ) → OneAsk s d w base m p places → r < m → q ≡ get_or w (base + 2 * r + 1) 0 → Comparing s d p places q
comparing_of s d w base m p places r q A l e = record { actuals = A.actuals; left = A.type; right = subst (Readable (heap s d)) (sym e) (A.table.readable r l) }

-- Rows but the first.
pub rows_fewer : (s d w : List ℕ) (source k : ℕ) (places : List ℕ) → (k ≡ 0 → ⊥) → RowsAsk s d w source k places → RowsAsk s d w (source + 2) (k - 1) places
rows_fewer s d w source k places e A = record {
  actuals = A.actuals;
  table = record {
    inside = let z = A.table.inside in omega (arith, e);
    readable = λ i l. subst (λ z. Readable (heap s d) (get_or w z 0)) (let z : source + 2 * suc i + 1 ≡ source + 2 + 2 * i + 1 = omega arith in z) (A.table.readable (suc i) (omega (arith, e, l)));
  };
}

module _ (s d w : List ℕ) (base m : ℕ) (places : List ℕ) where
  pub agree_none : (source k : ℕ) → k ≡ 0 → AgreeTold s d w base m source k places true
  unfolding merge_names pairs_from Carries
  agree_none source k e = record { goes = goes'; stops = λ z. absurd (bool_no true refl z) }
    where
      none : (H : Items) (U : List ℕ) (n i z : ℕ) (x r : Signature) → Steady H U → Carries (Component s d (row i 1 z)) x [] → Walked H (merge_names n x r) U U None
      none H U n i z no_names r S C = walked_skip H U None S
      none H U n i z (naming j t x) r S C = absurd C

      goes' : true ≡ true → (H : Items) (U : List ℕ) (n i z : ℕ) (x r : Signature) → Steady H U → ActualTypes s d H U i z places → Carries (Component s d (row i 1 z)) x (rows w source k) →
          Carries (Placed s d H U) r (rows w base m) → Walked H (merge_names n x r) U U None
      goes' y H U n i z x r S A C D = none H U n i z x r S (subst (λ j. Carries (Component s d (row i 1 z)) x (rows w source j)) e C)

  module _ (source k j : ℕ) (e : k ≡ suc j) where
    abbrev i₀ : ℕ
    i₀ = get_or w source 0

    abbrev p₀ : ℕ
    p₀ = get_or w (suc source) 0

    agree_break : OneTold s d w base m p₀ i₀ places false → AgreeTold s d w base m source k places false
    unfolding merge_names pairs_from Carries
    agree_break O = record { goes = λ y. absurd (bool_no false y refl); stops = λ y H U n i z x r S A C D. stops' H U n i z x r S A (subst (λ v. Carries (Component s d (row i 1 z)) x (rows w source v)) e C) D }
      where
        stops' : (H : Items) (U : List ℕ) (n i z : ℕ) (x r : Signature) → Steady H U → ActualTypes s d H U i z places → Carries (Component s d (row i 1 z)) x (rows w source (suc j)) →
            Carries (Placed s d H U) r (rows w base m) → Refuses (merge_names n x r) (MeetsIn H) 36 n
        stops' H U n i z no_names r S A C D = absurd C
        stops' H U n i z (naming v t x) r S A C D = refuses_first H (same_type n t (term_in v r)) (merge_names n x r) 36 n
            (subst (λ y. Refuses (same_type n t (term_in y r)) (MeetsIn H) 36 n) (sym C.0) (O.stops refl H U n i z t r S A C.1 D))

    agree_next : OneTold s d w base m p₀ i₀ places true → (b : Bool) → AgreeTold s d w base m (suc (suc source)) j places b → AgreeTold s d w base m source k places b
    unfolding merge_names pairs_from Carries
    agree_next O b N = record {
      goes = λ y H U n i z x r S A C D. goes' y H U n i z x r S A (subst (λ v. Carries (Component s d (row i 1 z)) x (rows w source v)) e C) D;
      stops = λ y H U n i z x r S A C D. stops' y H U n i z x r S A (subst (λ v. Carries (Component s d (row i 1 z)) x (rows w source v)) e C) D;
    }
      where
        first : (H : Items) (U : List ℕ) (n i z v : ℕ) (t : Term) (r : Signature) → Steady H U → ActualTypes s d H U i z places → v ≡ i₀ → Component s d (row i 1 z) t p₀ →
            Carries (Placed s d H U) r (rows w base m) → Walked H (same_type n t (term_in v r)) U U None
        first H U n i z v t r S A y C D = subst (λ x. Walked H (same_type n t (term_in x r)) U U None) (sym y) (O.goes refl H U n i z t r S A C D)

        goes' : b ≡ true → (H : Items) (U : List ℕ) (n i z : ℕ) (x r : Signature) → Steady H U → ActualTypes s d H U i z places → Carries (Component s d (row i 1 z)) x (rows w source (suc j)) →
            Carries (Placed s d H U) r (rows w base m) → Walked H (merge_names n x r) U U None
        goes' y H U n i z no_names r S A C D = absurd C
        goes' y H U n i z (naming v t x) r S A C D =
            let c = same_type n t (term_in v r) in
            let W = first H U n i z v t r S A C.0 C.1 D in
            walked_then H c (merge_names n x r) U U U None S W (N.goes y (H ⨾ c) U n i z x r W.steady (actuals_later s d H c U i z places A) C.2 (placed_later s d H c U r _ D))

        stops' : b ≡ false → (H : Items) (U : List ℕ) (n i z : ℕ) (x r : Signature) → Steady H U → ActualTypes s d H U i z places → Carries (Component s d (row i 1 z)) x (rows w source (suc j)) →
            Carries (Placed s d H U) r (rows w base m) → Refuses (merge_names n x r) (MeetsIn H) 36 n
        stops' y H U n i z no_names r S A C D = absurd C
        stops' y H U n i z (naming v t x) r S A C D =
            let c = same_type n t (term_in v r) in
            let W = first H U n i z v t r S A C.0 C.1 D in
            refuses_second H c (merge_names n x r) 36 n W.goes (N.stops y (H ⨾ c) U n i z x r W.steady (actuals_later s d H c U i z places A) C.2 (placed_later s d H c U r _ D))

  pub agree_fewer : (source k : ℕ) → (k ≡ 0 → ⊥) → AgreeAsk s d w base m source k places → AgreeAsk s d w base m (source + 2) (k - 1) places
  agree_fewer source k e A = record { brought = rows_fewer s d w source k places e A.brought; table = A.table }

  module _ (source k : ℕ) (some : k ≡ 0 → ⊥) (i p : ℕ) (ei : i ≡ get_or w source 0) (ep : p ≡ get_or w (source + 1) 0) (c : Bool) (O : OneTold s d w base m p i places c) where
    less : k ≡ suc (k - 1)
    less = omega (arith, some)

    told : OneTold s d w base m (get_or w (suc source) 0) (get_or w source 0) places c
    told = subst (λ z. OneTold s d w base m z (get_or w source 0) places c) (ep ∙ ap (λ z. get_or w z 0) (let z : source + 1 ≡ suc source = omega arith in z)) (subst (λ z. OneTold s d w base m p z places c) ei O)

    pub agree_stop : c ≡ false → AgreeTold s d w base m source k places false
    agree_stop q = agree_break source k (k - 1) less (subst (OneTold s d w base m _ _ places) q told)

    pub agree_go : c ≡ true → (b : Bool) → AgreeTold s d w base m (source + 2) (k - 1) places b → AgreeTold s d w base m source k places b
    agree_go q b N = agree_next source k (k - 1) less (subst (OneTold s d w base m _ _ places) q told) b
        (subst (λ z. AgreeTold s d w base m z (k - 1) places b) (let z : source + 2 ≡ suc (suc source) = omega arith in z) N)

-- The rows before agree: what is told of the k' rows at source' is told of the k at source.
abbrev pub Agreeing : List ℕ → List ℕ → List ℕ → ℕ → ℕ → List ℕ → ℕ → ℕ → ℕ → ℕ → Type 0
Agreeing s d w base m places source k source' k' = AgreeAsk s d w base m source' k' places × ((b : Bool) → AgreeTold s d w base m source' k' places b → AgreeTold s d w base m source k places b)

module _ (s d w : List ℕ) (base m : ℕ) (places : List ℕ) (source k : ℕ) where
  pub agreeing_start : AgreeAsk s d w base m source k places → Agreeing s d w base m places source k (source + 2 * 0) (k - 0)
  agreeing_start A = from_first (Agreeing s d w base m places source k) source k (A, λ b N. N)

  module _ (j : ℕ) (l : j < k) (I : Agreeing s d w base m places source k (source + 2 * j) (k - j)) (i p : ℕ) (ei : i ≡ get_or w (source + 2 * j) 0) (ep : p ≡ get_or w (source + 2 * j + 1) 0) (c : Bool)
      (O : OneTold s d w base m p i places c) where
    some : k - j ≡ 0 → ⊥
    some e = omega arith

    pub agreeing_stop : c ≡ false → AgreeTold s d w base m source k places false
    agreeing_stop q = I.1 false (agree_stop s d w base m places (source + 2 * j) (k - j) some i p ei ep c O q)

    pub agreeing_next : c ≡ true → Agreeing s d w base m places source k (source + 2 * (j + 1)) (k - (j + 1))
    agreeing_next q =
        from_next (Agreeing s d w base m places source k) source k j
        (agree_fewer s d w base m places (source + 2 * j) (k - j) some I.0, λ b N. I.1 b (agree_go s d w base m places (source + 2 * j) (k - j) some i p ei ep c O q b N))

  pub agreeing_end : (j : ℕ) → k ≤ j → Agreeing s d w base m places source k (source + 2 * j) (k - j) → AgreeTold s d w base m source k places true
  agreeing_end j l I = I.1 true (agree_none s d w base m places (source + 2 * j) (k - j) (omega arith))

pub ruleset one_cases = (one_found, one_absent, comparing_of)
