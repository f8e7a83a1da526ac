-- 38 for what an Include brings, row after row.
use mathlib.Core.Path.{◌≡◌, refl, ap, subst, ◌∙◌}
use mathlib.Core.Bool.{Bool, true, false}
use mathlib.Core.List.{List, []}
use Prim.Native.Nat.{ℕ, zero, suc, ◌+◌, ◌*◌, ◌-◌, ◌≤◌, ◌<◌}
use native.Mathlib.Omega.{arith}
use lib.ListN.{get_or}
use Rattle.types_rules.specs.Types.{Ty, Tys, Term, size}
use Rattle.types_rules.proofs.Terms.{bool_no}
use Rattle.checker_rules.specs.Unknowns.{row}
use Rattle.checker_rules.specs.Items.{Items, small, ◌⨾◌, Refuses, MeetsIn}
use Rattle.checker_rules.specs.Signatures.{Signature, no_names, naming}
use Rattle.checker_rules.specs.Conditions.{small_types}
use Rattle.reader_rules.specs.Decode.{pairs_from}
use Rattle.checker_signatures.specs.Rows.{rows}
use Rattle.checker_signatures.specs.Carried.{Carries}
use Rattle.types_cells.specs.Settled.{heap, Reads}
use Rattle.types_solver.specs.Sizes.{cap}
use Rattle.types_solver.proofs.Marking.{cap_cases}
use Rattle.checker_pieces.specs.Piece.{Steady, Walked}
use Rattle.checker_pieces.proofs.Between.{walked_skip, walked_then, small_noted, small_refused, refuses_first, refuses_second}
use Rattle.types_instances.specs.Fill.{fill}
use Rattle.types_instances.specs.Filled.{Row, FilledSize}
use Rattle.types_instances.proofs.FillSizes.{size_few}
use Rattle.checker_lookup.specs.Components.{Component}
use Rattle.checker_includes.specs.Components.{ActualTypes}
use Rattle.checker_includes.specs.Filling.{RowsAsk, SmallTold}
use Rattle.checker_includes.proofs.StandLaws.{fill_alike, over_alike}
use Rattle.checker_includes.proofs.LaterLaws.{actuals_later}
use Rattle.checker_includes.proofs.RowSteps.{from_next}
use Rattle.checker_includes.proofs.AgreeLaws.{None, component_settled, rows_fewer}

size_over : (g : Ty) (v : ℕ) → v ≡ cap (size g) → 32 < v → 32 < size g
size_over g v e l = cap_cases (size g) _ (λ m q. omega arith) (λ m q. omega arith)

-- One component, by the size found.
module _ (s d : List ℕ) (p v : ℕ) (places : List ℕ) (F : FilledSize s d p places v) (H : Items) (U : List ℕ) (n i z : ℕ) (t : Term) (S : Steady H U) (A : ActualTypes s d H U i z places)
    (C : Component s d (row i 1 z) t p) where
  found : v ≡ cap (size (fill A.shown C.type))
  found = F.is C.type A.shown C.reads A.stand

  one_small : v ≤ 32 → Walked H (small n t) U U None
  one_small l =
      let e = (size_few (fill A.shown C.type) v found l).0 in
      let m : size (fill A.shown C.type) ≤ 32 = omega arith in
      small_noted H U None n t _ S (component_settled s d H U i z places t p A C) (subst (λ g. size g ≤ 32) (fill_alike A.shown A.types A.alike C.type m) m)

  one_over : 32 < v → Refuses (small n t) (MeetsIn H) 38 n
  one_over l =
      small_refused H U n t _ S (component_settled s d H U i z places t p A C) (over_alike A.shown A.types A.alike C.type (size_over (fill A.shown C.type) v found l))

module _ (s d w : List ℕ) (places : List ℕ) where
  pub small_none : (source k : ℕ) → k ≡ 0 → SmallTold s d w source k places true
  unfolding small_types pairs_from Carries
  small_none source k e = record { goes = goes'; sizes = λ y j l. absurd (omega (arith, e, l)); stops = λ z. absurd (bool_no true refl z) }
    where
      none : (H : Items) (U : List ℕ) (n i z : ℕ) (x : Signature) → Steady H U → Carries (Component s d (row i 1 z)) x [] → Walked H (small_types n x) U U None
      none H U n i z no_names S C = walked_skip H U None S
      none H U n i z (naming j t x) S C = absurd C

      goes' : true ≡ true → (H : Items) (U : List ℕ) (n i z : ℕ) (x : Signature) → Steady H U → ActualTypes s d H U i z places → Carries (Component s d (row i 1 z)) x (rows w source k) →
          Walked H (small_types n x) U U None
      goes' y H U n i z x S A C = none H U n i z x S (subst (λ j. Carries (Component s d (row i 1 z)) x (rows w source j)) e C)

  module _ (source k j : ℕ) (e : k ≡ suc j) (v : ℕ) (F : FilledSize s d (get_or w (suc source) 0) places v) where
    small_break : 32 < v → SmallTold s d w source k places false
    unfolding small_types pairs_from Carries
    small_break l = record { goes = λ y. absurd (bool_no false y refl); sizes = λ y. absurd (bool_no false y refl); stops = λ y H U n i z x S A C. stops' H U n i z x S A (subst (λ u. Carries (Component s d (row i 1 z)) x (rows w source u)) e C) }
      where
        stops' : (H : Items) (U : List ℕ) (n i z : ℕ) (x : Signature) → Steady H U → ActualTypes s d H U i z places → Carries (Component s d (row i 1 z)) x (rows w source (suc j)) →
            Refuses (small_types n x) (MeetsIn H) 38 n
        stops' H U n i z no_names S A C = absurd C
        stops' H U n i z (naming u t x) S A C = refuses_first H (small n t) (small_types n x) 38 n (one_over s d _ v places F H U n i z t S A C.1 l)

    small_next : v ≤ 32 → (b : Bool) → SmallTold s d w (suc (suc source)) j places b → SmallTold s d w source k places b
    unfolding small_types pairs_from Carries
    small_next l b N = record {
      goes = λ y H U n i z x S A C. goes' y H U n i z x S A (subst (λ u. Carries (Component s d (row i 1 z)) x (rows w source u)) e C);
      sizes = sizes';
      stops = λ y H U n i z x S A C. stops' y H U n i z x S A (subst (λ u. Carries (Component s d (row i 1 z)) x (rows w source u)) e C);
    }
      where
        sizes' : b ≡ true → (q : ℕ) → q < k → (g : Ty) (hs : Tys) → Reads (heap s d) (get_or w (source + 2 * q + 1) 0) g → Row (heap s d) places hs → size (fill hs g) ≤ 32
        sizes' y zero m g hs R r =
            let f = (size_few (fill hs g) v (F.is g hs (subst (λ z. Reads (heap s d) (get_or w z 0) g) (let z : source + 2 * 0 + 1 ≡ suc source = omega arith in z) R) r) l).0 in omega arith
        sizes' y (suc q) m g hs R r =
            N.sizes y q (omega (arith, e, m)) g hs (subst (λ z. Reads (heap s d) (get_or w z 0) g) (let z : source + 2 * suc q + 1 ≡ suc (suc source) + 2 * q + 1 = omega arith in z) R) r

        goes' : b ≡ true → (H : Items) (U : List ℕ) (n i z : ℕ) (x : Signature) → Steady H U → ActualTypes s d H U i z places → Carries (Component s d (row i 1 z)) x (rows w source (suc j)) →
            Walked H (small_types n x) U U None
        goes' y H U n i z no_names S A C = absurd C
        goes' y H U n i z (naming u t x) S A C =
            let W = one_small s d _ v places F H U n i z t S A C.1 l in
            walked_then H (small n t) (small_types n x) U U U None S W (N.goes y (H ⨾ small n t) U n i z x W.steady (actuals_later s d H (small n t) U i z places A) C.2)

        stops' : b ≡ false → (H : Items) (U : List ℕ) (n i z : ℕ) (x : Signature) → Steady H U → ActualTypes s d H U i z places → Carries (Component s d (row i 1 z)) x (rows w source (suc j)) →
            Refuses (small_types n x) (MeetsIn H) 38 n
        stops' y H U n i z no_names S A C = absurd C
        stops' y H U n i z (naming u t x) S A C =
            let W = one_small s d _ v places F H U n i z t S A C.1 l in
            refuses_second H (small n t) (small_types n x) 38 n W.goes (N.stops y (H ⨾ small n t) U n i z x W.steady (actuals_later s d H (small n t) U i z places A) C.2)

  module _ (source k : ℕ) (some : k ≡ 0 → ⊥) (p : ℕ) (ep : p ≡ get_or w (source + 1) 0) (v : ℕ) (F : FilledSize s d p places v) where
    less : k ≡ suc (k - 1)
    less = omega (arith, some)

    size_at_lem : FilledSize s d (get_or w (suc source) 0) places v
    size_at_lem = subst (λ z. FilledSize s d z places v) (ep ∙ ap (λ z. get_or w z 0) (let z : source + 1 ≡ suc source = omega arith in z)) F

    pub small_stop : 32 < v → SmallTold s d w source k places false
    small_stop l = small_break source k (k - 1) less v size_at_lem l

    pub small_go : v ≤ 32 → (b : Bool) → SmallTold s d w (source + 2) (k - 1) places b → SmallTold s d w source k places b
    small_go l b N = small_next source k (k - 1) less v size_at_lem l b (subst (λ z. SmallTold s d w z (k - 1) places b) (let z : source + 2 ≡ suc (suc source) = omega arith in z) N)

-- The rows before are small: what is told of the k' rows at source' is told of the k at source.
abbrev pub AllSoFar : List ℕ → List ℕ → List ℕ → List ℕ → ℕ → ℕ → ℕ → ℕ → Type 0
AllSoFar s d w places source k source' k' = RowsAsk s d w source' k' places × ((b : Bool) → SmallTold s d w source' k' places b → SmallTold s d w source k places b)

module _ (s d w places : List ℕ) (source k : ℕ) where
  module _ (j : ℕ) (l : j < k) (I : AllSoFar s d w places source k (source + 2 * j) (k - j)) (p : ℕ) (ep : p ≡ get_or w (source + 2 * j + 1) 0) where
    some : k - j ≡ 0 → ⊥
    some e = omega arith

    module _ (v : ℕ) (F : FilledSize s d p places v) where
      pub so_far_stop : 32 < v → SmallTold s d w source k places false
      so_far_stop q = I.1 false (small_stop s d w places (source + 2 * j) (k - j) some p ep v F q)

      pub so_far_next : v ≤ 32 → AllSoFar s d w places source k (source + 2 * (j + 1)) (k - (j + 1))
      so_far_next q =
          from_next (AllSoFar s d w places source k) source k j
          (rows_fewer s d w (source + 2 * j) (k - j) places some I.0, λ b N. I.1 b (small_go s d w places (source + 2 * j) (k - j) some p ep v F q b N))

  pub so_far_end : (j : ℕ) → k ≤ j → AllSoFar s d w places source k (source + 2 * j) (k - j) → SmallTold s d w source k places true
  so_far_end j l I = I.1 true (small_none s d w places (source + 2 * j) (k - j) (omega arith))
