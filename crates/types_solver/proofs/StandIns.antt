-- Solutions of a store with stand-ins (types_rules, proofs/Filling): filled, a solution is one of possibly infinite types, and every one of these is the solution
-- with stand-ins at the cells left open, filled.
use mathlib.Core.Path.{◌≡◌, refl, sym, ap, subst, ◌∙◌}
use mathlib.Core.List.{List, [], ◌∷◌, ◌++◌, map}
use mathlib.Core.Logic.{⊎_elim}
use Prim.Native.Nat.{ℕ, zero, suc, ◌+◌, ◌*◌, ◌≤◌, ◌<◌}
use native.Mathlib.Omega.{arith}
use native.Mathlib.Nat.{eq-zero-or-pos}
use lib.Dec.{eqb}
use lib.ListN.{get_or, take, drop}
use borrow.Author.Tests.{eqb-true, eqb-false}
use Rattle.types_rules.proofs.Filling.{fill, fill_at, fill_build, fill_stand, fill_whole, high_former, high_type, high_types, stand_in}
use Rattle.types_rules.proofs.Finite.{finite_bounded}
use Rattle.types_rules.proofs.Rational.{rep_sat}
use Rattle.types_rules.specs.Classes.{rep}
use Rattle.types_rules.specs.Equations.{Pairs, Solves, end, pair}
use Rattle.types_rules.specs.Follows.{shape, unk}
use Rattle.types_rules.specs.Formed.{part_count_type}
use Rattle.types_rules.specs.Former.{Former, binding, former_of, given, identifiers, int, parameter, power, product, tag}
use Rattle.types_rules.specs.Infinite.{Inf, mk_i}
use Rattle.types_rules.specs.Trees.{infinite}
use Rattle.types_rules.specs.Types.{Ty, Tys, node, size, tcons, tnil}
use Rattle.types_rules.specs.Words.{part_words, second, words}
use Rattle.types_cells.specs.Layout.{records_at, pool_size, settled_from}
use Rattle.types_cells.specs.Store.{field_at, former_at, frozen, tag_at, view, Solved}
use Rattle.types_cells.specs.Settled.{heap, lower, word_at, Pinned, Reads}
use Rattle.types_cells.proofs.Growing.{lt_or_ge, view_made}
use Rattle.types_cells.proofs.Heads.{view_shape, view_unk}
use Rattle.types_cells.proofs.LinkLaws.{rep_below}
use Rattle.types_unifier.proofs.Tying.{busy_solves}
use Rattle.types_solver.specs.Answers.{Finite, SolutionIn, SolutionOf}
use Rattle.types_solver.proofs.Marking.{by_rep, deep, kids_below}
use Rattle.types_solver.proofs.Opening.{pick, pick_open, pick_pinned, solution_with, with_types}

-- Above all words.
unfoldable pub tally : List ℕ → ℕ
tally [] = 0
tally (x ∷ l) = suc x + tally l

tally_append : (a b : List ℕ) → tally (a ++ b) ≡ tally a + tally b
unfolding tally
tally_append [] b = omega arith
tally_append (x ∷ a) b = let z = tally_append a b in omega arith

tally_drop : (k : ℕ) (l : List ℕ) → tally (drop k l) ≤ tally l
unfolding tally
tally_drop zero l = omega arith
tally_drop (suc k) [] = omega arith
tally_drop (suc k) (x ∷ l) = let z = tally_drop k l in omega arith

tally_take : (k : ℕ) (l : List ℕ) → tally (take k l) ≤ tally l
unfolding tally
tally_take zero l = omega arith
tally_take (suc k) [] = omega arith
tally_take (suc k) (x ∷ l) = let z = tally_take k l in omega arith

tally_at_lem : (l : List ℕ) (i : ℕ) → get_or l i 0 ≤ tally l
unfolding tally
tally_at_lem [] i = omega arith
tally_at_lem (x ∷ l) zero = omega arith
tally_at_lem (x ∷ l) (suc i) = let z = tally_at_lem l i in omega arith

-- The givens of a type are below its words, and those of cells below the store's.
former_words : (h : Former) (n : ℕ) → high_former h ≤ suc (tag h) + tally (second h n)
unfolding high_former second tag tally
former_words int n = omega arith
former_words (given g) n = omega arith
former_words (parameter i) n = omega arith
former_words power n = omega arith
former_words product n = omega arith
former_words (binding l) n = omega arith

mutual
  unfolding high_type words tally

  type_words_lem : (g : Ty) → high_type g ≤ tally (words g)
  type_words_lem (node h gs) =
      let a = former_words h (part_count_type gs) in
      let b = parts_words (identifiers h) gs in
      let c = tally_append (second h (part_count_type gs)) (part_words (identifiers h) gs) in
      omega arith

  parts_words : (l : List ℕ) (gs : Tys) → high_types gs ≤ tally (part_words l gs)
  parts_words l tnil = omega arith
  parts_words [] (tcons g gs) = let a = type_words_lem g in let b = parts_words [] gs in let c = tally_append (words g) (part_words [] gs) in omega arith
  parts_words (i ∷ l) (tcons g gs) = let a = type_words_lem g in let b = parts_words l gs in let c = tally_append (words g) (part_words l gs) in omega arith

pub high_read : (s d : List ℕ) (p : ℕ) (g : Ty) → Reads (heap s d) p g → high_type g ≤ tally s + tally d
unfolding heap lower
high_read s d p g R =
    let a = type_words_lem g in
    let b = tally_append (words g) R.after in
    let c = ap tally R.words_at in
    let e = tally_drop p (heap s d) in
    let f = tally_append (lower s) d in
    let h = tally_take pool_size s in
    omega arith

high_of : (t a : ℕ) (l : List ℕ) → high_former (former_of t a l) ≤ suc a
unfolding former_of high_former
high_of zero a l = omega arith
high_of (suc zero) a l = omega arith
high_of (suc (suc zero)) a l = omega arith
high_of (suc (suc (suc zero))) a l = omega arith
high_of (suc (suc (suc (suc zero)))) a l = omega arith
high_of (suc (suc (suc (suc (suc zero))))) a l = omega arith
high_of (suc (suc (suc (suc (suc (suc t)))))) a l = omega arith

shape_former : (h k : Former) (cs ds : List ℕ) → shape h cs ≡ shape k ds → h ≡ k
shape_former h k cs ds q = cc

high_former_lem : (s : List ℕ) (i : ℕ) → high_former (former_at (frozen s) i) ≤ suc (tally s)
unfolding former_at field_at
high_former_lem s i =
    let a : high_former (former_at (frozen s) i) ≤ suc (get_or (frozen s) (4 * i + 1) 0) = high_of _ _ _ in
    let b = tally_at_lem (frozen s) (4 * i + 1) in
    let c : tally (frozen s) ≤ tally s = unfold frozen in tally_drop records_at s in
    omega arith

pub high_cell : (s : List ℕ) (n i : ℕ) (h : Former) (cs : List ℕ) → view (frozen s) n i ≡ shape h cs → high_former h ≤ suc (tally s)
high_cell s n i h cs e =
    let l = view_made (frozen s) n i h cs e in
    ⊎_elim
    (λ z. let q = sym (view_unk (frozen s) n i l z) ∙ e in let y : ◌≡◌ {A = ℕ} 0 1 = cc in absurd (omega arith))
    (λ p. subst (λ k. high_former k ≤ suc (tally s)) (shape_former _ _ _ _ (sym (view_shape (frozen s) n i l p) ∙ e)) (high_former_lem s i))
    (eq-zero-or-pos (tag_at (frozen s) i))

-- Where there is a solution, all types are finite.
pub solution_finite : (s d : List ℕ) (n : ℕ) (P₀ L : Pairs ℕ) → Solved s n P₀ L → SolutionOf s d n P₀ → Finite (frozen s) n L
solution_finite s d n P₀ L S X i l =
    deep s n L S.held (size (X.σ i)) i l
    (finite_bounded (rep eqb L) (view (frozen s) n) X.σ X.fits (λ j. by_rep s n P₀ L S (record { σ = X.σ; fits = X.fits; sat = X.sat }) j) (size (X.σ i)) i (omega arith))

module _ (s d : List ℕ) (n : ℕ) (B : ℕ) (high : suc (tally s + tally d) ≤ B) where
  pub sat_fill : (ι : ℕ → Inf) (σ : ℕ → Ty) (P : Pairs ℕ) → Solves σ P → Solves (λ i. fill B ι (σ i)) P
  sat_fill ι σ end h = tt
  sat_fill ι σ (pair a b P) h = (ap (fill B ι) h.0, sat_fill ι σ P h.1)

  pub map_fill : (ι : ℕ → Inf) (σ : ℕ → Ty) (cs : List ℕ) → map (fill B ι) (map σ cs) ≡ map (λ i. fill B ι (σ i)) cs
  map_fill ι σ [] = refl
  map_fill ι σ (c ∷ cs) = ap (λ l. fill B ι (σ c) ∷ l) (map_fill ι σ cs)

  -- A SOLUTION, filled.
  unfoldable pub filled : (P₀ : Pairs ℕ) (X : SolutionOf s d n P₀) (ι : ℕ → Inf) → SolutionIn infinite s d n P₀
  filled P₀ X ι = record {
    σ = λ i. fill B ι (X.σ i);
    fits = λ i h cs e.
        ap (fill B ι) (X.fits i h cs e) ∙ fill_build B ι h (map X.σ cs) (let z = high_cell s n i h cs e in omega arith) ∙ ap (mk_i h) (map_fill ι X.σ cs);
    sat = sat_fill ι X.σ P₀ X.sat;
    obeys = λ i l v g R. ap (fill B ι) (X.obeys i l v g R) ∙ fill_whole B ι g (let z = high_read s d _ g R in omega arith);
  }

  module _ (P₀ L : Pairs ℕ) (S : Solved s n P₀ L) (P : Pinned s d n) (F : Finite (frozen s) n L) where
    -- The solution with stand-ins at the cells left open.
    abbrev pub open_solution : SolutionOf s d n P₀
    open_solution = solution_with s d n P₀ L S P F (stand_in B)

    module _ (X : SolutionIn infinite s d n P₀) where
      abbrev r : ℕ → ℕ
      r = rep eqb L

      by : (i : ℕ) → X.σ i ≡ X.σ (r i)
      by i = sym (rep_sat ℕ eqb eqb-true eqb-false X.σ L (busy_solves s n P₀ L S.follows infinite X.σ X.fits X.sat) i)

      base : (i : ℕ) → i < n → view (frozen s) n (r i) ≡ unk → fill B X.σ (pick s d n P (stand_in B) (r i)) ≡ X.σ (r i)
      base i l e =
          let b = rep_below n L S.held.inside i l in
          ⊎_elim
          (λ z. ap (fill B X.σ) (pick_open s d n P (stand_in B) (r i) z) ∙ fill_stand B X.σ (r i))
          (λ z. let D = P.reads (r i) b z in
          ap (fill B X.σ) (pick_pinned s d n P (stand_in B) (r i) b z D.type D.reads)
          ∙ fill_whole B X.σ D.type (let y = high_read s d _ D.type D.reads in omega arith) ∙ sym (X.obeys (r i) b z D.type D.reads))
          (lt_or_ge (word_at s (r i)) settled_from)

      pub open_filled : (i : ℕ) → i < n → fill B X.σ (open_solution.σ i) ≡ X.σ i
      open_filled i l =
          ap (fill B X.σ) (with_types s d n P₀ L S P F (stand_in B) i)
          ∙ fill_at r (view (frozen s) n) (λ j. j < n) (λ j m. rep_below n L S.held.inside j m) (λ j h cs m e c k. kids_below s n L S.held j h cs m e c k)
          (pick s d n P (stand_in B)) B X.σ X.σ (λ j m. by j) X.fits (λ j h cs m e. let z = high_cell s n j h cs e in omega arith) base n i l (F i l)
