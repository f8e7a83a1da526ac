-- What `merge_all` and `equate` promise, from merging, short links and the test for finite types.
use mathlib.Core.Path.{◌≡◌, refl, sym, ap, subst, ◌∙◌}
use mathlib.Core.Bool.{Bool, true, false}
use mathlib.Core.List.{List, [], ◌∷◌}
use mathlib.Core.Logic.{inl, inr, ⊎_elim}
use Prim.Native.Nat.{ℕ, ◌+◌, ◌<◌, ◌≤◌, ◌^◌}
use native.Mathlib.Omega.{arith}
use lib.Dec.{eqb}
use lib.ListN.{length, get_or, take, drop}
use borrow.Author.Tests.{eqb-true, eqb-false}
use Rattle.types_rules.proofs.Infinite.{inf, inf_fits, inf_sat, inf_unknown}
use Rattle.types_rules.proofs.Terms.{bool_no}
use Rattle.types_rules.specs.Equations.{Pairs, Solves, pair}
use Rattle.types_rules.specs.Infinite.{Inf}
use Rattle.types_rules.specs.Trees.{Extent, finite, infinite, Tree, whole}
use Rattle.types_rules.specs.Types.{integer_type}
use Rattle.types_cells.specs.Layout.{max_cells, links_at, settled_from}
use Rattle.std.proofs.Math.ListN.{drop_of_length-le}
use Rattle.std.proofs.lemmas.List.{drop_more}
use Rattle.types_cells.specs.Store.{frozen, link_at, run, view, Solved}
use Rattle.types_cells.specs.Settled.{Pinned, ObeysIn, FitsIn}
use Rattle.types_unifier.specs.Merging.{Asking, Merged, Done}
use Rattle.types_unifier.specs.Merging as Merging
use Rattle.types_cells.specs.Flat.{Sound, Kept, Direct, Flattened}
use Rattle.types_cells.proofs.Flat.{refers_pinned, refers_to, refers_from}
use Rattle.types_cells.proofs.Growing.{lt_or_ge}
use Rattle.types_cells.proofs.Heads.{view_unk}
use Rattle.types_cells.proofs.LinkLaws.{stop_rep}
use Rattle.types_cells.proofs.Words.{link_part_lem, link_none}
use Rattle.types_solver.specs.Sizes.{mark_at, Sized, Same, Read, TestedFinite}
use Rattle.types_solver.specs.Answers.{SolutionIn, SolutionOf}
use Rattle.types_solver.specs.Equation.{pairs_with, Within, Equating, MergedAll, Equation}
use Rattle.types_solver.proofs.Accepted.{same_pinned, same_obeys}
use Rattle.types_solver.proofs.Marking.{same_back, same_solved}
use Rattle.types_solver.proofs.Opening.{finite_some, finite_none, pick, pick_pinned, settled_root}

link_few : (s : List ℕ) (i : ℕ) → link_at s i < settled_from
unfolding link_at
link_few s i =
    ⊎_elim
    (λ l. subst (λ z. z < settled_from) (sym (link_part_lem (get_or s (links_at + i) 0) l)) l)
    (λ l. subst (λ z. z < settled_from) (sym (link_none (get_or s (links_at + i) 0) l)) (omega arith))
    (lt_or_ge (get_or s (links_at + i) 0) settled_from)

-- Direct links stay direct where links are kept.
same_direct : (s t : List ℕ) → Same s t → (i : ℕ) → i < max_cells → Direct s i → Direct t i
same_direct s t K i l D j e =
    let f = link_few t i in
    let m : j < max_cells = omega arith in
    K.links j m ∙ D j (sym (K.links i l) ∙ e)

-- Where all equations are solved, those before are.
pub with_before : {D : Type 0} (σ : ℕ → D) (l : List ℕ) (y k : ℕ) (P₀ : Pairs ℕ) → Solves σ (pairs_with l y k P₀) → Solves σ P₀
unfolding pairs_with
with_before σ [] y k P₀ h = h
with_before σ (c ∷ l) y k P₀ h = (with_before σ l (y + k) k (pair c y P₀) h).1

-- NO EQUATION.
pub all_none : (s d : List ℕ) (y k : ℕ) → MergedAll s s d [] y k true
unfolding pairs_with
all_none s d y k = record {
  still = refl;
  low = refl;
  goes = λ e n P₀ L S P W. record { L = L; solved = S };
  same = λ e n P₀ L S P W. record { pinned = P; to = λ ε σ F h O. O; from = λ ε σ F h O. O };
  stops = λ e. absurd (bool_no true refl e);
}

-- THE FIRST and the others.
module _ (s t d : List ℕ) (c : ℕ) (l : List ℕ) (y k : ℕ) where
  pub first_not : Merged s t d c y false → MergedAll s t d (c ∷ l) y k false
  unfolding pairs_with Within
  first_not M = record {
    still = M.still;
    low = M.low;
    goes = λ e. absurd (bool_no false e refl);
    same = λ e. absurd (bool_no false e refl);
    stops = λ e n P₀ L S P W ε σ F h O. M.stops refl n P₀ L S P W.0 W.1 ε σ F (with_before σ l (y + k) k (pair c y P₀) h) O;
  }

  module _ (M : Merged s t d c y true) where
    pub first_asks : (n : ℕ) → Equating s d n (c ∷ l) y k → Equating t d n l (y + k) k
    unfolding Within
    first_asks n E =
        let D = M.goes refl n E.P₀ E.L E.solved E.pinned E.made.0 E.made.1 in
        record {
          P₀ = pair c y E.P₀;
          L = D.L;
          solved = D.solved;
          pinned = (M.same refl n E.P₀ E.L E.solved E.pinned E.made.0 E.made.1).pinned;
          few = E.few;
          made = E.made.2;
          step = E.step;
        }

    module _ (u : List ℕ) (b : Bool) (N : MergedAll t u d l (y + k) k b) (n : ℕ) (P₀ L : Pairs ℕ) (S : Solved s n P₀ L) (P : Pinned s d n) (x : c < n) (z : y < n) (W : Within n l (y + k) k) where
      D : Done t n (pair c y P₀)
      D = M.goes refl n P₀ L S P x z

      A : Merging.Same s t d n (pair c y P₀)
      A = M.same refl n P₀ L S P x z

      moved : (ε : Extent) (σ : ℕ → Tree ε) → FitsIn ε (frozen s) n σ → FitsIn ε (frozen t) n σ
      moved ε σ F = subst (λ w. FitsIn ε w n σ) (sym M.still) F

      then_same : b ≡ true → Merging.Same s u d n (pairs_with l (y + k) k (pair c y P₀))
      then_same e =
          let B = N.same e n (pair c y P₀) D.L D.solved A.pinned W in
          record {
            pinned = B.pinned;
            to = λ ε σ F h O. B.to ε σ (moved ε σ F) h (A.to ε σ F (with_before σ l (y + k) k (pair c y P₀) h) O);
            from = λ ε σ F h O. A.from ε σ F (with_before σ l (y + k) k (pair c y P₀) h) (B.from ε σ (moved ε σ F) h O);
          }

      then_stops : b ≡ false → Merging.NoSolution s d n (pairs_with l (y + k) k (pair c y P₀))
      then_stops e ε σ F h O =
          N.stops e n (pair c y P₀) D.L D.solved A.pinned W ε σ (moved ε σ F) h (A.to ε σ F (with_before σ l (y + k) k (pair c y P₀) h) O)

    pub first_then : (u : List ℕ) (b : Bool) → MergedAll t u d l (y + k) k b → MergedAll s u d (c ∷ l) y k b
    unfolding pairs_with Within
    first_then u b N = record {
      still = N.still ∙ M.still;
      low = N.low ∙ M.low;
      goes = λ e n P₀ L S P W.
          let E = M.goes refl n P₀ L S P W.0 W.1 in
          N.goes e n (pair c y P₀) E.L E.solved (M.same refl n P₀ L S P W.0 W.1).pinned W.2;
      same = λ e n P₀ L S P W. then_same u b N n P₀ L S P W.0 W.1 W.2 e;
      stops = λ e n P₀ L S P W. then_stops u b N n P₀ L S P W.0 W.1 W.2 e;
    }

-- The same for the words of a list from the i-th on.
pub all_done : (s d ps : List ℕ) (i y k : ℕ) → length ps ≤ i → MergedAll s s d (drop i ps) y k true
all_done s d ps i y k l = subst (λ z. MergedAll s s d z y k true) (sym (drop_of_length-le ps l)) (all_none s d y k)

module _ (s d ps : List ℕ) (i y k : ℕ) (lt : i < length ps) (P : (n : ℕ) × Equating s d n (drop i ps) y k) where
  abbrev c₀ : ℕ
  c₀ = get_or ps i 0

  abbrev l₀ : List ℕ
  l₀ = drop (i + 1) ps

  split : drop i ps ≡ c₀ ∷ l₀
  split = drop_more ps i 0 lt

  asked : Equating s d P.0 (c₀ ∷ l₀) y k
  asked = subst (λ l. Equating s d P.0 l y k) split P.1

  pub first_asking : Asking s d c₀ y
  unfolding Within
  first_asking = record {
    n = P.0;
    P₀ = asked.P₀;
    L = asked.L;
    solved = asked.solved;
    pinned = asked.pinned;
    few = asked.few;
    left = asked.made.0;
    right = asked.made.1;
  }

  pub few_next : y + k < 2 ^ 32
  unfolding Within
  few_next = let l = asked.made.1 in let f = asked.solved.held.few in let z = asked.step in omega arith

  module _ (t : List ℕ) (b : Bool) (M : Merged s t d c₀ y b) where
    pub others_ask : b ≡ true → (n : ℕ) × Equating t d n l₀ (y + k) k
    others_ask e = (P.0, first_asks s t d c₀ l₀ y k (subst (Merged s t d c₀ y) e M) P.0 asked)

    pub all_refused : b ≡ false → MergedAll s t d (drop i ps) y k false
    all_refused e = subst (λ l. MergedAll s t d l y k false) (sym split) (first_not s t d c₀ l₀ y k (subst (Merged s t d c₀ y) e M))

    pub all_merged : b ≡ true → (u : List ℕ) (r : Bool) → MergedAll t u d l₀ (y + k) k r → MergedAll s u d (drop i ps) y k r
    all_merged e u r N = subst (λ l. MergedAll s u d l y k r) (sym split) (first_then s t d c₀ l₀ y k (subst (Merged s t d c₀ y) e M) u r N)

-- By the answer of the calls.
pub merged_as : {s u d : List ℕ} (ps : List ℕ) (q : ℕ) {y k : ℕ} {b r : Bool} → MergedAll s u d (take q ps) y k b → b ≡ r → MergedAll s u d (run ps 0 q) y k r
unfolding run
merged_as {s = s} {u = u} {d = d} ps q {y = y} {k = k} M e = subst (MergedAll s u d (take q ps) y k) e M

pub tested_as : {s u : List ℕ} {n : ℕ} {b r : Bool} → TestedFinite s u n b → b ≡ r → TestedFinite s u n r
tested_as {s = s} {u = u} {n = n} T e = subst (TestedFinite s u n) e T

-- Possibly infinite types that solve what is merged and give settled cells their types.
module _ (s d : List ℕ) (n : ℕ) (P₀ L : Pairs ℕ) (S : Solved s n P₀ L) (P : Pinned s d n) where
  abbrev β : ℕ → Inf
  β i = whole infinite (pick s d n P (λ j. integer_type) i)

  pub infinite_solution : SolutionIn infinite s d n P₀
  infinite_solution = record {
    σ = inf ℕ eqb eqb-true eqb-false (view (frozen s) n) P₀ L S.closed β;
    fits = λ i h cs e. inf_fits ℕ eqb eqb-true eqb-false (view (frozen s) n) P₀ L S.closed β i h cs e;
    sat = inf_sat ℕ eqb eqb-true eqb-false (view (frozen s) n) P₀ L S.closed β;
    obeys = λ i l v g R.
        let r = stop_rep s n L S.held i l (settled_root s i v) in
        inf_unknown ℕ eqb eqb-true eqb-false (view (frozen s) n) P₀ L S.closed β i (ap (view (frozen s) n) r ∙ view_unk (frozen s) n i l (P.bare i l v))
        ∙ ap β r ∙ ap (whole infinite) (pick_pinned s d n P (λ j. integer_type) i l v g R);
  }

module _ (s d : List ℕ) (n : ℕ) (l : List ℕ) (y k : ℕ) (E : Equating s d n l y k) (u : List ℕ) where
  pub merged_not : MergedAll s u d l y k false → Equation s u d n l y k 33
  merged_not M = record {
    still = M.still;
    low = M.low;
    numbers = inr (inl refl);
    goes = λ q. absurd (omega arith);
    same = λ q. absurd (omega arith);
    some = λ q. absurd (omega arith);
    marked = λ q. absurd (omega arith);
    direct = λ q. absurd (omega arith);
    apart = λ q P₀ L S P. M.stops refl n P₀ L S P E.made;
    endless = λ q. absurd (omega arith);
  }

  module _ (M : MergedAll s u d l y k true) where
    done : (P₀ L : Pairs ℕ) → Solved s n P₀ L → Pinned s d n → Done u n (pairs_with l y k P₀)
    done P₀ L S P = M.goes refl n P₀ L S P E.made

    same : (P₀ L : Pairs ℕ) → Solved s n P₀ L → Pinned s d n → Merging.Same s u d n (pairs_with l y k P₀)
    same P₀ L S P = M.same refl n P₀ L S P E.made

    pub merged_sound : Sound u n
    merged_sound = let D = done E.P₀ E.L E.solved E.pinned in record { P₀ = pairs_with l y k E.P₀; L = D.L; solved = D.solved }

    module _ (t : List ℕ) (F : Flattened u t n) where
      kept : (P₀ L : Pairs ℕ) → (S : Solved s n P₀ L) → (P : Pinned s d n) → Kept t n (pairs_with l y k P₀) (done P₀ L S P).L
      kept P₀ L S P = F.keeps (pairs_with l y k P₀) (done P₀ L S P).L (done P₀ L S P).solved

      pub flat_read : Read t n
      flat_read = let K = kept E.P₀ E.L E.solved E.pinned in record { L = K.L'; held = K.solved.held }

      pinned_t : (P₀ L : Pairs ℕ) → Solved s n P₀ L → Pinned s d n → Pinned t d n
      pinned_t P₀ L S P = refers_pinned u t d n F.refers F.still (same P₀ L S P).pinned

      to : (P₀ L : Pairs ℕ) → Solved s n P₀ L → Pinned s d n → (ε : Extent) (σ : ℕ → Tree ε) → FitsIn ε (frozen s) n σ → Solves σ (pairs_with l y k P₀) → ObeysIn ε s d n σ → ObeysIn ε t d n σ
      to P₀ L S P ε σ f q o = refers_to u t d n F.refers ε σ ((same P₀ L S P).to ε σ f q o)

      module _ (v : List ℕ) where
        few : n ≤ max_cells
        few = E.solved.held.few

        -- False: there is no solution, but one of possibly infinite types.
        module _ (T : TestedFinite t v n false) where
          none_v : (P₀ L : Pairs ℕ) → Solved s n P₀ L → Pinned s d n → SolutionIn finite s d n (pairs_with l y k P₀) → ⊥
          none_v P₀ L S P X =
              let K = kept P₀ L S P in
              finite_none t v d n T (pairs_with l y k P₀) K.L' K.solved
              (record { σ = X.σ; fits = subst (λ w. FitsIn finite w n X.σ) (sym (F.still ∙ M.still)) X.fits; sat = X.sat; obeys = to P₀ L S P finite X.σ X.fits X.sat X.obeys })

          some_infinite : (P₀ L : Pairs ℕ) → Solved s n P₀ L → Pinned s d n → SolutionIn infinite s d n (pairs_with l y k P₀)
          some_infinite P₀ L S P =
              let K = kept P₀ L S P in
              let X = infinite_solution t d n (pairs_with l y k P₀) K.L' K.solved (pinned_t P₀ L S P) in
              let f = subst (λ w. FitsIn infinite w n X.σ) (F.still ∙ M.still) X.fits in
              record { σ = X.σ; fits = f; sat = X.sat; obeys = (same P₀ L S P).from infinite X.σ f X.sat (refers_from u t d n F.refers infinite X.σ X.obeys) }

          pub equation_endless : Equation s v d n l y k 39
          equation_endless = record {
            still = T.still ∙ F.still ∙ M.still;
            low = T.same.low ∙ F.refers.low ∙ M.low;
            numbers = inr (inr refl);
            goes = λ q. absurd (omega arith);
            same = λ q. absurd (omega arith);
            some = λ q. absurd (omega arith);
            marked = λ q. absurd (omega arith);
            direct = λ q. absurd (omega arith);
            apart = λ q. absurd (omega arith);
            endless = λ q P₀ L S P. (none_v P₀ L S P, some_infinite P₀ L S P);
          }

        module _ (T : TestedFinite t v n true) where
          back : Same v t
          back = same_back t v T.same

          some_v : (P₀ L : Pairs ℕ) → Solved s n P₀ L → Pinned s d n → SolutionOf v d n (pairs_with l y k P₀)
          some_v P₀ L S P =
              let K = kept P₀ L S P in
              let X = finite_some t v d n T (pairs_with l y k P₀) K.L' K.solved (pinned_t P₀ L S P) in
              record {
                σ = X.σ;
                fits = subst (λ w. FitsIn finite w n X.σ) (sym T.still) X.fits;
                sat = X.sat;
                obeys = same_obeys t v d n T.same few finite X.σ X.obeys;
              }

          pub equation : Equation s v d n l y k 0
          equation = record {
            still = T.still ∙ F.still ∙ M.still;
            low = T.same.low ∙ F.refers.low ∙ M.low;
            numbers = inl refl;
            goes = λ q P₀ L S P. let K = kept P₀ L S P in record { L = K.L'; solved = T.grown (pairs_with l y k P₀) K.L' K.solved };
            same = λ q P₀ L S P. record {
              pinned = same_pinned t v d n T.same few (pinned_t P₀ L S P);
              to = λ ε σ f h o. same_obeys t v d n T.same few ε σ (to P₀ L S P ε σ f h o);
              from = λ ε σ f h o. (same P₀ L S P).from ε σ f h (refers_from u t d n F.refers ε σ (same_obeys v t d n back few ε σ o));
            };
            some = λ q. some_v;
            marked = λ q P₀ L S. record {
              held = S.held;
              sizes = λ i b. subst (λ w. Sized w n L i (mark_at v i)) (sym T.still) (T.sizes refl P₀ L (same_solved v t back n P₀ L S) i b);
            };
            direct = λ q i b. same_direct t v T.same i (let f = few in omega arith) (F.direct i b);
            apart = λ q. absurd (omega arith);
            endless = λ q. absurd (omega arith);
          }
