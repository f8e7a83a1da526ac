-- How the calls fit together: an empty store, and an accepted one.
use mathlib.Core.Path.{◌≡◌, refl, sym, ap, subst, ◌∙◌}
use mathlib.Core.Bool.{true}
use mathlib.Core.List.{List}
use Prim.Native.Nat.{ℕ, ◌-◌, ◌≤◌}
use native.Mathlib.Omega.{arith}
use lib.Dec.{eqb}
use lib.ListN.{length}
use borrow.Author.Tests.{eqb-true, eqb-false}
use Rattle.types_rules.proofs.Classify.{build}
use Rattle.types_rules.proofs.Closed.{closed_start}
use Rattle.types_rules.proofs.Transfer.{follows_holds}
use Rattle.types_rules.specs.Equations.{Pairs, end}
use Rattle.types_rules.specs.Trees.{Extent, finite, Tree}
use Rattle.types_rules.specs.Types.{Ty}
use Rattle.types_cells.specs.Layout.{max_cells, settled_from, area_size}
use Rattle.types_cells.specs.Store.{frozen, tag_at, view, load, Held, Solved}
use Rattle.types_cells.specs.Settled.{heap, word_at, Reads, Readable, Pinned, ObeysIn, Fits}
use Rattle.types_solver.specs.Sizes.{mark_at, Sized, Same, TestedFinite, Model, Least}
use Rattle.types_solver.specs.Answers.{SolutionOf}
use Rattle.types_solver.specs.Written.{Resolved}
use Rattle.types_cells.proofs.LinkLaws.{stop_rep}
use Rattle.types_cells.proofs.Solutions.{mk_c, sat_all}
use Rattle.types_cells.proofs.SettlingLaws.{heap_kept}

-- Any area of 52,224 words is a store with no cells.
pub start : (s : List ℕ) → length s ≡ area_size → Solved s 0 end end
unfolding load
start s e = record {
  held = record {
    size = e;
    few = omega arith;
    room = omega arith;
    cells = λ i l. absurd (omega arith);
    links = λ i l. absurd (omega arith);
    wf = tt;
    inside = tt;
  };
  closed = closed_start ℕ eqb eqb-true eqb-false (view (frozen s) 0) end;
  follows = tt;
  asked = tt;
}

-- What `finite` does not change: what solutions obey.
module _ (s s' d : List ℕ) (n : ℕ) (K : Same s s') (few : n ≤ max_cells) where
  low_heap : heap s' d ≡ heap s d
  low_heap = heap_kept s s' d K.low

  pub same_pinned : Pinned s d n → Pinned s' d n
  same_pinned P = record {
    reads = λ i l v.
        let e = K.refs i (omega arith) in
        subst (λ z. Readable z (word_at s' i - settled_from)) (sym low_heap) (subst (λ z. Readable (heap s d) (z - settled_from)) (sym e) (P.reads i l (omega arith)));
    bare = λ i l v. let e = K.refs i (omega arith) in ap (λ z. tag_at z i) K.still ∙ P.bare i l (omega arith);
  }

  pub same_obeys : (ε : Extent) (σ : ℕ → Tree ε) → ObeysIn ε s d n σ → ObeysIn ε s' d n σ
  same_obeys ε σ O i l v g R =
      let e = K.refs i (omega arith) in
      O i l (omega arith) g (subst (λ z. Reads (heap s d) (z - settled_from) g) e (subst (λ z. Reads z (word_at s' i - settled_from) g) low_heap R))

-- `finite` true: each solution is one of the marked store.
pub model : (s s' d : List ℕ) (n : ℕ) → TestedFinite s s' n true → (P₀ L : Pairs ℕ) → Solved s n P₀ L → Pinned s d n → (X : SolutionOf s d n P₀) → Model s' d n L X.σ
model s s' d n T P₀ L S P X =
    let f = S.held.few in
    record {
      marked = record {
        held = (T.grown P₀ L S).held;
        sizes = λ i l. subst (λ w. Sized w n L i (mark_at s' i)) (sym T.still) (T.sizes refl P₀ L S i l);
      };
      pinned = same_pinned s s' d n T.same f P;
      fits = subst (λ w. Fits w n X.σ) (sym T.still) X.fits;
      sat = sat_all X.σ _ (follows_holds build mk_c (view (frozen s) n) P₀ X.σ X.fits X.sat) L S.follows;
      obeys = same_obeys s s' d n T.same f finite X.σ X.obeys;
    }

-- With nothing left open every solution has the least sizes.
pub least : (s : List ℕ) (n : ℕ) (L : Pairs ℕ) → Held s n L → Resolved s n L → (σ : ℕ → Ty) → Least s n σ
least s n L H R σ i l t k v =
    let q = stop_rep s n L H i l k in
    let z = R i l (ap (tag_at (frozen s)) q ∙ t) in
    let y : settled_from ≤ word_at s i = subst (λ u. settled_from ≤ word_at s u) q z in absurd (omega arith)
