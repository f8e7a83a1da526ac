-- Stores that are alike have the same solutions.
use mathlib.Core.Path.{◌≡◌, sym, subst, ◌∙◌}
use mathlib.Core.List.{List}
use mathlib.Core.Logic.{⊎_elim}
use Prim.Native.Nat.{ℕ, ◌+◌, ◌-◌, ◌≤◌, ◌<◌}
use native.Mathlib.Omega.{arith}
use lib.ListN.{length, get_or}
use lib.Seq.{sets}
use borrow.Author.Tests.{le-ltb}
use Rattle.types_rules.specs.Equations.{Pairs}
use Rattle.types_rules.specs.Follows.{unk}
use Rattle.types_rules.specs.Types.{Ty}
use Rattle.types_cells.specs.Layout.{max_pending, pool_size, settled_from, frozen_size, area_size}
use Rattle.types_cells.specs.Store.{frozen, link_at, Cell, view, Solved}
use Rattle.types_cells.specs.Calls.{Above}
use Rattle.types_cells.specs.Settled.{heap, word_at, Reads, Readable, Pinned, Obeys, Fits}
use Rattle.types_solver.specs.Answers.{SolutionOf}
use Rattle.types_cells.proofs.Words.{link_same, frozen_length}
use Rattle.types_cells.proofs.Reading.{reads_one}
use Rattle.types_cells.proofs.Growing.{Agree, cell_agree, view_agree, solved_grow, load_same, lt_or_ge}
use Rattle.types_instances.specs.Moved.{Below, AllBelow, StillRead, Alike}
use Rattle.types_instances.proofs.Moving.{below_reads, moved_alike, moved_reads}

view_past : (w : List ℕ) (n i : ℕ) → n ≤ i → view w n i ≡ unk
unfolding view
view_past w n i l = rw (view, le-ltb i n l)

module _ (s s' : List ℕ) (n top : ℕ) (A : Alike s s' n top) where
  link_alike : (i : ℕ) → i < n → link_at s' i ≡ link_at s i
  unfolding word_at
  link_alike i l = link_same s s' i i (A.links i l)

  pub alike_above : Above (frozen s) n top → Above (frozen s') n top
  alike_above B = record {
    low = B.low;
    parts = λ i m. let z = B.parts i m in let e = A.fields i 2 m (omega arith) in let k = A.fields i 3 m (omega arith) in omega arith;
    names = λ i m q. let z = B.names i m (sym (A.fields i 0 m (omega arith)) ∙ q) in let e = A.fields i 1 m (omega arith) in let k = A.fields i 3 m (omega arith) in omega arith;
  }

  module _ (size : length s ≡ area_size) (cells : (i : ℕ) → i < n → Cell (frozen s) i) (B : Above (frozen s) n top) where
    agree : (i : ℕ) → i < n → Agree (frozen s) (frozen s') i
    agree i m = record {
      size = frozen_length s' (A.size ∙ size) ∙ sym (frozen_length s size);
      fields = λ j q. A.fields i j m q;
      parts = λ p q r. A.runs p (let z = (cells i m).low in omega arith) (let z = B.parts i m in omega arith);
      names = λ e p q r. A.runs p (let z = (cells i m).named_low e in omega arith) (let z = B.names i m e in omega arith);
    }

    below_view : (i : ℕ) → i < n → view (frozen s') n i ≡ view (frozen s) n i
    below_view i m = view_agree (frozen s) (frozen s') i (cells i m) (agree i m) n n m (omega arith)

    pub alike_view : (i : ℕ) → view (frozen s') n i ≡ view (frozen s) n i
    alike_view i = ⊎_elim (λ m. below_view i m) (λ m. view_past (frozen s') n i m ∙ sym (view_past (frozen s) n i m)) (lt_or_ge i n)

    pub alike_fits : (σ : ℕ → Ty) → Fits (frozen s) n σ → Fits (frozen s') n σ
    alike_fits σ F i h cs e = F i h cs (sym (alike_view i) ∙ e)

    pub alike_fits_back : (σ : ℕ → Ty) → Fits (frozen s') n σ → Fits (frozen s) n σ
    alike_fits_back σ F i h cs e = F i h cs (alike_view i ∙ e)

  -- THE INVARIANT goes over to a store that is alike.
  pub alike_solved : (P₀ L : Pairs ℕ) → Above (frozen s) n top → Solved s n P₀ L → Solved s' n P₀ L
  alike_solved P₀ L B S =
      let size = S.held.size in
      let cells = S.held.cells in
      solved_grow s s' n n A.size (omega arith) S.held.few
      (subst (λ z. z < max_pending) (sym (load_same (frozen s) (frozen s') n (λ i m. A.fields i 3 m (omega arith)))) S.held.room)
      (λ i m. cell_agree (frozen s) (frozen s') i (cells i m) (agree size cells B i m)) link_alike (λ i p q. absurd (omega arith)) (below_view size cells B) P₀ L S

  -- Settled cells, where their types are still read.
  module _ (d : List ℕ) (R : StillRead s s' d n) where
    settled : (i : ℕ) → i < n → settled_from ≤ word_at s' i → settled_from ≤ word_at s i
    settled i m v = let e = A.links i m in omega arith

    pub alike_pinned : Pinned s d n → Pinned s' d n
    alike_pinned P = record {
      reads = λ i m v.
          let D = P.reads i m (settled i m v) in
          subst (λ z. Readable (heap s' d) (z - settled_from)) (sym (A.links i m)) (record { type = D.type; reads = R i m (settled i m v) D.type D.reads });
      bare = λ i m v. A.fields i 0 m (omega arith) ∙ P.bare i m (settled i m v);
    }

    pub alike_obeys : (σ : ℕ → Ty) → Pinned s d n → Obeys s d n σ → Obeys s' d n σ
    alike_obeys σ P O i m v g G =
        let D = P.reads i m (settled i m v) in
        let K = R i m (settled i m v) D.type D.reads in
        let e = reads_one (heap s' d) (word_at s i - settled_from) D.type g K (subst (λ z. Reads (heap s' d) (z - settled_from) g) (A.links i m) G) in
        O i m (settled i m v) D.type D.reads ∙ e

    pub alike_obeys_back : (σ : ℕ → Ty) → Obeys s' d n σ → Obeys s d n σ
    alike_obeys_back σ O i m v g G =
        let e = A.links i m in
        O i m (omega arith) g (subst (λ z. Reads (heap s' d) (z - settled_from) g) (sym e) (R i m v g G))

    pub alike_below : (at : ℕ) → Pinned s d n → AllBelow s d n at → AllBelow s' d n at
    alike_below at P B i m v g G =
        let D = P.reads i m (settled i m v) in
        let K = R i m (settled i m v) D.type D.reads in
        let e = reads_one (heap s' d) (word_at s i - settled_from) D.type g K (subst (λ z. Reads (heap s' d) (z - settled_from) g) (A.links i m) G) in
        subst (λ z. Below at (z - settled_from) g) (sym (A.links i m)) (subst (λ k. Below at (word_at s i - settled_from) k) e (B i m (settled i m v) D.type D.reads))

    -- Solutions, both ways.
    module _ (P₀ L : Pairs ℕ) (B : Above (frozen s) n top) (S : Solved s n P₀ L) where
      pub alike_solution : Pinned s d n → SolutionOf s d n P₀ → SolutionOf s' d n P₀
      alike_solution P X = record {
        σ = X.σ;
        fits = alike_fits S.held.size S.held.cells B X.σ X.fits;
        sat = X.sat;
        obeys = alike_obeys X.σ P X.obeys;
      }

      pub alike_solution_back : SolutionOf s' d n P₀ → SolutionOf s d n P₀
      alike_solution_back X = record {
        σ = X.σ;
        fits = alike_fits_back S.held.size S.held.cells B X.σ X.fits;
        sat = X.sat;
        obeys = alike_obeys_back X.σ X.obeys;
      }

-- Types below `at` are still read where the words below `at` are the same.
pub still_read : (s s' d : List ℕ) (n at : ℕ) → length s ≡ area_size → length s' ≡ area_size → at ≤ pool_size → ((i : ℕ) → i < at → get_or s' i 0 ≡ get_or s i 0) → AllBelow s d n at → StillRead s s' d n
still_read s s' d n at e e' r h B i m v g G = below_reads s s' d at (word_at s i - settled_from) g e e' r h (B i m v g G) G

-- The words ws written over the caller's part: the solver's store is the same, and where every settled type lies below them, so are its solutions.
module _ (s : List ℕ) (at : ℕ) (ws : List ℕ) (size : length s ≡ area_size) (room : at + length ws ≤ pool_size) (n : ℕ) where
  pub moved_still : (d : List ℕ) → AllBelow s d n at → StillRead s (sets s at ws) d n
  moved_still d B i m v g G = moved_reads s at ws size room d (word_at s i - settled_from) g (B i m v g G) G

  module _ (d : List ℕ) (B : AllBelow s d n at) where
    pub moved_pinned : Pinned s d n → Pinned (sets s at ws) d n
    moved_pinned P = alike_pinned s (sets s at ws) n frozen_size (moved_alike s at ws size room n frozen_size) d (moved_still d B) P

    pub moved_obeys : (σ : ℕ → Ty) → Pinned s d n → Obeys s d n σ → Obeys (sets s at ws) d n σ
    moved_obeys σ P O = alike_obeys s (sets s at ws) n frozen_size (moved_alike s at ws size room n frozen_size) d (moved_still d B) σ P O

    pub moved_obeys_back : (σ : ℕ → Ty) → Obeys (sets s at ws) d n σ → Obeys s d n σ
    moved_obeys_back σ O = alike_obeys_back s (sets s at ws) n frozen_size (moved_alike s at ws size room n frozen_size) d (moved_still d B) σ O

    pub moved_below : Pinned s d n → AllBelow (sets s at ws) d n at
    moved_below P = alike_below s (sets s at ws) n frozen_size (moved_alike s at ws size room n frozen_size) d (moved_still d B) at P B
