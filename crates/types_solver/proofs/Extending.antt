-- Stores that grow. What fits and obeys the old store goes on in the new, and what fits and obeys the new does so with the old.
use mathlib.Core.Path.{◌≡◌, refl, sym, ap, subst, ◌∙◌}
use mathlib.Core.Bool.{true, false}
use mathlib.Core.List.{List, map}
use mathlib.Core.Logic.{⊎_elim}
use Prim.Native.Nat.{ℕ, zero, suc, ◌+◌, ◌-◌, ◌≤◌, ◌<◌}
use native.Mathlib.Omega.{arith}
use native.Mathlib.Nat.{eq-or-lt_of_le}
use lib.Dec.{ltb}
use lib.ListN.{length, get_or, set}
use lib.Seq.{get_or-set_other, get_or-set_same, take-set-le}
use borrow.Author.Tests.{lt-ltb, le-ltb}
use Rattle.types_rules.proofs.Rational.{shape_1}
use Rattle.types_rules.proofs.Finite.{map_same}
use Rattle.types_rules.specs.Equations.{AllP, In, Pairs, Solves, end, pair}
use Rattle.types_rules.specs.Finite.{from_list, type_of_view}
use Rattle.types_rules.specs.Follows.{View, shape, unk}
use Rattle.types_rules.specs.Former.{Former, former_of, int}
use Rattle.types_rules.specs.Types.{Ty, node, tnil}
use Rattle.types_cells.specs.Layout.{max_cells, pool_size, links_at, records_at, settled_from, area_size}
use Rattle.types_cells.specs.Store.{frozen, tag_at, field_at, parts_at, former_at, run, view, view_of, load, Both, Cell, Solved}
use Rattle.types_cells.specs.Calls.{Making, Made, Above, Adding, Added}
use Rattle.types_cells.specs.Settled.{lower, heap, word_at, Reads, Readable, Fits, Obeys, Pinned, Entering, Entered}
use Rattle.types_solver.specs.Growth.{Extension, Grows, Builds}
use Rattle.types_cells.proofs.Heads.{view_shape, view_unk}
use Rattle.types_cells.proofs.Growing.{lt_or_ge, view_made, frozen_at, load_same, word_other, fields_same}
use Rattle.types_cells.proofs.Entering.{made_low, made_pinned, made_before, made_after}
use Rattle.types_cells.proofs.SettlingLaws.{heap_kept}

-- Two assignments that are the same below n.
abbrev pub SameBelow : ℕ → (ℕ → Ty) → (ℕ → Ty) → Type 0
SameBelow n τ σ = (i : ℕ) → i < n → τ i ≡ σ i

pub solves_same : (n : ℕ) (σ τ : ℕ → Ty) → SameBelow n τ σ → (P : Pairs ℕ) → AllP (Both n) P → Solves σ P → Solves τ P
solves_same n σ τ e end b S = tt
solves_same n σ τ e (pair x y P) b S = (e x b.0.0 ∙ S.0 ∙ sym (e y b.0.1), solves_same n σ τ e P b.1 S.1)

pub obeys_same : (s d : List ℕ) (n : ℕ) (σ τ : ℕ → Ty) → SameBelow n τ σ → Obeys s d n σ → Obeys s d n τ
obeys_same s d n σ τ e O i l v g R = e i l ∙ O i l v g R

-- RESTRICTION: what fits the new store fits the old.
pub fits_old : (w w' : List ℕ) (n n' : ℕ) → ((i : ℕ) → i < n → view w' n' i ≡ view w n i) → (σ : ℕ → Ty) → Fits w' n' σ → Fits w n σ
fits_old w w' n n' old σ F i h cs e = F i h cs (old i (view_made w n i h cs e) ∙ e)

pub restrict : (s s' d : List ℕ) (n n' : ℕ) → Grows s s' d n n' → (σ : ℕ → Ty) → Fits (frozen s') n' σ → Obeys s' d n' σ → Fits (frozen s) n σ × Obeys s d n σ
restrict s s' d n n' G σ F O = (fits_old (frozen s) (frozen s') n n' G.old σ F, G.before σ O)

-- EXTENSION keeps the equations between old cells solved.
pub extends_solves : (s s' d : List ℕ) (n n' : ℕ) (σ : ℕ → Ty) (E : Extension s' d n n' σ) (P₀ L : Pairs ℕ) → Solved s n P₀ L → Solves σ P₀ → Solves E.τ P₀
extends_solves s s' d n n' σ E P₀ L S = solves_same n σ E.τ E.same P₀ S.asked

pub grows_refl : (s d : List ℕ) (n : ℕ) → Grows s s d n n
grows_refl s d n = record {
  wide = omega arith;
  low = refl;
  solved = λ P₀ L S. S;
  old = λ i l. refl;
  pinned = λ P. P;
  before = λ σ O. O;
  extends = λ σ F O. record { τ = σ; same = λ i l. refl; fits = F; obeys = O };
}

pub grows_on : (s t u d : List ℕ) (n m k : ℕ) → Grows s t d n m → Grows t u d m k → Grows s u d n k
grows_on s t u d n m k G K = record {
  wide = let a = G.wide in let b = K.wide in omega arith;
  low = K.low ∙ G.low;
  solved = λ P₀ L S. K.solved P₀ L (G.solved P₀ L S);
  old = λ i l. K.old i (let a = G.wide in omega arith) ∙ G.old i l;
  pinned = λ P. K.pinned (G.pinned P);
  before = λ σ O. G.before σ (K.before σ O);
  extends = λ σ F O.
      let E = G.extends σ F O in
      let X = K.extends E.τ E.fits E.obeys in
      record { τ = X.τ; same = λ i l. X.same i (let a = G.wide in omega arith) ∙ E.same i l; fits = X.fits; obeys = X.obeys };
}

pub builds_refl : (s d : List ℕ) (n : ℕ) → Builds s s d n n
builds_refl s d n = record { grows = grows_refl s d n; shaped = λ i a b. absurd (omega arith); after = λ σ O. O }

pub builds_on : (s t u d : List ℕ) (n m k : ℕ) → Builds s t d n m → Builds t u d m k → Builds s u d n k
builds_on s t u d n m k G K = record {
  grows = grows_on s t u d n m k G.grows K.grows;
  shaped = λ i a b e. ⊎_elim (λ l. G.shaped i a l (sym (K.grows.old i l) ∙ e)) (λ l. K.shaped i l b e) (lt_or_ge i m);
  after = λ σ O. K.after σ (G.after σ O);
}

-- Uniqueness: where the new cells are formers, the old ones decide them.
module _ (w : List ℕ) (n n' : ℕ) (cells : (i : ℕ) → i < n' → Cell w i) (shaped : (i : ℕ) → n ≤ i → i < n' → view w n' i ≡ unk → ⊥) (σ τ : ℕ → Ty) (F : Fits w n' σ) (G : Fits w n' τ)
    (e : SameBelow n σ τ) where
  tag_some : (i : ℕ) → n ≤ i → i < n' → 0 < tag_at w i
  tag_some i a b = go (tag_at w i) refl
    where
      go : (t : ℕ) → tag_at w i ≡ t → 0 < tag_at w i
      go zero q = absurd (shaped i a b (view_unk w n' i b q))
      go (suc t) q = omega arith

  only_new : (i : ℕ) → i < n' → ((c : ℕ) → c < i → σ c ≡ τ c) → n ≤ i → σ i ≡ τ i
  only_new i m ih q =
      let v = view_shape w n' i m (tag_some i q m) in
      F i _ _ v ∙ ap (λ z. node (former_at w i) (from_list z)) (map_same σ τ (parts_at w i) (λ c j. ih c ((cells i m).older c j))) ∙ sym (G i _ _ v)

  only_c : (b i : ℕ) → i < b → i < n' → σ i ≡ τ i
  only_c zero i l m = absurd (omega arith)
  only_c (suc b) i l m = ⊎_elim (λ q. e i q) (only_new i m (λ c o. only_c b c (omega arith) (omega arith))) (lt_or_ge i n)

  pub only : (i : ℕ) → i < n' → σ i ≡ τ i
  only i m = only_c n' i m m

-- One cell more, n, and the type g there.
module _ (n : ℕ) (g : Ty) (σ : ℕ → Ty) where
  extended : ℕ → Ty
  extended i = elim (ltb i n) as (λ z. Ty) [ true ↦ σ i | false ↦ g ]

  extended_old : SameBelow n extended σ
  unfolding extended
  extended_old i l = rw (extended, lt-ltb i n l)

  extended_new : extended n ≡ g
  unfolding extended
  extended_new = rw (extended, le-ltb n n (let z : n ≤ n = omega arith in z))

no_shape : (h : Former) (cs : List ℕ) → ◌≡◌ {A = View ℕ} unk (shape h cs) → ⊥
no_shape h cs q = let z : ◌≡◌ {A = ℕ} 0 1 = cc in omega arith

-- The parts of a cell are older.
pub view_older : (w : List ℕ) (n i : ℕ) → Cell w i → i < n → (h : Former) (cs : List ℕ) → view w n i ≡ shape h cs → (c : ℕ) → In c cs → c < i
view_older w n i C l h cs e c j = go (tag_at w i) refl
  where
    go : (t : ℕ) → tag_at w i ≡ t → c < i
    go zero q = absurd (no_shape h cs (sym (view_unk w n i l q) ∙ e))
    go (suc t) q = C.older c (subst (In c) (shape_1 _ _ _ _ (sym e ∙ view_shape w n i l (omega arith))) j)

module _ (s s' d : List ℕ) (n : ℕ) (P₀ L : Pairs ℕ) (S : Solved s n P₀ L) (S' : Solved s' (suc n) P₀ L) (old : (i : ℕ) → i < n → view (frozen s') (suc n) i ≡ view (frozen s) n i)
    (σ : ℕ → Ty) (F : Fits (frozen s) n σ) (g : Ty) (new : (h : Former) (cs : List ℕ) → view (frozen s') (suc n) n ≡ shape h cs → g ≡ node h (from_list (map σ cs))) where
  abbrev τ : ℕ → Ty
  τ = extended n g σ

  fits_one : Fits (frozen s') (suc n) τ
  fits_one i h cs e =
      let m = view_made (frozen s') (suc n) i h cs e in
      let o = view_older (frozen s') (suc n) i (S'.held.cells i m) m h cs e in
      let q = ap (λ z. node h (from_list z)) (sym (map_same τ σ cs (λ c j. extended_old n g σ c (let z = o c j in omega arith)))) in
      ⊎_elim
      (λ x. ap τ x ∙ extended_new n g σ ∙ new h cs (subst (λ z. view (frozen s') (suc n) z ≡ shape h cs) x e) ∙ q)
      (λ x. extended_old n g σ i x ∙ F i h cs (sym (old i x) ∙ e) ∙ q)
      (eq-or-lt_of_le (let z : i ≤ n = omega arith in z))

  one_more : Obeys s' d (suc n) τ → Extension s' d n (suc n) σ
  one_more O = record { τ = τ; same = extended_old n g σ; fits = fits_one; obeys = O }

-- A new cell.
module _ (s s' d : List ℕ) (n t a f c : ℕ) (M : Making s n t a f c) (N : Made s s' n t a f c) where
  abbrev size : length s ≡ area_size
  size = M.solved.held.size

  abbrev v : View ℕ
  v = view (frozen s') (suc n) n

  low_m : lower s' ≡ lower s
  low_m = ap lower N.words ∙ made_low s d n t a f c size M.few

  pinned_m : Pinned s d n → Pinned s' d (suc n)
  pinned_m P = subst (λ z. Pinned z d (suc n)) (sym N.words) (made_pinned s d n t a f c size M.few P)

  before_m : (σ : ℕ → Ty) → Obeys s' d (suc n) σ → Obeys s d n σ
  before_m σ O = made_before s d n t a f c size M.few σ (subst (λ z. Obeys z d (suc n) σ) N.words O)

  after_m : (σ : ℕ → Ty) → Obeys s d n σ → Obeys s' d (suc n) σ
  after_m σ O = subst (λ z. Obeys z d (suc n) σ) (sym N.words) (made_after s d n t a f c size M.few σ O)

  -- The type of the new cell: what its parts make, and g where it is an unknown.
  extend_c : (g : Ty) (σ : ℕ → Ty) → Fits (frozen s) n σ → Obeys s d n σ → Extension s' d n (suc n) σ
  unfolding type_of_view
  extend_c g σ F O =
      let y = type_of_view σ g v in
      one_more s s' d n M.P₀ M.L M.solved (N.grown M.P₀ M.L M.solved) N.old σ F y
      (λ h cs e. ap (type_of_view σ g) e) (after_m (extended n y σ) (obeys_same s d n σ (extended n y σ) (extended_old n y σ) O))

  pub made_grows : Grows s s' d n (suc n)
  made_grows = record {
    wide = omega arith;
    low = low_m;
    solved = N.grown;
    old = N.old;
    pinned = pinned_m;
    before = before_m;
    extends = extend_c (node int tnil);
  }

  view_new : 0 < t → v ≡ shape (former_of t a (run (frozen s) a c)) (run (frozen s) f c)
  unfolding view_of
  view_new p = N.new ∙ go t p
    where
      go : (u : ℕ) → 0 < u → view_of u (former_of t a (run (frozen s) a c)) (run (frozen s) f c) ≡ shape (former_of t a (run (frozen s) a c)) (run (frozen s) f c)
      go zero q = absurd (omega arith)
      go (suc u) q = refl

  -- A former: its type is what its parts make.
  pub former_type : 0 < t → (σ : ℕ → Ty) → Fits (frozen s') (suc n) σ → σ n ≡ node (former_of t a (run (frozen s) a c)) (from_list (map σ (run (frozen s) f c)))
  former_type p σ F = F n _ _ (view_new p)

  pub former_builds : 0 < t → Builds s s' d n (suc n)
  former_builds p = record {
    grows = made_grows;
    shaped = λ i l m e. let z : n ≡ i = omega arith in no_shape _ _ (sym e ∙ ap (view (frozen s') (suc n)) (sym z) ∙ view_new p);
    after = after_m;
  }

  -- An unknown: any type.
  pub extend_unknown : t ≡ 0 → (g : Ty) (σ : ℕ → Ty) → Fits (frozen s) n σ → Obeys s d n σ → (E : Extension s' d n (suc n) σ) × (E.τ n ≡ g)
  unfolding view_of type_of_view extend_c one_more
  extend_unknown e g σ F O = (extend_c g σ F O, extended_new n (type_of_view σ g v) σ ∙ at_unk)
    where
      at_unk : type_of_view σ g v ≡ g
      at_unk = ap (type_of_view σ g) (N.new ∙ ap (λ u. view_of u (former_of t a (run (frozen s) a c)) (run (frozen s) f c)) e)

-- A settled type: that type.
module _ (s s' d : List ℕ) (n p : ℕ) (E : Entering s d n p) (N : Entered s s' d n p) where
  abbrev y : Ty
  y = E.readable.type

  extend_s : (σ : ℕ → Ty) → Fits (frozen s) n σ → Obeys s d n σ → Extension s' d n (suc n) σ
  extend_s σ F O =
      one_more s s' d n E.making.P₀ E.making.L E.making.solved (N.grown E.making.P₀ E.making.L E.making.solved) N.old σ F y
      (λ h cs e. absurd (no_shape h cs (sym N.new ∙ e)))
      (N.after y E.readable.reads (extended n y σ) (obeys_same s d n σ (extended n y σ) (extended_old n y σ) O) (extended_new n y σ))

  pub entered_grows : Grows s s' d n (suc n)
  entered_grows = record {
    wide = omega arith;
    low = N.low;
    solved = N.grown;
    old = N.old;
    pinned = N.pinned;
    before = N.before;
    extends = extend_s;
  }

-- A word more in the runs: the same assignments.
module _ (s s' d : List ℕ) (n top x : ℕ) (A : Adding s n top) (N : Added s s' n top x) where
  few_n : n ≤ max_cells
  few_n = A.solved.held.few

  low_a : lower s' ≡ lower s
  unfolding lower
  low_a = ap lower N.words ∙ take-set-le pool_size s (records_at + top) x (omega arith)

  word_a : (i : ℕ) → i < n → word_at s' i ≡ word_at s i
  unfolding word_at
  word_a i l = ap (λ z. get_or z (links_at + i) 0) N.words ∙ get_or-set_other s (records_at + top) (links_at + i) x 0 (λ e. let z = few_n in omega arith)

  heap_a : heap s' d ≡ heap s d
  heap_a = heap_kept s s' d low_a

  tag_a : (i : ℕ) → i < n → tag_at (frozen s') i ≡ tag_at (frozen s) i
  tag_a i l = ap (λ z. tag_at (frozen z) i) N.words ∙ fields_same s n top x A i 0 l (omega arith)

  added_pinned : Pinned s d n → Pinned s' d n
  added_pinned P = record {
    reads = λ i l v. let e = word_a i l in
        subst (λ z. Readable z (word_at s' i - settled_from)) (sym heap_a) (subst (λ z. Readable (heap s d) (z - settled_from)) (sym e) (P.reads i l (omega arith)));
    bare = λ i l v. let e = word_a i l in tag_a i l ∙ P.bare i l (omega arith);
  }

  added_before : (σ : ℕ → Ty) → Obeys s' d n σ → Obeys s d n σ
  added_before σ O i l v g R =
      let e = word_a i l in O i l (omega arith) g (subst (λ z. Reads z (word_at s' i - settled_from) g) (sym heap_a) (subst (λ z. Reads (heap s d) (z - settled_from) g) (sym e) R))

  added_after : (σ : ℕ → Ty) → Obeys s d n σ → Obeys s' d n σ
  added_after σ O i l v g R =
      let e = word_a i l in O i l (omega arith) g (subst (λ z. Reads (heap s d) (z - settled_from) g) e (subst (λ z. Reads z (word_at s' i - settled_from) g) heap_a R))

  pub added_builds : Builds s s' d n n
  added_builds = record {
    grows = record {
      wide = omega arith;
      low = low_a;
      solved = N.grown;
      old = N.old;
      pinned = added_pinned;
      before = added_before;
      extends = λ σ F O. record { τ = σ; same = λ i l. refl; fits = fits_old (frozen s') (frozen s) n n (λ i l. sym (N.old i l)) σ F; obeys = added_after σ O };
    };
    shaped = λ i a b. absurd (omega arith);
    after = added_after;
  }

  pub added_load : load (frozen s') n ≡ load (frozen s) n
  added_load = ap (λ z. load (frozen z) n) N.words ∙ load_same (frozen s) (frozen (set s (records_at + top) x)) n (λ i l. fields_same s n top x A i 3 l (omega arith))

  -- The other words of the runs, and where the runs of the cells end.
  pub added_other : (q : ℕ) → (q ≡ top → ⊥) → get_or (frozen s') q 0 ≡ get_or (frozen s) q 0
  added_other q e = ap (λ z. get_or (frozen z) q 0) N.words ∙ word_other s n top x A q e

  pub added_here : get_or (frozen s') top 0 ≡ x
  added_here = ap (λ z. get_or (frozen z) top 0) N.words ∙ frozen_at (set s (records_at + top) x) top ∙ get_or-set_same s (records_at + top) x 0 (let z = A.solved.held.size in let r = A.room in omega arith)

  pub added_above : (bound : ℕ) → Above (frozen s) n bound → Above (frozen s') n bound
  added_above bound B = record {
    low = B.low;
    parts = λ i l. let z = B.parts i l in let e = field i 2 l (omega arith) in let k = field i 3 l (omega arith) in omega arith;
    names = λ i l q. let z = B.names i l (sym (tag_a i l) ∙ q) in let e = field i 1 l (omega arith) in let k = field i 3 l (omega arith) in omega arith;
  }
    where
      field : (i j : ℕ) → i < n → j < 4 → field_at (frozen s') i j ≡ field_at (frozen s) i j
      field i j l m = ap (λ z. field_at (frozen z) i j) N.words ∙ fields_same s n top x A i j l m

pub above_wide : (w : List ℕ) (n top top' : ℕ) → Above w n top → top ≤ top' → Above w n top'
above_wide w n top top' B l = record {
  low = let z = B.low in omega arith;
  parts = λ i m. let z = B.parts i m in omega arith;
  names = λ i m q. let z = B.names i m q in omega arith;
}
