-- The frozen part, link words and runs.
use mathlib.Core.Path.{◌≡◌, refl, sym, ap, ◌∙◌}
use mathlib.Core.List.{List, [], ◌∷◌}
use mathlib.Core.Logic.{inl, inr}
use Prim.Native.Nat.{ℕ, zero, suc, ◌+◌, ◌≤◌, ◌<◌}
use native.Mathlib.Omega.{arith}
use lib.ListN.{length, get_or, take, drop, set, length-take, length-drop}
use lib.Seq.{get_or-take, get_or-drop, drop-cons, drop-set-lt}
use borrow.Author.Tests.{lt-ltb, le-ltb}
use Rattle.types_rules.specs.Equations.{In}
use Rattle.types_cells.specs.Layout.{links_at, records_at, settled_from, frozen_size, area_size}
use Rattle.types_cells.specs.Store.{frozen, link_part, link_at, run}

pub frozen_length : (s : List ℕ) → length s ≡ area_size → length (frozen s) ≡ frozen_size
unfolding frozen
frozen_length s e = simp length-drop (omega arith)

pub frozen_set : (s : List ℕ) (i v : ℕ) → i < records_at → frozen (set s i v) ≡ frozen s
unfolding frozen
frozen_set s i v l = drop-set-lt records_at s i v l

-- A link word.
pub link_part_lem : (v : ℕ) → v < settled_from → link_part v ≡ v
unfolding link_part
link_part_lem v l = rw (link_part, lt-ltb v settled_from l)

pub link_none : (v : ℕ) → settled_from ≤ v → link_part v ≡ 0
unfolding link_part
link_none v l = rw (link_part, le-ltb v settled_from l)

pub link_same : (s t : List ℕ) (i j : ℕ) → get_or t (links_at + j) 0 ≡ get_or s (links_at + i) 0 → link_at t j ≡ link_at s i
unfolding link_at
link_same s t i j e = ap link_part e

pub link_new : (s : List ℕ) (i v : ℕ) → v < settled_from → get_or s (links_at + i) 0 ≡ v → link_at s i ≡ v
unfolding link_at
link_new s i v l e = ap link_part e ∙ link_part_lem v l

pub run_at : (w : List ℕ) (at k i : ℕ) → i < k → get_or (run w at k) i 0 ≡ get_or w (at + i) 0
unfolding run
run_at w at k i l = get_or-take k (drop at w) i 0 l ∙ get_or-drop at w i 0

pub run_length : (w : List ℕ) (at k : ℕ) → at + k ≤ length w → length (run w at k) ≡ k
unfolding run
run_length w at k l = simp (length-take, length-drop) (omega arith)

pub run_cons : (w : List ℕ) (at k : ℕ) → at < length w → run w at (suc k) ≡ get_or w at 0 ∷ run w (suc at) k
unfolding run
run_cons w at k l = ap (take (suc k)) (drop-cons w at 0 l)

pub get_d_in : (l : List ℕ) (j : ℕ) → j < length l → In (get_or l j 0) l
get_d_in [] j q = absurd (omega arith)
get_d_in (x ∷ l) zero q = inl refl
get_d_in (x ∷ l) (suc j) q = inr (get_d_in l j (omega arith))

pub in_get_d : (x : ℕ) (l : List ℕ) → In x l → (j : ℕ) × (j < length l) × (get_or l j 0 ≡ x)
in_get_d x [] i = absurd i
in_get_d x (y ∷ l) (inl e) = (0, omega arith, sym e)
in_get_d x (y ∷ l) (inr i) = let w = in_get_d x l i in (suc w.0, (let q = w.1 in omega arith), w.2)
