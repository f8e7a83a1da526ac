-- From one part of the tree to the next, between pieces.
use mathlib.Core.Path.{◌≡◌, sym, subst, ◌∙◌}
use mathlib.Core.List.{List, [], ◌∷◌, ◌++◌}
use Prim.Native.Nat.{ℕ, ◌+◌, ◌≤◌}
use native.Mathlib.Omega.{arith}
use lib.ListN.{length, length-append}
use Rattle.types_rules.specs.Types.{Term}
use Rattle.checker_rules.specs.Dictionary.{Dictionary}
use Rattle.checker_rules.specs.Items.{Items, ◌⨾◌}
use Rattle.checker_rules.specs.Scopes.{Scope}
use Rattle.types_cells.specs.Settled.{lower, Reads}
use Rattle.types_cells.proofs.SettlingLaws.{heap_kept}
use Rattle.checker_signatures.specs.Rows.{stack}
use Rattle.checker_signatures.proofs.ScopeLaws.{stacked_other}
use Rattle.types_instances.proofs.CleanLaws.{clean_lower}
use Rattle.checker_pieces.specs.Piece.{Steady, Walked}
use Rattle.checker_pieces.specs.Stage.{Ghost}
use Rattle.checker_pieces.proofs.Between.{walked_then, walked_mine}
use Rattle.checker_lookup.specs.Scoped.{SettledAt, Scoped}
use Rattle.checker_contracts.specs.Predicates.{Walking}
use Rattle.checker_contracts.specs.Visits.{Owned, idle, Spared, Went}
use Rattle.checker_contracts.proofs.Nodes.{fresh_left, fresh_after, once_left, once_right, owned_left, owned_right}
use Rattle.checker_contracts.proofs.Rooms.{between_part, crowd_part}
use Rattle.checker_contracts.proofs.Scopes.{scoped_spared, scoped_walked}

-- The pool is as it was: the scope stands.
pub scoped_low : (s s' d w : List ℕ) (n : ℕ) (G : Ghost) (Γ : Scope) (D : Dictionary) → lower s' ≡ lower s → Scoped s d w n G Γ D → Scoped s' d w n G Γ D
scoped_low s s' d w n G Γ D e C = record {
  stacked = stacked_other (SettledAt s d G) (SettledAt s' d G) D settled Γ (stack w 0 n) C.stacked;
  recorded = C.recorded;
}
  where
    settled : (t : Term) (p : ℕ) → SettledAt s d G t p → SettledAt s' d G t p
    settled t p T = record { over = T.over; type = T.type; reads = subst (λ z. Reads z p T.type) (sym (heap_kept s s' d e)) T.reads; means = T.means }

-- Items passed, in the pool nothing stays, and the work area was spared.
pub scoped_after : (s s' d w w' : List ℕ) (n free : ℕ) (Γ : Scope) (D : Dictionary) (H c : Items) (U U' : List ℕ) (M : ℕ → Type 0) → Walked H c U U' M → lower s' ≡ lower s →
    Spared w w' n free → Scoped s d w n (idle H U) Γ D → Scoped s' d w' n (idle (H ⨾ c) U') Γ D
scoped_after s s' d w w' n free Γ D H c U U' M W e P C =
    scoped_low s s' d w' n (idle (H ⨾ c) U') Γ D e
    (scoped_spared s d w w' n free (idle (H ⨾ c) U') Γ D P (scoped_walked s d w n Γ D H c U U' M W C))

-- The first part, on a shorter path.
unfoldable pub walking_first : (s d w : List ℕ) (rows at free h h' : ℕ) (l m : List ℕ) → h' ≤ h → Walking s d w rows at free h (l ++ m) → Walking s d w rows at free h' l
walking_first s d w rows at free h h' l m p K =
    let B = K.room in
    let n = length-append l m in
    let o = B.some in
    let f = B.low in
    record {
      before = K.before;
      known = K.known;
      steady = K.steady;
      scope = K.scope;
      dictionary = K.dictionary;
      scoped = K.scoped;
      fresh = fresh_left l m K.known K.fresh;
      once = once_left l m K.once;
      size = K.size;
      few = K.few;
      clean = K.clean;
      bound = K.bound;
      crowd = crowd_part K.bound (l ++ m) l K.crowd (omega arith);
      room = between_part w w rows rows at at free free h h' K.bound K.bound B (omega arith) p (omega arith) o f (omega arith) (omega arith) (omega arith);
    }

-- The second, after the items c of the first.
pub walking_second : (s s' d w w' : List ℕ) (rows at free h : ℕ) (l m : List ℕ) (K : Walking s d w rows at free h (l ++ m)) (c : Items) (U' : List ℕ) →
    Walked K.before c K.known U' (Owned l) → length s' ≡ length s → lower s' ≡ lower s → Spared w w' rows free → Walking s' d w' rows at free h m
walking_second s s' d w w' rows at free h l m K c U' W z e P =
    let B = K.room in
    let n = length-append l m in
    let o = B.some in
    let f = B.low in
    record {
      before = K.before ⨾ c;
      known = U';
      steady = W.steady;
      scope = K.scope;
      dictionary = K.dictionary;
      scoped = scoped_after s s' d w w' rows free K.scope K.dictionary K.before c K.known U' (Owned l) W e P K.scoped;
      fresh = fresh_after l m K.known U' K.once K.fresh W.new;
      once = once_right l m K.once;
      size = z ∙ K.size;
      few = K.few;
      clean = clean_lower s s' at K.clean e;
      bound = K.bound;
      crowd = crowd_part K.bound (l ++ m) m K.crowd (omega arith);
      room = between_part w w' rows rows at at free free h h K.bound K.bound B P.size (omega arith) (omega arith) o f (omega arith) (omega arith) (omega arith);
    }

-- What went is among more nodes, ..
pub went_wider : (H c : Items) (U l m : List ℕ) → ((x : ℕ) → Owned l x → Owned m x) → Went H c U l → Went H c U m
went_wider H c U l m f W = record { unknowns = W.unknowns; walked = walked_mine H c U W.unknowns (Owned l) (Owned m) f W.walked }

-- .. and the second part may go after the first, both below a node k.
pub went_then : (H a b : Items) (U l m : List ℕ) (k : ℕ) → Steady H U → (A : Went H a U l) → Went (H ⨾ a) b A.unknowns m → Went H (a ⨾ b) U ((l ++ m) ++ (k ∷ []))
unfolding went_wider
went_then H a b U l m k S A B =
    let N = (l ++ m) ++ (k ∷ []) in
    let X = went_wider H a U l N (λ x o. owned_left (l ++ m) (k ∷ []) x (owned_left l m x o)) A in
    let Y = went_wider (H ⨾ a) b A.unknowns m N (λ x o. owned_left (l ++ m) (k ∷ []) x (owned_right l m x o)) B in
    record { unknowns = B.unknowns; walked = walked_then H a b U A.unknowns B.unknowns (Owned N) S X.walked Y.walked }
