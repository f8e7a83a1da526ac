-- Nodes of a piece visited one part after another: what is asked at a part, and after it at the next.
use mathlib.Core.Path.{◌≡◌, subst, ◌∙◌}
use mathlib.Core.List.{List, ◌++◌}
use Prim.Native.Nat.{ℕ, ◌+◌, ◌*◌, ◌≤◌, ◌<◌}
use native.Mathlib.Omega.{arith}
use lib.ListN.{length, length-append}
use Rattle.checker_rules.specs.Dictionary.{Dictionary}
use Rattle.checker_rules.specs.Items.{Items}
use Rattle.checker_rules.specs.Scopes.{Scope}
use Rattle.types_instances.specs.Clean.{Clean}
use Rattle.checker_pieces.specs.Stage.{Ghost, Advanced, node_cells}
use Rattle.checker_pieces.proofs.Stages.{next, next_stands, room_less, uses_on}
use Rattle.checker_lookup.specs.Scoped.{Scoped}
use Rattle.checker_includes.specs.Storing.{Stored}
use Rattle.checker_contracts.specs.Visits.{Owned, Spared}
use Rattle.checker_contracts.specs.Room.{Inside}
use Rattle.checker_contracts.specs.Expressions.{Visiting, Visited}
use Rattle.checker_contracts.proofs.Nodes.{fresh_left, fresh_after, once_left, once_right}
use Rattle.checker_contracts.proofs.Rooms.{inside_part, inside_next}
use Rattle.checker_contracts.proofs.Scopes.{scoped_stored, scoped_spared, scoped_later, stored_on}
use Rattle.types_cells.specs.Layout.{area_size, pool_size}

-- The first part.
pub visiting_part : (s d w : List ℕ) (rows n top at free h h' : ℕ) (l m : List ℕ) → Visiting s d w rows n top at free h (l ++ m) → h' ≤ h → Visiting s d w rows n top at free h' l
visiting_part s d w rows n top at free h h' l m K p = record {
  ghost = K.ghost;
  stands = K.stands;
  scope = K.scope;
  dictionary = K.dictionary;
  scoped = K.scoped;
  fresh = fresh_left l m K.ghost.mentioned K.fresh;
  once = once_left l m K.once;
  size = K.size;
  clean = K.clean;
  room = inside_part s w rows n top at free h h' (length l) (length (l ++ m)) K.room p (let e = length-append l m in omega arith);
}

-- The pool has room.
pub visiting_low : (s d w : List ℕ) (rows n top at free h : ℕ) (l : List ℕ) → Visiting s d w rows n top at free h l → at < pool_size
visiting_low s d w rows n top at free h l K = let p = K.room.pool in omega arith

-- The scope of a piece with items more, in the areas after them.
module _ (s s' d w w' : List ℕ) (rows n top n' top' at at' free : ℕ) (size : length s ≡ area_size) (clean : Clean s at) (some : 1 ≤ at) (room : at < pool_size)
    (X : Stored s s' at at') (W : Spared w w' rows free) (G : Ghost) (own : Items) (M : ℕ → Type 0) (A : Advanced s s' d n top n' top' G own M) where
  pub scoped_visited : (Γ : Scope) (D : Dictionary) → Scoped s d w rows G Γ D → Scoped s' d w' rows (next s s' d n top n' top' G own M A) Γ D
  scoped_visited Γ D C =
      scoped_later s' d w' rows Γ D G (next s s' d n top n' top' G own M A) A.wider A.later.items
      (scoped_spared s' d w w' rows free G Γ D W (scoped_stored s s' d at at' size clean some room X w rows G Γ D C))

-- The second part.
module _ (s s' d w w' : List ℕ) (rows n top n' top' at at' free h : ℕ) (l m : List ℕ) (K : Visiting s d w rows n top at free h (l ++ m)) (X : Visited s s' n top n' top' at at' l)
    (W : Spared w w' rows free) (own : Items) (A : Advanced s s' d n top n' top' K.ghost own (Owned l)) where
  unfoldable pub visiting_next : Visiting s' d w' rows n' top' at' free h m
  visiting_next = record {
    ghost = next s s' d n top n' top' K.ghost own (Owned l) A;
    stands = next_stands s s' d n top n' top' K.ghost own (Owned l) A K.stands.few;
    scope = K.scope;
    dictionary = K.dictionary;
    scoped = scoped_visited s s' d w w' rows n top n' top' at at' free K.size K.clean K.room.some (visiting_low s d w rows n top at free h (l ++ m) K) X.stored W K.ghost own (Owned l) A K.scope K.dictionary K.scoped;
    fresh = fresh_after l m K.ghost.mentioned A.mentioned K.once K.fresh A.new;
    once = once_right l m K.once;
    size = X.stored.size ∙ K.size;
    clean = X.stored.after;
    room = inside_next s s' w w' rows n top n' top' at at' free h (length l) (length m) (subst (Inside s w rows n top at free h) (length-append l m) K.room) X.uses X.stored.more X.short W.size;
  }

-- One after another.
pub visited_on : (s s' s'' : List ℕ) (n top n' top' n'' top'' at at' at'' : ℕ) (l m : List ℕ) → Visited s s' n top n' top' at at' l → Visited s' s'' n' top' n'' top'' at' at'' m →
    Visited s s'' n top n'' top'' at at'' (l ++ m)
visited_on s s' s'' n top n' top' n'' top'' at at' at'' l m A B =
    let e = length-append l m in
    let x = A.short in
    let y = B.short in
    record {
      stored = stored_on s s' s'' at at' at'' A.stored B.stored;
      short = omega arith;
      uses = λ z R. uses_on s s' s'' n n' n'' top top' top'' (node_cells * length l) (node_cells * length m) A.uses B.uses z (room_less s n top (node_cells * length l + node_cells * length m + z) (node_cells * length (l ++ m) + z) (omega arith) R);
    }
