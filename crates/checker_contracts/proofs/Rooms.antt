-- Room, from node to node.
use mathlib.Core.Path.{◌≡◌}
use mathlib.Core.List.{List}
use mathlib.Core.Logic.{inl, inr, ⊎_elim}
use Prim.Native.Nat.{ℕ, suc, ◌+◌, ◌*◌, ◌-◌, ◌≤◌}
use native.Mathlib.Omega.{arith}
use lib.ListN.{length}
use Rattle.types_cells.specs.Layout.{first_run}
use Rattle.types_cells.specs.Store.{load}
use Rattle.checker_pieces.specs.Stage.{Room, Uses, node_cells}
use Rattle.checker_pieces.proofs.Stages.{room_less}
use Rattle.checker_contracts.specs.Room.{Between, Crowd, Inside, frames_at, frames_end, frame_words, path_type_words, node_type_words}

-- INSIDE A PIECE: fewer nodes, on a shorter path.
pub inside_part : (s w : List ℕ) (rows n top at free h h' x y : ℕ) → Inside s w rows n top at free h y → h' ≤ h → x ≤ y → Inside s w rows n top at free h' x
inside_part s w rows n top at free h h' x y I p q =
    let e = I.enough in
    let a = I.stack in
    let b = I.frames in
    let c = I.pool in
    record {
      visited = I.visited;
      left = I.left;
      enough = omega arith;
      few = I.few;
      wide = I.wide;
      stack = omega arith;
      low = I.low;
      frames = omega arith;
      some = I.some;
      pool = omega arith;
      store = I.store;
    }

-- After x nodes.
pub inside_next : (s s' w w' : List ℕ) (rows n top n' top' at at' free h x y : ℕ) → Inside s w rows n top at free h (x + y) → Uses s s' n top n' top' (node_cells * x) →
    at ≤ at' → at' ≤ at + node_type_words * x → length w' ≡ length w → Inside s' w' rows n' top' at' free h y
inside_next s s' w w' rows n top n' top' at at' free h x y I U p q r =
    let e = I.enough in
    let f = I.few in
    let v = I.wide in
    let b = I.frames in
    let o = I.some in
    let c = I.pool in
    record {
      visited = I.visited + x;
      left = I.left - x;
      enough = omega arith;
      few = omega arith;
      wide = omega arith;
      stack = I.stack;
      low = I.low;
      frames = omega arith;
      some = omega arith;
      pool = omega arith;
      store = U (node_cells * (24 - (I.visited + x)) + node_cells) (room_less s n top (node_cells * x + (node_cells * (24 - (I.visited + x)) + node_cells)) (node_cells * (24 - I.visited) + node_cells) (omega arith) I.store);
    }

-- With more rows in the scope, as many as a node of the path may bring.
pub inside_rows : (s w : List ℕ) (rows m n top at free h x : ℕ) → Inside s w rows n top at free (suc h) x → m ≤ 16 → Inside s w (rows + m) n top at free h x
inside_rows s w rows m n top at free h x I p =
    let a = I.stack in
    let b = I.frames in
    let c = I.pool in
    record {
      visited = I.visited;
      left = I.left;
      enough = I.enough;
      few = I.few;
      wide = I.wide;
      stack = omega arith;
      low = I.low;
      frames = omega arith;
      some = I.some;
      pool = omega arith;
      store = I.store;
    }

-- The rule of one node has room for 40 cells, and more.
pub inside_room : (s w : List ℕ) (rows n top at free h y r : ℕ) → Inside s w rows n top at free h (suc y) → r ≤ 2 * node_cells → Room s n top r
inside_room s w rows n top at free h y r I p =
    let e = I.enough in
    let f = I.few in
    room_less s n top r (node_cells * (24 - I.visited) + node_cells) (omega arith) I.store

-- BETWEEN PIECES: fewer nodes, on a shorter path, with rows of the scope, words of the frames and of the pool that were used since.
pub between_part : (w w' : List ℕ) (rows rows' at at' free free' h h' b b' : ℕ) → Between w rows at free h b → length w' ≡ length w → h' ≤ h → b' ≤ b → 1 ≤ at' →
    frames_at ≤ free' → rows' + 16 * h' ≤ rows + 16 * h → at' + path_type_words * h' ≤ at + path_type_words * h → free' + frame_words * h' ≤ free + frame_words * h → Between w' rows' at' free' h' b'
between_part w w' rows rows' at at' free free' h h' b b' B e p q o l x y z =
    let a = B.wide in
    let c = B.stack in
    let f = B.frames in
    let g = B.pool in
    let k = B.few in
    record { wide = omega arith; stack = omega arith; low = l; frames = omega arith; some = o; pool = omega arith; few = omega arith }

-- A PIECE BEGINS, in a store without cells.
pub begin_inside : (s w : List ℕ) (rows at free h b nodes : ℕ) → Between w rows at free h b → nodes ≤ b → Inside s w rows 0 first_run at free h nodes
unfolding load
begin_inside s w rows at free h b nodes B q =
    let f = B.few in
    let g = B.frames in
    record {
      visited = 0;
      left = b;
      enough = q;
      few = omega arith;
      wide = B.wide;
      stack = B.stack;
      low = B.low;
      frames = omega arith;
      some = B.some;
      pool = B.pool;
      store = record { cells = omega arith; words = omega arith; fit = omega arith };
    }

-- A PIECE IS SUSPENDED at a node with x nodes below: its store is saved at `free`, and pieces of at most b nodes may come.
pub suspended_room : (s w : List ℕ) (rows n top at free h x : ℕ) → first_run ≤ top → Inside s w rows n top at free (suc h) (suc x) →
    (b : ℕ) × (x ≤ b) × Between w rows at (free + (5 * n + (top - first_run))) h b
suspended_room s w rows n top at free h x t I =
    let e = I.enough in
    let f = I.few in
    let a = I.stack in
    let l = I.low in
    let b = I.frames in
    let c = I.pool in
    let u = I.store.cells in
    let v = I.store.words in
    (I.left - 1, omega arith, record { wide = I.wide; stack = omega arith; low = omega arith; frames = omega arith; some = I.some; pool = omega arith; few = omega arith })

-- CROWDS of parts.
pub crowd_part : (b : ℕ) (l m : List ℕ) → Crowd b l → length m ≤ length l → Crowd b m
crowd_part b l m C p = ⊎_elim inl (λ (z : length l ≤ b). inr (omega arith)) C
