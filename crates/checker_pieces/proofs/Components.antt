-- SELECT as a step of a piece; and steps after calls that change the store but no item: the test for finite types, a settled cell.
use mathlib.Core.Path.{◌≡◌, refl, sym, subst}
use mathlib.Core.List.{List, ◌∷◌}
use mathlib.Core.Logic.{inl, inr, ⊎_elim}
use mathlib.Core.Option.{some, none}
use Prim.Native.Nat.{ℕ, suc, ◌+◌, ◌*◌, ◌≤◌, ◌<◌}
use native.Mathlib.Omega.{arith}
use Rattle.types_rules.specs.Component.{component_type}
use Rattle.types_rules.specs.Equations.{In, pair}
use Rattle.types_rules.specs.Types.{Ty, Term}
use Rattle.checker_rules.specs.Items.{Items, ◌⨾◌, fresh, select}
use Rattle.checker_rules.specs.Unknowns.{slot}
use Rattle.types_cells.specs.Layout.{max_pending}
use Rattle.types_cells.specs.Store.{frozen, load}
use Rattle.checker_pieces.specs.Piece.{Solution, Stops, Later}
use Rattle.checker_pieces.specs.Stage.{Ghost, Stands, Room, Cell, Unvisited, SlotOf, Advanced}
use Rattle.checker_pieces.specs.Building.{Introduced}
use Rattle.checker_pieces.proofs.Naming.{selected, selected_goes, selected_later, not_selected}
use Rattle.checker_pieces.proofs.Walks.{denotes_later, later_on}

-- The same piece G in another store.
module _ (s u d : List ℕ) (n m : ℕ) (wide : n ≤ m) (G : Ghost) (F : Later s u d n m G.equations G.equations G.before G.items G.items G.cells G.cells) where
  pub cell_moved : (c : ℕ) (a : Term) → Cell s d n G c a → Cell u d m G c a
  cell_moved c a K = record {
    made = let l = K.made in omega arith;
    denotes = denotes_later s u d n m G.equations G.equations G.before G.items G.items G.cells G.cells F c a K.denotes;
    over = K.over;
  }

  module _ (s' : List ℕ) (top top₁ n' top' : ℕ) (own : Items) (Mine : ℕ → Type 0) where
    unfoldable pub advanced_moved : Advanced u s' d m top₁ n' top' G own Mine → Advanced s s' d n top n' top' G own Mine
    advanced_moved A = record {
      equations = A.equations;
      mentioned = A.mentioned;
      cells = A.cells;
      wide = let w = A.wide in omega arith;
      goes = A.goes;
      piece = A.piece;
      above = A.above;
      later = later_on s u s' d n m n' G.equations G.equations A.equations G.before G.items G.items (G.items ⨾ own) G.cells G.cells A.cells F A.later;
      wider = A.wider;
      new = A.new;
    }

    pub introduced_moved : (x c : ℕ) → Introduced u s' d m top₁ n' top' G own Mine x c → Introduced s s' d n top n' top' G own Mine x c
    unfolding advanced_moved
    introduced_moved x c I = record { advanced = advanced_moved I.advanced; placed = I.placed }

-- The component id of cell i, at node k.
module _ (s d : List ℕ) (n top : ℕ) (G : Ghost) (S : Stands s d n top G) (k : ℕ) (new : Unvisited k G) (i id : ℕ) (a : Term) (K : Cell s d n G i a) where
  abbrev x : ℕ
  x = slot k 0

  unseen : In x G.mentioned → ⊥
  unseen = new 0 (omega arith)

  -- it has the type of cell c
  pub introduced_selected : (c : ℕ) → c < n → ((σ : ℕ → Ty) → Solution s d n G.equations σ → component_type id (σ i) ≡ some (σ c)) →
      Introduced s s d n top n top G (fresh x ⨾ select k id a x) (SlotOf k) x c
  introduced_selected c l is = record {
    advanced = record {
      equations = G.equations;
      mentioned = x ∷ G.mentioned;
      cells = pair x c G.cells;
      wide = omega arith;
      goes = selected_goes s d n G.equations G.before G.items G.known G.mentioned G.cells S.piece x unseen i id K.made a K.denotes K.over k c l is;
      piece = selected s d n G.equations G.before G.items G.known G.mentioned G.cells S.piece x unseen i id K.made a K.denotes K.over k c l is;
      above = S.above;
      later = selected_later s d n G.equations G.before G.items G.known G.mentioned G.cells S.piece x unseen i id K.made a K.denotes K.over k c l is;
      wider = λ y j. inr j;
      new = λ y j. ⊎_elim (λ e. inr (0, omega arith, e)) inl j;
    };
    placed = inl (refl, refl);
  }

  -- 35
  pub selected_stops : (σ : ℕ → Ty) → Solution s d n G.equations σ → component_type id (σ i) ≡ none → Stops G.before G.items (fresh x ⨾ select k id a x) 35 k
  selected_stops σ Z e =
      not_selected s d n G.equations G.before G.items G.known G.mentioned G.cells S.piece x unseen i id K.made a K.denotes K.over k σ Z e

-- Room: solving takes none, a settled cell one cell's.
pub room_still : (s s' : List ℕ) (n top x : ℕ) → frozen s' ≡ frozen s → Room s n top x → Room s' n top x
room_still s s' n top x e R = record { cells = R.cells; words = R.words; fit = subst (λ w. load w n + 2 * x < max_pending) (sym e) R.fit }

pub room_settled : (s s' : List ℕ) (n top y : ℕ) → load (frozen s') (suc n) ≡ load (frozen s) n + 1 → Room s n top (1 + y) → Room s' (suc n) top y
room_settled s s' n top y e R = let a = R.cells in let b = R.words in let c = R.fit in record { cells = omega arith; words = omega arith; fit = omega arith }
