-- A piece that stands, step by step: cells are built, items come one after another, and the cells that denoted a term still do.
use mathlib.Core.Path.{◌≡◌, refl, sym, ap, ap₂, subst, ◌∙◌}
use mathlib.Core.List.{List, [], ◌∷◌, map}
use mathlib.Core.Logic.{inl, inr, ⊎_elim}
use Prim.Native.Nat.{ℕ, suc, ◌+◌, ◌*◌, ◌≤◌, ◌<◌, ◌^◌}
use native.Mathlib.Omega.{arith}
use lib.ListN.{length}
use Rattle.types_rules.proofs.Terms.{each_map}
use Rattle.types_rules.specs.Equations.{In, InP, Pairs, end, pair}
use Rattle.types_rules.specs.Finite.{from_list}
use Rattle.types_rules.specs.Former.{Former}
use Rattle.types_rules.specs.Types.{Ty, node, tcons, Term, Terms, unknown, con, nil, cons, under, unders, Each, Eachs}
use Rattle.checker_rules.specs.Unknowns.{Valuation, slot}
use Rattle.checker_rules.specs.Items.{Items, ◌⨾◌, skip, fresh, equations, Meets, MeetsIn, Agree, Passes}
use Rattle.checker_rules.specs.Conditions.{typed}
use Rattle.types_cells.specs.Layout.{max_cells, max_pending, first_run}
use Rattle.types_cells.specs.Store.{frozen, load, run, Solved}
use Rattle.types_cells.specs.Calls.{Above, Making, Made}
use Rattle.types_solver.specs.Equation.{pairs_with, Within}
use Rattle.types_solver.specs.Growth.{Builds}
use Rattle.types_cells.proofs.Growing.{made_above, made_load}
use Rattle.checker_pieces.specs.Piece.{Solution, Matches, Piece, Later, Stops}
use Rattle.checker_pieces.specs.Stage.{Ghost, Stands, Room, Cell, Advanced, SlotOf, Uses, Ruled, Comparing, SidesBy, Sides, Equated}
use Rattle.checker_pieces.specs.Building.{Building, Built, Cells, Introduced}
use Rattle.checker_pieces.proofs.Walks.{items_earlier, goes_then, stops_right, alike_group, meets_alike, piece_group, later_on, denotes_later}
use Rattle.checker_pieces.proofs.Growing.{built, built_later, unknown_later, unknown as new-unknown}
use Rattle.checker_pieces.proofs.Naming.{noted, typed_later, typed_goes, typed as new-typed}
use Rattle.checker_pieces.proofs.ClosingLaws.{all_in_lem}

-- CELLS ARE BUILT: the piece stands, and old cells denote what they did.
module _ (s s' d : List ℕ) (n n' top : ℕ) (B : Builds s s' d n n') (G : Ghost) (St : Stands s d n top G) where
  abbrev Q : Piece s d n G.equations G.before G.items G.known G.mentioned G.cells
  Q = St.piece

  pub later_built : Later s s' d n n' G.equations G.equations G.before G.items G.items G.cells G.cells
  later_built = built_later s s' d n n' B G.equations G.before G.items G.known G.mentioned G.cells Q

  pub stands_built : (top' : ℕ) → Above (frozen s') n' top' → Stands s' d n' top' G
  stands_built top' A = record { piece = built s s' d n n' B G.equations G.before G.items G.known G.mentioned G.cells Q; above = A; few = St.few }

  pub cell_built : (c : ℕ) (a : Term) → Cell s d n G c a → Cell s' d n' G c a
  cell_built c a C = record {
    made = let z = C.made in let w = B.grows.wide in omega arith;
    denotes = denotes_later s s' d n n' G.equations G.equations G.before G.items G.items G.cells G.cells later_built c a C.denotes;
    over = C.over;
  }

  pub cells_built : (l : List ℕ) (ts : Terms) → Cells s d n G l ts → Cells s' d n' G l ts
  unfolding Cells
  cells_built [] nil K = tt
  cells_built [] (cons t ts) K = absurd K
  cells_built (c ∷ l) nil K = absurd K
  cells_built (c ∷ l) (cons t ts) K = (cell_built c t K.0, cells_built l ts K.1)

-- Cells in a list.
pub cells_older : (s d : List ℕ) (n : ℕ) (G : Ghost) (l : List ℕ) (ts : Terms) → Cells s d n G l ts → (c : ℕ) → In c l → c < n
unfolding Cells
cells_older s d n G [] ts K c i = absurd i
cells_older s d n G (x ∷ l) nil K c i = absurd K
cells_older s d n G (x ∷ l) (cons t ts) K c (inl e) = let z = K.0.made in omega arith
cells_older s d n G (x ∷ l) (cons t ts) K c (inr i) = cells_older s d n G l ts K.1 c i

pub one_cell : (s d : List ℕ) (n : ℕ) (G : Ghost) (c : ℕ) (t : Term) → Cell s d n G c t → Cells s d n G (c ∷ []) (cons t nil)
unfolding Cells
one_cell s d n G c t C = (C, tt)

pub two_cells : (s d : List ℕ) (n : ℕ) (G : Ghost) (x y : ℕ) (t u : Term) → Cell s d n G x t → Cell s d n G y u → Cells s d n G (x ∷ y ∷ []) (cons t (cons u nil))
unfolding Cells
two_cells s d n G x y t u C D = (C, (D, tt))

pub no_cells : (s d : List ℕ) (n : ℕ) (G : Ghost) → Cells s d n G [] nil
unfolding Cells
no_cells s d n G = tt

-- What the builders ask.
pub building : (s d : List ℕ) (n top x : ℕ) (G : Ghost) → Stands s d n top G → Room s n top x → (l : List ℕ) (ts : Terms) → Cells s d n G l ts → Building s n top x l
building s d n top x G St R l ts K = record {
  P₀ = G.equations;
  L = St.piece.L;
  solved = St.piece.solved;
  above = St.above;
  room = R;
  older = cells_older s d n G l ts K;
}

-- An unknown, and ℤ.
pub leaf_making : (s : List ℕ) (n top x : ℕ) (P₀ L : Pairs ℕ) → Solved s n P₀ L → Room s n top x → 1 ≤ x → (t : ℕ) → t < 2 → Making s n t 0 first_run 0
unfolding run
leaf_making s n top x P₀ L S R f t l =
    let u = R.cells in
    let w = R.fit in
    record {
      P₀ = P₀;
      L = L;
      solved = S;
      few = omega arith;
      tags = omega arith;
      plain = λ z. refl;
      powers = λ z. refl;
      products = λ z. refl;
      one = λ z. absurd (omega arith);
      low = omega arith;
      room = omega arith;
      named_low = λ z. absurd (omega arith);
      named = λ z. absurd (omega arith);
      older = λ k i. absurd i;
      fit = omega arith;
    }

pub plain_making : (s d : List ℕ) (n top x : ℕ) (G : Ghost) → Stands s d n top G → Room s n top x → 1 ≤ x → (t : ℕ) → t < 2 → Making s n t 0 first_run 0
plain_making s d n top x G St R f t l = leaf_making s n top x G.equations St.piece.L St.piece.solved R f t l

-- THE NEW CELL denotes its former of what its parts denote.
module _ (s s' d : List ℕ) (n top top' x : ℕ) (h : Former) (l : List ℕ) (K : Built s s' n top top' x h l) (G : Ghost) (St : Stands s d n top G) where
  pub built_stands : Stands s' d (suc n) top' G
  built_stands = stands_built s s' d n (suc n) top (K.builds d) G St top' K.above

  pub built_old : (c : ℕ) (a : Term) → Cell s d n G c a → Cell s' d (suc n) G c a
  built_old = cell_built s s' d n (suc n) top (K.builds d) G St

  pub built_olds : (m : List ℕ) (ts : Terms) → Cells s d n G m ts → Cells s' d (suc n) G m ts
  built_olds = cells_built s s' d n (suc n) top (K.builds d) G St

  module _ (τ : Valuation) (σ : ℕ → Ty) (S : Solution s' d (suc n) G.equations σ) (m : Meets (G.before ⨾ G.items) τ) (k : Matches G.cells τ σ) where
    parts_denote : (l : List ℕ) (ts : Terms) → Cells s' d (suc n) G l ts → from_list (map σ l) ≡ unders τ ts
    unfolding Cells from_list under
    parts_denote [] nil C = refl
    parts_denote [] (cons t ts) C = absurd C
    parts_denote (c ∷ l) nil C = absurd C
    parts_denote (c ∷ l) (cons t ts) C = ap₂ tcons (C.0.denotes τ m σ S k) (parts_denote l ts C.1)

  over_all : (l : List ℕ) (ts : Terms) → Cells s d n G l ts → Eachs (λ z. In z G.mentioned) ts
  unfolding Cells Each
  over_all [] nil C = tt
  over_all [] (cons t ts) C = absurd C
  over_all (c ∷ l) nil C = absurd C
  over_all (c ∷ l) (cons t ts) C = (C.0.over, over_all l ts C.1)

  pub built_cell : (ts : Terms) → Cells s d n G l ts → Cell s' d (suc n) G n (con h ts)
  unfolding under Each
  built_cell ts C = record {
    made = omega arith;
    denotes = λ τ m σ S k. K.type σ S.fits ∙ ap (node h) (parts_denote τ σ S m k l ts (built_olds l ts C));
    over = over_all l ts C;
  }

-- ITEMS MORE. The ghost values after them.
module _ (s s' d : List ℕ) (n top n' top' : ℕ) (G : Ghost) (own : Items) (M : ℕ → Type 0) (A : Advanced s s' d n top n' top' G own M) where
  abbrev pub next : Ghost
  next = record { equations = A.equations; before = G.before; items = G.items ⨾ own; known = G.known; mentioned = A.mentioned; cells = A.cells }

  pub next_stands : length d < 2 ^ 31 → Stands s' d n' top' next
  next_stands few = record { piece = A.piece; above = A.above; few = few }

  pub next_cell : (c : ℕ) (a : Term) → Cell s d n G c a → Cell s' d n' next c a
  next_cell c a C = record {
    made = let z = C.made in let w = A.wide in omega arith;
    denotes = denotes_later s s' d n n' G.equations A.equations G.before G.items (G.items ⨾ own) G.cells A.cells A.later c a C.denotes;
    over = each_map (λ y. In y G.mentioned) (λ y. In y A.mentioned) A.wider a C.over;
  }

  pub next_cells : (l : List ℕ) (ts : Terms) → Cells s d n G l ts → Cells s' d n' next l ts
  unfolding Cells
  next_cells [] nil K = tt
  next_cells [] (cons t ts) K = absurd K
  next_cells (c ∷ l) nil K = absurd K
  next_cells (c ∷ l) (cons t ts) K = (next_cell c t K.0, next_cells l ts K.1)

  -- an unknown of the piece is the type of its cell
  pub placed_cell : (x c : ℕ) → InP x c A.cells → Cell s' d n' next c (unknown x)
  unfolding under Each
  placed_cell x c i =
      let t = all_in_lem (λ y z. In y A.mentioned × (z < n')) A.cells x c A.piece.tracked i in
      record { made = t.1; denotes = λ τ m σ S k. sym (all_in_lem (λ y z. τ y ≡ σ z) A.cells x c k i); over = t.0 }

  pub next_unvisited : (x : ℕ) → (In x G.mentioned → ⊥) → (M x → ⊥) → In x A.mentioned → ⊥
  next_unvisited x p q i = ⊎_elim p q (A.new x i)

  abbrev pub wider_mine : (N : ℕ → Type 0) → ((y : ℕ) → M y → N y) → Advanced s s' d n top n' top' G own N
  wider_mine N f = record {
    equations = A.equations;
    mentioned = A.mentioned;
    cells = A.cells;
    wide = A.wide;
    goes = A.goes;
    piece = A.piece;
    above = A.above;
    later = A.later;
    wider = A.wider;
    new = λ y i. ⊎_elim inl (λ j. inr (f y j)) (A.new y i);
  }

  pub introduced_wider : (N : ℕ → Type 0) → ((y : ℕ) → M y → N y) → (x c : ℕ) → InP x c A.cells → Introduced s s' d n top n' top' G own N x c
  introduced_wider N f x c i = record { advanced = wider_mine N f; placed = i }

  -- cells built before, and after
  unfoldable pub built_before : (r : List ℕ) (m top₀ : ℕ) → Builds r s d m n → Stands r d m top₀ G → Advanced r s' d m top₀ n' top' G own M
  built_before r m top₀ B St = record {
    equations = A.equations;
    mentioned = A.mentioned;
    cells = A.cells;
    wide = let u = A.wide in let v = B.grows.wide in omega arith;
    goes = A.goes;
    piece = A.piece;
    above = A.above;
    later =
        later_on r s s' d m n n' G.equations G.equations A.equations G.before G.items G.items (G.items ⨾ own) G.cells G.cells A.cells
        (later_built r s d m n top₀ B G St) A.later;
    wider = A.wider;
    new = A.new;
  }

  pub introduced_before : (r : List ℕ) (m top₀ : ℕ) → Builds r s d m n → Stands r d m top₀ G → (x c : ℕ) → InP x c A.cells → Introduced r s' d m top₀ n' top' G own M x c
  unfolding built_before
  introduced_before r m top₀ B St x c i = record { advanced = built_before r m top₀ B St; placed = i }

-- ONE AFTER ANOTHER.
module _ (s s' d : List ℕ) (n top n' top' : ℕ) (G : Ghost) (a : Items) (M : ℕ → Type 0) (A : Advanced s s' d n top n' top' G a M) (b : Items) where
  abbrev G' : Ghost
  G' = next s s' d n top n' top' G a M A

  module _ (s'' : List ℕ) (n'' top'' : ℕ) where
    unfoldable pub advance_then : Advanced s' s'' d n' top' n'' top'' G' b M → Advanced s s'' d n top n'' top'' G (a ⨾ b) M
    advance_then B = record {
      equations = B.equations;
      mentioned = B.mentioned;
      cells = B.cells;
      wide = let u = A.wide in let v = B.wide in omega arith;
      goes = goes_then G.before G.items a b A.goes B.goes;
      piece = piece_group s'' d n'' B.equations G.before G.items a b G.known B.mentioned B.cells B.piece;
      above = B.above;
      later = record {
        solutions = λ σ S. A.later.solutions σ (B.later.solutions σ S);
        items = λ τ m. A.later.items τ (B.later.items τ ((meets_alike G.before ((G.items ⨾ a) ⨾ b) (G.items ⨾ (a ⨾ b)) (alike_group G.items a b) τ).1 m));
        unknowns = λ τ σ m. A.later.unknowns τ σ (B.later.unknowns τ σ m);
      };
      wider = λ x i. B.wider x (A.wider x i);
      new = λ x i. ⊎_elim (A.new x) inr (B.new x i);
    }

    pub introduce_then : (x c : ℕ) → Introduced s' s'' d n' top' n'' top'' G' b M x c → Introduced s s'' d n top n'' top'' G (a ⨾ b) M x c
    unfolding advance_then
    introduce_then x c I = record { advanced = advance_then I.advanced; placed = I.placed }

    -- a cell of the piece with these items, grouped otherwise
    module _ (B : Advanced s' s'' d n' top' n'' top'' G' b M) where
      abbrev G'' : Ghost
      G'' = next s' s'' d n' top' n'' top'' G' b M B

      pub then_cell : (c : ℕ) (t : Term) → Cell s'' d n'' G'' c t → Cell s'' d n'' (next s s'' d n top n'' top'' G (a ⨾ b) M (advance_then B)) c t
      unfolding advance_then
      then_cell c t C = record {
        made = C.made;
        denotes = λ τ m σ S k.
            C.denotes τ ((meets_alike G.before ((G.items ⨾ a) ⨾ b) (G.items ⨾ (a ⨾ b)) (alike_group G.items a b) τ).1 m) σ S k;
        over = C.over;
      }

      pub then_cells : (l : List ℕ) (ts : Terms) → Cells s'' d n'' G'' l ts → Cells s'' d n'' (next s s'' d n top n'' top'' G (a ⨾ b) M (advance_then B)) l ts
      unfolding Cells
      then_cells [] nil K = tt
      then_cells [] (cons t ts) K = absurd K
      then_cells (c ∷ l) nil K = absurd K
      then_cells (c ∷ l) (cons t ts) K = (then_cell c t K.0, then_cells l ts K.1)

  pub stop_then : (f m : ℕ) → Stops G.before (G.items ⨾ a) b f m → Stops G.before G.items (a ⨾ b) f m
  stop_then f m r = stops_right G.before G.items a b f m A.goes r

-- NO ITEM.
pub skip_advanced : (s d : List ℕ) (n top : ℕ) (G : Ghost) → Stands s d n top G → (M : ℕ → Type 0) → Advanced s s d n top n top G skip M
unfolding Passes MeetsIn Agree
skip_advanced s d n top G St M = record {
  equations = G.equations;
  mentioned = G.mentioned;
  cells = G.cells;
  wide = omega arith;
  goes = tt;
  piece = noted s d n G.equations G.before G.items G.known G.mentioned G.cells St.piece skip tt (λ τ m. tt) (λ τ τ'. tt);
  above = St.above;
  later = record { solutions = λ σ S. S; items = items_earlier G.before G.items skip; unknowns = λ τ σ m. m };
  wider = λ x i. i;
  new = λ x i. inl i;
}

-- A NEW UNKNOWN x: cell n.
module _ (s s' d : List ℕ) (n top : ℕ) (G : Ghost) (St : Stands s d n top G) (A : Making s n 0 0 first_run 0) (N : Made s s' n 0 0 first_run 0) (x : ℕ) (new : In x G.mentioned → ⊥) where
  pub introduced_unknown : Introduced s s' d n top (suc n) top G (fresh x) (λ y. y ≡ x) x n
  unfolding Passes
  introduced_unknown = record {
    advanced = record {
      equations = G.equations;
      mentioned = x ∷ G.mentioned;
      cells = pair x n G.cells;
      wide = omega arith;
      goes = tt;
      piece = new-unknown s s' d n A N G.equations G.before G.items G.known G.mentioned G.cells St.piece x new;
      above = made_above s s' n 0 0 first_run 0 A N top St.above (let z = St.above.low in omega arith) (λ z. absurd (omega arith));
      later = unknown_later s s' d n A N G.equations G.before G.items G.known G.mentioned G.cells St.piece x new;
      wider = λ y i. inr i;
      new = λ y i. ⊎_elim inr inl i;
    };
    placed = inl (refl, refl);
  }

-- Room for an unknown: 1 cell.
pub unknown_uses : (s s' : List ℕ) (n top : ℕ) → Making s n 0 0 first_run 0 → Made s s' n 0 0 first_run 0 → Uses s s' n top (suc n) top 1
unknown_uses s s' n top A N y R =
    let ld = made_load s s' n 0 0 first_run 0 A N in
    let q = R.fit in
    let u = R.cells in
    let v = R.words in
    record { cells = omega arith; words = omega arith; fit = omega arith }

-- ONE EQUATION, of the cells x and y.
pub one_side : (s d : List ℕ) (n : ℕ) (G : Ghost) (x y : ℕ) (a b : Term) → Cell s d n G x a → Cell s d n G y b → Sides s d n G (x ∷ []) y 0 (pair a b end)
unfolding SidesBy
one_side s d n G x y a b X Y = (X, Y, tt)

pub one_comparing : (s d : List ℕ) (n x y top : ℕ) (G : Ghost) → Stands s d n top G → x < n → y < n → Comparing s d n (x ∷ []) y 0
unfolding Within
one_comparing s d n x y top G St l m = record { top = top; ready = record { ghost = G; stands = St }; made = (l, m, tt); step = omega arith }

pub few_side : (s d : List ℕ) (n x y : ℕ) → Comparing s d n (x ∷ []) y 0 → x < max_cells
unfolding Within
few_side s d n x y C = let l = C.made.0 in let f = C.ready.stands.piece.solved.held.few in omega arith

-- EQUATIONS.
module _ (s s' d : List ℕ) (n : ℕ) (l : List ℕ) (y k : ℕ) (top : ℕ) (G : Ghost) (St : Stands s d n top G) (es : Pairs Term) (D : Sides s d n G l y k es) (m : ℕ) (M : ℕ → Type 0) where
  unfoldable pub equal_advanced : Equated s s' d n l y k 0 → Advanced s s' d n top n top G (equations m es) M
  equal_advanced E =
      let r = E.goes refl top G St es D m in
      record {
        equations = pairs_with l y k G.equations;
        mentioned = G.mentioned;
        cells = G.cells;
        wide = omega arith;
        goes = r.0;
        piece = r.1;
        above = subst (λ w. Above w n top) (sym E.still) St.above;
        later = r.2;
        wider = λ z i. i;
        new = λ z i. inl i;
      }

  pub introduced_equal : Equated s s' d n l y k 0 → (u v : ℕ) → InP u v G.cells → Introduced s s' d n top n top G (equations m es) M u v
  unfolding equal_advanced
  introduced_equal E u v i = record { advanced = equal_advanced E; placed = i }

-- THE TYPE OF NODE k.
module _ (s d : List ℕ) (n top : ℕ) (G : Ghost) (St : Stands s d n top G) (c : ℕ) (t : Term) (C : Cell s d n G c t) (k : ℕ) (new : In (slot k 0) G.mentioned → ⊥) where
  pub introduced_typed : Introduced s s d n top n top G (typed k t) (λ y. y ≡ slot k 0) (slot k 0) c
  introduced_typed = record {
    advanced = record {
      equations = G.equations;
      mentioned = slot k 0 ∷ G.mentioned;
      cells = pair (slot k 0) c G.cells;
      wide = omega arith;
      goes = typed_goes s d n G.equations G.before G.items G.known G.mentioned G.cells St.piece (slot k 0) new c C.made t C.denotes C.over k;
      piece = new-typed s d n G.equations G.before G.items G.known G.mentioned G.cells St.piece (slot k 0) new c C.made t C.denotes C.over k;
      above = St.above;
      later = typed_later s d n G.equations G.before G.items G.known G.mentioned G.cells St.piece (slot k 0) new c C.made t C.denotes C.over k;
      wider = λ y i. inr i;
      new = λ y i. ⊎_elim inr inl i;
    };
    placed = inl (refl, refl);
  }

  -- by the node's own unknown
  pub typed_here : Introduced s s d n top n top G (typed k t) (SlotOf k) (slot k 0) c
  typed_here =
      introduced_wider s s d n top n top G (typed k t) (λ y. y ≡ slot k 0) introduced_typed.advanced (SlotOf k) (λ y e. (0, omega arith, e)) (slot k 0) c introduced_typed.placed

-- A rule's promise from either way that it ends.
pub rule_goes : (s s' d : List ℕ) (n top k number cell n' top' : ℕ) (G : Ghost) (own : Items) → number ≡ 0 → Introduced s s' d n top n' top' G own (SlotOf k) (slot k 0) cell →
    Ruled s s' d n top k number cell n' top' G own
rule_goes s s' d n top k number cell n' top' G own e I = record { stops = λ f. absurd (f e); goes = λ z. I.advanced; typed = λ z. I.placed }

pub rule_stops : (s s' d : List ℕ) (n top k number cell n' top' : ℕ) (G : Ghost) (own : Items) → (number ≡ 0 → ⊥) → Stops G.before G.items own number k →
    Ruled s s' d n top k number cell n' top' G own
rule_stops s s' d n top k number cell n' top' G own ne r = record { stops = λ f. r; goes = λ z. absurd (ne z); typed = λ z. absurd (ne z) }

-- Room is used one after another.
pub uses_on : (s s' s'' : List ℕ) (n n' n'' top top' top'' x y : ℕ) → Uses s s' n top n' top' x → Uses s' s'' n' top' n'' top'' y → Uses s s'' n top n'' top'' (x + y)
uses_on s s' s'' n n' n'' top top' top'' x y A B z R = B z (A (y + z) (subst (Room s n top) (omega arith) R))

pub room_less : (s : List ℕ) (n top x y : ℕ) → x ≤ y → Room s n top y → Room s n top x
room_less s n top x y l R = let u = R.cells in let v = R.words in let w = R.fit in record { cells = omega arith; words = omega arith; fit = omega arith }

pub equal_room : (s s' d : List ℕ) (n : ℕ) (l : List ℕ) (y k top r : ℕ) {number : ℕ} → Equated s s' d n l y k number → Room s n top r → Room s' n top r
equal_room s s' d n l y k top r E R = record { cells = R.cells; words = R.words; fit = subst (λ w. load w n + 2 * r < max_pending) (sym E.still) R.fit }
