-- Two operands that are integers: ℤ is built once, and both are compared with it, together.
use mathlib.Core.Path.{◌≡◌, sym, subst, ◌∙◌}
use mathlib.Core.List.{List, [], ◌∷◌}
use Prim.Native.Nat.{ℕ, suc, ◌+◌, ◌<◌}
use native.Mathlib.Omega.{arith}
use Rattle.types_rules.specs.Equations.{end, pair}
use Rattle.types_rules.specs.Former.{int}
use Rattle.types_rules.specs.Types.{Term, nil}
use Rattle.checker_rules.specs.Conditions.{typed}
use Rattle.checker_rules.specs.Unknowns.{slot, integer}
use Rattle.types_cells.specs.Layout.{max_cells, first_run}
use Rattle.types_cells.specs.Store.{frozen}
use Rattle.types_cells.specs.Calls.{Making}
use Rattle.types_cells.specs.Settled.{lower}
use Rattle.checker_pieces.specs.Stage.{Ghost, Stands, Comparing, Cell, Unvisited, SlotOf, Advanced, Uses, SidesBy, Sides, Equated}
use Rattle.checker_pieces.specs.Building.{Integer, Built, Introduced, Working}
use Rattle.checker_pieces.proofs.Components.{advanced_moved, room_still}
use Rattle.checker_pieces.proofs.Stages.{plain_making, no_cells, built_stands, built_old, built_cell, later_built, equal_advanced, next, next_stands, next_cell, introduce_then, next_unvisited, wider_mine, typed_here}
use Rattle.checker_pieces.proofs.RowLaws.{sides_comparing}
use Rattle.checker_pieces.proofs.Walks.{stops_left}
use Rattle.checker_kinds.specs.Equations.{Relating, Both, BothPass, Related, Combined, Nothing, comparison_items, arithmetic_items}
use Rattle.checker_kinds.proofs.Operands.{operands}

pub integer_making : (s d : List ℕ) (n x y : ℕ) → Relating s d n x y 1 → Making s n 1 0 first_run 0
integer_making s d n x y A =
    let W = A.working in plain_making s d n A.top 1 W.ghost W.stands W.room (omega arith) 1 (omega arith)

pub few_operands : (s d : List ℕ) (n x y wanted : ℕ) → Relating s d n x y wanted → (x < max_cells) × (y < max_cells)
few_operands s d n x y wanted A =
    let W = A.working in
    let O = operands s d n W.ghost x y W.terms W.cells in
    let f = W.stands.piece.solved.held.few in
    let a = O.2.made in
    let b = O.3.made in
    (omega arith, omega arith)

module _ (s u d : List ℕ) (n x y : ℕ) (A : Relating s d n x y 1) (I : Integer s u n int []) where
  abbrev G₀ : Ghost
  G₀ = A.working.ghost

  abbrev O : (a : Term) × (b : Term) × Cell s d n G₀ x a × Cell s d n G₀ y b
  O = operands s d n G₀ x y A.working.terms A.working.cells

  -- The piece with ℤ.
  module _ (top : ℕ) (G : Ghost) (S : Stands s d n top G) where
    abbrev B : Built s u n top top 1 int []
    B = I.built top S.above

    S₁ : Stands u d (suc n) top G
    S₁ = built_stands s u d n top top 1 int [] B G S

    old : (c : ℕ) (a : Term) → Cell s d n G c a → Cell u d (suc n) G c a
    old = built_old s u d n top top 1 int [] B G S

    ℤ_cell : Cell u d (suc n) G n integer
    ℤ_cell = built_cell s u d n top top 1 int [] B G S nil (no_cells s d n G)

  low_u : lower u ≡ lower s
  low_u = ((B A.top G₀ A.working.stands).builds d).grows.low

  both_sides : (top : ℕ) (G : Ghost) (S : Stands s d n top G) (p q : Term) → Cell s d n G x p → Cell s d n G y q → Sides u d (suc n) G (x ∷ y ∷ []) n 0 (pair p integer (pair q integer end))
  unfolding SidesBy
  both_sides top G S p q K M =
      (old top G S x p K, ℤ_cell top G S, (old top G S y q M, subst (λ z. Cell u d (suc n) G z integer) (let z : n ≡ n + 0 = omega arith in z) (ℤ_cell top G S), tt))

  asks₁ : Comparing u d (suc n) (x ∷ y ∷ []) n 0
  asks₁ =
      sides_comparing u d (suc n) (x ∷ y ∷ []) n 0 A.top (record { ghost = G₀; stands = S₁ A.top G₀ A.working.stands }) (pair O.0 integer (pair O.1 integer end))
      (both_sides A.top G₀ A.working.stands O.0 O.1 O.2 O.3) (omega arith)

  pub both_asks : (m : ℕ) → m ≡ suc n → Comparing u d m (x ∷ y ∷ []) n 0
  both_asks m e = subst (λ z. Comparing u d z (x ∷ y ∷ []) n 0) (sym e) asks₁

  both_uses : (w : List ℕ) → frozen w ≡ frozen u → (top : ℕ) (G : Ghost) → Stands s d n top G → Uses s w n top (suc n) top 1
  both_uses w e top G S z Z = room_still u w (suc n) top z e ((B top G S).uses z Z)

  -- Both operands are compared.
  module _ (w : List ℕ) (number m : ℕ) (E₀ : Equated u w d m (x ∷ y ∷ []) n 0 number) (em : m ≡ suc n) where
    abbrev E : Equated u w d (suc n) (x ∷ y ∷ []) n 0 number
    E = subst (λ z. Equated u w d z (x ∷ y ∷ []) n 0 number) em E₀

    module _ (top : ℕ) (G : Ghost) (S : Stands s d n top G) (k : ℕ) (p q : Term) (K : Cell s d n G x p) (M : Cell s d n G y q) where
      A₁ : number ≡ 0 → Advanced u w d (suc n) top (suc n) top G (comparison_items k p q) Nothing
      A₁ e =
          equal_advanced u w d (suc n) (x ∷ y ∷ []) n 0 top G (S₁ top G S) (pair p integer (pair q integer end)) (both_sides top G S p q K M) k Nothing
          (subst (Equated u w d (suc n) (x ∷ y ∷ []) n 0) e E)

      pass : number ≡ 0 → BothPass s w d n top k G p q
      unfolding advanced_moved
      pass e = record {
        advanced = advanced_moved s u d n (suc n) (omega arith) G (later_built s u d n (suc n) top ((B top G S).builds d) G S) w top top (suc n) top (comparison_items k p q) Nothing (A₁ e);
        integer_cell = next_cell u w d (suc n) top (suc n) top G (comparison_items k p q) Nothing (A₁ e) n integer (ℤ_cell top G S);
      }

    pub both_told : Both s w d n x y number
    both_told = record {
      low = E.low ∙ low_u;
      uses = both_uses w E.still;
      goes = λ e top G S k p q K M. pass top G S k p q K M e;
      stops = λ e top G S k p q K M. E.stops e top G (S₁ top G S) (pair p integer (pair q integer end)) (both_sides top G S p q K M) k;
    }

-- ≤ and arithmetic.
module _ (s w d : List ℕ) (n x y number : ℕ) (T : Both s w d n x y number) where
  pub comparison_told : (n' : ℕ) → n' ≡ suc n → (top : ℕ) → Related s w d n top x y number n' comparison_items
  comparison_told n' q top = subst (λ z. Related s w d n top x y number z comparison_items) (sym q) (record {
    low = T.low;
    goes = λ e G S k p r K M. record { top' = top; advanced = wider_mine s w d n top (suc n) top G (comparison_items k p r) Nothing (T.goes e top G S k p r K M).advanced (SlotOf k) (λ y. absurd) };
    stops = λ e G S k p r K M. T.stops e top G S k p r K M;
  })

  module _ (top : ℕ) (A : Working s d n top 1 (x ∷ y ∷ [])) where
    arithmetic_typed : number ≡ 0 → (G : Ghost) → Stands s d n top G → (k : ℕ) → Unvisited k G → (p r : Term) → Cell s d n G x p → Cell s d n G y r →
        Introduced s w d n top (suc n) top G (arithmetic_items k p r) (SlotOf k) (slot k 0) n
    arithmetic_typed e G S k new p r K M =
        let P = T.goes e top G S k p r K M in
        let W = wider_mine s w d n top (suc n) top G (comparison_items k p r) Nothing P.advanced (SlotOf k) (λ y. absurd) in
        introduce_then s w d n top (suc n) top G (comparison_items k p r) (SlotOf k) W (typed k integer) w (suc n) top (slot k 0) n
        (typed_here w d (suc n) top (next s w d n top (suc n) top G (comparison_items k p r) (SlotOf k) W)
        (next_stands s w d n top (suc n) top G (comparison_items k p r) (SlotOf k) W S.few) n integer P.integer_cell k
        (next_unvisited s w d n top (suc n) top G (comparison_items k p r) Nothing P.advanced (slot k 0) (new 0 (omega arith)) (λ z. z)))

    pub arithmetic_told : (n' : ℕ) → n' ≡ suc n → Combined s w d n top x y number n n' top 1 arithmetic_items
    arithmetic_told n' q = subst (λ z. Combined s w d n top x y number n z top 1 arithmetic_items) (sym q) (record {
      low = T.low;
      wide = omega arith;
      uses = λ e. T.uses top A.ghost A.stands;
      ruled = λ G S k new p r K M. record {
        stops = λ e. stops_left G.before G.items (comparison_items k p r) (typed k integer) number k (T.stops e top G S k p r K M);
        goes = λ e. (arithmetic_typed e G S k new p r K M).advanced;
        typed = λ e. (arithmetic_typed e G S k new p r K M).placed;
      };
    })
