-- The rules whose items are equations of the operands' types, and Select: what their functions ask and promise. The operands are cells; a promise is for
-- each piece that stands, each node k, and all terms that the cells denote.
use Rattle.std.specs.Prelude.{◌≡◌, List, [], ◌∷◌, ℕ, suc, ◌≤◌}
use Rattle.types_rules.specs.Equations.{Pairs}
use Rattle.types_rules.specs.Types.{Term}
use Rattle.checker_rules.specs.Conditions.{equation, are_numbers, typed}
use Rattle.checker_rules.specs.Items.{Items, ◌⨾◌, fresh, select}
use Rattle.checker_rules.specs.Unknowns.{slot, unknown_at, integer, power_of, pair_of}
use Rattle.types_cells.specs.Settled.{lower}
use Rattle.checker_pieces.specs.Piece.{Stops}
use Rattle.checker_pieces.specs.Stage.{Ghost, Stands, Cell, Unvisited, SlotOf, Advanced, Ruled, Uses}
use Rattle.checker_pieces.specs.Building.{Working}

-- THE ITEMS of node k, over the terms of its operands (checker_rules/specs/Rules: equal, member, atMost, application, arithmetic, selection).
abbrev pub equality_items : ℕ → Term → Term → Items
equality_items k a b = equation k a b

abbrev pub membership_items : ℕ → Term → Term → Items
membership_items k a b = equation k (power_of a) b

abbrev pub comparison_items : ℕ → Term → Term → Items
comparison_items k a b = are_numbers k a b

abbrev pub apply_items : ℕ → Term → Term → Items
apply_items k a b = fresh (slot k 0) ⨾ equation k a (power_of (pair_of b (unknown_at k 0)))

abbrev pub arithmetic_items : ℕ → Term → Term → Items
arithmetic_items k a b = are_numbers k a b ⨾ typed k integer

abbrev pub select_items : ℕ → ℕ → Term → Items
select_items id k a = fresh (slot k 0) ⨾ select k id a (slot k 0)

-- WHAT IS ASKED where the function does not look at the runs: a piece that stands, operands that are cells, room for new ones.
pub record Relating (s d : List ℕ) (n x y wanted : ℕ) : Type 0 where
  pub top : ℕ
  pub working : Working s d n top wanted (x ∷ y ∷ [])

-- The piece G with the items `own` more.
abbrev pub after : Ghost → Items → Pairs ℕ → List ℕ → Pairs ℕ → Ghost
after G own P₀ U ρ = record { equations = P₀; before = G.before; items = G.items ⨾ own; known = G.known; mentioned = U; cells = ρ }

-- The items pass, and the runs end somewhere.
pub record Passed (s s' d : List ℕ) (n top n' k : ℕ) (G : Ghost) (own : Items) : Type 0 where
  pub top' : ℕ
  pub advanced : Advanced s s' d n top n' top' G own (SlotOf k)

-- A RELATION. Number 0: its items pass; otherwise they stop with this number at its node.
pub record Related (s s' d : List ℕ) (n top x y number n' : ℕ) (own : ℕ → Term → Term → Items) : Type 0 where
  pub low : lower s' ≡ lower s
  pub goes : number ≡ 0 → (G : Ghost) → Stands s d n top G → (k : ℕ) (a b : Term) → Cell s d n G x a → Cell s d n G y b → Passed s s' d n top n' k G (own k a b)
  pub stops : (number ≡ 0 → ⊥) → (G : Ghost) → Stands s d n top G → (k : ℕ) (a b : Term) → Cell s d n G x a → Cell s d n G y b →
      Stops G.before G.items (own k a b) number k

-- No unknown.
abbrev pub Nothing : ℕ → Type 0
Nothing x = ⊥

-- Both operands are integers; cell n is ℤ.
pub record BothPass (s s' d : List ℕ) (n top k : ℕ) (G : Ghost) (a b : Term) : Type 0 where
  pub advanced : Advanced s s' d n top (suc n) top G (comparison_items k a b) Nothing
  pub integer_cell : Cell s' d (suc n) (after G (comparison_items k a b) advanced.equations advanced.mentioned advanced.cells) n integer

pub record Both (s s' d : List ℕ) (n x y number : ℕ) : Type 0 where
  pub low : lower s' ≡ lower s
  pub uses : (top : ℕ) (G : Ghost) → Stands s d n top G → Uses s s' n top (suc n) top 1
  pub goes : number ≡ 0 → (top : ℕ) (G : Ghost) → Stands s d n top G → (k : ℕ) (a b : Term) → Cell s d n G x a → Cell s d n G y b → BothPass s s' d n top k G a b
  pub stops : (number ≡ 0 → ⊥) → (top : ℕ) (G : Ghost) → Stands s d n top G → (k : ℕ) (a b : Term) → Cell s d n G x a → Cell s d n G y b →
      Stops G.before G.items (comparison_items k a b) number k

-- AN EXPRESSION of two operands: the room of `used` cells is used.
pub record Combined (s s' d : List ℕ) (n top x y number cell n' top' used : ℕ) (own : ℕ → Term → Term → Items) : Type 0 where
  pub low : lower s' ≡ lower s
  pub wide : n ≤ n'
  pub uses : number ≡ 0 → Uses s s' n top n' top' used
  pub ruled : (G : Ghost) → Stands s d n top G → (k : ℕ) → Unvisited k G → (a b : Term) → Cell s d n G x a → Cell s d n G y b →
      Ruled s s' d n top k number cell n' top' G (own k a b)
