-- The rules whose types are built of their operands' types. A promise is for each piece that stands, each node k, and all expressions or terms whose types
-- the operands' cells have.
use Rattle.std.specs.Prelude.{◌≡◌, List, [], ◌∷◌, ℕ, zero, suc, ◌≤◌}
use Rattle.reader_rules.specs.Tree.{Exprs, exprs_length}
use Rattle.types_rules.specs.Types.{Term}
use Rattle.checker_rules.specs.Conditions.{typed, types_of, are_powers, are_members}
use Rattle.checker_rules.specs.Items.{Items, ◌⨾◌, fresh}
use Rattle.checker_rules.specs.Unknowns.{slot, unknown_at, row, integer, power_of, product_of}
use Rattle.types_cells.specs.Settled.{lower}
use Rattle.checker_pieces.specs.Stage.{Ghost, Stands, Room, Cell, Unvisited, Ruled, Uses}
use Rattle.checker_pieces.specs.Building.{Cells, power_items}

-- The cells l have the types of the expressions xs, one by one.
abbrev pub OperandCells : List ℕ → List ℕ → ℕ → Ghost → List ℕ → Exprs → Type 0
OperandCells s d n G l xs = Cells s d n G l (types_of xs)

-- THE ITEMS of node k, after those of its operands (checker_rules/specs/Rules: number, integers, tuple, comprehension, power, product, set).
abbrev pub number_items : ℕ → Exprs → Items
number_items k xs = typed k integer

abbrev pub integers_items : ℕ → Exprs → Items
integers_items k xs = typed k (power_of integer)

abbrev pub tuple_items : ℕ → Exprs → Items
tuple_items k xs = typed k (product_of (types_of xs))

abbrev pub product_items : ℕ → Exprs → Items
product_items k xs = are_powers k xs 1 ⨾ typed k (power_of (product_of (row k 1 (exprs_length xs))))

abbrev pub set_items : ℕ → Exprs → Items
set_items k xs = fresh (slot k 1) ⨾ are_members k xs ⨾ typed k (power_of (unknown_at k 1))

abbrev pub comprehension_items : ℕ → Term → Items
comprehension_items k a = typed k (power_of a)

abbrev pub power_rule_items : ℕ → Term → Items
power_rule_items k a = power_items (slot k 1) k a ⨾ typed k (power_of (power_of (unknown_at k 1)))

-- The numbers from n on, q of them.
unfoldable pub up_from : ℕ → ℕ → List ℕ
up_from n zero = []
up_from n (suc q) = n ∷ up_from (suc n) q

-- WHAT IS ASKED where the operands' types are equated: a piece that stands, and room for x cells.
pub record Operating (s d : List ℕ) (n top x : ℕ) (l : List ℕ) : Type 0 where
  pub ghost : Ghost
  pub stands : Stands s d n top ghost
  pub exprs : Exprs
  pub cells : OperandCells s d n ghost l exprs
  pub room : Room s n top x

-- THE RULE OF A NODE with the operands l: the room of `used` cells is used.
pub record DerivedList (s s' d : List ℕ) (n top : ℕ) (l : List ℕ) (number cell n' top' used : ℕ) (own : ℕ → Exprs → Items) : Type 0 where
  pub low : lower s' ≡ lower s
  pub wide : n ≤ n'
  pub uses : number ≡ 0 → Uses s s' n top n' top' used
  pub ruled : (G : Ghost) → Stands s d n top G → (k : ℕ) → Unvisited k G → (xs : Exprs) → OperandCells s d n G l xs → Ruled s s' d n top k number cell n' top' G (own k xs)

-- The same with the one operand x.
pub record Derived (s s' d : List ℕ) (n top x number cell n' top' used : ℕ) (own : ℕ → Term → Items) : Type 0 where
  pub low : lower s' ≡ lower s
  pub wide : n ≤ n'
  pub uses : number ≡ 0 → Uses s s' n top n' top' used
  pub ruled : (G : Ghost) → Stands s d n top G → (k : ℕ) → Unvisited k G → (a : Term) → Cell s d n G x a → Ruled s s' d n top k number cell n' top' G (own k a)
