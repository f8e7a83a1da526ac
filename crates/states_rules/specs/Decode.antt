-- The value that words are, where they are one (`is_value` of `values`).
use Rattle.std.specs.Prelude.{List, cond, ℕ, zero, suc, pos, eqb, get_or, drop}
use Rattle.values_integers.specs.Integer.{signed}
use Rattle.values.specs.Value.{Value, int, element, set, tuple, Values, nil, cons}
use Rattle.values.specs.Form.{shape_of, value_length}
use Rattle.values.specs.declared.shapes.Shape.{Shape}
use Rattle.values.specs.declared.shapes.Shape.TheVariants.{Broken, Leaf, Set, Tuple}

-- n values one after the other; `size` is the words of the value at the beginning, `value` that value
unfoldable pub values_from : (List ℕ → ℕ) → (List ℕ → Value) → ℕ → List ℕ → Values
values_from size value zero ws = nil
values_from size value (suc n) ws = cons (value ws) (values_from size value n (drop (size ws) ws))

unfoldable pub value_by_shape : (List ℕ → ℕ) → (List ℕ → Value) → Shape → List ℕ → Value
value_by_shape size value Broken ws = int (pos 0)
value_by_shape size value (Leaf n) ws = cond (eqb (get_or ws 0 0) 1) (int (signed (get_or ws 1 0))) (element (get_or ws 1 0) (get_or ws 2 0))
value_by_shape size value (Set n) ws = set (values_from size value n (drop 2 ws))
value_by_shape size value (Tuple n) ws = tuple (values_from size value n (drop 2 ws))

-- the value at the beginning of ws, at most d levels deep
unfoldable pub value_at : (ℕ → ℕ) → ℕ → List ℕ → Value
value_at sizes zero ws = int (pos 0)
value_at sizes (suc d) ws = value_by_shape (value_length sizes d) (value_at sizes d) (shape_of sizes ws) ws

-- the value whose words ws are: 64 words have at most 32 levels
unfoldable pub value_of : (ℕ → ℕ) → List ℕ → Value
value_of sizes ws = value_at sizes 32 ws
