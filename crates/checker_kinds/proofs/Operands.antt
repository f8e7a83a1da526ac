-- One operand, or two: the cells of a list, one by one.
use mathlib.Core.List.{List, [], ◌∷◌}
use Prim.Native.Nat.{ℕ}
use Rattle.types_rules.specs.Types.{Term, Terms, nil, cons}
use Rattle.checker_pieces.specs.Stage.{Ghost, Cell}
use Rattle.checker_pieces.specs.Building.{Cells}

pub operand : (s d : List ℕ) (n : ℕ) (G : Ghost) (x : ℕ) (ts : Terms) → Cells s d n G (x ∷ []) ts → (a : Term) × Cell s d n G x a
unfolding Cells
operand s d n G x nil C = absurd C
operand s d n G x (cons a ts) C = (a, C.0)

pub operands : (s d : List ℕ) (n : ℕ) (G : Ghost) (x y : ℕ) (ts : Terms) → Cells s d n G (x ∷ y ∷ []) ts → (a : Term) × (b : Term) × Cell s d n G x a × Cell s d n G y b
unfolding Cells
operands s d n G x y nil C = absurd C
operands s d n G x y (cons a nil) C = absurd C.1
operands s d n G x y (cons a (cons b ts)) C = (a, b, C.0, C.1.0)
