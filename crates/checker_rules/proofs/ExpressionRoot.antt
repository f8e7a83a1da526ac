-- An expression's own node is one of its expression nodes.
use mathlib.Core.Path.{refl}
use mathlib.Core.Logic.{inl}
use Rattle.reader_rules.specs.Tree.{Expr, reference, number, integers, set, tuple, product, power, application, selection, theta, schema_set, arithmetic}
use Rattle.reader_rules.specs.Tree.{comprehension, expr_node}
use Rattle.checker_rules.specs.ExpressionNodes.{InExpr}

pub root : (e : Expr) → InExpr (expr_node e) e
unfolding InExpr expr_node
root (reference n i xs) = inl refl
root (number n k) = refl
root (integers n) = refl
root (set n es) = inl refl
root (tuple n es) = inl refl
root (product n es) = inl refl
root (power n e) = inl refl
root (application n f a) = inl refl
root (selection n e i) = inl refl
root (theta n s k) = refl
root (schema_set n i) = inl refl
root (arithmetic n o a b) = inl refl
root (comprehension n t e) = inl refl
