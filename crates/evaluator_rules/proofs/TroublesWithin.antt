-- An evaluation stops exactly where a row holds of one that it reaches, in any number of steps: each step goes to a smaller tree.
use mathlib.Core.Logic.{◌⊎◌, inl, inr}
use Prim.Native.Nat.{ℕ, zero, suc, ◌+◌, ◌*◌, ◌≤◌, ◌<◌}
use native.Mathlib.Omega.{arith}
use Rattle.values.specs.Value.{Value, Values}
use Rattle.reader_rules.specs.Tree.{Expr, reference, number, integers, set, tuple, product, power, application, selection, theta, schema_set, arithmetic}
use Rattle.reader_rules.specs.Tree.{comprehension, Exprs, none, more, Pred, truth, equal, member, at_most, connected, quantified, Text, text, Lines, end}
use Rattle.reader_rules.specs.Tree.{declaration, inclusion}
use Rattle.reader_rules.specs.Tree as Tree
use Rattle.evaluator_rules.specs.Environment.{Environment}
use Rattle.evaluator_rules.specs.Evaluations
use Rattle.evaluator_rules.specs.Evaluations.{Evaluation, working, telling, testing, declaring, including, StopsAt, Operand, Adding, EachPart, Reaches, Within, itself, further}
use Rattle.evaluator_rules.specs.Troubles.{Row, Below}
use Rattle.evaluator_rules.proofs.TroublesFound.{found}
use Rattle.evaluator_rules.proofs.TroublesCome.{reached_stops, row_stops}

-- how many nodes a tree has, at least; what is never worked out is not counted
unfoldable mutual
  size_expr : Expr → ℕ
  size_expr (reference n i xs) = suc (size_exprs xs)
  size_expr (number n k) = 1
  size_expr (integers n) = 1
  size_expr (set n xs) = suc (size_exprs xs)
  size_expr (tuple n xs) = suc (size_exprs xs)
  size_expr (product n xs) = suc (size_exprs xs)
  size_expr (power n a) = suc (size_expr a)
  size_expr (application n f a) = suc (size_expr f + size_expr a)
  size_expr (selection n a i) = 1
  size_expr (theta n s k) = 1
  size_expr (schema_set n i) = 1
  size_expr (arithmetic n o a b) = suc (size_expr a + size_expr b)
  size_expr (comprehension n x a) = suc (size_text x + size_expr a)

  size_exprs : Exprs → ℕ
  size_exprs none = 0
  size_exprs (more a xs) = size_expr a + size_exprs xs

  size_pred : Pred → ℕ
  size_pred (truth n) = 1
  size_pred (equal n a b) = suc (size_expr a + size_expr b)
  size_pred (member n a b) = suc (size_expr a + size_expr b)
  size_pred (at_most n a b) = suc (size_expr a + size_expr b)
  size_pred (Tree.not n p) = suc (size_pred p)
  size_pred (connected n o p q) = suc (size_pred p + size_pred q)
  size_pred (quantified n q x p) = suc (size_text x + size_pred p)

  size_text : Text → ℕ
  size_text (text k p ls) = size_pred p + size_lines ls

  size_lines : Lines → ℕ
  size_lines end = 0
  size_lines (declaration n a is ls) = suc (size_expr a + size_lines ls)
  size_lines (inclusion i ls) = 1

-- a test may work out the same tree
unfoldable rank : Evaluation → ℕ
rank (working a scope) = 2 * size_expr a
rank (telling p scope) = 2 * size_pred p
rank (testing a scope v) = suc (2 * size_expr a)
rank (declaring ls scope) = 2 * size_lines ls
rank (including i) = 0

operand_size : {scope : Environment} {xs : Exprs} {a : Expr} → Operand scope xs a → size_expr a ≤ size_exprs xs
unfolding size_expr
operand_size Evaluations.first_operand = omega arith
operand_size (Evaluations.later_operand g k) = let h = operand_size k in omega arith

member_size : {scope : Environment} {xs : Exprs} {s s' : Values} {a : Expr} → Adding scope xs s a s' → size_expr a ≤ size_exprs xs
unfolding size_expr
member_size Evaluations.first_member = omega arith
member_size (Evaluations.later_member g e k) = let h = member_size k in omega arith

part_size : {scope : Environment} {xs : Exprs} {vs : Values} {a : Expr} {v : Value} → EachPart scope xs vs a v → size_expr a ≤ size_exprs xs
unfolding size_expr
part_size Evaluations.first_part = omega arith
part_size (Evaluations.later_part g k) = let h = part_size k in omega arith

smaller : {t u : Evaluation} → Reaches t u → rank u < rank t
unfolding rank size_expr
smaller (Evaluations.actual k) = let h = operand_size k in omega arith
smaller (Evaluations.set_member k) = let h = member_size k in omega arith
smaller (Evaluations.tuple_part k) = let h = operand_size k in omega arith
smaller Evaluations.power_base = omega arith
smaller (Evaluations.product_factor k) = let h = operand_size k in omega arith
smaller Evaluations.function = omega arith
smaller (Evaluations.argument g) = omega arith
smaller Evaluations.left_number = omega arith
smaller (Evaluations.right_number g) = omega arith
smaller Evaluations.gathered_sets = omega arith
smaller (Evaluations.gathered_where g k) = omega arith
smaller (Evaluations.gathered_body g k c) = omega arith
smaller Evaluations.left_equal = omega arith
smaller (Evaluations.right_equal g) = omega arith
smaller Evaluations.left_member = omega arith
smaller (Evaluations.member_test g) = omega arith
smaller Evaluations.left_at_most = omega arith
smaller (Evaluations.right_at_most g) = omega arith
smaller Evaluations.negated = omega arith
smaller Evaluations.left_side = omega arith
smaller (Evaluations.right_side g) = omega arith
smaller Evaluations.tried_sets = omega arith
smaller (Evaluations.tried_where g k) = omega arith
smaller (Evaluations.tried_body g k c) = omega arith
smaller Evaluations.declared = omega arith
smaller (Evaluations.next_line g) = omega arith
smaller Evaluations.included = omega arith
smaller (Evaluations.power_member k) = omega arith
smaller (Evaluations.product_part e k) = let h = part_size k in omega arith
smaller (Evaluations.anew o) = omega arith

module _ (w m : ℕ) where
  abbrev Deep : Evaluation → Type 0
  Deep t = (u : Evaluation) × Within t u × Row w m u

  deeper : (k : ℕ) (t : Evaluation) → ((u : Evaluation) → rank u < k → StopsAt u w m → Deep u) → rank t < suc k → Below t w m ⊎ Row w m t → Deep t
  deeper k t h l (inl (u, r, s)) = let q = h u (let e = smaller r in omega arith) s in (q.0, further r q.1, q.2)
  deeper k t h l (inr r) = (t, itself, r)

  ranked : (k : ℕ) (t : Evaluation) → rank t < k → StopsAt t w m → Deep t
  ranked zero t l h = absurd (omega arith)
  ranked (suc k) t l h = deeper k t (λ u. ranked k u) l (found t w m h)

  pub within_found : (t : Evaluation) → StopsAt t w m → (u : Evaluation) × Within t u × Row w m u
  within_found t h = ranked (suc (rank t)) t (omega arith) h

  within_stops : {t u : Evaluation} → Within t u → StopsAt u w m → StopsAt t w m
  within_stops itself h = h
  within_stops (further r k) h = reached_stops w m r (within_stops k h)

  pub within_row : (t u : Evaluation) → Within t u → Row w m u → StopsAt t w m
  within_row t u k h = within_stops k (row_stops h)
