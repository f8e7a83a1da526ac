-- The turn of an assignment: the Text's predicate, then the body of a quantifier or a Comprehension.
use Rattle.std.specs.Prelude.{List, Bool, true, false, ℕ, eqb}
use Rattle.reader_rules.specs.Nodes.{kind_at, operand_at}
use Rattle.reader_rules.specs.Decode.{expr_at, pred_at, quantifier_of}
use Rattle.evaluator_rules.specs.Outcomes.{◌>>=◌, pure}
use Rattle.evaluator_rules.specs.Operations.{add}
use Rattle.evaluator_rules.specs.Assignments.{go, Body, flow_of}
use Rattle.evaluator_rules.specs.Rules.{eval_expr, eval_pred}

-- the body of node k, a quantifier or a Comprehension, beside its Text
unfoldable pub body_if : Bool → List ℕ → ℕ → Body
body_if true doc k scope s = eval_expr (expr_at doc (operand_at doc k 2)) scope >>= λ v. add k v s >>= λ s'. pure (go s')
body_if false doc k scope s = eval_pred (pred_at doc (operand_at doc k 2)) scope >>= λ b. pure (flow_of (quantifier_of (kind_at doc k)) b)

unfoldable pub body_at : List ℕ → ℕ → Body
body_at doc k = body_if (eqb (kind_at doc k) 46) doc k

-- one assignment of node k: the body where the Text's predicate is true
unfoldable pub turn_at : List ℕ → ℕ → Body
turn_at doc k scope s = eval_pred (pred_at doc (operand_at doc (operand_at doc k 1) 1)) scope >>= λ b. elim b [ true ↦ body_at doc k scope s | false ↦ pure (go s) ]
