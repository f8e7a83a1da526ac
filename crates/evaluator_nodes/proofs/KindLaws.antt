-- The kinds that the functions over expressions and predicates tell apart.
use mathlib.Core.Path.{◌≡◌, refl, sym, ap, subst, ◌∙◌}
use mathlib.Core.Bool.{Bool, true, false, true≢false}
use mathlib.Core.List.{List}
use Prim.Native.Nat.{ℕ, ◌≤◌}
use native.Mathlib.Omega.{arith}
use lib.IntN.{pos}
use lib.ListN.{get_or}
use Rattle.layout.specs.Layout.{part}
use Rattle.values.specs.Value.{Value, int, encode}
use Rattle.reader_rules.specs.Kinds.{expressions, predicates}
use Rattle.reader_rules.specs.Nodes.{kind_at, operand_at}
use Rattle.reader_rules.specs.Promise.{At}
use Rattle.reader_rules.specs.Tree.{Expr, reference, number, integers, product, power, application, selection, theta, schema_set, arithmetic, comprehension, expr_node}
use Rattle.reader_rules.specs.Tree as Tree
use Rattle.reader_rules.specs.Decode.{unlisted, makers, expr_at, pred_at}
use Rattle.reader_rules.proofs.TreeShape.{AllFrom, all_at, ◌▹◌, sub, as_made}
use Rattle.reader_rules.proofs.TreeExpr.{expr_range, expr_number, expr_node_lem}
use Rattle.reader_rules.proofs.TreePred.{pred_truth}
use Rattle.evaluator_rules.specs.Outcomes.{stop}
use Rattle.evaluator_rules.specs.Environment.{Environment}
use Rattle.evaluator_rules.specs.Rules.{eval_expr, eval_pred}
use Rattle.std.proofs.Common.{Ok, Err}
use Rattle.reader_rules.specs.declared.Refusal.{Refusal}
use Rattle.evaluator_operations.specs.Worked.{Holds, Told, fine, Judged, Stops}
use Rattle.evaluator_operations.proofs.ToldLaws.{stop_told}
use Rattle.evaluator_operations.proofs.OperationLaws.{keep_told}

unfoldable is_run : Expr → Bool
is_run (reference n i xs) = true
is_run (number n k) = true
is_run (integers n) = false
is_run (Tree.set n xs) = true
is_run (Tree.tuple n xs) = true
is_run (product n xs) = true
is_run (power n a) = true
is_run (application n f a) = true
is_run (selection n a i) = false
is_run (theta n s k) = false
is_run (schema_set n i) = false
is_run (arithmetic n o a b) = true
is_run (comprehension n t a) = true

not_run_lem : (e : Expr) → is_run e ≡ false → (scope : Environment) → eval_expr e scope ≡ stop 54 (expr_node e)
unfolding is_run eval_expr expr_node
not_run_lem (reference n i xs) h scope = absurd (true≢false h)
not_run_lem (number n k) h scope = absurd (true≢false h)
not_run_lem (integers n) h scope = refl
not_run_lem (Tree.set n xs) h scope = absurd (true≢false h)
not_run_lem (Tree.tuple n xs) h scope = absurd (true≢false h)
not_run_lem (product n xs) h scope = absurd (true≢false h)
not_run_lem (power n a) h scope = absurd (true≢false h)
not_run_lem (application n f a) h scope = absurd (true≢false h)
not_run_lem (selection n a i) h scope = refl
not_run_lem (theta n s k) h scope = refl
not_run_lem (schema_set n i) h scope = refl
not_run_lem (arithmetic n o a b) h scope = absurd (true≢false h)
not_run_lem (comprehension n t a) h scope = absurd (true≢false h)

-- none of the kinds that are worked out: 30, 31, 33 to 37, 41 to 45, 46
pub record Unrun (q : ℕ) : Type 0 where
  pub a : q ≡ 30 → ⊥
  pub b : q ≡ 31 → ⊥
  pub c : q ≡ 33 → ⊥
  pub d : q ≡ 34 → ⊥
  pub e : q ≡ 35 → ⊥
  pub f : q ≡ 36 → ⊥
  pub g : q ≡ 37 → ⊥
  pub h : q ≡ 46 → ⊥
  pub i : 41 ≤ q → q ≤ 45 → ⊥

unrun_kind : (doc : List ℕ) (k : ℕ) → At doc expressions k → Unrun (kind_at doc k) → is_run (expr_at doc k) ≡ false
unfolding is_run expr_at makers
unrun_kind doc k h u =
    let r = expr_range doc k h in
    as_made doc k (λ n. is_run n.expr ≡ false) (all_at Here 30 17 ones (kind_at doc k) r.0 (omega arith) u)
  where
    Here : ℕ → Type 0
    Here q = Unrun q → is_run (get_or makers q unlisted (sub doc k) k (part doc k)).expr ≡ false

    ones : AllFrom Here 30 17
    ones =
        (λ n. absurd (n.a refl)) ▹ (λ n. absurd (n.b refl)) ▹ (λ n. refl) ▹ (λ n. absurd (n.c refl)) ▹ (λ n. absurd (n.d refl)) ▹ (λ n. absurd (n.e refl)) ▹ (λ n. absurd (n.f refl))
        ▹ (λ n. absurd (n.g refl)) ▹ (λ n. refl) ▹ (λ n. refl) ▹ (λ n. refl)
        ▹ (λ n. absurd (n.i (omega arith) (omega arith))) ▹ (λ n. absurd (n.i (omega arith) (omega arith))) ▹ (λ n. absurd (n.i (omega arith) (omega arith)))
        ▹ (λ n. absurd (n.i (omega arith) (omega arith))) ▹ (λ n. absurd (n.i (omega arith) (omega arith))) ▹ (λ n. absurd (n.h refl)) ▹ tt

pub unrun_told : (doc : List ℕ) (k : ℕ) → At doc expressions k → Unrun (kind_at doc k) → (scope : Environment) {f : Refusal} → Stops f 54 k → Told Holds (Err f) (eval_expr (expr_at doc k) scope)
unrun_told doc k h u scope {f} s =
    subst (Told Holds (Err f)) (sym (not_run_lem (expr_at doc k) (unrun_kind doc k h u) scope ∙ ap (stop 54) (expr_node_lem doc k h))) (stop_told s (λ z. omega arith))

pub number_told : (doc : List ℕ) (k : ℕ) → At doc expressions k → kind_at doc k ≡ 31 → (z : ℕ) → z ≡ operand_at doc k 1 → (scope : Environment) {C : Type 0} {R : C → Value → Type 0} {b : C} → R b (int (pos z)) →
    Told R (Ok b) (eval_expr (expr_at doc k) scope)
unfolding eval_expr encode
number_told doc k h q z x scope v = rw (expr_number doc k h q, ← x) (keep_told k _ (omega arith) v)

pub truth_told : (doc : List ℕ) (k : ℕ) → At doc predicates k → kind_at doc k ≡ 20 → (scope : Environment) → Told Judged (Ok true) (eval_pred (pred_at doc k) scope)
unfolding eval_pred
truth_told doc k h q scope = rw (pred_truth doc k h q) (fine refl)

pub from_25 : (q : ℕ) → 21 ≤ q → (q ≡ 21 → ⊥) → (q ≡ 22 → ⊥) → (q ≡ 23 → ⊥) → (q ≡ 24 → ⊥) → 25 ≤ q
from_25 q l a b c d = omega arith
