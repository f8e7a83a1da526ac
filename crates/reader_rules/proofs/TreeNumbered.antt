-- The numbers of the tree at a node are those of the node and all below it: expressions and predicates, from lower nodes.
use mathlib.Core.Path.{◌≡◌, refl, sym, ap, ◌∙◌}
use mathlib.Core.Bool.{true, false}
use mathlib.Core.List.{List, [], ◌∷◌, ◌++◌, append-nil}
use Prim.Native.Nat.{ℕ, ◌+◌, ◌-◌, ◌≤◌, ◌<◌}
use native.Mathlib.Omega.{arith}
use lib.Dec.{eqb}
use lib.ListN.{length}
use borrow.Author.Tests.{ne_eqb}
use Rattle.words.specs.Loops.{every}
use Rattle.words.proofs.Loops.{every_at}
use Rattle.layout.specs.Layout.{part}
use Rattle.reader_rules.specs.Kinds.{cell, sort_at, sort_in, is_node_sort, expressions, schema_expressions, predicates, texts, lines, paragraphs, includes}
use Rattle.reader_rules.specs.Nodes.{kind_at, operand_at, nodes_among, children}
use Rattle.reader_rules.specs.Promise.{At, Lower}
use Rattle.reader_rules.specs.Tree.{Expr, Exprs, none, more, Lines}
use Rattle.reader_rules.specs.Decode.{expr_at, pred_at, text_at, include_at, line_at, schema_at, paragraph_at, exprs_from, relation_of, members_of}
use Rattle.reader_rules.specs.TreeNumbers.{expr_numbers, exprs_numbers, pred_numbers, text_numbers, lines_numbers, include_numbers, schema_numbers}
use Rattle.reader_rules.specs.TreeNumbers.{paragraph_numbers}
use Rattle.reader_rules.specs.Below.{flat, numbers_at}
use Rattle.reader_rules.proofs.Operands.{cond_same}
use Rattle.reader_rules.proofs.TreeCounts.{at_least}
use Rattle.reader_rules.proofs.TreeShape.{all_at, ◌▹◌}
use Rattle.reader_rules.proofs.TreeExpr.{expr_range, expr_reference, expr_number, expr_integers, expr_members, expr_power, expr_application}
use Rattle.reader_rules.proofs.TreeExpr.{expr_selection, expr_theta, expr_schema_set, expr_arithmetic, expr_comprehension}
use Rattle.reader_rules.proofs.TreePred.{pred_range, pred_truth, pred_relation, pred_not, pred_connected, pred_quantified}
use Rattle.reader_rules.proofs.TreeAmong.{two_children, gathered, by_children, exactly, leaf_numbers, one_numbers, two_numbers, first_plain}
use Rattle.reader_rules.proofs.TreeAmong.{same_sort}

-- the claim at node k, for each sort
pub record Numbered (doc : List ℕ) (k : ℕ) : Type 0 where
  pub expr : At doc expressions k → expr_numbers (expr_at doc k) ≡ numbers_at doc k
  pub pred : At doc predicates k → pred_numbers (pred_at doc k) ≡ numbers_at doc k
  pub text : At doc texts k → text_numbers (text_at doc k) ≡ numbers_at doc k
  pub include : At doc includes k → include_numbers (include_at doc k) ≡ numbers_at doc k
  pub line : At doc lines k → (ls : Lines) → lines_numbers (line_at doc k ls) ≡ numbers_at doc k ++ lines_numbers ls
  pub schema : At doc schema_expressions k → schema_numbers (schema_at doc k) ≡ numbers_at doc k
  pub paragraph : At doc paragraphs k → paragraph_numbers (paragraph_at doc k) ≡ numbers_at doc k

module _ (doc : List ℕ) (k : ℕ) (ih : (j : ℕ) → j < k → Numbered doc j) where
  pub below_expr : {a : ℕ} → Lower doc k expressions a → expr_numbers (expr_at doc a) ≡ numbers_at doc a
  below_expr {a} l = (ih a l.below).expr l.at

  pub below_pred : {a : ℕ} → Lower doc k predicates a → pred_numbers (pred_at doc a) ≡ numbers_at doc a
  below_pred {a} l = (ih a l.below).pred l.at

  pub below_text : {a : ℕ} → Lower doc k texts a → text_numbers (text_at doc a) ≡ numbers_at doc a
  below_text {a} l = (ih a l.below).text l.at

  -- expressions that are operands i to i + m - 1
  pub listed_exprs : (i m : ℕ) → ((j : ℕ) → i ≤ j → j < i + m → is_node_sort (sort_at (part doc k) j) ≡ true)
      → ((j : ℕ) → i ≤ j → j < i + m → Lower doc k expressions (operand_at doc k j))
      → exprs_numbers (exprs_from doc k i m) ≡ flat (numbers_at doc) (nodes_among (part doc k) i m)
  unfolding exprs_from expr_numbers
  listed_exprs i m s o =
      gathered exprs_numbers (λ j. more (expr_at doc j)) (numbers_at doc) (part doc k) i m none s (λ j p q y. ap (λ (l : List ℕ). l ++ exprs_numbers y) (below_expr (o j p q)))
      ∙ append-nil (flat (numbers_at doc) (nodes_among (part doc k) i m))

  module _ (h : At doc expressions k) where
    Claim : ℕ → Type 0
    Claim q = kind_at doc k ≡ q → expr_numbers (expr_at doc k) ≡ numbers_at doc k

    members : (q : ℕ) → 33 ≤ q → q ≤ 35 → ((n a j : ℕ) → is_node_sort (sort_in q n a j) ≡ true) → ((xs : Exprs) → expr_numbers (members_of q k xs) ≡ exprs_numbers xs ++ (k ∷ []))
        → Claim q
    unfolding Claim children
    members q a b s f e =
        let l = expr_members doc k h q e a b in
        let n = length (part doc k) - 1 in
        rw l.tree (f (exprs_from doc k 1 n)
        ∙ by_children doc expressions k h (nodes_among (part doc k) 1 n) refl (exprs_numbers (exprs_from doc k 1 n))
        (listed_exprs 1 n (λ j c d. rw e (s n (operand_at doc k 3) j)) (λ j c d. l.each j c (omega arith) _ refl)))

    arithmetics : (q : ℕ) → 41 ≤ q → q ≤ 45 → Claim q
    unfolding Claim expr_numbers cell sort_in every
    arithmetics q a b e =
        let l = expr_arithmetic doc k h q e a b _ _ refl refl in
        rw l.tree (two_numbers doc expressions k h q e (every_at two_children 41 5 refl q a (omega arith)) _ _ (below_expr l.left) (below_expr l.right))

    references : Claim 30
    unfolding Claim expr_numbers cell sort_in
    references e =
        let l = expr_reference doc k h e in
        let w = part doc k in
        let n = length w - 2 in
        let m : 1 < length w = rw e at (at_least doc expressions k h) in
        rw l.tree (by_children doc expressions k h (nodes_among w 2 n)
        (first_plain doc k m (rw e (ap is_node_sort (cond_same (eqb 1 (length w - 1)) 1)))) (exprs_numbers (exprs_from doc k 2 n))
        (listed_exprs 2 n (λ j c d. rw (e, ne_eqb j 1 (omega arith)) (ap is_node_sort (same_sort (eqb j (length w - 1)) false (eqb j 2) expressions)))
        (λ j c d. l.each j c (omega arith) _ refl)))

    selections : Claim 38
    unfolding Claim expr_numbers cell sort_in children nodes_among flat
    selections e =
        let l = expr_selection doc k h e _ refl in
        let n = exactly doc expressions k h 38 2 e refl refl in
        rw l.tree (by_children doc expressions k h (operand_at doc k 1 ∷ []) (rw (n, n, e)) _
        (below_expr l.first ∙ sym (append-nil (numbers_at doc (operand_at doc k 1)))))

    pub expr_numbered : expr_numbers (expr_at doc k) ≡ numbers_at doc k
    unfolding Claim expr_numbers cell sort_in
    expr_numbered =
        let r = expr_range doc k h in
        all_at Claim 30 17
        (references
        ▹ (λ e. rw (expr_number doc k h e) (leaf_numbers doc expressions k h 31 e 1 refl refl (refl, tt)))
        ▹ (λ e. rw (expr_integers doc k h e) (leaf_numbers doc expressions k h 32 e 0 refl refl tt))
        ▹ members 33 (omega arith) (omega arith) all_exprs (λ xs. refl)
        ▹ members 34 (omega arith) (omega arith) all_exprs (λ xs. refl)
        ▹ members 35 (omega arith) (omega arith) all_exprs (λ xs. refl)
        ▹ (λ e. let l = expr_power doc k h e _ refl in rw l.tree (one_numbers doc expressions k h 36 e refl _ (below_expr l.first)))
        ▹ (λ e.
        let l = expr_application doc k h e _ _ refl refl in
        rw l.tree (two_numbers doc expressions k h 37 e refl _ _ (below_expr l.left) (below_expr l.right)))
        ▹ selections
        ▹ (λ e. rw (expr_theta doc k h e) (leaf_numbers doc expressions k h 39 e 2 refl refl (refl, (refl, tt))))
        ▹ (λ e.
        let l = expr_schema_set doc k h e _ refl in
        rw l.tree (one_numbers doc expressions k h 40 e refl _ ((ih _ l.first.below).include l.first.at)))
        ▹ arithmetics 41 (omega arith) (omega arith)
        ▹ arithmetics 42 (omega arith) (omega arith)
        ▹ arithmetics 43 (omega arith) (omega arith)
        ▹ arithmetics 44 (omega arith) (omega arith)
        ▹ arithmetics 45 (omega arith) (omega arith)
        ▹ (λ e.
        let l = expr_comprehension doc k h e _ _ refl refl in
        rw l.tree (two_numbers doc expressions k h 46 e refl _ _ (below_text l.left) (below_expr l.right)))
        ▹ tt)
        (kind_at doc k) r.0 (omega arith) refl
      where
        all_exprs : (n a j : ℕ) → is_node_sort (sort_in 33 n a j) ≡ true
        all_exprs n a j = ap is_node_sort (same_sort (eqb j n) (eqb j 1) (eqb j 2) expressions)

  module _ (h : At doc predicates k) where
    PredClaim : ℕ → Type 0
    PredClaim q = kind_at doc k ≡ q → pred_numbers (pred_at doc k) ≡ numbers_at doc k

    relations : (q : ℕ) → 21 ≤ q → q ≤ 23
        → ((x y : Expr) → pred_numbers (relation_of q k x y) ≡ (expr_numbers x ++ expr_numbers y) ++ (k ∷ [])) → PredClaim q
    unfolding PredClaim cell sort_in every
    relations q a b f e =
        let l = pred_relation doc k h q e a b _ _ refl refl in
        rw l.tree (f _ _ ∙ two_numbers doc predicates k h q e (every_at two_children 21 3 refl q a (omega arith)) _ _ (below_expr l.left) (below_expr l.right))

    connections : (q : ℕ) → 25 ≤ q → q ≤ 27 → PredClaim q
    unfolding PredClaim expr_numbers cell sort_in every
    connections q a b e =
        let l = pred_connected doc k h q e a b _ _ refl refl in
        rw l.tree (two_numbers doc predicates k h q e (every_at two_children 25 3 refl q a (omega arith)) _ _ (below_pred l.left) (below_pred l.right))

    quantifications : (q : ℕ) → 28 ≤ q → q ≤ 29 → PredClaim q
    unfolding PredClaim expr_numbers cell sort_in every
    quantifications q a b e =
        let l = pred_quantified doc k h q e a b _ _ refl refl in
        rw l.tree (two_numbers doc predicates k h q e (every_at two_children 28 2 refl q a (omega arith)) _ _ (below_text l.left) (below_pred l.right))

    pub pred_numbered : pred_numbers (pred_at doc k) ≡ numbers_at doc k
    unfolding PredClaim expr_numbers cell sort_in
    pred_numbered =
        let r = pred_range doc k h in
        all_at PredClaim 20 10
        ((λ e. rw (pred_truth doc k h e) (leaf_numbers doc predicates k h 20 e 0 refl refl tt))
        ▹ relations 21 (omega arith) (omega arith) (λ x y. refl)
        ▹ relations 22 (omega arith) (omega arith) (λ x y. refl)
        ▹ relations 23 (omega arith) (omega arith) (λ x y. refl)
        ▹ (λ e. let l = pred_not doc k h e _ refl in rw l.tree (one_numbers doc predicates k h 24 e refl _ (below_pred l.first)))
        ▹ connections 25 (omega arith) (omega arith)
        ▹ connections 26 (omega arith) (omega arith)
        ▹ connections 27 (omega arith) (omega arith)
        ▹ quantifications 28 (omega arith) (omega arith)
        ▹ quantifications 29 (omega arith) (omega arith)
        ▹ tt)
        (kind_at doc k) r.0 (omega arith) refl
