-- The law of each kind of expression, 30 to 46: its operands, and its tree by theirs.
use mathlib.Core.Path.{◌≡◌, refl, ap, ◌∙◌}
use mathlib.Core.List.{List}
use Prim.Native.Nat.{ℕ, ◌-◌, ◌≤◌}
use native.Mathlib.Omega.{arith}
use lib.ListN.{length, get_or}
use borrow.Author.Tests.{leb-true}
use lib.Dec.{leb}
use Rattle.words.specs.Loops.{every}
use Rattle.words.proofs.Loops.{and_left, and_right, every_at}
use Rattle.layout.specs.Layout.{part}
use Rattle.reader_rules.specs.Kinds.{cell, of_sort, expressions, includes, texts}
use Rattle.reader_rules.specs.Nodes.{kind_at, operand_at}
use Rattle.reader_rules.specs.Promise.{At}
use Rattle.reader_rules.specs.Tree.{expr_node, reference, number, integers, power, application, selection, theta, schema_set, arithmetic, comprehension}
use Rattle.reader_rules.specs.Tree.{none, more}
use Rattle.reader_rules.specs.Decode.{Node, unlisted, gather, makers, expr_at, include_at, text_at, exprs_from, members_of, operator_of}
use Rattle.reader_rules.proofs.Operands.{all_kind, each_of, all_of}
use Rattle.reader_rules.proofs.TreeCounts.{at_least}
use Rattle.reader_rules.proofs.TreeShape.{AllFrom, all_at, ◌▹◌, One, Two, Each, two_nodes, sub, seen, as_made, one_law, two_law, lower_gather}

pub expr_range : (doc : List ℕ) (k : ℕ) → At doc expressions k → (30 ≤ kind_at doc k) × (kind_at doc k ≤ 46)
unfolding of_sort
expr_range doc k h = let e = h.sort in (leb-true _ _ (and_left (leb 30 (kind_at doc k)) _ e), leb-true _ _ (and_right (leb 30 (kind_at doc k)) _ e))

module _ (doc : List ℕ) (k : ℕ) (h : At doc expressions k) where
  -- 30 Ref
  pub expr_reference : kind_at doc k ≡ 30
      → Each doc k expressions 2 (length (part doc k)) (expr_at doc k ≡ reference k (operand_at doc k 1) (exprs_from doc k 2 (length (part doc k) - 2)))
  unfolding expr_at exprs_from cell makers
  expr_reference q =
      let o = each_of doc expressions k h expressions (rw q refl) (omega arith) in
      let n = at_least doc expressions k h in
      record {
        each = λ j a b v x. rw x (o j a b);
        tree =
            seen doc k (λ (n : Node). n.expr)
            ∙ rw q (ap (reference k (operand_at doc k 1)) (lower_gather doc k expressions 2 (length (part doc k) - 2) (λ n. more n.expr) none (λ j a b. o j a (omega arith))));
      }

  -- 31 Number, 32 ℤ
  pub expr_number : kind_at doc k ≡ 31 → expr_at doc k ≡ number k (operand_at doc k 1)
  unfolding expr_at makers
  expr_number q = seen doc k (λ (n : Node). n.expr) ∙ rw q

  pub expr_integers : kind_at doc k ≡ 32 → expr_at doc k ≡ integers k
  unfolding expr_at makers
  expr_integers q = seen doc k (λ (n : Node). n.expr) ∙ rw q

  -- 33 Set, 34 Tuple, 35 Product
  pub expr_members : (q : ℕ) → kind_at doc k ≡ q → 33 ≤ q → q ≤ 35
      → Each doc k expressions 1 (length (part doc k)) (expr_at doc k ≡ members_of q k (exprs_from doc k 1 (length (part doc k) - 1)))
  unfolding expr_at exprs_from cell makers every
  expr_members q e a b =
      let o = all_of doc expressions k h expressions (rw e (every_at (all_kind expressions) 33 3 refl q a (omega arith))) (omega arith) in
      record {
        each = λ j c d v x. rw x (o j c d);
        tree =
            seen doc k (λ (n : Node). n.expr)
            ∙ rw e (all_at Made 33 3 (refl ▹ refl ▹ refl ▹ tt) q a (omega arith))
            ∙ ap (members_of q k) (lower_gather doc k expressions 1 (length (part doc k) - 1) (λ n. more n.expr) none (λ j c d. o j c (omega arith)));
      }
    where
      Made : ℕ → Type 0
      Made r =
          (get_or makers r unlisted (sub doc k) k (part doc k)).expr
          ≡ members_of r k (gather (λ j. more (sub doc k j).expr) (part doc k) 1 (length (part doc k) - 1) none)

  -- 36 Power
  pub expr_power : kind_at doc k ≡ 36 → (a : ℕ) → a ≡ operand_at doc k 1 → One doc k expressions a (expr_at doc k ≡ power k (expr_at doc a))
  unfolding expr_at cell makers
  expr_power q = one_law doc expressions k h (λ n. n.expr) (λ x. power k x.expr) (λ below. rw q refl) expressions (rw q refl)

  -- 37 Apply
  pub expr_application : kind_at doc k ≡ 37 → (a b : ℕ) → a ≡ operand_at doc k 1 → b ≡ operand_at doc k 2
      → Two doc k expressions expressions a b (expr_at doc k ≡ application k (expr_at doc a) (expr_at doc b))
  unfolding expr_at cell makers
  expr_application q =
      two_law doc expressions k h (λ n. n.expr) (λ x y. application k x.expr y.expr) (λ below. rw q refl) expressions expressions (rw q refl)

  -- 38 Select
  pub expr_selection : kind_at doc k ≡ 38 → (a : ℕ) → a ≡ operand_at doc k 1
      → One doc k expressions a (expr_at doc k ≡ selection k (expr_at doc a) (operand_at doc k 2))
  unfolding expr_at cell makers
  expr_selection q =
      one_law doc expressions k h (λ n. n.expr) (λ x. selection k x.expr (operand_at doc k 2)) (λ below. rw q refl) expressions (rw q refl)

  -- 39 Theta
  pub expr_theta : kind_at doc k ≡ 39 → expr_at doc k ≡ theta k (operand_at doc k 1) (operand_at doc k 2)
  unfolding expr_at makers
  expr_theta q = seen doc k (λ (n : Node). n.expr) ∙ rw q

  -- 40 SchemaSet
  pub expr_schema_set : kind_at doc k ≡ 40 → (a : ℕ) → a ≡ operand_at doc k 1 → One doc k includes a (expr_at doc k ≡ schema_set k (include_at doc a))
  unfolding expr_at include_at cell makers
  expr_schema_set q = one_law doc expressions k h (λ n. n.expr) (λ x. schema_set k x.include) (λ below. rw q refl) includes (rw q refl)

  -- 41 + to 45 mod
  pub expr_arithmetic : (q : ℕ) → kind_at doc k ≡ q → 41 ≤ q → q ≤ 45 → (a b : ℕ) → a ≡ operand_at doc k 1 → b ≡ operand_at doc k 2
      → Two doc k expressions expressions a b (expr_at doc k ≡ arithmetic k (operator_of q) (expr_at doc a) (expr_at doc b))
  unfolding expr_at cell makers every
  expr_arithmetic q e a b =
      two_law doc expressions k h (λ n. n.expr) (λ x y. arithmetic k (operator_of q) x.expr y.expr)
      (λ below. rw e (all_at (Made below) 41 5 (refl, (refl, (refl ▹ refl ▹ refl ▹ tt))) q a (omega arith)))
      expressions expressions (rw e (every_at (two_nodes expressions expressions) 41 5 refl q a (omega arith)))
    where
      Made : (ℕ → Node) → ℕ → Type 0
      Made below r =
          (get_or makers r unlisted below k (part doc k)).expr
          ≡ arithmetic k (operator_of r) (below (operand_at doc k 1)).expr (below (operand_at doc k 2)).expr

  -- 46 Comprehension
  pub expr_comprehension : kind_at doc k ≡ 46 → (a b : ℕ) → a ≡ operand_at doc k 1 → b ≡ operand_at doc k 2
      → Two doc k texts expressions a b (expr_at doc k ≡ comprehension k (text_at doc a) (expr_at doc b))
  unfolding expr_at text_at cell makers
  expr_comprehension q =
      two_law doc expressions k h (λ n. n.expr) (λ x y. comprehension k x.text y.expr) (λ below. rw q refl) texts expressions (rw q refl)

  -- the number of the node
  pub expr_node_lem : expr_node (expr_at doc k) ≡ k
  unfolding expr_node expr_at makers
  expr_node_lem =
      let r = expr_range doc k h in
      as_made doc k (λ n. expr_node n.expr ≡ k) (all_at Here 30 17 ones (kind_at doc k) r.0 (omega arith))
    where
      Here : ℕ → Type 0
      Here q = expr_node (get_or makers q unlisted (sub doc k) k (part doc k)).expr ≡ k

      ones : AllFrom Here 30 17
      ones = refl ▹ refl ▹ refl ▹ refl ▹ refl ▹ refl ▹ refl ▹ refl ▹ refl ▹ refl ▹ refl ▹ refl ▹ refl ▹ refl ▹ refl ▹ refl ▹ refl ▹ tt
