-- The law of each kind of predicate, 20 to 29: its operands, and its tree by theirs.
use mathlib.Core.Path.{◌≡◌, refl, ◌∙◌}
use mathlib.Core.List.{List}
use Prim.Native.Nat.{ℕ, ◌≤◌}
use native.Mathlib.Omega.{arith}
use lib.Dec.{leb}
use lib.ListN.{get_or}
use borrow.Author.Tests.{leb-true}
use Rattle.words.specs.Loops.{every}
use Rattle.words.proofs.Loops.{and_left, and_right, every_at}
use Rattle.layout.specs.Layout.{part}
use Rattle.reader_rules.specs.Kinds.{cell, of_sort, expressions, predicates, texts}
use Rattle.reader_rules.specs.Nodes.{kind_at, operand_at}
use Rattle.reader_rules.specs.Promise.{At}
use Rattle.reader_rules.specs.Tree.{truth, not, connected, quantified}
use Rattle.reader_rules.specs.Decode.{Node, unlisted, makers, expr_at, pred_at, text_at, relation_of, connective_of, quantifier_of}
use Rattle.reader_rules.proofs.TreeShape.{all_at, ◌▹◌, One, Two, two_nodes, seen, one_law, two_law}

pub pred_range : (doc : List ℕ) (k : ℕ) → At doc predicates k → (20 ≤ kind_at doc k) × (kind_at doc k ≤ 29)
unfolding of_sort
pred_range doc k h = let e = h.sort in (leb-true _ _ (and_left (leb 20 (kind_at doc k)) _ e), leb-true _ _ (and_right (leb 20 (kind_at doc k)) _ e))

module _ (doc : List ℕ) (k : ℕ) (h : At doc predicates k) where
  -- 20 true
  pub pred_truth : kind_at doc k ≡ 20 → pred_at doc k ≡ truth k
  unfolding pred_at makers
  pred_truth q = seen doc k (λ (n : Node). n.pred) ∙ rw q

  -- 21 =, 22 member, 23 ≤
  pub pred_relation : (q : ℕ) → kind_at doc k ≡ q → 21 ≤ q → q ≤ 23 → (a b : ℕ) → a ≡ operand_at doc k 1 → b ≡ operand_at doc k 2
      → Two doc k expressions expressions a b (pred_at doc k ≡ relation_of q k (expr_at doc a) (expr_at doc b))
  unfolding pred_at expr_at cell makers every
  pred_relation q e a b =
      two_law doc predicates k h (λ n. n.pred) (λ x y. relation_of q k x.expr y.expr)
      (λ below. rw e (all_at (Made below) 21 3 (refl ▹ refl ▹ refl ▹ tt) q a (omega arith)))
      expressions expressions (rw e (every_at (two_nodes expressions expressions) 21 3 refl q a (omega arith)))
    where
      Made : (ℕ → Node) → ℕ → Type 0
      Made below r = (get_or makers r unlisted below k (part doc k)).pred ≡ relation_of r k (below (operand_at doc k 1)).expr (below (operand_at doc k 2)).expr

  -- 24 not
  pub pred_not : kind_at doc k ≡ 24 → (a : ℕ) → a ≡ operand_at doc k 1 → One doc k predicates a (pred_at doc k ≡ not k (pred_at doc a))
  unfolding pred_at cell makers
  pred_not q = one_law doc predicates k h (λ n. n.pred) (λ x. not k x.pred) (λ below. rw q refl) predicates (rw q refl)

  -- 25 and, 26 or, 27 implies
  pub pred_connected : (q : ℕ) → kind_at doc k ≡ q → 25 ≤ q → q ≤ 27 → (a b : ℕ) → a ≡ operand_at doc k 1 → b ≡ operand_at doc k 2
      → Two doc k predicates predicates a b (pred_at doc k ≡ connected k (connective_of q) (pred_at doc a) (pred_at doc b))
  unfolding pred_at cell makers every
  pred_connected q e a b =
      two_law doc predicates k h (λ n. n.pred) (λ x y. connected k (connective_of q) x.pred y.pred)
      (λ below. rw e (all_at (Made below) 25 3 (refl ▹ refl ▹ refl ▹ tt) q a (omega arith)))
      predicates predicates (rw e (every_at (two_nodes predicates predicates) 25 3 refl q a (omega arith)))
    where
      Made : (ℕ → Node) → ℕ → Type 0
      Made below r =
          (get_or makers r unlisted below k (part doc k)).pred
          ≡ connected k (connective_of r) (below (operand_at doc k 1)).pred (below (operand_at doc k 2)).pred

  -- 28 forall, 29 exists
  pub pred_quantified : (q : ℕ) → kind_at doc k ≡ q → 28 ≤ q → q ≤ 29 → (a b : ℕ) → a ≡ operand_at doc k 1 → b ≡ operand_at doc k 2
      → Two doc k texts predicates a b (pred_at doc k ≡ quantified k (quantifier_of q) (text_at doc a) (pred_at doc b))
  unfolding pred_at text_at cell makers every
  pred_quantified q e a b =
      two_law doc predicates k h (λ n. n.pred) (λ x y. quantified k (quantifier_of q) x.text y.pred)
      (λ below. rw e (all_at (Made below) 28 2 (refl ▹ refl ▹ tt) q a (omega arith)))
      texts predicates (rw e (every_at (two_nodes texts predicates) 28 2 refl q a (omega arith)))
    where
      Made : (ℕ → Node) → ℕ → Type 0
      Made below r =
          (get_or makers r unlisted below k (part doc k)).pred
          ≡ quantified k (quantifier_of r) (below (operand_at doc k 1)).text (below (operand_at doc k 2)).pred
