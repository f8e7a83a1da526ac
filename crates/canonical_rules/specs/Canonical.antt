-- The one coding of a tree (document 02, ask 3): nodes numbered from 1 on, operands before their node, in operand order, depth first; laid out as count,
-- pairs and the words of each node.
use Rattle.std.specs.Prelude.{List, [], ◌∷◌, ◌++◌, ℕ, length}
use Rattle.layout.specs.Rows.{Rows, lay_out}
use Rattle.reader_rules.specs.Tree.{Operator, plus, minus, times, quotient, remainder, Connective, and, or, implies, Quantifier, forall, exists}
use Rattle.reader_rules.specs.Tree.{Expr, reference, number, integers, set, tuple, product, power, application, selection, theta, schema_set}
use Rattle.reader_rules.specs.Tree.{arithmetic, comprehension, Exprs, none, more, Pred, truth, equal, member, at_most, not, connected, quantified}
use Rattle.reader_rules.specs.Tree.{Text, text, Lines, end, declaration, inclusion, Include, include, Schema, plain, from, both, Paragraph, given}
use Rattle.reader_rules.specs.Tree.{axiomatic, schema, abbreviation, constraint, Document, document, expr_node, pred_node, text_node, include_node, schema_node, paragraph_node, exprs_length}
use Rattle.canonical_rules.specs.Numbered.{number_document}

unfoldable pub exprs_nodes : Exprs → List ℕ
exprs_nodes none = []
exprs_nodes (more a xs) = expr_node a ∷ exprs_nodes xs

unfoldable pub lines_nodes : Lines → List ℕ
lines_nodes end = []
lines_nodes (declaration n a is ls) = n ∷ lines_nodes ls
lines_nodes (inclusion i ls) = include_node i ∷ lines_nodes ls

unfoldable pub paragraphs_nodes : List Paragraph → List ℕ
paragraphs_nodes [] = []
paragraphs_nodes (p ∷ ps) = paragraph_node p ∷ paragraphs_nodes ps

unfoldable pub operator_kind : Operator → ℕ
operator_kind plus = 41
operator_kind minus = 42
operator_kind times = 43
operator_kind quotient = 44
operator_kind remainder = 45

unfoldable pub connective_kind : Connective → ℕ
connective_kind and = 25
connective_kind or = 26
connective_kind implies = 27

unfoldable pub quantifier_kind : Quantifier → ℕ
quantifier_kind forall = 28
quantifier_kind exists = 29

-- rename pairs, old and new
unfoldable pub pair_words : List (ℕ × ℕ) → List ℕ
pair_words [] = []
pair_words (r ∷ rs) = r.0 ∷ r.1 ∷ pair_words rs

-- The words of a tree's nodes, operands before their node: kind, then operands.
abbrev then_row : Rows → List ℕ → Rows
then_row ws w = ws ++ (w ∷ [])

unfoldable mutual
  pub expr_rows : Expr → Rows
  expr_rows (reference n i xs) = then_row (exprs_rows xs) (30 ∷ i ∷ exprs_nodes xs)
  expr_rows (number n v) = (31 ∷ v ∷ []) ∷ []
  expr_rows (integers n) = (32 ∷ []) ∷ []
  expr_rows (set n xs) = then_row (exprs_rows xs) (33 ∷ exprs_nodes xs)
  expr_rows (tuple n xs) = then_row (exprs_rows xs) (34 ∷ exprs_nodes xs)
  expr_rows (product n xs) = then_row (exprs_rows xs) (35 ∷ exprs_nodes xs)
  expr_rows (power n a) = then_row (expr_rows a) (36 ∷ expr_node a ∷ [])
  expr_rows (application n a b) = then_row (expr_rows a ++ expr_rows b) (37 ∷ expr_node a ∷ expr_node b ∷ [])
  expr_rows (selection n a i) = then_row (expr_rows a) (38 ∷ expr_node a ∷ i ∷ [])
  expr_rows (theta n s k) = (39 ∷ s ∷ k ∷ []) ∷ []
  expr_rows (schema_set n i) = then_row (include_rows i) (40 ∷ include_node i ∷ [])
  expr_rows (arithmetic n k a b) = then_row (expr_rows a ++ expr_rows b) (operator_kind k ∷ expr_node a ∷ expr_node b ∷ [])
  expr_rows (comprehension n t a) = then_row (text_rows t ++ expr_rows a) (46 ∷ text_node t ∷ expr_node a ∷ [])

  pub exprs_rows : Exprs → Rows
  exprs_rows none = []
  exprs_rows (more a xs) = expr_rows a ++ exprs_rows xs

  pub pred_rows : Pred → Rows
  pred_rows (truth n) = (20 ∷ []) ∷ []
  pred_rows (equal n a b) = then_row (expr_rows a ++ expr_rows b) (21 ∷ expr_node a ∷ expr_node b ∷ [])
  pred_rows (member n a b) = then_row (expr_rows a ++ expr_rows b) (22 ∷ expr_node a ∷ expr_node b ∷ [])
  pred_rows (at_most n a b) = then_row (expr_rows a ++ expr_rows b) (23 ∷ expr_node a ∷ expr_node b ∷ [])
  pred_rows (not n p) = then_row (pred_rows p) (24 ∷ pred_node p ∷ [])
  pred_rows (connected n k p q) = then_row (pred_rows p ++ pred_rows q) (connective_kind k ∷ pred_node p ∷ pred_node q ∷ [])
  pred_rows (quantified n k t p) = then_row (text_rows t ++ pred_rows p) (quantifier_kind k ∷ text_node t ∷ pred_node p ∷ [])

  -- the predicate, then the lines
  pub text_rows : Text → Rows
  text_rows (text n p ls) = then_row (pred_rows p ++ lines_rows ls) (10 ∷ pred_node p ∷ lines_nodes ls)

  pub lines_rows : Lines → Rows
  lines_rows end = []
  lines_rows (declaration n a is ls) = then_row (expr_rows a) (11 ∷ expr_node a ∷ is) ++ lines_rows ls
  lines_rows (inclusion i ls) = include_rows i ++ lines_rows ls

  pub include_rows : Include → Rows
  include_rows (include n s k xs rs) = then_row (exprs_rows xs) (12 ∷ s ∷ k ∷ exprs_length xs ∷ (exprs_nodes xs ++ pair_words rs))

unfoldable pub schema_rows : Schema → Rows
schema_rows (plain t) = text_rows t
schema_rows (from i) = include_rows i
schema_rows (both n a b) = then_row (schema_rows a ++ schema_rows b) (15 ∷ schema_node a ∷ schema_node b ∷ [])

unfoldable pub paragraph_rows : Paragraph → Rows
paragraph_rows (given n is) = (2 ∷ is) ∷ []
paragraph_rows (axiomatic n t) = then_row (text_rows t) (3 ∷ text_node t ∷ [])
paragraph_rows (schema n s ps x) = then_row (schema_rows x) (4 ∷ s ∷ length ps ∷ (ps ++ (schema_node x ∷ [])))
paragraph_rows (abbreviation n i ps a) = then_row (expr_rows a) (5 ∷ i ∷ length ps ∷ (ps ++ (expr_node a ∷ [])))
paragraph_rows (constraint n p) = then_row (pred_rows p) (6 ∷ pred_node p ∷ [])

unfoldable pub paragraphs_rows : List Paragraph → Rows
paragraphs_rows [] = []
paragraphs_rows (p ∷ ps) = paragraph_rows p ++ paragraphs_rows ps

unfoldable pub document_rows : Document → Rows
document_rows (document n ps) = then_row (paragraphs_rows ps) (1 ∷ paragraphs_nodes ps)

unfoldable pub canonical_of : Document → List ℕ
canonical_of t = lay_out (document_rows (number_document t))
