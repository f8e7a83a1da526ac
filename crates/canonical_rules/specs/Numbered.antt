-- Trees numbered in one way: from o on, operands before their node, in operand order, depth first. The numbers of the tree itself do not matter.
use Rattle.std.specs.Prelude.{List, [], ◌∷◌, ◌++◌, ℕ, ◌+◌, length}
use Rattle.reader_rules.specs.Tree.{Expr, reference, number, integers, set, tuple, product, power, application, selection, theta, schema_set}
use Rattle.reader_rules.specs.Tree.{arithmetic, comprehension, Exprs, none, more, Pred, truth, equal, member, at_most, not, connected, quantified}
use Rattle.reader_rules.specs.Tree.{Text, text, Lines, end, declaration, inclusion, Include, include, Schema, plain, from, both, Paragraph, given}
use Rattle.reader_rules.specs.Tree.{axiomatic, schema, abbreviation, constraint, Document, document}
use Rattle.reader_rules.specs.TreeNumbers.{expr_numbers, exprs_numbers, pred_numbers, text_numbers, lines_numbers, include_numbers, schema_numbers, paragraph_numbers, paragraphs_numbers}

unfoldable mutual
  pub number_expr : Expr → ℕ → Expr
  number_expr (reference n i xs) o = reference (o + length (exprs_numbers xs)) i (number_exprs xs o)
  number_expr (number n v) o = number o v
  number_expr (integers n) o = integers o
  number_expr (set n xs) o = set (o + length (exprs_numbers xs)) (number_exprs xs o)
  number_expr (tuple n xs) o = tuple (o + length (exprs_numbers xs)) (number_exprs xs o)
  number_expr (product n xs) o = product (o + length (exprs_numbers xs)) (number_exprs xs o)
  number_expr (power n a) o = power (o + length (expr_numbers a)) (number_expr a o)
  number_expr (application n a b) o = application (o + length (expr_numbers a ++ expr_numbers b)) (number_expr a o) (number_expr b (o + length (expr_numbers a)))
  number_expr (selection n a i) o = selection (o + length (expr_numbers a)) (number_expr a o) i
  number_expr (theta n s k) o = theta o s k
  number_expr (schema_set n i) o = schema_set (o + length (include_numbers i)) (number_include i o)
  number_expr (arithmetic n k a b) o = arithmetic (o + length (expr_numbers a ++ expr_numbers b)) k (number_expr a o) (number_expr b (o + length (expr_numbers a)))
  number_expr (comprehension n t a) o = comprehension (o + length (text_numbers t ++ expr_numbers a)) (number_text t o) (number_expr a (o + length (text_numbers t)))

  pub number_exprs : Exprs → ℕ → Exprs
  number_exprs none o = none
  number_exprs (more a xs) o = more (number_expr a o) (number_exprs xs (o + length (expr_numbers a)))

  pub number_pred : Pred → ℕ → Pred
  number_pred (truth n) o = truth o
  number_pred (equal n a b) o = equal (o + length (expr_numbers a ++ expr_numbers b)) (number_expr a o) (number_expr b (o + length (expr_numbers a)))
  number_pred (member n a b) o = member (o + length (expr_numbers a ++ expr_numbers b)) (number_expr a o) (number_expr b (o + length (expr_numbers a)))
  number_pred (at_most n a b) o = at_most (o + length (expr_numbers a ++ expr_numbers b)) (number_expr a o) (number_expr b (o + length (expr_numbers a)))
  number_pred (not n p) o = not (o + length (pred_numbers p)) (number_pred p o)
  number_pred (connected n k p q) o = connected (o + length (pred_numbers p ++ pred_numbers q)) k (number_pred p o) (number_pred q (o + length (pred_numbers p)))
  number_pred (quantified n k t p) o = quantified (o + length (text_numbers t ++ pred_numbers p)) k (number_text t o) (number_pred p (o + length (text_numbers t)))

  pub number_text : Text → ℕ → Text
  number_text (text n p ls) o = text (o + length (pred_numbers p ++ lines_numbers ls)) (number_pred p o) (number_lines ls (o + length (pred_numbers p)))

  pub number_lines : Lines → ℕ → Lines
  number_lines end o = end
  number_lines (declaration n a is ls) o = declaration (o + length (expr_numbers a)) (number_expr a o) is (number_lines ls (o + length (expr_numbers a ++ (n ∷ []))))
  number_lines (inclusion i ls) o = inclusion (number_include i o) (number_lines ls (o + length (include_numbers i)))

  pub number_include : Include → ℕ → Include
  number_include (include n s k xs rs) o = include (o + length (exprs_numbers xs)) s k (number_exprs xs o) rs

unfoldable pub number_schema : Schema → ℕ → Schema
number_schema (plain t) o = plain (number_text t o)
number_schema (from i) o = from (number_include i o)
number_schema (both n a b) o = both (o + length (schema_numbers a ++ schema_numbers b)) (number_schema a o) (number_schema b (o + length (schema_numbers a)))

unfoldable pub number_paragraph : Paragraph → ℕ → Paragraph
number_paragraph (given n is) o = given o is
number_paragraph (axiomatic n t) o = axiomatic (o + length (text_numbers t)) (number_text t o)
number_paragraph (schema n s ps x) o = schema (o + length (schema_numbers x)) s ps (number_schema x o)
number_paragraph (abbreviation n i ps a) o = abbreviation (o + length (expr_numbers a)) i ps (number_expr a o)
number_paragraph (constraint n p) o = constraint (o + length (pred_numbers p)) (number_pred p o)

unfoldable pub number_paragraphs : List Paragraph → ℕ → List Paragraph
number_paragraphs [] o = []
number_paragraphs (p ∷ ps) o = number_paragraph p o ∷ number_paragraphs ps (o + length (paragraph_numbers p))

-- a document's nodes are numbered from 1 on
unfoldable pub number_document : Document → Document
number_document (document n ps) = document (1 + length (paragraphs_numbers ps)) (number_paragraphs ps 1)
