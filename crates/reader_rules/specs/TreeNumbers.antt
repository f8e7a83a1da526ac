-- The numbers of a tree's nodes: operands before their node, in operand order.
use Rattle.std.specs.Prelude.{List, [], ◌∷◌, ◌++◌, ℕ}
use Rattle.reader_rules.specs.Tree.{Expr, reference, number, integers, set, tuple, product, power, application, selection, theta, schema_set}
use Rattle.reader_rules.specs.Tree.{arithmetic, comprehension, Exprs, none, more, Pred, truth, equal, member, at_most, not, connected, quantified}
use Rattle.reader_rules.specs.Tree.{Text, text, Lines, end, declaration, inclusion, Include, include, Schema, plain, from, both, Paragraph, given}
use Rattle.reader_rules.specs.Tree.{axiomatic, schema, abbreviation, constraint, Document, document}

unfoldable mutual
  pub expr_numbers : Expr → List ℕ
  expr_numbers (reference n i xs) = exprs_numbers xs ++ (n ∷ [])
  expr_numbers (number n v) = n ∷ []
  expr_numbers (integers n) = n ∷ []
  expr_numbers (set n xs) = exprs_numbers xs ++ (n ∷ [])
  expr_numbers (tuple n xs) = exprs_numbers xs ++ (n ∷ [])
  expr_numbers (product n xs) = exprs_numbers xs ++ (n ∷ [])
  expr_numbers (power n a) = expr_numbers a ++ (n ∷ [])
  expr_numbers (application n a b) = (expr_numbers a ++ expr_numbers b) ++ (n ∷ [])
  expr_numbers (selection n a i) = expr_numbers a ++ (n ∷ [])
  expr_numbers (theta n s k) = n ∷ []
  expr_numbers (schema_set n i) = include_numbers i ++ (n ∷ [])
  expr_numbers (arithmetic n o a b) = (expr_numbers a ++ expr_numbers b) ++ (n ∷ [])
  expr_numbers (comprehension n t a) = (text_numbers t ++ expr_numbers a) ++ (n ∷ [])

  pub exprs_numbers : Exprs → List ℕ
  exprs_numbers none = []
  exprs_numbers (more a xs) = expr_numbers a ++ exprs_numbers xs

  pub pred_numbers : Pred → List ℕ
  pred_numbers (truth n) = n ∷ []
  pred_numbers (equal n a b) = (expr_numbers a ++ expr_numbers b) ++ (n ∷ [])
  pred_numbers (member n a b) = (expr_numbers a ++ expr_numbers b) ++ (n ∷ [])
  pred_numbers (at_most n a b) = (expr_numbers a ++ expr_numbers b) ++ (n ∷ [])
  pred_numbers (not n p) = pred_numbers p ++ (n ∷ [])
  pred_numbers (connected n o p q) = (pred_numbers p ++ pred_numbers q) ++ (n ∷ [])
  pred_numbers (quantified n o t p) = (text_numbers t ++ pred_numbers p) ++ (n ∷ [])

  pub text_numbers : Text → List ℕ
  text_numbers (text n p ls) = (pred_numbers p ++ lines_numbers ls) ++ (n ∷ [])

  pub lines_numbers : Lines → List ℕ
  lines_numbers end = []
  lines_numbers (declaration n a is ls) = (expr_numbers a ++ (n ∷ [])) ++ lines_numbers ls
  lines_numbers (inclusion i ls) = include_numbers i ++ lines_numbers ls

  pub include_numbers : Include → List ℕ
  include_numbers (include n s k xs rs) = exprs_numbers xs ++ (n ∷ [])

unfoldable pub schema_numbers : Schema → List ℕ
schema_numbers (plain t) = text_numbers t
schema_numbers (from i) = include_numbers i
schema_numbers (both n a b) = (schema_numbers a ++ schema_numbers b) ++ (n ∷ [])

unfoldable pub paragraph_numbers : Paragraph → List ℕ
paragraph_numbers (given n is) = n ∷ []
paragraph_numbers (axiomatic n t) = text_numbers t ++ (n ∷ [])
paragraph_numbers (schema n s ps x) = schema_numbers x ++ (n ∷ [])
paragraph_numbers (abbreviation n i ps a) = expr_numbers a ++ (n ∷ [])
paragraph_numbers (constraint n p) = pred_numbers p ++ (n ∷ [])

unfoldable pub paragraphs_numbers : List Paragraph → List ℕ
paragraphs_numbers [] = []
paragraphs_numbers (p ∷ ps) = paragraph_numbers p ++ paragraphs_numbers ps

unfoldable pub node_numbers : Document → List ℕ
node_numbers (document n ps) = paragraphs_numbers ps ++ (n ∷ [])
