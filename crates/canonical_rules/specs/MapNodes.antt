-- A tree with other node numbers: f of each. Two trees are the same where only their node numbers differ.
use Rattle.std.specs.Prelude.{◌≡◌, List, [], ◌∷◌, ℕ}
use Rattle.reader_rules.specs.Tree.{Expr, reference, number, integers, set, tuple, product, power, application, selection, theta, schema_set}
use Rattle.reader_rules.specs.Tree.{arithmetic, comprehension, Exprs, none, more, Pred, truth, equal, member, at_most, not, connected, quantified}
use Rattle.reader_rules.specs.Tree.{Text, text, Lines, end, declaration, inclusion, Include, include, Schema, plain, from, both, Paragraph, given}
use Rattle.reader_rules.specs.Tree.{axiomatic, schema, abbreviation, constraint, Document, document}

module _ (f : ℕ → ℕ) where
  unfoldable mutual
    pub map_expr : Expr → Expr
    map_expr (reference n i xs) = reference (f n) i (map_exprs xs)
    map_expr (number n v) = number (f n) v
    map_expr (integers n) = integers (f n)
    map_expr (set n xs) = set (f n) (map_exprs xs)
    map_expr (tuple n xs) = tuple (f n) (map_exprs xs)
    map_expr (product n xs) = product (f n) (map_exprs xs)
    map_expr (power n a) = power (f n) (map_expr a)
    map_expr (application n a b) = application (f n) (map_expr a) (map_expr b)
    map_expr (selection n a i) = selection (f n) (map_expr a) i
    map_expr (theta n s k) = theta (f n) s k
    map_expr (schema_set n i) = schema_set (f n) (map_include i)
    map_expr (arithmetic n o a b) = arithmetic (f n) o (map_expr a) (map_expr b)
    map_expr (comprehension n t a) = comprehension (f n) (map_text t) (map_expr a)

    pub map_exprs : Exprs → Exprs
    map_exprs none = none
    map_exprs (more a xs) = more (map_expr a) (map_exprs xs)

    pub map_pred : Pred → Pred
    map_pred (truth n) = truth (f n)
    map_pred (equal n a b) = equal (f n) (map_expr a) (map_expr b)
    map_pred (member n a b) = member (f n) (map_expr a) (map_expr b)
    map_pred (at_most n a b) = at_most (f n) (map_expr a) (map_expr b)
    map_pred (not n p) = not (f n) (map_pred p)
    map_pred (connected n o p q) = connected (f n) o (map_pred p) (map_pred q)
    map_pred (quantified n o t p) = quantified (f n) o (map_text t) (map_pred p)

    pub map_text : Text → Text
    map_text (text n p ls) = text (f n) (map_pred p) (map_lines ls)

    pub map_lines : Lines → Lines
    map_lines end = end
    map_lines (declaration n a is ls) = declaration (f n) (map_expr a) is (map_lines ls)
    map_lines (inclusion i ls) = inclusion (map_include i) (map_lines ls)

    pub map_include : Include → Include
    map_include (include n s k xs rs) = include (f n) s k (map_exprs xs) rs

  unfoldable pub map_schema : Schema → Schema
  map_schema (plain t) = plain (map_text t)
  map_schema (from i) = from (map_include i)
  map_schema (both n a b) = both (f n) (map_schema a) (map_schema b)

  unfoldable pub map_paragraph : Paragraph → Paragraph
  map_paragraph (given n is) = given (f n) is
  map_paragraph (axiomatic n t) = axiomatic (f n) (map_text t)
  map_paragraph (schema n s ps x) = schema (f n) s ps (map_schema x)
  map_paragraph (abbreviation n i ps a) = abbreviation (f n) i ps (map_expr a)
  map_paragraph (constraint n p) = constraint (f n) (map_pred p)

  unfoldable pub map_paragraphs : List Paragraph → List Paragraph
  map_paragraphs [] = []
  map_paragraphs (p ∷ ps) = map_paragraph p ∷ map_paragraphs ps

  unfoldable pub map_nodes : Document → Document
  map_nodes (document n ps) = document (f n) (map_paragraphs ps)

-- all numbers 0
abbrev pub bare : Document → Document
bare t = map_nodes (λ n. 0) t

abbrev pub SameParagraphs : List Paragraph → List Paragraph → Type 0
SameParagraphs ps qs = map_paragraphs (λ n. 0) ps ≡ map_paragraphs (λ n. 0) qs

abbrev pub Same : Document → Document → Type 0
Same t u = bare t ≡ bare u
