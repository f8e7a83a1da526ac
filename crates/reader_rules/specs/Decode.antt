-- From the words of a document to its tree. Each node is made of its own words and of the nodes that its operands name, once.
use Rattle.std.specs.Prelude.{ℕ, zero, suc, ◌+◌, ◌-◌, ◌/◌, List, [], ◌∷◌, length, get_or, take, drop}
use Rattle.layout.specs.Layout.{count, part}
use Rattle.reader_rules.specs.Nodes.{kind_at}
use Rattle.reader_rules.specs.LowerNodes.{meaning}
use Rattle.reader_rules.specs.Tree.{Operator, plus, minus, times, quotient, remainder, Connective, and, or, implies, Quantifier, forall, exists, Expr}
use Rattle.reader_rules.specs.Tree.{reference, number, integers, set, tuple, product, power, application, selection, theta, schema_set, arithmetic}
use Rattle.reader_rules.specs.Tree.{comprehension, Exprs, none, more, Pred, truth, equal, member, at_most, not, connected, quantified, Text, text}
use Rattle.reader_rules.specs.Tree.{Lines, end, declaration, inclusion, Include, include, Schema, plain, from, both, Paragraph, given, axiomatic}
use Rattle.reader_rules.specs.Tree.{schema, abbreviation, constraint, Document, document}

-- What a node is as an operand of each sort. Where it is not of a sort, a stand-in with node number 0, which no law speaks of.
pub record Node : Type 0 where
  pub expr : Expr
  pub pred : Pred
  pub text : Text
  pub include : Include
  pub line : Lines → Lines
  pub schema : Schema
  pub paragraph : Paragraph
  pub document : Document

abbrev no_pred : Pred
no_pred = truth 0

abbrev no_text : Text
no_text = text 0 no_pred end

abbrev no_include : Include
no_include = include 0 0 0 none []

abbrev skip : Lines → Lines
skip ls = ls

abbrev no_schema : Schema
no_schema = plain no_text

abbrev no_paragraph : Paragraph
no_paragraph = constraint 0 no_pred

abbrev no_document : Document
no_document = document 0 []

abbrev node : Expr → Pred → Text → Include → (Lines → Lines) → Schema → Paragraph → Document → Node
node e p t i l s g d = record { expr = e; pred = p; text = t; include = i; line = l; schema = s; paragraph = g; document = d }

abbrev an_expr : Expr → Node
an_expr e = node e no_pred no_text no_include skip no_schema no_paragraph no_document

abbrev a_pred : Pred → Node
a_pred p = node (integers 0) p no_text no_include skip no_schema no_paragraph no_document

-- a Text is a schema expression too, and an Include is one and a line
abbrev a_text : Text → Node
a_text t = node (integers 0) no_pred t no_include skip (plain t) no_paragraph no_document

abbrev an_include : Include → Node
an_include i = node (integers 0) no_pred no_text i (inclusion i) (from i) no_paragraph no_document

abbrev a_line : (Lines → Lines) → Node
a_line l = node (integers 0) no_pred no_text no_include l no_schema no_paragraph no_document

abbrev a_schema : Schema → Node
a_schema s = node (integers 0) no_pred no_text no_include skip s no_paragraph no_document

abbrev a_paragraph : Paragraph → Node
a_paragraph g = node (integers 0) no_pred no_text no_include skip no_schema g no_document

abbrev a_document : Document → Node
a_document d = node (integers 0) no_pred no_text no_include skip no_schema no_paragraph d

abbrev pub no_node : Node
no_node = a_document no_document

-- f at each of the m operands from i on, the last first, from z
unfoldable pub gather : {A : Type 0} → (ℕ → A → A) → List ℕ → ℕ → ℕ → A → A
gather f w i zero z = z
gather f w i (suc m) z = f (get_or w i 0) (gather f w (suc i) m z)

-- the m pairs of words from i on
unfoldable pub pairs_from : List ℕ → ℕ → ℕ → List (ℕ × ℕ)
pairs_from w i zero = []
pairs_from w i (suc m) = (get_or w i 0, get_or w (suc i) 0) ∷ pairs_from w (suc (suc i)) m

-- how a kind's node k is made of the nodes below and its words w
abbrev pub Maker : Type 0
Maker = (ℕ → Node) → ℕ → List ℕ → Node

abbrev leaf : (ℕ → List ℕ → Node) → Maker
leaf f sub k w = f k w

abbrev one : (ℕ → List ℕ → Node → Node) → Maker
one f sub k w = f k w (sub (get_or w 1 0))

abbrev two : (ℕ → Node → Node → Node) → Maker
two f sub k w = f k (sub (get_or w 1 0)) (sub (get_or w 2 0))

-- the expressions from operand i on
abbrev many : ℕ → (ℕ → List ℕ → Exprs → Node) → Maker
many i f sub k w = f k w (gather (λ j. more (sub j).expr) w i (length w - i) none)

-- name, parameter count, parameters, body
abbrev defined : (ℕ → ℕ → List ℕ → Node → Node) → Maker
defined f sub k w = f k (get_or w 1 0) (take (get_or w 2 0) (drop 3 w)) (sub (get_or w (get_or w 2 0 + 3) 0))

abbrev pub unlisted : Maker
unlisted = leaf (λ k w. no_node)

-- by kind
unfoldable pub makers : List Maker
makers =
    unlisted
    ∷ (λ sub k w. a_document (document k (gather (λ j. ◌∷◌ (sub j).paragraph) w 1 (length w - 1) [])))  -- 1 Document
    ∷ leaf (λ k w. a_paragraph (given k (drop 1 w)))  -- 2 Given
    ∷ one (λ k w a. a_paragraph (axiomatic k a.text))  -- 3 Axiom
    ∷ defined (λ k x ps a. a_paragraph (schema k x ps a.schema))  -- 4 Schema
    ∷ defined (λ k x ps a. a_paragraph (abbreviation k x ps a.expr))  -- 5 Abbreviation
    ∷ one (λ k w a. a_paragraph (constraint k a.pred))  -- 6 Constraint
    ∷ unlisted
    ∷ unlisted
    ∷ unlisted
    ∷ (λ sub k w. a_text (text k (sub (get_or w 1 0)).pred (gather (λ j. (sub j).line) w 2 (length w - 2) end)))  -- 10 Text
    ∷ one (λ k w a. a_line (declaration k a.expr (drop 2 w)))  -- 11 Decl
    ∷ (λ sub k w. an_include (include k (get_or w 1 0) (get_or w 2 0) (gather (λ j. more (sub j).expr) w 4 (get_or w 3 0) none)
    (pairs_from w (get_or w 3 0 + 4) ((length w - (get_or w 3 0 + 4)) / 2))))  -- 12 Include
    ∷ unlisted
    ∷ unlisted
    ∷ two (λ k a b. a_schema (both k a.schema b.schema))  -- 15 Conjunction
    ∷ unlisted
    ∷ unlisted
    ∷ unlisted
    ∷ unlisted
    ∷ leaf (λ k w. a_pred (truth k))  -- 20 true
    ∷ two (λ k a b. a_pred (equal k a.expr b.expr))  -- 21 =
    ∷ two (λ k a b. a_pred (member k a.expr b.expr))  -- 22 member
    ∷ two (λ k a b. a_pred (at_most k a.expr b.expr))  -- 23 ≤
    ∷ one (λ k w a. a_pred (not k a.pred))  -- 24 not
    ∷ two (λ k a b. a_pred (connected k and a.pred b.pred))  -- 25 and
    ∷ two (λ k a b. a_pred (connected k or a.pred b.pred))  -- 26 or
    ∷ two (λ k a b. a_pred (connected k implies a.pred b.pred))  -- 27 implies
    ∷ two (λ k a b. a_pred (quantified k forall a.text b.pred))  -- 28 forall
    ∷ two (λ k a b. a_pred (quantified k exists a.text b.pred))  -- 29 exists
    ∷ many 2 (λ k w xs. an_expr (reference k (get_or w 1 0) xs))  -- 30 Ref
    ∷ leaf (λ k w. an_expr (number k (get_or w 1 0)))  -- 31 Number
    ∷ leaf (λ k w. an_expr (integers k))  -- 32 ℤ
    ∷ many 1 (λ k w xs. an_expr (set k xs))  -- 33 Set
    ∷ many 1 (λ k w xs. an_expr (tuple k xs))  -- 34 Tuple
    ∷ many 1 (λ k w xs. an_expr (product k xs))  -- 35 Product
    ∷ one (λ k w a. an_expr (power k a.expr))  -- 36 Power
    ∷ two (λ k a b. an_expr (application k a.expr b.expr))  -- 37 Apply
    ∷ one (λ k w a. an_expr (selection k a.expr (get_or w 2 0)))  -- 38 Select
    ∷ leaf (λ k w. an_expr (theta k (get_or w 1 0) (get_or w 2 0)))  -- 39 Theta
    ∷ one (λ k w a. an_expr (schema_set k a.include))  -- 40 SchemaSet
    ∷ two (λ k a b. an_expr (arithmetic k plus a.expr b.expr))  -- 41 +
    ∷ two (λ k a b. an_expr (arithmetic k minus a.expr b.expr))  -- 42 −
    ∷ two (λ k a b. an_expr (arithmetic k times a.expr b.expr))  -- 43 ×
    ∷ two (λ k a b. an_expr (arithmetic k quotient a.expr b.expr))  -- 44 div
    ∷ two (λ k a b. an_expr (arithmetic k remainder a.expr b.expr))  -- 45 mod
    ∷ two (λ k a b. an_expr (comprehension k a.text b.expr))  -- 46 Comprehension
    ∷ []

-- the constructors of kinds that behave alike: 21 to 23, 25 to 27, 28 and 29, 33 to 35, 41 to 45
abbrev pub relation_of : ℕ → ℕ → Expr → Expr → Pred
relation_of q = get_or (equal ∷ member ∷ at_most ∷ []) (q - 21) equal

abbrev pub connective_of : ℕ → Connective
connective_of q = get_or (and ∷ or ∷ implies ∷ []) (q - 25) and

abbrev pub quantifier_of : ℕ → Quantifier
quantifier_of q = get_or (forall ∷ exists ∷ []) (q - 28) forall

abbrev pub members_of : ℕ → ℕ → Exprs → Expr
members_of q = get_or (set ∷ tuple ∷ product ∷ []) (q - 33) set

abbrev pub operator_of : ℕ → Operator
operator_of q = get_or (plus ∷ minus ∷ times ∷ quotient ∷ remainder ∷ []) (q - 41) plus

abbrev pub make_at : List ℕ → ℕ → (ℕ → Node) → Node
make_at doc k sub = get_or makers (kind_at doc k) unlisted sub k (part doc k)

unfoldable pub node_at : List ℕ → ℕ → Node
node_at doc = meaning no_node (make_at doc)

-- node k as an expression, a predicate, ..
unfoldable pub expr_at : List ℕ → ℕ → Expr
expr_at doc k = (node_at doc k).expr

unfoldable pub pred_at : List ℕ → ℕ → Pred
pred_at doc k = (node_at doc k).pred

unfoldable pub text_at : List ℕ → ℕ → Text
text_at doc k = (node_at doc k).text

unfoldable pub include_at : List ℕ → ℕ → Include
include_at doc k = (node_at doc k).include

-- node k as a line before others
unfoldable pub line_at : List ℕ → ℕ → Lines → Lines
line_at doc k = (node_at doc k).line

unfoldable pub schema_at : List ℕ → ℕ → Schema
schema_at doc k = (node_at doc k).schema

unfoldable pub paragraph_at : List ℕ → ℕ → Paragraph
paragraph_at doc k = (node_at doc k).paragraph

-- the tree of a document is that of its last node
unfoldable pub tree_of : List ℕ → Document
tree_of doc = (node_at doc (count doc)).document

-- the expressions, lines or paragraphs that are the m operands of node k from i on
unfoldable pub exprs_from : List ℕ → ℕ → ℕ → ℕ → Exprs
exprs_from doc k i m = gather (λ j. more (expr_at doc j)) (part doc k) i m none

unfoldable pub lines_from : List ℕ → ℕ → ℕ → ℕ → Lines
lines_from doc k i m = gather (line_at doc) (part doc k) i m end

unfoldable pub paragraphs_from : List ℕ → ℕ → ℕ → ℕ → List Paragraph
paragraphs_from doc k i m = gather (λ j. ◌∷◌ (paragraph_at doc j)) (part doc k) i m []
