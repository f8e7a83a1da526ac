-- The column "Place" of the table of findings: which of the numbers 31 to 39 a node of each kind can get at most. f at j in a tree: j is one of its nodes, of
-- a kind that can get f; 33 and 39 stand at every kind whose rule has equations.
use Rattle.std.specs.Prelude.{List, [], ◌∷◌, ◌⊎◌, ℕ}
use Rattle.reader_rules.specs.Tree.{Expr, reference, number, integers, set, tuple, product, power, application, selection, theta, schema_set, arithmetic}
use Rattle.reader_rules.specs.Tree.{comprehension, Exprs, none, more, Pred, truth, equal, member, at_most, not, connected, quantified, Text, text, Lines}
use Rattle.reader_rules.specs.Tree.{end, declaration, inclusion, Include, include, Schema, plain, from, both, Paragraph, given, axiomatic, schema}
use Rattle.reader_rules.specs.Tree.{abbreviation, constraint, include_node, paragraph_node}
use Rattle.reader_rules.specs.Places.{At}

unfoldable mutual
  pub PlacedExpr : ℕ → ℕ → Expr → Type 0
  PlacedExpr f j (reference n i xs) = At f j n (31 ∷ 32 ∷ 33 ∷ 39 ∷ []) ⊎ PlacedExprs f j xs
  PlacedExpr f j (number n v) = At f j n (33 ∷ 39 ∷ [])
  PlacedExpr f j (integers n) = At f j n (33 ∷ 39 ∷ [])
  PlacedExpr f j (set n xs) = At f j n (33 ∷ 39 ∷ []) ⊎ PlacedExprs f j xs
  PlacedExpr f j (tuple n xs) = At f j n (33 ∷ 39 ∷ []) ⊎ PlacedExprs f j xs
  PlacedExpr f j (product n xs) = At f j n (33 ∷ 39 ∷ []) ⊎ PlacedExprs f j xs
  PlacedExpr f j (power n a) = At f j n (33 ∷ 39 ∷ []) ⊎ PlacedExpr f j a
  PlacedExpr f j (application n a b) = At f j n (33 ∷ 39 ∷ []) ⊎ (PlacedExpr f j a ⊎ PlacedExpr f j b)
  PlacedExpr f j (selection n a i) = At f j n (33 ∷ 35 ∷ []) ⊎ PlacedExpr f j a
  PlacedExpr f j (theta n s k) = At f j n (31 ∷ 32 ∷ 33 ∷ 37 ∷ 39 ∷ [])
  PlacedExpr f j (schema_set n i) = At f j n (33 ∷ 39 ∷ []) ⊎ (At f j (include_node i) (38 ∷ []) ⊎ PlacedInclude f j i)
  PlacedExpr f j (arithmetic n o a b) = At f j n (33 ∷ 39 ∷ []) ⊎ (PlacedExpr f j a ⊎ PlacedExpr f j b)
  PlacedExpr f j (comprehension n t a) = At f j n (33 ∷ 39 ∷ []) ⊎ (PlacedText f j t ⊎ PlacedExpr f j a)

  pub PlacedExprs : ℕ → ℕ → Exprs → Type 0
  PlacedExprs f j none = ⊥
  PlacedExprs f j (more a xs) = PlacedExpr f j a ⊎ PlacedExprs f j xs

  -- a relation closes a piece
  pub PlacedPred : ℕ → ℕ → Pred → Type 0
  PlacedPred f j (truth n) = ⊥
  PlacedPred f j (equal n a b) = At f j n (33 ∷ 34 ∷ 39 ∷ []) ⊎ (PlacedExpr f j a ⊎ PlacedExpr f j b)
  PlacedPred f j (member n a b) = At f j n (33 ∷ 34 ∷ 39 ∷ []) ⊎ (PlacedExpr f j a ⊎ PlacedExpr f j b)
  PlacedPred f j (at_most n a b) = At f j n (33 ∷ 34 ∷ 39 ∷ []) ⊎ (PlacedExpr f j a ⊎ PlacedExpr f j b)
  PlacedPred f j (not n p) = PlacedPred f j p
  PlacedPred f j (connected n o p q) = PlacedPred f j p ⊎ PlacedPred f j q
  PlacedPred f j (quantified n o t p) = PlacedText f j t ⊎ PlacedPred f j p

  pub PlacedText : ℕ → ℕ → Text → Type 0
  PlacedText f j (text n p ls) = PlacedLines f j ls ⊎ PlacedPred f j p

  pub PlacedLines : ℕ → ℕ → Lines → Type 0
  PlacedLines f j end = ⊥
  PlacedLines f j (declaration n a is ls) = At f j n (33 ∷ 34 ∷ 36 ∷ 38 ∷ 39 ∷ []) ⊎ (PlacedExpr f j a ⊎ PlacedLines f j ls)
  PlacedLines f j (inclusion i ls) = At f j (include_node i) (36 ∷ 38 ∷ []) ⊎ (PlacedInclude f j i ⊎ PlacedLines f j ls)

  pub PlacedInclude : ℕ → ℕ → Include → Type 0
  PlacedInclude f j (include n s k xs rs) = At f j n (31 ∷ 32 ∷ 33 ∷ 34 ∷ 37 ∷ 39 ∷ []) ⊎ PlacedExprs f j xs

unfoldable pub PlacedSchema : ℕ → ℕ → Schema → Type 0
PlacedSchema f j (plain t) = PlacedText f j t
PlacedSchema f j (from i) = At f j (include_node i) (38 ∷ []) ⊎ PlacedInclude f j i
PlacedSchema f j (both n a b) = At f j n (36 ∷ 38 ∷ []) ⊎ (PlacedSchema f j a ⊎ PlacedSchema f j b)

unfoldable pub PlacedParagraph : ℕ → ℕ → Paragraph → Type 0
PlacedParagraph f j (given n is) = At f j n (36 ∷ [])
PlacedParagraph f j (axiomatic n t) = PlacedText f j t
PlacedParagraph f j (schema n s ps x) = PlacedSchema f j x
PlacedParagraph f j (abbreviation n i ps a) = At f j n (34 ∷ 36 ∷ 38 ∷ []) ⊎ PlacedExpr f j a
PlacedParagraph f j (constraint n p) = PlacedPred f j p

-- 22 at a paragraph
unfoldable pub PlacedParagraphs : ℕ → ℕ → List Paragraph → Type 0
PlacedParagraphs f j [] = ⊥
PlacedParagraphs f j (p ∷ ps) = PlacedParagraph f j p ⊎ (At f j (paragraph_node p) (22 ∷ []) ⊎ PlacedParagraphs f j ps)
