-- Trees in which every Tuple and Product has 2 to 6 parts, every Include 0 to 4 actuals and every paragraph 0 to 4 parameters, and every Number is at most
-- 2,147,483,647, as reading promises (13).
use mathlib.Core.List.{List, [], ◌∷◌}
use Prim.Native.Nat.{◌≤◌}
use Rattle.reader_rules.specs.Tree.{Expr, reference, number, integers, set, tuple, product, power, application, selection, theta, schema_set, arithmetic}
use Rattle.reader_rules.specs.Tree.{comprehension, Exprs, none, more, Pred, truth, equal, member, at_most, not, connected, quantified, Text, text, Lines}
use Rattle.reader_rules.specs.Tree.{end, declaration, inclusion, Include, include, Schema, plain, from, both, Paragraph, given, axiomatic, schema}
use Rattle.reader_rules.specs.Tree.{abbreviation, constraint, Document, document, exprs_length}
use Rattle.reader_rules.specs.Limited.{FewParameters}

-- 2 to 6 parts
abbrev pub TwoToSix : Exprs → Type 0
TwoToSix xs = (2 ≤ exprs_length xs) × (exprs_length xs ≤ 6)

unfoldable mutual
  pub SizedExpr : Expr → Type 0
  SizedExpr (reference n i xs) = SizedExprs xs
  SizedExpr (number n v) = v ≤ 2147483647
  SizedExpr (integers n) = Unit {0}
  SizedExpr (set n xs) = SizedExprs xs
  SizedExpr (tuple n xs) = TwoToSix xs × SizedExprs xs
  SizedExpr (product n xs) = TwoToSix xs × SizedExprs xs
  SizedExpr (power n a) = SizedExpr a
  SizedExpr (application n a b) = SizedExpr a × SizedExpr b
  SizedExpr (selection n a i) = SizedExpr a
  SizedExpr (theta n s k) = Unit {0}
  SizedExpr (schema_set n i) = SizedInclude i
  SizedExpr (arithmetic n o a b) = SizedExpr a × SizedExpr b
  SizedExpr (comprehension n t a) = SizedText t × SizedExpr a

  pub SizedExprs : Exprs → Type 0
  SizedExprs none = Unit {0}
  SizedExprs (more a xs) = SizedExpr a × SizedExprs xs

  pub SizedPred : Pred → Type 0
  SizedPred (truth n) = Unit {0}
  SizedPred (equal n a b) = SizedExpr a × SizedExpr b
  SizedPred (member n a b) = SizedExpr a × SizedExpr b
  SizedPred (at_most n a b) = SizedExpr a × SizedExpr b
  SizedPred (not n p) = SizedPred p
  SizedPred (connected n o p q) = SizedPred p × SizedPred q
  SizedPred (quantified n o t p) = SizedText t × SizedPred p

  pub SizedText : Text → Type 0
  SizedText (text n p ls) = SizedPred p × SizedLines ls

  pub SizedLines : Lines → Type 0
  SizedLines end = Unit {0}
  SizedLines (declaration n a is ls) = SizedExpr a × SizedLines ls
  SizedLines (inclusion i ls) = SizedInclude i × SizedLines ls

  pub SizedInclude : Include → Type 0
  SizedInclude (include n s k xs rs) = (exprs_length xs ≤ 4) × SizedExprs xs

unfoldable pub SizedSchema : Schema → Type 0
SizedSchema (plain t) = SizedText t
SizedSchema (from i) = SizedInclude i
SizedSchema (both n a b) = SizedSchema a × SizedSchema b

unfoldable pub SizedParagraph : Paragraph → Type 0
SizedParagraph (given n is) = Unit {0}
SizedParagraph (axiomatic n t) = SizedText t
SizedParagraph (schema n s ps x) = SizedSchema x
SizedParagraph (abbreviation n i ps a) = SizedExpr a
SizedParagraph (constraint n p) = SizedPred p

unfoldable pub SizedParagraphs : List Paragraph → Type 0
SizedParagraphs [] = Unit {0}
SizedParagraphs (p ∷ ps) = SizedParagraph p × SizedParagraphs ps × FewParameters p

unfoldable pub SizedDocument : Document → Type 0
SizedDocument (document n ps) = SizedParagraphs ps
