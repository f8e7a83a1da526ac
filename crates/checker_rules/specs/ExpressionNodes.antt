-- The expression nodes of a paragraph: m is the number of one.
use Rattle.std.specs.Prelude.{◌≡◌, List, [], ◌∷◌, ◌⊎◌, ℕ}
use Rattle.reader_rules.specs.Tree.{Expr, reference, number, integers, set, tuple, product, power, application, selection, theta, schema_set, arithmetic}
use Rattle.reader_rules.specs.Tree.{comprehension, Exprs, none, more, Pred, truth, equal, member, at_most, not, connected, quantified, Text, text, Lines}
use Rattle.reader_rules.specs.Tree.{end, declaration, inclusion, Include, include, Schema, plain, from, both, Paragraph, given, axiomatic, schema}
use Rattle.reader_rules.specs.Tree.{abbreviation, constraint}

unfoldable mutual
  pub InExpr : ℕ → Expr → Type 0
  InExpr m (reference n i xs) = (n ≡ m) ⊎ InExprs m xs
  InExpr m (number n k) = n ≡ m
  InExpr m (integers n) = n ≡ m
  InExpr m (set n es) = (n ≡ m) ⊎ InExprs m es
  InExpr m (tuple n es) = (n ≡ m) ⊎ InExprs m es
  InExpr m (product n es) = (n ≡ m) ⊎ InExprs m es
  InExpr m (power n e) = (n ≡ m) ⊎ InExpr m e
  InExpr m (application n f a) = (n ≡ m) ⊎ (InExpr m f ⊎ InExpr m a)
  InExpr m (selection n e i) = (n ≡ m) ⊎ InExpr m e
  InExpr m (theta n s k) = n ≡ m
  InExpr m (schema_set n i) = (n ≡ m) ⊎ InInclude m i
  InExpr m (arithmetic n o a b) = (n ≡ m) ⊎ (InExpr m a ⊎ InExpr m b)
  InExpr m (comprehension n t e) = (n ≡ m) ⊎ (InText m t ⊎ InExpr m e)

  pub InExprs : ℕ → Exprs → Type 0
  InExprs m none = ⊥
  InExprs m (more e es) = InExpr m e ⊎ InExprs m es

  pub InPred : ℕ → Pred → Type 0
  InPred m (truth n) = ⊥
  InPred m (equal n a b) = InExpr m a ⊎ InExpr m b
  InPred m (member n a b) = InExpr m a ⊎ InExpr m b
  InPred m (at_most n a b) = InExpr m a ⊎ InExpr m b
  InPred m (not n p) = InPred m p
  InPred m (connected n o p q) = InPred m p ⊎ InPred m q
  InPred m (quantified n q t p) = InText m t ⊎ InPred m p

  pub InText : ℕ → Text → Type 0
  InText m (text n p ls) = InLines m ls ⊎ InPred m p

  pub InLines : ℕ → Lines → Type 0
  InLines m end = ⊥
  InLines m (declaration n e xs ls) = InExpr m e ⊎ InLines m ls
  InLines m (inclusion i ls) = InInclude m i ⊎ InLines m ls

  pub InInclude : ℕ → Include → Type 0
  InInclude m (include n s k xs rs) = InExprs m xs

unfoldable pub InSchema : ℕ → Schema → Type 0
InSchema m (plain t) = InText m t
InSchema m (from i) = InInclude m i
InSchema m (both n a b) = InSchema m a ⊎ InSchema m b

unfoldable pub InParagraph : ℕ → Paragraph → Type 0
InParagraph m (given n xs) = ⊥
InParagraph m (axiomatic n t) = InText m t
InParagraph m (schema n s ps x) = InSchema m x
InParagraph m (abbreviation n i ps e) = InExpr m e
InParagraph m (constraint n p) = InPred m p

unfoldable pub InParagraphs : ℕ → List Paragraph → Type 0
InParagraphs m [] = ⊥
InParagraphs m (p ∷ ps) = InParagraph m p ⊎ InParagraphs m ps
