-- Trees within the limits (document 01, "Limits"), in the form that a walk down the tree uses: n nodes may still stand on a path from here down, both
-- ends counted, and m Texts may still be nested.
use Rattle.std.specs.Prelude.{List, [], ◌∷◌, ◌++◌, ℕ, ◌+◌, ◌-◌, ◌≤◌, length}
use Rattle.reader_rules.specs.Tree.{Expr, reference, number, integers, set, tuple, product, power, application, selection, theta, schema_set}
use Rattle.reader_rules.specs.Tree.{arithmetic, comprehension, Exprs, none, more, Pred, truth, equal, member, at_most, not, connected, quantified}
use Rattle.reader_rules.specs.Tree.{Text, text, Lines, end, declaration, inclusion, Include, include, Schema, plain, from, both, Paragraph, given}
use Rattle.reader_rules.specs.Tree.{axiomatic, schema, abbreviation, constraint, Document, document}
use Rattle.reader_rules.specs.TreeNumbers.{expr_numbers, exprs_numbers}

-- the number of identifiers in Decl lines; of those in Given, Axiom Decl and Abbreviation
unfoldable pub declared_count : Lines → ℕ
declared_count end = 0
declared_count (declaration n a is ls) = length is + declared_count ls
declared_count (inclusion i ls) = declared_count ls

unfoldable pub text_declares : Text → ℕ
unfolding declared_count
text_declares (text n p ls) = declared_count ls

unfoldable pub globals_of : Paragraph → ℕ
unfolding text_declares
globals_of (given n is) = length is
globals_of (axiomatic n t) = text_declares t
globals_of (schema n s ps x) = 0
globals_of (abbreviation n i ps a) = 1
globals_of (constraint n p) = 0

unfoldable pub global_count : List Paragraph → ℕ
unfolding globals_of
global_count [] = 0
global_count (p ∷ ps) = globals_of p + global_count ps

-- 6 identifiers in the Decl lines of one Text; 24 nodes below a Decl, Include, Abbreviation or node of kind 21 to 23
abbrev pub FewDeclared : Lines → Type 0
FewDeclared ls = declared_count ls ≤ 6

abbrev pub FewNodes : List ℕ → Type 0
FewNodes below = length below ≤ 24

-- 0 to 4 parameters (document 01, paragraphs 4 and 5)
abbrev pub FewParameters : Paragraph → Type 0
FewParameters (given n is) = Unit {0}
FewParameters (axiomatic n t) = Unit {0}
FewParameters (schema n s ps x) = length ps ≤ 4
FewParameters (abbreviation n i ps a) = length ps ≤ 4
FewParameters (constraint n p) = Unit {0}

unfoldable mutual
  pub LimitedExpr : ℕ → ℕ → Expr → Type 0
  LimitedExpr n m (reference k i xs) = (1 ≤ n) × LimitedExprs (n - 1) m xs
  LimitedExpr n m (number k v) = 1 ≤ n
  LimitedExpr n m (integers k) = 1 ≤ n
  LimitedExpr n m (set k xs) = (1 ≤ n) × LimitedExprs (n - 1) m xs
  LimitedExpr n m (tuple k xs) = (1 ≤ n) × LimitedExprs (n - 1) m xs
  LimitedExpr n m (product k xs) = (1 ≤ n) × LimitedExprs (n - 1) m xs
  LimitedExpr n m (power k a) = (1 ≤ n) × LimitedExpr (n - 1) m a
  LimitedExpr n m (application k a b) = (1 ≤ n) × LimitedExpr (n - 1) m a × LimitedExpr (n - 1) m b
  LimitedExpr n m (selection k a i) = (1 ≤ n) × LimitedExpr (n - 1) m a
  LimitedExpr n m (theta k s t) = 1 ≤ n
  LimitedExpr n m (schema_set k i) = (1 ≤ n) × LimitedInclude (n - 1) m i
  LimitedExpr n m (arithmetic k o a b) = (1 ≤ n) × LimitedExpr (n - 1) m a × LimitedExpr (n - 1) m b
  LimitedExpr n m (comprehension k t a) = (1 ≤ n) × LimitedText (n - 1) m t × LimitedExpr (n - 1) m a

  pub LimitedExprs : ℕ → ℕ → Exprs → Type 0
  LimitedExprs n m none = Unit {0}
  LimitedExprs n m (more a xs) = LimitedExpr n m a × LimitedExprs n m xs

  pub LimitedPred : ℕ → ℕ → Pred → Type 0
  LimitedPred n m (truth k) = 1 ≤ n
  LimitedPred n m (equal k a b) = (1 ≤ n) × FewNodes (expr_numbers a ++ expr_numbers b) × LimitedExpr (n - 1) m a × LimitedExpr (n - 1) m b
  LimitedPred n m (member k a b) = (1 ≤ n) × FewNodes (expr_numbers a ++ expr_numbers b) × LimitedExpr (n - 1) m a × LimitedExpr (n - 1) m b
  LimitedPred n m (at_most k a b) = (1 ≤ n) × FewNodes (expr_numbers a ++ expr_numbers b) × LimitedExpr (n - 1) m a × LimitedExpr (n - 1) m b
  LimitedPred n m (not k p) = (1 ≤ n) × LimitedPred (n - 1) m p
  LimitedPred n m (connected k o p q) = (1 ≤ n) × LimitedPred (n - 1) m p × LimitedPred (n - 1) m q
  LimitedPred n m (quantified k o t p) = (1 ≤ n) × LimitedText (n - 1) m t × LimitedPred (n - 1) m p

  -- a Text's predicate and lines are inside it
  pub LimitedText : ℕ → ℕ → Text → Type 0
  LimitedText n m (text k p ls) = (1 ≤ n) × (1 ≤ m) × FewDeclared ls × LimitedPred (n - 1) (m - 1) p × LimitedLines (n - 1) (m - 1) ls

  pub LimitedLines : ℕ → ℕ → Lines → Type 0
  LimitedLines n m end = Unit {0}
  LimitedLines n m (declaration k a is ls) = (1 ≤ n) × FewNodes (expr_numbers a) × LimitedExpr (n - 1) m a × LimitedLines n m ls
  LimitedLines n m (inclusion i ls) = LimitedInclude n m i × LimitedLines n m ls

  pub LimitedInclude : ℕ → ℕ → Include → Type 0
  LimitedInclude n m (include k s t xs rs) = (1 ≤ n) × FewNodes (exprs_numbers xs) × LimitedExprs (n - 1) m xs

unfoldable pub LimitedSchema : ℕ → ℕ → Schema → Type 0
unfolding LimitedExpr
LimitedSchema n m (plain t) = LimitedText n m t
LimitedSchema n m (from i) = LimitedInclude n m i
LimitedSchema n m (both k a b) = (1 ≤ n) × LimitedSchema (n - 1) m a × LimitedSchema (n - 1) m b

unfoldable pub LimitedParagraph : ℕ → ℕ → Paragraph → Type 0
unfolding LimitedExpr LimitedSchema
LimitedParagraph n m (given k is) = 1 ≤ n
LimitedParagraph n m (axiomatic k t) = (1 ≤ n) × LimitedText (n - 1) m t
LimitedParagraph n m (schema k s ps x) = (1 ≤ n) × LimitedSchema (n - 1) m x
LimitedParagraph n m (abbreviation k i ps a) = (1 ≤ n) × FewNodes (expr_numbers a) × LimitedExpr (n - 1) m a
LimitedParagraph n m (constraint k p) = (1 ≤ n) × LimitedPred (n - 1) m p

unfoldable pub LimitedParagraphs : ℕ → ℕ → List Paragraph → Type 0
unfolding LimitedParagraph
LimitedParagraphs n m [] = Unit {0}
LimitedParagraphs n m (p ∷ ps) = LimitedParagraph n m p × LimitedParagraphs n m ps

-- 12 nodes from the Document down to any node, both counted; 4 Texts nested; 64 identifiers in Given, Axiom Decl and Abbreviation together
pub record Limited (ps : List Paragraph) : Type 0 where
  pub each : LimitedParagraphs 11 4 ps
  pub globals : global_count ps ≤ 64

unfoldable pub LimitedDocument : Document → Type 0
LimitedDocument (document k ps) = Limited ps
