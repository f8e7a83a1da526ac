-- The check: its answer as a function of the document's words and of the lengths of the two areas (document 01, "Finding numbers"; R8).
use Rattle.std.specs.Prelude.{Bool, true, false, cond, List, [], ◌∷◌, ℕ, leb, ltb, eqb, Err}
use Rattle.reader_rules.specs.Reading.{read_of}
use Rattle.reader_rules.specs.Tree.{Paragraph, Document, document, paragraph_node}
use Rattle.reader_rules.specs.Decode.{tree_of}
use Rattle.checker_rules.specs.Dictionary.{Dictionary, blank, dictionary_length}
use Rattle.checker_rules.specs.Rules.{paragraph_items}
use Rattle.checker_rules.specs.Entries.{extend}
use Rattle.checker_rules.specs.Solving.{Solved, pass, refuse, solve, valuation_of}
use Rattle.reader_rules.specs.Refusals.{Finding, Readable, Refused}

-- accepted with a dictionary, or refused with a finding and its place
pub data Answer : Type 0 where
  accepted : Dictionary → Answer
  refused : ℕ → ℕ → Answer

-- 22: the dictionary through this paragraph, of node n, over its area of d words
unfoldable pub fitting : Bool → ℕ → Dictionary → (Dictionary → Answer) → Answer
fitting true n D k = k D
fitting false n D k = refused 22 n

unfoldable pub settle : Solved → Paragraph → Dictionary → ℕ → (Dictionary → Answer) → Answer
settle (refuse f m) p D d k = refused f m
settle (pass vs s) p D d k =
    fitting (leb (dictionary_length (extend p D (valuation_of s))) d) (paragraph_node p) (extend p D (valuation_of s)) k

-- the paragraphs in Document order, 22 after all else in each
unfoldable pub check_paragraphs : List Paragraph → Dictionary → ℕ → Answer
check_paragraphs [] D d = accepted D
check_paragraphs (p ∷ ps) D d = settle (solve (paragraph_items p D)) p D d (λ E. check_paragraphs ps E d)

unfoldable pub paragraphs_of : Document → List Paragraph
paragraphs_of (document n ps) = ps

-- reading's finding where there is one
unfoldable pub after_reading : Finding → Answer → Answer
after_reading Readable a = a
after_reading (Err err) a = refused err.number err.place

abbrev pub check_work_words : ℕ
check_work_words = 16384

-- reading's findings; 21 for a work area of w words; 22 at 0 for a dictionary area of 0 words; the paragraphs
unfoldable pub check_of : List ℕ → ℕ → ℕ → Answer
check_of doc d w =
    after_reading (read_of doc)
    (cond (ltb w check_work_words) (refused 21 0) (cond (eqb d 0) (refused 22 0) (check_paragraphs (paragraphs_of (tree_of doc)) blank d)))
