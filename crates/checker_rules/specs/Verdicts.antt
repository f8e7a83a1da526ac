-- What document 01 says of a check's answer, by the rules alone: no solver, no order of computing but that of the page.
use Rattle.std.specs.Prelude.{◌≡◌, List, [], ◌∷◌, ◌⊎◌, ℕ, ◌≤◌, ◌<◌}
use Rattle.reader_rules.specs.Reading.{read_of}
use Rattle.reader_rules.specs.Tree.{Paragraph, Document, paragraph_node}
use Rattle.reader_rules.specs.Decode.{tree_of}
use Rattle.types_rules.specs.Trees.{finite}
use Rattle.checker_rules.specs.Unknowns.{Valuation, slot}
use Rattle.checker_rules.specs.Items.{Meets, And, Passes, Refuses, Typings}
use Rattle.checker_rules.specs.Dictionary.{Dictionary, blank, dictionary_length}
use Rattle.checker_rules.specs.Rules.{paragraph_items}
use Rattle.checker_rules.specs.Entries.{extend}
use Rattle.checker_rules.specs.ExpressionNodes.{InParagraph}
use Rattle.checker_rules.specs.Check.{Answer, accepted, refused, paragraphs_of}
use Rattle.reader_rules.specs.Refusals.{Readable, Refused}

-- P: the valuations that count as solutions. `Any`: all of them. `FormedTypings`: those of well-formed types alone, which gives every document's words the
-- same answer (proofs/FormedVerdicts).
module _ (P : Typings) where
  -- Accepted with the dictionary E: the items of every paragraph pass over the dictionary so far, and its words fit the area of d words.
  unfoldable pub Accepts : List Paragraph → Dictionary → ℕ → Dictionary → Type 0
  Accepts [] D d E = D ≡ E
  Accepts (p ∷ ps) D d E =
      Passes (paragraph_items p D) P
      × ((τ : Valuation) × And P (paragraph_items p D) finite τ × (dictionary_length (extend p D τ) ≤ d) × Accepts ps (extend p D τ) d E)

  -- Refused with f at m: the first paragraph that does not pass refuses f at m; or the first whose dictionary does not fit is m, and f is 22.
  unfoldable pub RefusesAt : List Paragraph → Dictionary → ℕ → ℕ → ℕ → Type 0
  RefusesAt [] D d f m = ⊥
  RefusesAt (p ∷ ps) D d f m =
      Refuses (paragraph_items p D) P f m
      ⊎ (Passes (paragraph_items p D) P
      × ((τ : Valuation) × And P (paragraph_items p D) finite τ
      × (((d < dictionary_length (extend p D τ)) × (f ≡ 22) × (m ≡ paragraph_node p))
      ⊎ ((dictionary_length (extend p D τ) ≤ d) × RefusesAt ps (extend p D τ) d f m))))

  unfoldable pub AnswersFrom : List Paragraph → Dictionary → ℕ → Answer → Type 0
  AnswersFrom ps D d (accepted E) = Accepts ps D d E
  AnswersFrom ps D d (refused f m) = RefusesAt ps D d f m

  -- A readable document, by the lengths of its two areas: 21, then 22 at 0, then the paragraphs.
  unfoldable pub AnswersTree : Document → ℕ → ℕ → Answer → Type 0
  AnswersTree t d w a =
      ((w < 16384) × (a ≡ refused 21 0))
      ⊎ ((16384 ≤ w) × (((d ≡ 0) × (a ≡ refused 22 0)) ⊎ ((0 < d) × AnswersFrom (paragraphs_of t) blank d a)))

  -- The answer to a document's words: reading's finding where there is one.
  unfoldable pub Answers : List ℕ → ℕ → ℕ → Answer → Type 0
  Answers doc d w a =
      ((f m : ℕ) × (read_of doc ≡ Refused f m) × (a ≡ refused f m))
      ⊎ ((read_of doc ≡ Readable) × AnswersTree (tree_of doc) d w a)

-- One type and no other: each paragraph has a typing, and two typings of it give each of its expressions the same type; so through the document.
unfoldable pub OneType : List Paragraph → Dictionary → Type 0
OneType [] D = Unit {0}
OneType (p ∷ ps) D =
    ((τ : Valuation) × Meets (paragraph_items p D) τ)
    × ((σ τ : Valuation) → Meets (paragraph_items p D) σ → Meets (paragraph_items p D) τ → (m : ℕ) → InParagraph m p → σ (slot m 0) ≡ τ (slot m 0))
    × ((τ : Valuation) → Meets (paragraph_items p D) τ → OneType ps (extend p D τ))

-- The dictionary's entries are those types: E is D with the entries that the typings of the paragraphs give, whichever typing is taken.
unfoldable pub Records : List Paragraph → Dictionary → Dictionary → Type 0
Records [] D E = D ≡ E
Records (p ∷ ps) D E =
    ((τ : Valuation) × Meets (paragraph_items p D) τ) × ((τ : Valuation) → Meets (paragraph_items p D) τ → Records ps (extend p D τ) E)
