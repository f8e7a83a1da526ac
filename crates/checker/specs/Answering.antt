-- The answer to the paragraphs, to a readable document, and to any words; and what the dictionary's area then holds.
use Rattle.std.specs.Prelude.{◌≡◌, List, ℕ, ◌+◌, ◌*◌, ◌≤◌, length}
use Rattle.layout.specs.Layout.{count, part}
use Rattle.reader_rules.specs.Reading.{read_of}
use Rattle.reader_rules.specs.Tree.{Paragraph, Document}
use Rattle.reader_rules.specs.Refusals.{Finding, Readable}
use Rattle.checker_rules.specs.Areas.{answer_finding}
use Rattle.checker_rules.specs.Check.{Answer, accepted, check_of}
use Rattle.checker_rules.specs.Dictionary.{Dictionary, dictionary_length}
use Rattle.checker_rules.specs.Items.{Any}
use Rattle.checker_rules.specs.Verdicts.{AnswersFrom, AnswersTree}
use Rattle.checker_dictionary.specs.Holds.{Holds}
use Rattle.checker_extension.specs.Entering.{BetweenParagraphs, max_added}

-- The m operands of the Document from i on are left. Each paragraph before them has added 16,384 words to the dictionary at most.
pub record ParagraphsAsk (doc s d w : List ℕ) (i m : ℕ) : Type 0 where
  pub read : read_of doc ≡ Readable
  pub some : 1 ≤ i
  pub ends : i + m ≡ length (part doc (count doc))
  pub ready : BetweenParagraphs s d w
  pub short : dictionary_length ready.dictionary ≤ max_added * i

-- The finding is that of the answer, and the area d' holds its dictionary.
pub record Told (answer : Answer) (d' : List ℕ) (r : Finding) : Type 0 where
  pub finding : r ≡ answer_finding answer
  pub held : (E : Dictionary) → answer ≡ accepted E → Holds E d'

-- The paragraphs ps, over the dictionary D in an area of d words.
pub record Answered (ps : List Paragraph) (D : Dictionary) (d : ℕ) (d' : List ℕ) (r : Finding) : Type 0 where
  pub answer : Answer
  pub answers : AnswersFrom Any ps D d answer
  pub told : Told answer d' r

-- The tree t, with areas of d and w words.
pub record TreeAnswered (t : Document) (d w : ℕ) (d' : List ℕ) (r : Finding) : Type 0 where
  pub answer : Answer
  pub answers : AnswersTree Any t d w answer
  pub told : Told answer d' r

-- Any words, with areas of d and w words.
abbrev pub Answering : List ℕ → ℕ → ℕ → List ℕ → Finding → Type 0
Answering doc d w d' r = Told (check_of doc d w) d' r
