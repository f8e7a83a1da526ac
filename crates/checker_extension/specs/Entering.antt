-- One paragraph entered into the dictionary.
use Rattle.std.specs.Prelude.{◌≡◌, List, ◌∷◌, ℕ, ◌+◌, ◌≤◌, ◌<◌, ◌^◌, ◌*◌, length}
use Rattle.layout.specs.Layout.{count, part}
use Rattle.reader_rules.specs.Nodes.{operand_at}
use Rattle.reader_rules.specs.Reading.{read_of}
use Rattle.reader_rules.specs.Tree.{Paragraph}
use Rattle.reader_rules.specs.Refusals.{Finding, Readable, Accepted, Refused}
use Rattle.checker_rules.specs.Check.{check_work_words}
use Rattle.checker_rules.specs.Dictionary.{Dictionary, dictionary_length}
use Rattle.checker_rules.specs.Entries.{extend}
use Rattle.checker_rules.specs.Items.{Meets, Any, Passes}
use Rattle.checker_rules.specs.Rules.{paragraph_items}
use Rattle.checker_rules.specs.Unknowns.{Valuation}
use Rattle.checker_rules.specs.Verdicts.{RefusesAt}
use Rattle.types_cells.specs.Layout.{area_size}
use Rattle.types_cells.specs.Settled.{lower}
use Rattle.types_instances.specs.Clean.{Clean}
use Rattle.checker_lookup.specs.Scoped.{DictionaryHeld}
use Rattle.checker_contracts.specs.Paragraphs.{max_waiting}

-- Node k is a paragraph of a readable document, operand `place` of its Document.
pub record IsParagraph (doc : List ℕ) (k : ℕ) : Type 0 where
  pub read : read_of doc ≡ Readable
  pub place : ℕ
  pub some : 1 ≤ place
  pub most : place < length (part doc (count doc))
  pub is : k ≡ operand_at doc (count doc) place

-- The words that one paragraph adds to the dictionary, at most.
abbrev pub max_added : ℕ
max_added = 2 * max_waiting

-- The areas between paragraphs: the pool is empty, and the dictionary so far has few words, whatever the length of its area.
pub record BetweenParagraphs (s d w : List ℕ) : Type 0 where
  pub size : length s ≡ area_size
  pub clean : Clean s 1
  pub wide : check_work_words ≤ length w
  pub dictionary : Dictionary
  pub recorded : DictionaryHeld dictionary d w
  pub few : dictionary_length dictionary < 2 ^ 30

-- The paragraph p passes over the dictionary D, and the area d holds D with its entries, w their index.
pub record Grown (p : Paragraph) (D : Dictionary) (d w : List ℕ) : Type 0 where
  pub passes : Passes (paragraph_items p D) Any
  pub table : Valuation
  pub meets : Meets (paragraph_items p D) table
  pub recorded : DictionaryHeld (extend p D table) d w
  pub short : dictionary_length (extend p D table) ≤ dictionary_length D + max_added

-- Accepted: p passes, and the pool is empty again; otherwise p refuses, before any paragraphs ps.
pub record Entered (s s' d d' w w' : List ℕ) (p : Paragraph) (r : Finding) : Type 0 where
  pub low : r ≡ Accepted → lower s' ≡ lower s
  pub goes : r ≡ Accepted → (D : Dictionary) → DictionaryHeld D d w → Grown p D d' w'
  pub stops : (f m : ℕ) → r ≡ Refused f m → (D : Dictionary) → DictionaryHeld D d w → (ps : List Paragraph) → RefusesAt Any (p ∷ ps) D (length d) f m
