-- Paragraphs: their items over the dictionary of the paragraphs before, and the entries that wait in the work area for their end (22 comes after all else).
use Rattle.std.specs.Prelude.{◌≡◌, List, ℕ, ◌≤◌, ◌<◌, ◌^◌, length, get_or}
use Rattle.reader_rules.specs.Limited.{FewParameters, LimitedParagraph}
use Rattle.reader_rules.specs.Tree.{Paragraph}
use Rattle.reader_rules.specs.TreeNumbers.{paragraph_numbers}
use Rattle.checker_rules.specs.Check.{check_work_words}
use Rattle.checker_rules.specs.Dictionary.{Entry, Dictionary}
use Rattle.checker_rules.specs.Entries.{extend}
use Rattle.checker_rules.specs.Items.{Meets, Any, Passes, Refuses}
use Rattle.checker_rules.specs.Rules.{paragraph_items}
use Rattle.checker_rules.specs.Unknowns.{Valuation}
use Rattle.types_cells.specs.Layout.{area_size}
use Rattle.types_cells.specs.Settled.{lower}
use Rattle.checker_dictionary.specs.Index.{index_at, index_end}
use Rattle.checker_dictionary.specs.Waiting.{with_entries, waiting, Waits}
use Rattle.types_instances.specs.Clean.{Clean}
use Rattle.checker_lookup.specs.Scoped.{DictionaryHeld}
use Rattle.checker_contracts.specs.Visits.{EachOnce}

-- The words that the entries of one paragraph have where they wait, at most.
abbrev pub max_waiting : ℕ
max_waiting = 8192

-- The pool is empty.
pub record ParagraphAsk (s d w : List ℕ) (p : Paragraph) : Type 0 where
  pub dictionary : Dictionary
  pub recorded : DictionaryHeld dictionary d w
  pub size : length s ≡ area_size
  pub few : length d < 2 ^ 31
  pub wide : check_work_words ≤ length w
  pub clean : Clean s 1
  pub limited : LimitedParagraph 11 4 p
  pub once : EachOnce (paragraph_numbers p)
  pub parameters : FewParameters p

-- The entries of the paragraph p over the dictionary D wait at the place `at` of w, `count` of them.
pub record Extended (w : List ℕ) (p : Paragraph) (D : Dictionary) (at count : ℕ) : Type 0 where
  pub passes : Passes (paragraph_items p D) Any
  pub table : Valuation
  pub meets : Meets (paragraph_items p D) table
  pub entries : List Entry
  pub counted : length entries ≡ count
  pub waits : Waits entries w at
  pub short : length (waiting entries) ≤ max_waiting
  pub extends : extend p D table ≡ with_entries entries D

-- The dictionary's index stays. Number 0: the items pass, and the pool is empty again; otherwise they refuse with this number at the place.
pub record ParagraphDone (s s' d w w' : List ℕ) (p : Paragraph) (number place at count : ℕ) : Type 0 where
  pub size : length w' ≡ length w
  pub index : (i : ℕ) → index_at ≤ i → i < index_end → get_or w' i 0 ≡ get_or w i 0
  pub low : number ≡ 0 → lower s' ≡ lower s
  pub goes : number ≡ 0 → (D : Dictionary) → DictionaryHeld D d w → Extended w' p D at count
  pub stops : (number ≡ 0 → ⊥) → (D : Dictionary) → DictionaryHeld D d w → Refuses (paragraph_items p D) Any number place
