-- The printed finding of a check: bytes, from the finding and the dictionary's words.
use Rattle.std.specs.Prelude.{List, ℕ, Err}
use Rattle.checker_rules.specs.Check.{Answer, check_of, check_work_words}
use Rattle.checker_rules.specs.Areas.{answer_finding, dictionary_after}
use Rattle.reader_rules.specs.Refusals.{Finding, Accepted, Refused}
use Rattle.printer_rules.specs.Lines.{accepted_lines, refused_line}

unfoldable pub print_of : Finding → List ℕ → List ℕ
print_of Accepted d = accepted_lines d
print_of (Err err) d = refused_line err.number err.place

-- what is printed for an answer of a check with a dictionary area of n words
unfoldable pub printed_answer : Answer → ℕ → List ℕ
printed_answer a n = print_of (answer_finding a) (dictionary_after a n)

-- the words of the program's dictionary area
abbrev pub dictionary_area_words : ℕ
dictionary_area_words = 16384

-- what the program prints for a document's words, with areas of 16,384 words
unfoldable pub printed_of : List ℕ → List ℕ
printed_of doc = printed_answer (check_of doc dictionary_area_words check_work_words) dictionary_area_words
