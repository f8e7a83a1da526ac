-- What the program writes for the bytes that it reads (document 01, "The printed finding"): areas of 16,384 words; a length not divisible by 4 or
-- over 65,536 is 11.
use Rattle.std.specs.Prelude.{◌≡◌, cond, List, [], ℕ, length, take}
use Rattle.checker_rules.specs.Check.{check_work_words}
use Rattle.reader_rules.specs.Refusals.{Refused}
use Rattle.printer_rules.specs.Print.{print_of, printed_of, dictionary_area_words}
use Rattle.input.specs.Input.{are_words, words_of}
use Rattle.reader_rules.specs.Nodes.{document_words}

unfoldable pub report_of : List ℕ → List ℕ
report_of bytes = cond (are_words bytes document_words) (printed_of (words_of bytes)) (print_of (Refused 11 0) [])

-- a text, whole, as the first bytes of a buffer
pub record Prints (text : List ℕ) (result : ℕ) (buffer : List ℕ) : Type 0 where
  pub size : result ≡ length text
  pub written : take result buffer ≡ text

-- the lengths of the dictionary area, the work area and the buffer
pub record Areas (dictionary work out : ℕ) : Type 0 where
  pub recorded : dictionary ≡ dictionary_area_words
  pub worked : work ≡ check_work_words
  pub printed : out ≡ 180258
