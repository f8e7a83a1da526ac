-- What the check call leaves: its finding, and what each area holds. Document 01: words after the dictionary are zero, and the work area is zero after
-- every call. Demand 1 (Total): after a refusal every word of the dictionary and work areas is zero.
use Rattle.std.specs.Prelude.{◌≡◌, List, ◌++◌, ℕ, ◌-◌, replicate}
use Rattle.checker_rules.specs.Dictionary.{dictionary_words, dictionary_length}
use Rattle.checker_rules.specs.Check.{Answer, accepted, refused, check_of}
use Rattle.reader_rules.specs.Refusals.{Finding, Accepted, Refused}

unfoldable pub answer_finding : Answer → Finding
answer_finding (accepted D) = Accepted
answer_finding (refused f m) = Refused f m

-- a dictionary area of d words
unfoldable pub dictionary_after : Answer → ℕ → List ℕ
dictionary_after (accepted D) d = dictionary_words D ++ replicate (d - dictionary_length D) 0
dictionary_after (refused f m) d = replicate d 0

-- a work area of w words
abbrev pub work_after : ℕ → List ℕ
work_after w = replicate w 0

-- The promise of the check call, given a document and areas of d and w words: its result, and the two areas after it.
pub record CheckCall (doc : List ℕ) (d w : ℕ) (result : Finding) (dictionary work : List ℕ) : Type 0 where
  pub finding : result ≡ answer_finding (check_of doc d w)
  pub recorded : dictionary ≡ dictionary_after (check_of doc d w) d
  pub cleared : work ≡ work_after w
