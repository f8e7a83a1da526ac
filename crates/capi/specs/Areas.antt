-- What the calls for C and Rust leave: the number of their finding, and what each area holds.
use Rattle.std.specs.Prelude.{◌≡◌, List, ℕ, length, replicate}
use Rattle.evaluator_rules.specs.Run.{run_of}
use Rattle.checker_rules.specs.Check.{Answer}
use Rattle.checker_rules.specs.Areas.{answer_finding, dictionary_after, work_after}
use Rattle.canonical_rules.specs.Call.{canonical_words, canonical_check_of, output_after}
use Rattle.capi_codes.specs.Code.{code_of, run_code}

-- the check call and the fit call, with areas of d and w words: the number of their answer, and what each area then holds
pub record Decided (a : Answer) (d w code : ℕ) (dictionary work : List ℕ) : Type 0 where
  pub finding : code ≡ code_of (answer_finding a)
  pub recorded : dictionary ≡ dictionary_after a d
  pub cleared : work ≡ work_after w

-- the run call: the number of its finding, and a work area of zeros
pub record RunDecided (doc state before after : List ℕ) (code : ℕ) : Type 0 where
  pub finding : code ≡ run_code (run_of doc state (length before)).finding
  pub cleared : after ≡ replicate (length before) 0

-- the canonical call, with an output area of m words: the number of its finding, and what the area then holds
pub record CanonicalDecided (doc : List ℕ) (m code : ℕ) (output : List ℕ) : Type 0 where
  pub finding : code ≡ code_of (canonical_check_of doc m)
  pub written : output ≡ output_after (canonical_check_of doc m) (canonical_words doc) m
