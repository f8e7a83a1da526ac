-- What the canonical call leaves: its finding, and the output area (document 02, ask 3).
use Rattle.std.specs.Prelude.{◌≡◌, cond, List, ◌++◌, ℕ, ◌-◌, ltb, length, replicate, Err}
use Rattle.reader_rules.specs.Findings.{and_then}
use Rattle.reader_rules.specs.Reading.{read_of}
use Rattle.reader_rules.specs.Refusals.{Finding, Readable, Refused}
use Rattle.reader_rules.specs.Decode.{tree_of}
use Rattle.canonical_rules.specs.Canonical.{canonical_of}

-- the words of a document, written in the one coding
abbrev pub canonical_words : List ℕ → List ℕ
canonical_words doc = canonical_of (tree_of doc)

-- Reading's finding; then 27 at 0 where an output area of m words is too short for the result. Readable: it is written.
unfoldable pub canonical_check_of : List ℕ → ℕ → Finding
canonical_check_of doc m = and_then (read_of doc) (cond (ltb m (length (canonical_words doc))) (Refused 27 0) Readable)

-- An output area of m words after the call: the result and zeros, after a refusal zeros alone.
unfoldable pub output_after : Finding → List ℕ → ℕ → List ℕ
output_after Readable result m = result ++ replicate (m - length result) 0
output_after (Err err) result m = replicate m 0

-- The promise of the call, given a document and an output area of m words: its result, and the area after it.
pub record CanonicalCall (doc : List ℕ) (m : ℕ) (result : Finding) (output : List ℕ) : Type 0 where
  pub finding : result ≡ canonical_check_of doc m
  pub written : output ≡ output_after (canonical_check_of doc m) (canonical_words doc) m
