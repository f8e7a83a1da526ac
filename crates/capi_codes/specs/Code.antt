-- A finding as one number.
use Rattle.std.specs.Prelude.{cond, ℕ, ◌+◌, ◌*◌, ◌/◌, ◌%◌, eqb, Err}
use Rattle.reader_rules.specs.Refusals.{Finding, Readable, Accepted, Refused}
use Rattle.evaluator_rules.specs.Endings.{RunFinding, Holds, Fails}

-- 0 where there is none, else number × 2^32 + place
unfoldable pub code_of : Finding → ℕ
code_of Readable = 0
code_of (Err err) = err.number * 4294967296 + err.place

-- the finding of a check that a number codes
unfoldable pub code_finding : ℕ → Finding
code_finding code = cond (eqb code 0) Accepted (Refused (code / 4294967296) (code % 4294967296))

-- a run's finding: 0 where it holds, 1 × 2^32 + node where it fails, else number × 2^32 + place
unfoldable pub run_code : RunFinding → ℕ
run_code Holds = 0
run_code (Fails node) = 4294967296 + node
run_code (Err err) = err.number * 4294967296 + err.place
