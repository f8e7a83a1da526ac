-- A finding of a run: how it ends, or a refusal with its number and place.
use Rattle.std.specs.Prelude.{ℕ, List, ◌++◌, codes, decimal, Result, Ok}
use Rattle.reader_rules.specs.declared.Refusal.{Refusal}
use Rattle.evaluator_rules.specs.declared.Ending.{Ending}
use Rattle.evaluator_rules.specs.declared.Ending.TheVariants as Ending

abbrev pub RunFinding : Type 0
RunFinding = Result Ending Refusal

pattern abbrev pub Holds : RunFinding
Holds = Ok Ending.Holds

pattern abbrev pub Fails : ℕ → RunFinding
Fails n = Ok (Ending.Fails n)

-- an ending in words: `holds`, `fails at 12`
abbrev pub ending_text : Ending → List ℕ
ending_text Ending.Holds = codes "holds"
ending_text (Ending.Fails n) = codes "fails at " ++ decimal n
