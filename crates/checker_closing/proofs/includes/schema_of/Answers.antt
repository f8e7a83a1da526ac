use native.Mathlib.Omega.{arith}
use Rattle.checker_closing.proofs.SchemaLaws.{schema_miscounted}
use Rattle.checker_closing.proofs.includes.schema_of.Goals as goal

pub returns-then-parameters_of-word : goal.returns-then-parameters_of-word
returns-then-parameters_of-word c = (λ z. omega arith, λ at. schema_miscounted c.find_schema-e.ensures c.word.ensures.0 c.if-e-eq0.false c.parameters_of.ensures.0 c.word-2.ensures.0 c.if-parameters_of-word.true)
