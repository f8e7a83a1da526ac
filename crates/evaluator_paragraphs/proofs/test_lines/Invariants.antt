use mathlib.Core.Path.{◌≡◌}
use Prim.Native.Nat.{◌*◌}
use lib.ListN.{length, take}
use Rattle.std.proofs.Common.{Result}
use Rattle.reader_rules.specs.declared.Refusal.{Refusal}
use Rattle.states_rules.specs.Names.{line_names}
use Rattle.evaluator_rules.specs.Environment.{Environment}
use Rattle.evaluator_scope.specs.Blocks.{block_words, Scoped}
use Rattle.evaluator_scope.specs.Named.{Declares, said}
use Rattle.evaluator_paragraphs.specs.declared.Progress.{Progress}
use Rattle.evaluator_paragraphs.proofs.StepLaws.{lines_of, LinesTold}
use Rattle.evaluator_paragraphs.proofs.test_lines.Given as goal

-- What is told of the lines that are left is told of all.
abbrev pub invariant-loop-j : goal.invariant-loop-j
invariant-loop-j l =
    let told = LinesTold l.doc l.t (said l.doc l.state) in
    (length l.work ≡ length l.initial.work) × (take (block_words * l.n) l.work ≡ take (block_words * l.n) l.initial.work) × Declares l.doc (line_names (lines_of l.doc l.t l.j))
    × ((scope : Environment) → Scoped l.state l.initial.work l.n scope → (r : Result Progress Refusal) → told scope l.j r → told scope l.i r)
