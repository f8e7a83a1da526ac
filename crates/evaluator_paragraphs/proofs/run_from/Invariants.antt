use lib.ListN.{length}
use mathlib.Core.Path.{◌≡◌}
use Rattle.reader_rules.specs.Limited.{global_count}
use Rattle.states_rules.specs.Names.{names_of}
use Rattle.evaluator_scope.specs.Named.{Declares, said}
use Rattle.evaluator_paragraphs.specs.Paragraphs.{Roomy}
use Rattle.evaluator_paragraphs.proofs.StepLaws.{from, RunLeft}
use Rattle.evaluator_paragraphs.proofs.run_from.Given as goal

abbrev pub invariant-loop-j : goal.invariant-loop-j
invariant-loop-j l = (length l.work ≡ length l.initial.work) × Roomy l.work l.b (global_count (from l.doc l.j)) × Declares l.doc (names_of (from l.doc l.j)) × RunLeft l.doc (said l.doc l.state) l.state l.initial.work l.n l.i l.work l.b l.j
