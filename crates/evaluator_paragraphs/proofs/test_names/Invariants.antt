use mathlib.Core.Path.{◌≡◌}
use mathlib.Core.Bool.{true}
use Prim.Native.Nat.{◌*◌}
use lib.ListN.{length, get_or, take, drop}
use Rattle.std.proofs.Common.{Result}
use Rattle.reader_rules.specs.declared.Refusal.{Refusal}
use Rattle.reader_rules.specs.Decode.{expr_at}
use Rattle.states_rules.specs.Names.{names_as}
use Rattle.evaluator_rules.specs.Environment.{Environment}
use Rattle.evaluator_rules.specs.Rules.{test}
use Rattle.evaluator_scope.specs.Blocks.{block_words, Scoped}
use Rattle.evaluator_scope.specs.Named.{Declares, said}
use Rattle.evaluator_paragraphs.specs.declared.Progress.{Progress}
use Rattle.evaluator_paragraphs.proofs.StepLaws.{NamesTold}
use Rattle.evaluator_paragraphs.proofs.test_names.Given as goal

-- What is told of the identifiers that are left is told of all.
abbrev pub invariant-loop-i : goal.invariant-loop-i
invariant-loop-i l =
    let told = λ (scope : Environment). NamesTold l.v (test (expr_at l.doc (get_or l.x 1 0)) scope) l.x (said l.doc l.state) in
    (length l.work ≡ length l.initial.work) × (take (block_words * l.n) l.work ≡ take (block_words * l.n) l.initial.work) × Declares l.doc (names_as true (drop l.i l.x))
    × ((scope : Environment) → Scoped l.state l.initial.work l.n scope → (r : Result Progress Refusal) → told scope l.i r → told scope l.j r)
