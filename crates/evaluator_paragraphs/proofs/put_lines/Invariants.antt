use mathlib.Core.Path.{◌≡◌}
use mathlib.Core.List.{List}
use Prim.Native.Nat.{ℕ}
use lib.ListN.{length}
use Rattle.reader_rules.specs.Limited.{declared_count}
use Rattle.states_rules.specs.Names.{line_names}
use Rattle.evaluator_scope.specs.Named.{Declares, said}
use Rattle.evaluator_paragraphs.specs.Paragraphs.{Roomy}
use Rattle.evaluator_paragraphs.proofs.StepLaws.{lines_of, LinesPut}
use Rattle.evaluator_paragraphs.proofs.put_lines.Given as goal

-- The blocks that the lines that are left make are those that all make.
abbrev pub invariant-loop-j : goal.invariant-loop-j
invariant-loop-j l =
    let put = LinesPut l.doc l.t (said l.doc l.state) l.state in
    (length l.work ≡ length l.initial.work) × Roomy l.work l.top (declared_count (lines_of l.doc l.t l.j)) × Declares l.doc (line_names (lines_of l.doc l.t l.j))
    × ((w : List ℕ) → put l.work w l.top l.j → put l.initial.work w l.b l.i)
