use mathlib.Core.Path.{◌≡◌}
use Prim.Native.Nat.{◌+◌, ◌-◌, ◌≤◌, ◌*◌}
use lib.ListN.{length, drop}
use Rattle.layout.specs.Layout.{part}
use Rattle.reader_rules.specs.Decode.{lines_from}
use Rattle.states_rules.specs.Names.{line_names}
use Rattle.states.proofs.names.text_count.Given as goal

abbrev pub invariant-loop-line : goal.invariant-loop-line
invariant-loop-line l = let i = 2 + l.line-index in let e = length (part l.doc l.t) in
    (l.lines ≡ drop 2 (part l.doc l.t)) × (l.n ≤ 8 * l.line-index) × (length (line_names (lines_from l.doc l.t 2 (e - 2))) ≡ l.n + length (line_names (lines_from l.doc l.t i (e - i))))
