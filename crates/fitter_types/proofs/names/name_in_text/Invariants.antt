use mathlib.Core.Path.{◌≡◌}
use Prim.Native.Nat.{◌+◌, ◌-◌}
use lib.ListN.{length, drop}
use Rattle.layout.specs.Layout.{part}
use Rattle.reader_rules.specs.Decode.{lines_from}
use Rattle.states_rules.specs.Names.{line_names}
use Rattle.fitter_types.specs.Roles.{identifier_at}
use Rattle.fitter_types.proofs.names.name_in_text.Given as goal

abbrev pub invariant-loop-line : goal.invariant-loop-line
invariant-loop-line l = let i = 2 + l.line-index in let e = length (part l.doc l.t) in
    (l.lines ≡ drop 2 (part l.doc l.t)) × (identifier_at (line_names (lines_from l.doc l.t 2 (e - 2))) l.j ≡ identifier_at (line_names (lines_from l.doc l.t i (e - i))) l.at)
