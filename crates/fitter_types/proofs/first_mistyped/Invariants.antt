use mathlib.Core.Path.{◌≡◌}
use Prim.Native.Nat.{◌+◌, ◌-◌}
use lib.ListN.{length}
use Rattle.reader_rules.specs.Findings.{scan}
use Rattle.reader_rules.specs.Decode.{tree_of}
use Rattle.checker_rules.specs.Dictionary.{Dictionary}
use Rattle.states_rules.specs.Names.{document_names}
use Rattle.fitter_rules.specs.Fit.{type_number}
use Rattle.fitter_types.specs.Held.{Held}
use Rattle.fitter_types.proofs.first_mistyped.Given as goal

abbrev pub invariant-loop-k : goal.invariant-loop-k
invariant-loop-k l = (l.n ≡ length (document_names (tree_of l.doc)))
    × ((E : Dictionary) → Held l.doc l.dict E → scan (type_number E (document_names (tree_of l.doc)) l.state) 1 l.n ≡ scan (type_number E (document_names (tree_of l.doc)) l.state) l.k (l.n + 1 - l.k))
