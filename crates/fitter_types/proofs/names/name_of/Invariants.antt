use mathlib.Core.Path.{◌≡◌}
use Prim.Native.Nat.{◌+◌, ◌-◌}
use lib.ListN.{length, get_or, drop}
use Rattle.layout.specs.Layout.{count, part}
use Rattle.reader_rules.specs.Decode.{paragraphs_from, tree_of}
use Rattle.states_rules.specs.Names.{nobody, names_of, document_names}
use Rattle.states_rules.specs.States.{name_at}
use Rattle.fitter_types.proofs.names.name_of.Given as goal

abbrev pub invariant-loop-paragraph : goal.invariant-loop-paragraph
invariant-loop-paragraph l = let i = 1 + l.paragraph-index in let e = length (part l.doc (count l.doc)) in
    (l.paragraphs ≡ drop 1 (part l.doc (count l.doc))) × (name_at (document_names (tree_of l.doc)) l.k ≡ get_or (names_of (paragraphs_from l.doc (count l.doc) i (e - i))) l.at nobody)
