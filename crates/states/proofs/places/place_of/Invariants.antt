use mathlib.Core.Path.{◌≡◌}
use Prim.Native.Nat.{◌+◌, ◌-◌, ◌≤◌, ◌*◌}
use lib.ListN.{length, drop}
use Rattle.layout.specs.Layout.{count, part}
use Rattle.reader_rules.specs.Decode.{paragraphs_from, tree_of}
use Rattle.states_rules.specs.States.{entry_from}
use Rattle.states_rules.specs.Names.{names_of, document_names}
use Rattle.states.proofs.places.place_of.Given as goal

abbrev pub invariant-loop-paragraph : goal.invariant-loop-paragraph
invariant-loop-paragraph l = let i = 1 + l.paragraph-index in let e = length (part l.doc (count l.doc)) in
    (l.paragraphs ≡ drop 1 (part l.doc (count l.doc))) × (1 ≤ l.at) × (l.at ≤ 1 + 64 * l.paragraph-index)
    × (entry_from (document_names (tree_of l.doc)) l.name 1 ≡ entry_from (names_of (paragraphs_from l.doc (count l.doc) i (e - i))) l.name l.at)
