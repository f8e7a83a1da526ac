use mathlib.Core.Path.{◌≡◌}
use Prim.Native.Nat.{◌+◌, ◌-◌, ◌≤◌, ◌*◌}
use lib.ListN.{length, drop}
use Rattle.layout.specs.Layout.{count, part}
use Rattle.reader_rules.specs.Decode.{paragraphs_from, tree_of}
use Rattle.states.specs.Table.{put_names}
use Rattle.states_rules.specs.Names.{names_of, document_names}
use Rattle.states.proofs.names.put_names.Given as goal

abbrev pub invariant-loop-p : goal.invariant-loop-p
invariant-loop-p l = let i = 1 + l.p-index in let e = length (part l.doc (count l.doc)) in
    (l.paragraphs ≡ drop 1 (part l.doc (count l.doc))) × (l.n ≤ 64 * l.p-index) × (length l.table ≡ length l.initial.table)
    × (length (document_names (tree_of l.doc)) ≡ l.n + length (names_of (paragraphs_from l.doc (count l.doc) i (e - i))))
    × (put_names (document_names (tree_of l.doc)) l.state 1 l.initial.table ≡ put_names (names_of (paragraphs_from l.doc (count l.doc) i (e - i))) l.state (l.n + 1) l.table)
