use native.Mathlib.Omega.{arith}
use Rattle.canonical.proofs.WriteLaws.{first_visit, nodes_first, few_visited, numberable, fitting, written}
use Rattle.canonical.proofs.write.Goals as goal

pub visit-n-requires : goal.visit-n-requires
visit-n-requires c = first_visit c.args.doc.now c.requires _ c.word.ensures.0

pub number-requires : goal.number-requires
number-requires c =
    let e = nodes_first c.args.doc.now c.requires _ _ _ _ c.word.ensures.0 c.visit-n.ensures.0 c.visit-n.ensures.1 c.span-nodes.ensures in
    numberable c.args.doc.now c.requires _ e 1025 (omega arith)

pub overflow_cast-n : goal.overflow_cast-n
overflow_cast-n c =
    let v = c.visit-n.ensures.1 in
    let n = few_visited c.args.doc.now c.requires _ c.word.ensures.0 in
    omega (arith, v, n)

pub put_pairs-requires : goal.put_pairs-requires
put_pairs-requires c =
    let e = nodes_first c.args.doc.now c.requires _ _ _ _ c.word.ensures.0 c.visit-n.ensures.0 c.visit-n.ensures.1 c.span-nodes.ensures in
    fitting c.args.doc.now c.requires _ e

pub put_rows-requires : goal.put_rows-requires
put_rows-requires c =
    let e = nodes_first c.args.doc.now c.requires _ _ _ _ c.word.ensures.0 c.visit-n.ensures.0 c.visit-n.ensures.1 c.span-nodes.ensures in
    fitting c.args.doc.now c.requires _ e

pub returns : goal.returns
returns c =
    let e = nodes_first c.args.doc.now c.requires _ _ _ _ c.word.ensures.0 c.visit-n.ensures.0 c.visit-n.ensures.1 c.span-nodes.ensures in
    written c.args.doc.now c.requires _ e c.number.new.numbers c.number.ensures _ _ c.word.ensures.0 c.visit-n.ensures.1 c.args.output.now _ _ _ c.store.ensures c.put_pairs.ensures
    c.put_rows.ensures
