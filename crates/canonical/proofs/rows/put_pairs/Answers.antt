use mathlib.Core.Path.{refl, ◌∙◌}
use native.Mathlib.Omega.{arith}
use Rattle.layout.specs.Layout.{part}
use Rattle.canonical.proofs.RowLaws.{row_room, pairs_next, pairs_done}
use Rattle.canonical.proofs.rows.put_pairs.Goals as goal

pub overflow_cast-len : goal.overflow_cast-len
overflow_cast-len c =
    let s = c.args in
    let r = row_room (part s.doc.now) s.nodes.now c.loop-i.i _ _ c.loop-i-test.true refl c.part-w.ensures c.loop-i.at c.loop-i.invariant.1.room in
    omega (arith, r)

pub loop-i-preserved : goal.loop-i-preserved
loop-i-preserved c =
    let s = c.args in (
      c.store-in-loop-i.auto.u ∙ c.store.auto.u ∙ c.loop-i.invariant.0,
      pairs_next (part s.doc.now) s.nodes.now c.loop-i.i _ _ c.loop-i-test.true refl c.part-w.ensures c.loop-i.at c.loop-i.output _ _ _ c.store.ensures c.store-in-loop-i.ensures
          c.loop-i.invariant.1,
    )

pub returns : goal.returns
returns c =
    let s = c.args in
    pairs_done (part s.doc.now) s.nodes.now c.loop-i.i c.loop-i.at c.loop-i.output _ c.loop-i-test.false c.loop-i.invariant.1
