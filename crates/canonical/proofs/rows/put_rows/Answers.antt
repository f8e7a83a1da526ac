use mathlib.Core.Path.{refl, sym, ap, ◌∙◌, subst}
use native.Mathlib.Omega.{arith}
use Prim.Native.Nat.{◌+◌, ◌≤◌}
use lib.ListN.{length}
use Rattle.layout.specs.Layout.{part}
use Rattle.canonical_rules.specs.RowMap.{map_row}
use Rattle.canonical_rules.proofs.RowMaps.{row_length}
use Rattle.canonical.specs.Rows.{table_at}
use Rattle.canonical.proofs.RowLaws.{row_room, words_next, words_done, words_alike}
use Rattle.canonical.proofs.rows.put_rows.Invariants.{row_by}
use Rattle.canonical.proofs.rows.put_rows.Goals as goal

pub loop-k-init : goal.loop-k-init
loop-k-init c =
    let s = c.args in
    let r = c.requires.room in
    let e = words_alike (row_by s.doc.now s.numbers.now) (part s.doc.now) s.nodes.now (λ k. row_length (table_at s.numbers.now) (part s.doc.now k)) in
    (refl, record { left = refl; room = omega (arith, r, e) })

pub put_row-requires : goal.put_row-requires
put_row-requires c =
    let s = c.args in
    let t = c.loop-k-test.true in
    let f = table_at s.numbers.now in
    let e = c.part-w.ensures in
    let n = row_length f c.part-w.result.now in
    let r = row_room (row_by s.doc.now s.numbers.now) s.nodes.now c.loop-k.k-index _ _ t refl (ap (map_row f) e) c.loop-k.at c.loop-k.invariant.1.room in
    (subst (λ x. 1 ≤ length x) (sym e) (c.requires.some c.loop-k.k-index t), omega (arith, r, n))

pub loop-k-preserved : goal.loop-k-preserved
loop-k-preserved c =
    let s = c.args in
    let t = c.loop-k-test.true in
    let f = table_at s.numbers.now in
    let n = row_length f c.part-w.result.now in (
      c.put_row.auto.output ∙ c.loop-k.invariant.0,
      words_next (row_by s.doc.now s.numbers.now) s.nodes.now c.loop-k.k-index _ _ t refl (ap (map_row f) c.part-w.ensures) c.loop-k.at _ c.loop-k.output _ _
          c.put_row.ensures (ap (λ j. c.loop-k.at + j) (sym n)) c.loop-k.invariant.1,
    )

pub returns : goal.returns
returns c =
    let s = c.args in
    words_done (row_by s.doc.now s.numbers.now) s.nodes.now c.loop-k.k-index c.loop-k.at c.loop-k.output _ c.loop-k-test.false c.loop-k.invariant.1
