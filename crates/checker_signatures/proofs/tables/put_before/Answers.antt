use mathlib.Core.Path.{sym, ◌∙◌}
use native.Mathlib.Omega.{arith}
use Rattle.checker_signatures.proofs.InsertLaws.{shift_start, shift_go, shift_end}
use Rattle.checker_signatures.proofs.tables.put_before.Goals as goal

pub loop-j-init : goal.loop-j-init
loop-j-init c =
    let a = c.args in
    (c.requires.1, c.requires.2, shift_start a.work.now a.at a.k a.id a.place)

pub loop-j-preserved : goal.loop-j-preserved
loop-j-preserved c =
    let a = c.args in (
      c.word-x.ensures.1,
      c.word-y.ensures.1,
      c.loop-j.invariant.2 ∙ shift_go c.loop-j.work a.at a.k c.loop-j.j c.loop-j.i c.loop-j.p c.loop-j-test.true c.put_row.new.work c.put_row.ensures c.word-x.result c.word-y.result c.word-x.ensures.0 c.word-y.ensures.0,
    )

pub returns : goal.returns
returns c =
    let a = c.args in
    c.put_row-2.ensures ∙ sym (c.loop-j.invariant.2 ∙ shift_end c.loop-j.work a.at a.k c.loop-j.j c.loop-j.i c.loop-j.p (omega arith))
