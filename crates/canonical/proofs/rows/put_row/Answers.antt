use mathlib.Core.Path.{sym, ap, ◌∙◌}
use native.Mathlib.Omega.{arith}
use Prim.Native.Nat.{◌+◌}
use lib.ListN.{length, length-set}
use Rattle.canonical.proofs.RowLaws.{row_start, row_next, row_end}
use Rattle.canonical.proofs.rows.put_row.Goals as goal

pub loop-i-preserved : goal.loop-i-preserved
loop-i-preserved c =
    let s = c.args in
    let t = c.loop-i-test.true in
    let e = c.store-in-loop-i.ensures in (
      ap length e ∙ length-set c.loop-i.output (s.at + c.loop-i.i) _ ∙ c.loop-i.invariant.0,
      c.loop-i.invariant.1 ∙ row_next s.w.now s.numbers.now c.loop-i.output s.at c.loop-i.i (omega arith) (omega arith) _ _ c.new_operand.ensures.0 e,
    )

pub returns : goal.returns
returns c =
    let s = c.args in
    sym (row_start s.w.now s.numbers.now _ s.at c.requires.0 _ c.word.ensures.0 _ c.store.ensures
    ∙ c.loop-i.invariant.1
    ∙ row_end s.w.now s.numbers.now c.loop-i.output s.at c.loop-i.i (omega arith))
