use mathlib.Core.Path.{refl, sym, subst, ◌∙◌}
use mathlib.Core.List.{List}
use Prim.Native.Nat.{ℕ, ◌<◌}
use native.Mathlib.Omega.{arith}
use lib.ListN.{length}
use Rattle.checker_signatures.specs.Rows.{rows}
use Rattle.checker_signatures.specs.Tables.{Table}
use Rattle.checker_signatures.proofs.TableLaws.{table_self, turned}
use Rattle.checker_signatures.proofs.MergeLaws.{declare_go, declare_end}
use Rattle.checker_signatures.proofs.tables.declare.Goals as goal

pub loop-i-init : goal.loop-i-init
loop-i-init c =
    let a = c.args in
    (omega arith, table_self a.work.now a.base a.m, refl)

pub loop-i-preserved : goal.loop-i-preserved
loop-i-preserved c =
    let a = c.args in
    let h : c.loop-i.i < length a.part.now = c.loop-i-test.true in
    let p = c.requires.0 in
    let g = turned a.work.now c.loop-i.work c.insert-n.new.work a.base c.loop-i.n c.word-id.result a.place c.insert-n.result c.loop-i.invariant.1 (omega arith) c.insert-n.ensures in (
      omega (arith, g.more, c.loop-i.invariant.0),
      g.table,
      c.loop-i.invariant.2 ∙ declare_go a.part.now a.place c.loop-i.i (rows c.loop-i.work a.base c.loop-i.n) h c.word-id.result c.word-id.ensures.0 (rows c.insert-n.new.work a.base c.insert-n.result) g.new,
    )

pub returns : goal.returns
returns c =
    let a = c.args in
    subst (λ (z : List (ℕ × ℕ)). Table a.work.now c.loop-i.work a.base z c.loop-i.n)
    (sym (c.loop-i.invariant.2 ∙ declare_end a.part.now a.place c.loop-i.i (rows c.loop-i.work a.base c.loop-i.n) (omega arith))) c.loop-i.invariant.1
