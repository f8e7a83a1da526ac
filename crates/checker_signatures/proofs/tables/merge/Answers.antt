use lib.ListN.{get_or}
use mathlib.Core.Path.{◌≡◌, sym, subst, ◌∙◌}
use mathlib.Core.List.{List}
use Prim.Native.Nat.{ℕ, ◌+◌, ◌*◌, ◌≤◌, ◌<◌}
use native.Mathlib.Omega.{arith}
use Rattle.checker_signatures.specs.Rows.{rows}
use Rattle.checker_signatures.specs.Tables.{Table}
use Rattle.checker_signatures.proofs.TableLaws.{table_self, table_word, turned}
use Rattle.checker_signatures.proofs.MergeLaws.{merge_start, merge_go, merge_end}
use Rattle.checker_signatures.proofs.tables.merge.Goals as goal

pub loop-j-init : goal.loop-j-init
loop-j-init c =
    let a = c.args in
    (omega arith, table_self a.work.now a.base a.m, merge_start a.work.now a.source a.k (rows a.work.now a.base a.m))

pub loop-j-preserved : goal.loop-j-preserved
loop-j-preserved c =
    let a = c.args in
    let w = a.work.now in
    let h : c.loop-j.j < a.k = c.loop-j-test.true in
    let p = c.requires.room in
    let g = turned w c.loop-j.work c.insert-n.new.work a.base c.loop-j.n c.word-id.result c.word-place.result c.insert-n.result c.loop-j.invariant.1 (omega arith) c.insert-n.ensures in
    let kept : (at : ℕ) → a.source ≤ at → at < a.source + 2 * a.k → get_or c.loop-j.work at 0 ≡ get_or w at 0 =
    λ at q r. table_word w a.base c.loop-j.work (rows c.loop-j.work a.base c.loop-j.n) c.loop-j.n c.loop-j.invariant.1 (a.m + a.k) a.source a.k at (omega arith) c.requires.apart q r in
    let e = c.word-id.ensures.0 ∙ kept (a.source + 2 * c.loop-j.j) (omega arith) (omega arith) in
    let f = c.word-place.ensures.0 ∙ kept (a.source + 2 * c.loop-j.j + 1) (omega arith) (omega arith) in (
      omega (arith, g.more, c.loop-j.invariant.0),
      g.table,
      c.loop-j.invariant.2 ∙ merge_go w a.source a.k c.loop-j.j h c.word-id.result c.word-place.result e f (rows c.loop-j.work a.base c.loop-j.n) (rows c.insert-n.new.work a.base c.insert-n.result) g.new,
    )

pub returns : goal.returns
returns c =
    let a = c.args in
    subst (λ (z : List (ℕ × ℕ)). Table a.work.now c.loop-j.work a.base z c.loop-j.n)
    (sym (c.loop-j.invariant.2 ∙ merge_end a.work.now a.source a.k c.loop-j.j (omega arith) (rows c.loop-j.work a.base c.loop-j.n))) c.loop-j.invariant.1
