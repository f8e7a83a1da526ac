use mathlib.Core.Path.{◌≡◌, sym, ap, subst, ◌∙◌}
use mathlib.Core.List.{List}
use Prim.Native.Nat.{ℕ, ◌+◌, ◌-◌, ◌*◌, ◌≤◌, ◌<◌}
use native.Mathlib.Omega.{arith}
use lib.ListN.{get_or}
use Rattle.checker_rules.specs.Signatures.{renamed}
use Rattle.checker_signatures.specs.Rows.{rows, renames, rename_rows}
use Rattle.checker_signatures.specs.Tables.{Table}
use Rattle.checker_signatures.proofs.TableLaws.{table_none, table_word, table_insert, table_count}
use Rattle.checker_signatures.proofs.MergeLaws.{rename_start, rename_go}
use Rattle.checker_signatures.proofs.includes.rename.Goals as goal

pub loop-j-init : goal.loop-j-init
loop-j-init c =
    let a = c.args in
    let w = a.work.now in
    let ps = renames a.part.now a.first in
    (omega arith, table_none w a.base (rename_rows ps (rows w (a.source + 2 * a.m) (a.m - a.m))) (rename_start ps w a.source a.m))

pub loop-j-preserved : goal.loop-j-preserved
loop-j-preserved c =
    let a = c.args in
    let w = a.work.now in
    let ps = renames a.part.now a.first in
    let h : 0 < c.loop-j.j = c.loop-j-test.true in
    let rs = rename_rows ps (rows w (a.source + 2 * c.loop-j.j) (a.m - c.loop-j.j)) in
    let p = c.requires.0.room in
    let kept : (at : ℕ) → a.source ≤ at → at < a.source + 2 * a.m → get_or c.loop-j.work at 0 ≡ get_or w at 0 =
    λ at q r. table_word w a.base c.loop-j.work rs c.loop-j.n c.loop-j.invariant.1 a.m a.source a.m at (omega (arith, c.loop-j.invariant.0)) c.requires.0.apart q r in
    let e = c.renamed-id.ensures.0 ∙ ap (renamed ps) (c.word-old.ensures.0 ∙ kept (a.source + 2 * (c.loop-j.j - 1)) (omega arith) (omega (arith, c.loop-j.invariant.0))) in
    let f = c.word-place.ensures.0 ∙ kept (a.source + 2 * (c.loop-j.j - 1) + 1) (omega arith) (omega (arith, c.loop-j.auto.j)) in
    let g = table_insert w a.base c.loop-j.work rs c.loop-j.n c.loop-j.invariant.1 c.insert-n.new.work c.renamed-id.result c.word-place.result c.insert-n.result (omega (arith, c.loop-j.invariant.0)) c.insert-n.ensures in
    let n = (table_count w a.base c.loop-j.work rs c.loop-j.n c.loop-j.invariant.1 c.insert-n.new.work c.renamed-id.result c.word-place.result c.insert-n.result c.insert-n.ensures).1 in (
      omega (arith, n, h, c.loop-j.invariant.0),
      subst (λ (z : List (ℕ × ℕ)). Table w c.insert-n.new.work a.base z c.insert-n.result)
          (sym (rename_go ps w a.source a.m c.loop-j.j h c.loop-j.auto.j c.renamed-id.result c.word-place.result e f)) g,
    )
