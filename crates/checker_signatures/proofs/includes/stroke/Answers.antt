use Rattle.checker_rules.specs.Strokes.{takes}
use mathlib.Core.Path.{sym, ap, ◌∙◌}
use Prim.Native.Nat.{◌+◌}
use native.Mathlib.Omega.{arith}
use Rattle.checker_signatures.proofs.IncludeLaws.{stroke_fits, stroked_start, stroked_first, stroked_rest, stroking_start, stroking_go, stroking_end}
use Rattle.checker_signatures.proofs.includes.stroke.Goals as goal

pub loop-j-init : goal.loop-j-init
loop-j-init c =
    let a = c.args in
    (sym (stroked_start a.work.now a.base a.m a.k) ∙ c.requires.2, stroking_start a.work.now a.base a.m a.k)

pub put_row-requires : goal.put_row-requires
put_row-requires c =
    let a = c.args in
    let t = ap (takes a.k) c.word-id.ensures.0 ∙ stroked_first c.loop-j.work a.base a.m a.k c.loop-j.j c.loop-j-test.true c.loop-j.invariant.0 in
    (omega arith, stroke_fits a.k c.word-id.result c.requires.1 c.word-id.ensures.1 t, c.word-place.ensures.1)

pub loop-j-preserved : goal.loop-j-preserved
loop-j-preserved c =
    let a = c.args in
    let h = c.loop-j-test.true in (
      stroked_rest c.loop-j.work a.base a.m a.k c.loop-j.j h c.loop-j.invariant.0 c.put_row.new.work (c.word-id.result + a.k) c.word-place.result c.put_row.ensures,
      c.loop-j.invariant.1 ∙ stroking_go c.loop-j.work a.base a.m a.k c.loop-j.j h c.put_row.new.work c.word-id.result c.word-place.result c.word-id.ensures.0 c.word-place.ensures.0 c.put_row.ensures,
    )

pub returns : goal.returns
returns c =
    let a = c.args in
    sym (c.loop-j.invariant.1 ∙ stroking_end c.loop-j.work a.base a.m a.k c.loop-j.j (omega arith))
