use mathlib.Core.Path.{sym, ap, subst, ◌∙◌}
use Prim.Native.Nat.{◌+◌}
use lib.ListN.{length, length-set}
use Rattle.types_cells.specs.Store.{run}
use Rattle.types_solver.proofs.Copying.{Copied, copied_step, copied_end}
use Rattle.types_instances.proofs.copy_words.Goals as goal

pub loop-j-preserved : goal.loop-j-preserved
loop-j-preserved c =
    let s = c.args in
    let P = c.requires in
    let l = c.loop-j-test.true in
    let E = c.store.ensures in (
      ap length E ∙ length-set c.loop-j.a (s.at + c.loop-j.j) c.word.result ∙ c.loop-j.invariant.0,
      subst (λ z. Copied s.a.now z s.at (run s.from.now s.first s.k) (c.loop-j.j + 1)) (sym E)
          (copied_step s.a.now c.loop-j.a s.at s.from.now s.first s.k c.loop-j.j c.word.result P.0 l c.word.ensures.0 c.loop-j.invariant.1),
    )

pub returns : goal.returns
returns c =
    let s = c.args in
    sym (copied_end s.a.now c.loop-j.a s.at s.from.now s.first s.k c.loop-j.j c.requires.0 c.loop-j-test.false c.loop-j.invariant.1)
