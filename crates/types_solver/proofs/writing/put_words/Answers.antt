use mathlib.Core.Path.{sym, ap, subst, ◌∙◌}
use Prim.Native.Nat.{◌+◌}
use lib.ListN.{length, length-set}
use Rattle.types_cells.specs.Store.{run}
use Rattle.types_cells.specs.Settled.{heap}
use Rattle.types_cells.proofs.Words.{run_length}
use Rattle.types_solver.proofs.Copying.{Copied, copied_step, copied_end}
use Rattle.types_solver.proofs.writing.put_words.Goals as goal

pub loop-j-preserved : goal.loop-j-preserved
loop-j-preserved c =
    let s = c.args in
    let P = c.requires in
    let l = c.loop-j-test.true in
    let E = c.store.ensures in (
      ap length E ∙ length-set c.loop-j.out (s.at + c.loop-j.j) c.type_word.result ∙ c.loop-j.invariant.0,
      subst (λ z. Copied s.out.now z s.at (run (heap s.a.now s.d.now) s.p s.k) (c.loop-j.j + 1)) (sym E)
          (copied_step s.out.now c.loop-j.out s.at (heap s.a.now s.d.now) s.p s.k c.loop-j.j c.type_word.result P.1 l c.type_word.ensures.0 c.loop-j.invariant.1),
    )

pub returns : goal.returns
returns c =
    let s = c.args in
    let P = c.requires in
    record {
      area = sym (copied_end s.out.now c.loop-j.out s.at (heap s.a.now s.d.now) s.p s.k c.loop-j.j P.1 c.loop-j-test.false c.loop-j.invariant.1);
      end = ap (λ z. s.at + z) (sym (run_length (heap s.a.now s.d.now) s.p s.k P.1));
    }
