use mathlib.Core.Path.{sym, ◌∙◌}
use Prim.Native.Nat.{◌<◌}
use native.Mathlib.Omega.{arith}
use Rattle.types_cells.specs.Store.{frozen, run}
use Rattle.types_cells.proofs.Words.{run_at, run_length, in_get_d}
use Rattle.types_solver.proofs.components.place.Goals as goal

pub returns-then-held-x : goal.returns-then-held-x
returns-then-held-x c =
    let t = c.loop-j-test.true in (
      t,
      record {
        within = omega arith;
        hit = λ q. run_at (frozen c.args.a.now) c.args.p c.args.k c.loop-j.j q ∙ sym c.held.ensures.0 ∙ c.if-held-x.true;
        first = λ j l e. c.loop-j.invariant j l (sym (run_at (frozen c.args.a.now) c.args.p c.args.k j (omega arith)) ∙ e);
        none = λ e. absurd (omega arith);
      },
    )

pub returns : goal.returns
returns c =
    let t = c.loop-j-test.false in
    let w = frozen c.args.a.now in
    record {
      within = omega arith;
      hit = λ q. absurd (omega arith);
      first = λ j l e. c.loop-j.invariant j (omega arith) (sym (run_at w c.args.p c.args.k j (omega arith)) ∙ e);
      none = λ e m.
          let z = in_get_d c.args.x (run w c.args.p c.args.k) m in
          let l = run_length w c.args.p c.args.k c.requires.left in
          let q : z.0 < c.args.k = let y = z.1 in omega arith in
          c.loop-j.invariant z.0 (omega arith) (sym (run_at w c.args.p c.args.k z.0 q) ∙ z.2);
    }
