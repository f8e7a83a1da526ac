use native.Mathlib.Omega.{arith}
use Rattle.types_cells.specs.Calls.{Known}
use Rattle.types_cells.proofs.LinkLaws.{known_root, few_cell}
use Rattle.types_solver.proofs.Opening.{left_yes, left_no}
use Rattle.types_solver.proofs.openness.left_open.Goals as goal

pub is_open-requires : goal.is_open-requires
is_open-requires c =
    let K : Known c.args.a.now c.loop-i.i = record { n = _; L = c.requires.L; held = c.requires.held; made = c.loop-i-test.true } in
    few_cell _ _ (known_root _ _ _ K c.find-r.ensures)

pub returns-then-is_open : goal.returns-then-is_open
returns-then-is_open c = let q = c.is_open.ensures.holds c.if-is_open.true in left_yes _ _ _ _ c.loop-i-test.true c.find-r.ensures q.0 q.1

pub returns : goal.returns
returns c = let l = c.loop-i-test.false in left_no _ _ (λ i m. c.loop-i.invariant i (omega arith))
