use native.Mathlib.Omega.{arith}
use Prim.Native.Nat.{◌+◌}
use Rattle.types_solver.proofs.Instancing.{arg_few, formed}
use Rattle.types_solver.proofs.entering.enter_former.Goals as goal

pub overflow_cast-arg : goal.overflow_cast-arg
overflow_cast-arg c =
    let P = c.requires in
    let r = P.room in
    let w = P.word in
    let s = c.args in
    let z = arg_few s.t s.v (s.top + s.m) 4294967296 (omega arith) (omega arith) in
    let e = c.argument-arg.ensures in omega arith

pub returns-then-t-eq-BINDING : goal.returns-then-t-eq-BINDING
returns-then-t-eq-BINDING c = formed _ _ _ _ _ _ _ _ c.requires c.argument-arg.ensures _ _ (omega arith) (omega arith) (omega arith) (λ e. omega arith) c.new_cell.ensures

pub returns : goal.returns
returns c = formed _ _ _ _ _ _ _ _ c.requires c.argument-arg.ensures _ _ (omega arith) (omega arith) (omega arith) (λ e. absurd (c.if-t-eq-BINDING.false e)) c.new_cell.ensures
