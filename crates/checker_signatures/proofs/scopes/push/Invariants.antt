use Rattle.checker_signatures.specs.Rows.{rows}
use Prim.Native.Nat.{◌+◌, ◌*◌}
use Rattle.checker_signatures.specs.Tables.{Table}
use Rattle.checker_signatures.proofs.scopes.push.Given as goal

abbrev pub invariant-loop-j : goal.invariant-loop-j
invariant-loop-j l = Table l.initial.work l.work (l.base + 2 * l.n) (rows l.initial.work l.source l.j) l.j
