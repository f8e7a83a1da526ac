-- What a rule tells, told of a rule that it stands for.
use Prim.Native.Nat.{ℕ}
use Rattle.std.specs.Prelude.{Result, Ok, Err}
use Rattle.types_solver.specs.declared.entering.Grown.{Grown}
use Rattle.checker_pieces.specs.Answering.{Rules}

pub rules_map : {n : ℕ} {P Q : ℕ → Grown → Type 0} (r : Result Grown ℕ) → ((number : ℕ) (g : Grown) → P number g → Q number g) → Rules n P r → Rules n Q r
rules_map (Ok g) f h = record { is = f 0 g h.is }
rules_map (Err number) f h = record { is = (h.is.0, λ g l. f number g (h.is.1 g l)) }
