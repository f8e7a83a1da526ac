use Rattle.checker_lookup.proofs.PlacedLaws.{place_fits}
use Prim.Native.Nat.{◌+◌}
use native.Mathlib.Omega.{arith}
use mathlib.Core.Path.{sym, ◌∙◌}
use Rattle.checker_lookup.proofs.thetas.place_row.Goals as goal

pub overflow_cast-p : goal.overflow_cast-p
overflow_cast-p c =
    let z = place_fits _ _ _ _ _ _ c.requires c.word-id.ensures.0 (sym c.takes.ensures ∙ c.if-not-takes.false) (c.in-Some.p + 1) c.in-Some.ensures (λ e. omega arith) in omega arith
