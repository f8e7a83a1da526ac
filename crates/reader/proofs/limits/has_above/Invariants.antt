use Rattle.reader_repeats.specs.Parents.{places}
use Rattle.reader.specs.Counts.{reaches}
use Prim.Native.Nat.{◌-◌, ◌<◌}
use mathlib.Core.Path.{◌≡◌}
use Rattle.reader.proofs.limits.has_above.Given as goal

abbrev pub invariant-loop : goal.invariant-loop
invariant-loop l = (l.a < places) × (reaches l.doc (l.n - l.counter) l.a ≡ reaches l.doc l.n l.k)
