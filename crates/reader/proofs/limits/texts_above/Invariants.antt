use Rattle.reader_repeats.specs.Parents.{places}
use Rattle.reader_rules.specs.Nodes.{above}
use Rattle.reader_rules.specs.Limits.{texts_among}
use Prim.Native.Nat.{◌+◌, ◌-◌, ◌≤◌, ◌<◌}
use mathlib.Core.Path.{◌≡◌}
use Rattle.reader.proofs.limits.texts_above.Given as goal

abbrev pub invariant-loop : goal.invariant-loop
invariant-loop l = (l.a < places) × (texts_among l.doc (above l.doc l.n l.k) ≡ l.texts + texts_among l.doc (above l.doc (l.n - l.counter) l.a)) × (l.texts ≤ l.counter)
