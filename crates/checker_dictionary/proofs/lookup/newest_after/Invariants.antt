use Rattle.std.proofs.Common.{◌≡◌, ◌-◌, ◌≤◌}
use Rattle.layout.specs.Layout.{count}
use Rattle.checker_dictionary.specs.Lookup.{is_entry, newest}
use Rattle.checker_dictionary.proofs.lookup.newest_after.Given as goal

abbrev pub invariant-loop-k : goal.invariant-loop-k
invariant-loop-k l = (newest (is_entry l.d l.class l.name) (count l.d) ≡ newest (is_entry l.d l.class l.name) l.k) × (count l.d - (count l.d - l.low) ≤ l.k)
