use Rattle.std.proofs.Common.{◌^◌, ◌<◌}
use Rattle.layout.specs.Layout.{count}
use Rattle.checker_dictionary.specs.Index.{IndexedTo}
use Rattle.checker_dictionary.proofs.IndexLaws.{Chained}
use Rattle.checker_dictionary.proofs.index.linked.Given as goal

abbrev pub invariant-loop-k : goal.invariant-loop-k
invariant-loop-k l = (l.k < 2 ^ 32) × (IndexedTo l.d l.w (count l.d) → Chained l.d (count l.d) l.class l.name l.k)

abbrev pub decreases-loop-k : goal.decreases-loop-k
decreases-loop-k l = l.k
