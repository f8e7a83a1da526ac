use Rattle.checker_dictionary.specs.Index.{IndexedTo}
use Rattle.checker_dictionary.proofs.index.extend.Given as goal

abbrev pub invariant-loop-k : goal.invariant-loop-k
invariant-loop-k l = IndexedTo l.d l.initial.w l.n → IndexedTo l.d l.w l.k
