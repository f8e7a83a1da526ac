use Rattle.std.proofs.Common.{◌≡◌}
use Rattle.std.specs.Slice.Iter.{chunks_exact_rest, chunks_exact_size}
use Rattle.checker_rules.specs.Signatures.{has_old}
use Rattle.checker_signatures.specs.Rows.{renames}
use Rattle.checker_signatures.proofs.includes.has_old.Given as goal

abbrev pub invariant-loop-pair : goal.invariant-loop-pair
invariant-loop-pair l = (chunks_exact_size l.pair-iterator ≡ 2) × (has_old l.id (renames l.part l.i) ≡ has_old l.id (renames (chunks_exact_rest l.pair-iterator) 0))
