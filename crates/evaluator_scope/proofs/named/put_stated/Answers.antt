use native.Mathlib.Omega.{arith}
use Rattle.values.proofs.Holding.{held_len}
use Rattle.evaluator_scope.specs.Named.{said}
use Rattle.evaluator_scope.proofs.NamedLaws.{entry_few, entry_some, name_entry_lem}
use Rattle.evaluator_scope.proofs.named.put_stated.Goals as goal

pub overflow_mul-k : goal.overflow_mul-k
overflow_mul-k c = let e = c.place_of-k.ensures in let f = entry_few _ _ _ c.requires.0 _ c.requires.1 in omega arith

pub overflow_mul-k-then-word-eq0 : goal.overflow_mul-k-then-word-eq0
overflow_mul-k-then-word-eq0 c = let e = c.place_of-k.ensures in let f = entry_few _ _ _ c.requires.0 _ c.requires.1 in omega arith

pub overflow_sub-k : goal.overflow_sub-k
overflow_sub-k c = let e = c.place_of-k.ensures in let f = entry_some _ _ _ c.requires.0 _ c.requires.1 in let g = entry_few _ _ _ c.requires.0 _ c.requires.1 in omega arith

pub overflow_mul-k-then-word-eq0-2 : goal.overflow_mul-k-then-word-eq0-2
overflow_mul-k-then-word-eq0-2 c = let e = c.place_of-k.ensures in let f = entry_few _ _ _ c.requires.0 _ c.requires.1 in omega arith

pub returns-then-word-eq0 : goal.returns-then-word-eq0
returns-then-word-eq0 c scope g = c.put_entry.ensures.told _ scope (said c.args.doc.now c.args.state.now c.args.name) g (name_entry_lem _ _ _ c.requires.0 _ c.requires.1 (λ i. omega (arith, c.type_inv.state i)) _ _ _ _ c.place_of-k.ensures c.word.ensures.0 c.if-word-eq0.true c.word-then-word-eq0.ensures.0 c.word-then-word-eq0-2.ensures.0)

pub put_name-requires : goal.put_name-requires
put_name-requires c = let h = c.held_name.ensures in (omega (arith, c.requires.2, c.requires.3), omega (arith, c.requires.2), c.requires.4, omega (arith, held_len _ _ h.words h.short, h.short))
