use Rattle.checker_dictionary.specs.Lookup.{is_entry, class_at, name_at}
use Rattle.std.proofs.Common.{eq-eqb, ne_eqb}
use Rattle.checker_dictionary.proofs.lookup.is_entry.Goals as goal

pub returns-then-class-word : goal.returns-then-class-word
unfolding is_entry class_at name_at
returns-then-class-word c = rw (← c.offset-at.ensures.0, ← c.word.ensures.0, ne_eqb _ _ c.if-class-word.true)

pub returns : goal.returns
unfolding is_entry class_at name_at
returns c = rw (← c.offset-at.ensures.0, ← c.word.ensures.0, ← c.word-2.ensures.0, eq-eqb _ _ c.if-class-word.false)
