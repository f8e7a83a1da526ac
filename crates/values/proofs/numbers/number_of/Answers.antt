use Rattle.std.proofs.Common.{w32, eq-eqb, ne_eqb}
use mir.ValLaws.{to_z-of_z}
use Rattle.values.specs.Numbers.{number_of}
use Rattle.values.proofs.numbers.number_of.Goals as goal

pub returns-then-word-eq-INTEGER : goal.returns-then-word-eq-INTEGER
unfolding number_of
returns-then-word-eq-INTEGER c = rw (← c.word.ensures.0, eq-eqb _ 1 c.if-word-eq-INTEGER.true, ← c.word-then-word-eq-INTEGER.ensures.0, ← c.signed.ensures, to_z-of_z w32 c.signed.result (record { sfits = c.signed.type_inv }))

pub returns : goal.returns
unfolding number_of
returns c = rw (← c.word.ensures.0, ne_eqb _ 1 c.if-word-eq-INTEGER.false)
