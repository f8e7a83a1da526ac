use borrow.Author.Tests.{eq-eqb, ne_eqb}
use Rattle.reader_rules.specs.Identifiers.{stroke_of}
use Rattle.checker_rules.specs.Strokes.{takes}
use Rattle.checker_signatures.proofs.includes.takes.Goals as goal

pub returns-then-k-eq0 : goal.returns-then-k-eq0
unfolding takes
returns-then-k-eq0 c = rw (eq-eqb c.args.k 0 c.if-k-eq0.true)

pub returns : goal.returns
unfolding takes stroke_of
returns c = rw (ne_eqb c.args.k 0 c.if-k-eq0.false)
