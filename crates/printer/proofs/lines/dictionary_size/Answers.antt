use borrow.Author.Tests.{ne_eqb}
use Rattle.words.proofs.Loops.{tests}
use Rattle.printer_rules.specs.Lines.{dictionary_size}
use Rattle.printer.proofs.lines.dictionary_size.Goals as goal

pub returns-then-n-eq0 : goal.returns-then-n-eq0
unfolding dictionary_size
returns-then-n-eq0 c = rw (← c.word-n.ensures.0) (search tests)

pub returns : goal.returns
unfolding dictionary_size
returns c =
    rw (
      ← c.word-n.ensures.0,
      ne_eqb _ _ c.if-n-eq0.false,
      ← c.word.ensures.0,
      ← c.word-2.ensures.0,
    )
