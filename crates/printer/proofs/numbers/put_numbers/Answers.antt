use Rattle.printer_rules.specs.Lines.{numbers}
use Rattle.printer_rules.proofs.LineLaws.{numbers_none}
use Rattle.printer.proofs.PutLaws.{put_none, put_then, put_text}
use Rattle.printer.proofs.numbers.put_numbers.Goals as goal

pub returns-in-None : goal.returns-in-None
returns-in-None c = put_text (numbers_none c.args.words.now c.in-None.ensures.cases) (put_none c.within.ensures)

pub returns-in-Some : goal.returns-in-Some
unfolding numbers
returns-in-Some c = rw c.in-Some.ensures.cases.0 (put_then c.put_number-end.ensures c.put_each_spaced.ensures)
