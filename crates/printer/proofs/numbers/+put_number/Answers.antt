use mathlib.Core.Path.{sym}
use Rattle.printer_rules.proofs.Decimal.{decimal_one, decimal_more}
use Rattle.printer.proofs.PutLaws.{put_then, put_text}
use Rattle.printer.proofs.numbers.+put_number.Goals as goal

pub returns-then-n-lt10 : goal.returns-then-n-lt10
returns-then-n-lt10 t c = put_text (sym (decimal_one _ c.if-n-lt10.true)) c.put_byte.ensures

pub returns : goal.returns
returns t c =
    put_text
    (sym (decimal_more _ c.if-n-lt10.false))
    (put_then c.put_number-end.ensures c.put_byte-2.ensures)
