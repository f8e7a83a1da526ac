use Rattle.printer_rules.proofs.LineLaws.{spaced_one}
use Rattle.printer.proofs.PutLaws.{put_then, put_text}
use Rattle.printer.proofs.numbers.put_spaced.Goals as goal

pub returns : goal.returns
returns c = put_text (spaced_one _) (put_then c.put_byte-end.ensures c.put_number.ensures)
