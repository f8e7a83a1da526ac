use Rattle.printer_rules.specs.Lines.{refused_bytes, at_bytes, refused_line}
use Rattle.printer.proofs.PutLaws.{put_then}
use Rattle.printer.proofs.lines.put_refused.Goals as goal

pub returns : goal.returns
unfolding refused_bytes at_bytes refused_line
returns c =
    let place = put_then c.put_spaced-line.ensures c.put_byte.ensures in
    put_then c.put_text-refused.ensures (put_then c.put_spaced-numbered.ensures (put_then c.put_text-placed.ensures place))
