use mathlib.Core.Path.{ap, ◌∙◌}
use Rattle.words.proofs.Lists.{take_rest}
use Rattle.printer_rules.specs.Lines.{numbers, spaced, entry_line}
use Rattle.printer.proofs.PutLaws.{put_then, put_text}
use Rattle.printer.proofs.lines.put_entry.Goals as goal

pub returns : goal.returns
unfolding entry_line
returns c =
    let entry = c.args.entry.now in
    let front = put_text (ap numbers c.span.ensures) c.put_numbers-front.ensures in
    let colon = c.put_text-colon.ensures in
    let types = put_text (ap spaced (c.span-2.ensures ∙ take_rest entry 3)) c.put_each_spaced-types.ensures in
    put_then front (put_then colon (put_then types c.put_byte.ensures))
