use Rattle.printer_rules.specs.Lines.{spaced}
use Rattle.printer_rules.proofs.LineLaws.{spaced_next}
use Rattle.printer.proofs.PutLaws.{put_none, put_then, put_text}
use Rattle.printer.proofs.numbers.put_each_spaced.Goals as goal

pub loop-w-init : goal.loop-w-init
unfolding spaced
loop-w-init c = put_none c.within-end.ensures

pub loop-w-preserved : goal.loop-w-preserved
loop-w-preserved c = put_text (spaced_next c.args.words.now c.loop-w.w-index c.loop-w-test.true) (put_then c.loop-w.invariant c.put_spaced-end.ensures)
