use mathlib.Core.Path.{◌≡◌, ap, ◌∙◌}
use Prim.Native.Nat.{◌+◌}
use native.Mathlib.Omega.{arith}
use Rattle.words.specs.Loops.{joined}
use Rattle.layout.specs.Layout.{count}
use Rattle.printer_rules.specs.Lines.{entry_line}
use Rattle.printer_rules.proofs.LineLaws.{lines_before, lines_next, lines_rest, lines_end_lem}
use Rattle.printer.proofs.PutLaws.{put_none, put_then, put_full, put_text}
use Rattle.printer.proofs.lines.put_entries.Goals as goal

pub loop-k-init : goal.loop-k-init
unfolding joined
loop-k-init c = put_none c.within-end.ensures

pub returns-then-end-out : goal.returns-then-end-out
returns-then-end-out c =
    let dict = c.args.dict.now in
    let few = c.word-n.ensures.0 in
    put_text (lines_rest dict c.loop-k.k (omega arith) (omega (arith, few))) (put_full _ c.loop-k.invariant c.if-end-out.true)

pub loop-k-preserved : goal.loop-k-preserved
loop-k-preserved c =
    let dict = c.args.dict.now in
    let line = put_text (ap entry_line c.part.ensures) c.put_entry-end.ensures in
    put_text (lines_next dict c.loop-k.k (omega arith)) (put_then c.loop-k.invariant line)

pub returns : goal.returns
returns c =
    let dict = c.args.dict.now in
    let e : c.loop-k.k ≡ count dict + 1 = omega (arith, c.word-n.ensures.0) in
    put_text (ap (lines_before dict) e ∙ lines_end_lem dict) c.loop-k.invariant
