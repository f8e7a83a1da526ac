use mathlib.Core.Path.{sym, ap, ◌∙◌}
use Prim.Native.Nat.{◌/◌}
use native.Mathlib.Omega.{arith}
use lib.ListN.{length, length-take}
use Rattle.zcheck.proofs.Reports.{taken_room, words_report, broken_report}
use Rattle.zcheck.proofs.report.Goals as goal

pub slice_bounds-doc-end : goal.slice_bounds-doc-end
slice_bounds-doc-end c = rw c.take_words.ensures.words_after (taken_room c.args.input.now (sym c.take_words.ensures.value ∙ c.if-take_words.true))

pub slice_bounds-print_check-end : goal.slice_bounds-print_check-end
slice_bounds-print_check-end c =
    let l = taken_room c.args.input.now (sym c.take_words.ensures.value ∙ c.if-take_words.true) in
    let k = length-take (length c.args.input.now / 4) c.take_words.new.words in
    omega (arith, l, k, ap length c.take_words.ensures.words_after)

pub returns-then-take_words : goal.returns-then-take_words
returns-then-take_words c = words_report c.args.input.now (sym c.take_words.ensures.value ∙ c.if-take_words.true) (rw (← c.take_words.ensures.words_after) c.print_check.ensures)

pub returns : goal.returns
returns c = broken_report c.args.input.now (sym c.take_words.ensures.value ∙ c.if-take_words.false) c.print_broken.ensures
