use lib.ListN.{take}
use Rattle.printer_rules.specs.Lines.{spaced}
use Rattle.printer.specs.Buffer.{Put}
use Rattle.printer.proofs.numbers.put_each_spaced.Given as goal

abbrev pub invariant-loop-w : goal.invariant-loop-w
invariant-loop-w l = Put (spaced (take l.w-index l.words)) l.initial.out l.at l.out l.end
