use Rattle.printer_rules.proofs.LineLaws.{lines_before}
use Rattle.printer.specs.Buffer.{Put}
use Rattle.printer.proofs.lines.put_entries.Given as goal

abbrev pub invariant-loop-k : goal.invariant-loop-k
invariant-loop-k l = Put (lines_before l.dict l.k) l.initial.out l.at l.out l.end
