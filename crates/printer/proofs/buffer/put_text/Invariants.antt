use lib.ListN.{take}
use Rattle.printer.specs.Buffer.{Put}
use Rattle.printer.proofs.buffer.put_text.Given as goal

abbrev pub invariant-loop-byte : goal.invariant-loop-byte
invariant-loop-byte l = Put (take l.byte-index l.text) l.initial.out l.at l.out l.end
