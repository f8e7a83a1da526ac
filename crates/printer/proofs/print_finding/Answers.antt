use Rattle.printer.proofs.PutLaws.{printed_fits, printed_full}
use Rattle.printer.proofs.print_finding.Goals as goal

pub returns-then-end-out : goal.returns-then-end-out
returns-then-end-out c = printed_fits c.clear.ensures c.put_finding-end.ensures c.if-end-out.true

pub returns : goal.returns
returns c = printed_full c.clear.ensures c.put_finding-end.ensures c.if-end-out.false c.clear-2.ensures
