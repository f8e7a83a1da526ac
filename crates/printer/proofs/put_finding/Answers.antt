use Rattle.printer_rules.specs.Print.{print_of}
use Rattle.printer.proofs.put_finding.Goals as goal

pub returns-in-Ok : goal.returns-in-Ok
unfolding print_of
returns-in-Ok c = rw c.in-Ok.is c.put_accepted.ensures

pub returns-in-Err : goal.returns-in-Err
unfolding print_of
returns-in-Err c = rw c.in-Err.is c.put_refused.ensures
