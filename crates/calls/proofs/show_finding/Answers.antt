use native.Mathlib.Omega.{arith}
use lib.ListN.{length-take}
use Rattle.printer.proofs.PutLaws.{printed_within}
use Rattle.calls.proofs.show_finding.Goals as goal

pub slice_bounds-out-end : goal.slice_bounds-out-end
slice_bounds-out-end g c = omega (arith, printed_within c.print_finding-n.ensures, c.print_finding-n.auto.out)

pub slice_bounds-write_all-end : goal.slice_bounds-write_all-end
slice_bounds-write_all-end g c = omega (arith, printed_within c.print_finding-n.ensures, c.print_finding-n.auto.out, length-take c.print_finding-n.result c.print_finding-n.new.out)
