use mathlib.Core.Path.{sym, subst}
use Prim.Native.Nat.{ℕ}
use Rattle.reader_rules.specs.Refusals.{Refused}
use Rattle.printer_rules.specs.Print.{print_of}
use Rattle.printer_rules.specs.Buffer.{Printed}
use Rattle.zcheck.proofs.Reports.{broken_prints}
use Rattle.zcheck.proofs.print_broken.Goals as goal

pub returns : goal.returns
returns c = broken_prints c.args.dict.now (subst (λ (n : ℕ). Printed (print_of (Refused 11 0) c.args.dict.now) n c.print_finding.result c.print_finding.new.out) (sym c.requires) c.print_finding.ensures)
