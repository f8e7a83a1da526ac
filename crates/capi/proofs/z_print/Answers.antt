use Rattle.capi.proofs.z_print.Goals as goal

pub returns : goal.returns
returns c = rw (← c.finding_of.ensures) c.print_finding.ensures
