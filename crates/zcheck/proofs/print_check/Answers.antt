use Rattle.std.specs.Prelude.{Err}
use native.Mathlib.Omega.{arith}
use contract.Lifetimes.{Lfts}
use Rattle.reader_rules.specs.Refusals.{Finding, Accepted, Refused}
use Rattle.printer_rules.specs.Bounds.{OfWords, no_place, placed}
use Rattle.zcheck.proofs.Reports.{check_prints}
use Rattle.zcheck.proofs.print_check.Goals as goal
use Rattle.zcheck.proofs.print_check.Lts as lts

-- a finding's number and place are words
of_words : (κs : Lfts 3) (f : Finding) → (lts.r-0).is.Ok κs f → OfWords f
of_words κs Accepted o = no_place
of_words κs (Err err) o = placed {number = err.number} {place = err.place} (omega arith) (omega arith)

pub returns : goal.returns
returns c =
    let a = c.requires in
    let k = c.slice_known-4-1.given in
    check_prints {dict = c.check-finding.new.dict} a c.check-finding.ensures c.check-finding.auto.dict (λ i. omega (arith, k i)) (of_words c.check-finding.lifetimes c.check-finding.result c.check-finding.type_inv) c.print_finding.ensures
