use Rattle.std.proofs.Common.{◌≡◌, ◌+◌, ◌-◌, sym, ap, ◌∙◌, arith}
use Rattle.checker_dictionary.specs.Lookup.{newest}
use Rattle.checker_dictionary.proofs.LookupLaws.{newest_hit, newest_miss}
use Rattle.checker_dictionary.proofs.lookup.newest_after.Goals as goal

pub returns-then-is_entry : goal.returns-then-is_entry
returns-then-is_entry c =
    let e : c.loop-k.k - 1 + 1 ≡ c.loop-k.k = omega arith in
    (newest_hit _ _ (omega arith) (sym c.is_entry.ensures ∙ c.if-is_entry.true) ∙ ap (newest _) e ∙ sym c.loop-k.invariant.0, omega arith)

pub loop-k-preserved : goal.loop-k-preserved
loop-k-preserved c =
    let e : c.loop-k.k - 1 + 1 ≡ c.loop-k.k = omega arith in
    (c.loop-k.invariant.0 ∙ newest_miss _ _ (omega arith) (rw (← e) (sym c.is_entry.ensures ∙ c.if-is_entry.false)), omega arith)
