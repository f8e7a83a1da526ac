use mathlib.Core.Path.{refl, sym, ◌∙◌}
use native.Mathlib.Omega.{arith}
use mathlib.Core.Bool.{true, false}
use Rattle.types_unifier.proofs.ComparingLaws.{run_same, run_differ}
use Rattle.types_rules.proofs.Terms.{bool_no}
use Rattle.types_unifier.proofs.unification.same_run.Goals as goal

pub returns-then-held : goal.returns-then-held
returns-then-held c = record { holds = λ e. absurd (bool_no false e refl); fails = λ e. run_differ _ _ _ _ c.loop-j.j c.loop-j-test.true (λ q. c.if-held.true (c.held.ensures.0 ∙ q ∙ sym c.held-in-loop-j.ensures.0)) }

pub returns : goal.returns
returns c =
    let e = c.loop-j-test.false in
    record { holds = λ t. run_same _ _ _ _ c.requires.left c.requires.right (λ i l. c.loop-j.invariant i (omega arith)); fails = λ f. absurd (bool_no true refl f) }
