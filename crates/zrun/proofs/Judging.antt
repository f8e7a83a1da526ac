-- The fit call's finding decides whether the run's counts.
use mathlib.Core.Path.{◌≡◌, refl, ap₂}
use Prim.Native.Nat.{ℕ}
use native.Mathlib.Omega.{arith}
use Rattle.checker_rules.specs.Check.{Answer, accepted, refused}
use Rattle.checker_rules.specs.Areas.{answer_finding}
use Rattle.reader_rules.proofs.Scan.{same_refusal}
use Rattle.reader_rules.specs.Refusals.{Accepted, Refused}
use Rattle.evaluator_rules.specs.Run.{Ran}
use Rattle.zrun.specs.Judge.{judge_of}

pub run_counts : (a : Answer) (r : Ran) → Accepted ≡ answer_finding a → r.finding ≡ judge_of a r
unfolding answer_finding judge_of
run_counts (accepted E) r e = refl
run_counts (refused n p) r e = let z : ◌≡◌ {A = ℕ} 0 1 = cc in absurd (omega arith)

pub refusal_counts : (a : Answer) (r : Ran) (n p : ℕ) → Refused n p ≡ answer_finding a → Refused n p ≡ judge_of a r
unfolding answer_finding judge_of
refusal_counts (accepted E) r n p e = let z : ◌≡◌ {A = ℕ} 0 1 = cc in absurd (omega arith)
refusal_counts (refused f m) r n p e =
    let s = same_refusal n p f m e in
    ap₂ Refused s.0 s.1
