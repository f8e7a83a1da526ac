use Rattle.std.proofs.Common.{◌≡◌, ℕ, ◌-◌, ◌/◌, ◌^◌, ◌<◌, List, [], length, ap, ◌∙◌, subst, arith}
use Rattle.values.specs.Held.{keep}
use Rattle.values.proofs.Holding.{building_none}
use Rattle.enumeration_rules.specs.OnWords.{power_on}
use Rattle.enumeration.proofs.Values.{set_count, power_many, power_long, power_listed}
use Rattle.enumeration.proofs.powers.power.Goals as goal

pub returns-then-n-gt-MEMBERS : goal.returns-then-n-gt-MEMBERS
returns-then-n-gt-MEMBERS c = λ vs e l. c.over.ensures ∙ power_many vs (omega (arith, c.word-n.ensures.0, set_count _ vs e, c.if-n-gt-MEMBERS.true))

pub returns-then-e-s : goal.returns-then-e-s
returns-then-e-s c =
    λ vs e l.
    let n = c.word-n.ensures.0 ∙ set_count _ vs e in
    c.over-then-e-s.ensures ∙ power_long vs _ (c.two_to-e.ensures.0 ∙ ap (λ (m : ℕ). 2 ^ m) n) (omega (arith, n, c.if-n-gt-MEMBERS.false)) (subst (λ (s : List ℕ). 124 / c.two_to-e.result - 2 < length s) e c.if-e-s.true)

pub returns : goal.returns
unfolding power_on
returns c =
    λ vs e l.
    let n = c.word-n.ensures.0 ∙ set_count _ vs e in
    let p : c.built.result ≡ keep (power_on c.args.s.now) = c.built.ensures _ (c.subsets-b.ensures _ (c.put-a.ensures [] building_none)) ∙ rw (c.from.ensures, c.two_to-e.ensures.0, c.word-n.ensures.0) in
    p ∙ ap (λ (s : List ℕ). keep (power_on s)) e ∙ power_listed vs (omega (arith, n, c.if-n-gt-MEMBERS.false)) l
