use Rattle.std.proofs.Common.{◌≡◌, true, drop, sym, ap, ◌∙◌, arith, eq-eqb, ne_eqb}
use native.Mathlib.Nat.{sub-zero}
use Rattle.values.specs.Sets.{is_pair, apply}
use Rattle.values.specs.Span.{span}
use Rattle.values.proofs.Members.{apply_from, seen, apply_misfit, apply_hit, apply_go, apply_one, apply_none}
use Rattle.values.proofs.sets.apply.Goals as goal
use Rattle.values.proofs.sets.apply.Goals.{then-same, else-same}

pub returns-then-word-ne-SET : goal.returns-then-word-ne-SET
unfolding apply
returns-then-word-ne-SET c = rw (← c.word.ensures.0, ne_eqb _ 3 c.if-word-ne-SET.true)

pub loop-i-init : goal.loop-i-init
unfolding apply apply_from seen
loop-i-init c = (omega arith, omega arith, omega arith, rw (← c.word.ensures.0, eq-eqb _ 3 c.if-word-ne-SET.false, sub-zero, c.word-n.ensures.0))

pub loop-i-preserved : goal.loop-i-preserved
loop-i-preserved c =
    let s = c.args in
    let w = c.from-w.ensures in
    let e : is_pair (drop c.loop-i.at s.f.now) ≡ true = rw (← w) (sym c.is_pair.ensures ∙ c.if-not-is_pair.false) in
    let k = c.span-at.ensures.0 ∙ ap span w in (
      omega arith,
      omega arith,
      omega arith,
      c.loop-i.invariant.3 ∙ elim c.if-same.branch [
        | then-same p ↦ rw (p.hits-is, p.hit-is) (apply_hit s.f.now s.a.now _ c.loop-i._i c.loop-i.at c.loop-i.hits c.loop-i.hit (omega arith) e c.span-at.result k
            (rw (← w, ← c.from.ensures, ← c.first.ensures) (sym c.same.ensures ∙ p.if-same.true)))
        | else-same p ↦ rw (p.hits-is, p.hit-is) (apply_go s.f.now s.a.now _ c.loop-i._i c.loop-i.at c.loop-i.hits c.loop-i.hit (omega arith) e c.span-at.result k
            (rw (← w, ← c.from.ensures, ← c.first.ensures) (sym c.same.ensures ∙ p.if-same.false)))
      ],
    )

pub returns-then-not-is_pair : goal.returns-then-not-is_pair
returns-then-not-is_pair c =
    apply_misfit c.args.f.now c.args.a.now c.word-n.result c.loop-i._i c.loop-i.at c.loop-i.hits c.loop-i.hit (omega arith)
    (rw (← c.from-w.ensures) (sym c.is_pair.ensures ∙ c.if-not-is_pair.true)) ∙ sym c.loop-i.invariant.3

pub returns-then-hits-eq1 : goal.returns-then-hits-eq1
returns-then-hits-eq1 c = c.second.ensures ∙ apply_one c.args.f.now c.args.a.now c.word-n.result c.loop-i._i c.loop-i.at c.loop-i.hits c.loop-i.hit (omega arith) c.if-hits-eq1.true ∙ sym c.loop-i.invariant.3

pub returns : goal.returns
returns c = apply_none c.args.f.now c.args.a.now c.word-n.result c.loop-i._i c.loop-i.at c.loop-i.hits c.loop-i.hit (omega arith) c.if-hits-eq1.false ∙ sym c.loop-i.invariant.3
