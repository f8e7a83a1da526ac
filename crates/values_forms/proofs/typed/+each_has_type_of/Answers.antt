use mathlib.Core.Path.{sym, ◌∙◌}
use Prim.Native.Nat.{◌≤◌}
use native.Mathlib.Omega.{arith}
use lib.ListN.{length, drop, length-drop}
use Rattle.values.specs.Typed.{by_test, has_type}
use Rattle.values_forms.proofs.Testing.{test_counted, typed_none, typed_level, each_stop, each_go, each_done}
use Rattle.values_forms.proofs.typed.+each_has_type_of.Goals as goal

pub each_has-loop-i-preserved : goal.each_has-loop-i-preserved
each_has-loop-i-preserved t c =
    let s = c.args in
    let e = c.from-u.ensures in
    let f = c.from-v.ensures in
    let k : c.type_step-here.result ≤ length (drop c.loop-i.here s.t.now) = rw e at c.type_step-here.ensures.1 in (
      omega (arith, length-drop c.loop-i.here s.t.now),
      omega arith,
      c.loop-i.invariant.2 ∙ each_go (has_type s.depth) s.own s.t.now s.w.now s.n c.loop-i._i c.loop-i.here c.loop-i.at c.loop-i-test.true
          (rw (← e, ← f) (sym c.type_of.ensures ∙ c.if-not-type_of.false)) c.type_step-here.result c.span-at.result (rw e at c.type_step-here.ensures.0) (rw f at c.span-at.ensures.0),
    )

pub each_has-returns-then-not-type_of : goal.each_has-returns-then-not-type_of
each_has-returns-then-not-type_of t c =
    let s = c.args in
    each_stop (has_type s.depth) s.own s.t.now s.w.now s.n c.loop-i._i c.loop-i.here c.loop-i.at c.loop-i-test.true
    (rw (← c.from-u.ensures, ← c.from-v.ensures) (sym c.type_of.ensures ∙ c.if-not-type_of.true)) ∙ sym c.loop-i.invariant.2

pub each_has-returns : goal.each_has-returns
each_has-returns t c =
    let s = c.args in
    each_done (has_type s.depth) s.own s.t.now s.w.now s.n c.loop-i._i c.loop-i.here c.loop-i.at c.loop-i-test.false ∙ sym c.loop-i.invariant.2

pub type_of-returns-then-depth-eq0 : goal.type_of-returns-then-depth-eq0
type_of-returns-then-depth-eq0 t c =
    let s = c.args in
    typed_none s.depth s.t.now s.w.now c.if-depth-eq0.true

pub type_of-each_has-requires : goal.type_of-each_has-requires
type_of-each_has-requires t c =
    let s = c.args in
    let n = rw (← c.test_of-q.ensures, c.in-Each.is) at (test_counted s.t.now s.w.now) in
    (omega (arith, c.decreases), omega (arith, n, c.type_inv.w 1))

pub type_of-returns-in-Fails : goal.type_of-returns-in-Fails
unfolding by_test
type_of-returns-in-Fails t c =
    let s = c.args in
    sym (typed_level s.depth s.t.now s.w.now c.if-depth-eq0.false c.test_of-q.result c.test_of-q.ensures ∙ rw c.in-Fails.is)

pub type_of-returns-in-Passes : goal.type_of-returns-in-Passes
unfolding by_test
type_of-returns-in-Passes t c =
    let s = c.args in
    sym (typed_level s.depth s.t.now s.w.now c.if-depth-eq0.false c.test_of-q.result c.test_of-q.ensures ∙ rw c.in-Passes.is)

pub type_of-returns-in-Each : goal.type_of-returns-in-Each
unfolding by_test
type_of-returns-in-Each t c =
    let s = c.args in
    sym (typed_level s.depth s.t.now s.w.now c.if-depth-eq0.false c.test_of-q.result c.test_of-q.ensures ∙ rw (c.in-Each.is, ← c.from.ensures) (sym c.each_has.ensures))
