use mathlib.Core.Path.{sym, ◌∙◌}
use Prim.Native.Nat.{◌-◌, ◌≤◌}
use native.Mathlib.Omega.{arith}
use lib.ListN.{length, take, drop, length-drop}
use Rattle.values.specs.Givens.{size_of}
use Rattle.values.specs.Form.{by_shape, value_length}
use Rattle.values_forms.proofs.Forms.{shape_within, length_none, length_level, group_none, group_stop, group_go, group_done}
use Rattle.values_forms.proofs.form.+group_end_value_length.Goals as goal

pub group_end-returns-then-k-eq0 : goal.group_end-returns-then-k-eq0
group_end-returns-then-k-eq0 t c =
    let s = c.args in (
      group_none (value_length (size_of s.givens.now) s.depth) s.ascending s.w.now s.n c.loop-i._i c.loop-i.last c.loop-i.at c.loop-i-test.true
          (rw (← c.from.ensures) (sym c.value_length-k.ensures.0 ∙ c.if-k-eq0.true)) ∙ sym c.loop-i.invariant.2,
      omega arith,
    )

pub group_end-loop-i-preserved : goal.group_end-loop-i-preserved
group_end-loop-i-preserved t c =
    let s = c.args in
    let f = c.from.ensures in
    let k : c.value_length-k.result ≤ length (drop c.loop-i.at s.w.now) = rw f at c.value_length-k.ensures.1 in
    let d = length-drop c.loop-i.at s.w.now in (
      omega arith,
      omega arith,
      c.loop-i.invariant.2 ∙ group_go (value_length (size_of s.givens.now) s.depth) s.ascending s.w.now s.n c.loop-i._i c.loop-i.last c.loop-i.at c.loop-i-test.true
          c.value_length-k.result (rw f at c.value_length-k.ensures.0) c.if-k-eq0.false
          (rw (← c.span.ensures, ← c.span-in-loop-i.ensures) (sym c.follows.ensures ∙ c.if-not-follows.false)),
    )

pub group_end-returns-then-not-follows : goal.group_end-returns-then-not-follows
group_end-returns-then-not-follows t c =
    let s = c.args in
    let f = c.from.ensures in (
      group_stop (value_length (size_of s.givens.now) s.depth) s.ascending s.w.now s.n c.loop-i._i c.loop-i.last c.loop-i.at c.loop-i-test.true
          c.value_length-k.result (rw f at c.value_length-k.ensures.0) c.if-k-eq0.false
          (rw (← c.span.ensures, ← c.span-in-loop-i.ensures) (sym c.follows.ensures ∙ c.if-not-follows.true)) ∙ sym c.loop-i.invariant.2,
      omega arith,
    )

pub group_end-returns : goal.group_end-returns
group_end-returns t c =
    let s = c.args in
    (group_done (value_length (size_of s.givens.now) s.depth) s.ascending (take (c.loop-i.at - c.loop-i.last) (drop c.loop-i.last s.w.now)) (drop c.loop-i.at s.w.now) s.n c.loop-i._i c.loop-i.at c.loop-i-test.false ∙ sym c.loop-i.invariant.2, omega arith)

pub value_length-returns-then-depth-eq0 : goal.value_length-returns-then-depth-eq0
value_length-returns-then-depth-eq0 t c =
    let s = c.args in
    (length_none (size_of s.givens.now) s.depth s.w.now c.if-depth-eq0.true, omega arith)

pub value_length-group_end-requires : goal.value_length-group_end-requires
value_length-group_end-requires t c =
    let s = c.args in
    (omega (arith, c.decreases), rw (← c.shape_of-s.ensures, c.in-Set.is) at (shape_within (size_of s.givens.now) s.w.now))

pub value_length-group_end-requires-in-Tuple : goal.value_length-group_end-requires-in-Tuple
value_length-group_end-requires-in-Tuple t c =
    let s = c.args in
    (omega (arith, c.decreases), rw (← c.shape_of-s.ensures, c.in-Tuple.is) at (shape_within (size_of s.givens.now) s.w.now))

pub value_length-returns-in-Broken : goal.value_length-returns-in-Broken
unfolding by_shape
value_length-returns-in-Broken t c =
    let s = c.args in
    (sym (length_level (size_of s.givens.now) s.depth s.w.now c.if-depth-eq0.false c.shape_of-s.result c.shape_of-s.ensures ∙ rw c.in-Broken.is), omega arith)

pub value_length-returns-in-Leaf : goal.value_length-returns-in-Leaf
unfolding by_shape
value_length-returns-in-Leaf t c =
    let s = c.args in (
      sym (length_level (size_of s.givens.now) s.depth s.w.now c.if-depth-eq0.false c.shape_of-s.result c.shape_of-s.ensures ∙ rw c.in-Leaf.is),
      rw (← c.shape_of-s.ensures, c.in-Leaf.is) at (shape_within (size_of s.givens.now) s.w.now),
    )

pub value_length-returns-in-Set : goal.value_length-returns-in-Set
unfolding by_shape
value_length-returns-in-Set t c =
    let s = c.args in
    (sym (length_level (size_of s.givens.now) s.depth s.w.now c.if-depth-eq0.false c.shape_of-s.result c.shape_of-s.ensures ∙ rw c.in-Set.is (sym c.group_end.ensures.0)), c.group_end.ensures.1)

pub value_length-returns-in-Tuple : goal.value_length-returns-in-Tuple
unfolding by_shape
value_length-returns-in-Tuple t c =
    let s = c.args in
    (sym (length_level (size_of s.givens.now) s.depth s.w.now c.if-depth-eq0.false c.shape_of-s.result c.shape_of-s.ensures ∙ rw c.in-Tuple.is (sym c.group_end-in-Tuple.ensures.0)), c.group_end-in-Tuple.ensures.1)
