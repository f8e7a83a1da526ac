use mathlib.Core.Path.{sym, ◌∙◌}
use Prim.Native.Nat.{◌+◌, ◌≤◌}
use native.Mathlib.Omega.{arith}
use lib.ListN.{length, drop, length-drop}
use Rattle.values.specs.TypeWords.{by_former, type_length}
use Rattle.values_forms.proofs.TypeSpans.{former_bounded, type_none, type_level, types_go, types_done}
use Rattle.values_forms.proofs.type_words.+type_length_types_end.Goals as goal

pub type_length-returns-then-depth-eq0 : goal.type_length-returns-then-depth-eq0
type_length-returns-then-depth-eq0 t c =
    let s = c.args in
    (type_none s.depth s.w.now c.if-depth-eq0.true, omega arith)

pub type_length-types_end-requires : goal.type_length-types_end-requires
type_length-types_end-requires t c =
    let s = c.args in
    (omega (arith, c.decreases), rw (← c.former_of-f.ensures, c.in-Group.is) at (former_bounded s.w.now))

pub type_length-returns-in-Plain : goal.type_length-returns-in-Plain
unfolding by_former
type_length-returns-in-Plain t c =
    let s = c.args in
    (sym (type_level s.depth s.w.now c.if-depth-eq0.false c.former_of-f.result c.former_of-f.ensures ∙ rw c.in-Plain.is (sym c.clip.ensures.0)), c.clip.ensures.1)

pub type_length-returns-in-Group : goal.type_length-returns-in-Group
unfolding by_former
type_length-returns-in-Group t c =
    let s = c.args in
    (sym (type_level s.depth s.w.now c.if-depth-eq0.false c.former_of-f.result c.former_of-f.ensures ∙ rw (c.in-Group.is, ← c.types_end.ensures) (sym c.clip-in-Group.ensures.0)), c.clip-in-Group.ensures.1)

pub types_end-loop-i-preserved : goal.types_end-loop-i-preserved
types_end-loop-i-preserved t c =
    let s = c.args in
    let f = c.from.ensures in
    let k : c.type_length-at.result ≤ length (drop (c.loop-i.at + s.skip) s.w.now) = rw f at c.type_length-at.ensures.1 in (
      omega (arith, length-drop (c.loop-i.at + s.skip) s.w.now, c.requires),
      c.loop-i.invariant.1 ∙ types_go (type_length s.depth) s.skip s.w.now s.n c.loop-i._i c.loop-i.at c.loop-i-test.true c.type_length-at.result (rw f at c.type_length-at.ensures.0),
    )

pub types_end-returns : goal.types_end-returns
types_end-returns t c =
    let s = c.args in
    types_done (type_length s.depth) s.skip s.w.now s.n c.loop-i._i c.loop-i.at c.loop-i-test.false ∙ sym c.loop-i.invariant.1
