use mathlib.Core.Path.{sym, subst}
use native.Mathlib.Omega.{arith}
use Prim.Native.Nat.{◌-◌}
use Rattle.types_cells.specs.Layout.{settled_from}
use Rattle.types_cells.specs.Settled.{word_at, heap, Readable, Component}
use Rattle.types_cells.proofs.Reading.{place_low, heap_length}
use Rattle.types_solver.proofs.Looking.{open_none, settled_none, settled_some}
use Rattle.types_solver.proofs.components.unknown_component.Goals as goal

pub returns-then-q-lt-SETTLED : goal.returns-then-q-lt-SETTLED
unfolding word_at
returns-then-q-lt-SETTLED c =
    let e = c.word-q.ensures.0 in
    let l = c.if-q-lt-SETTLED.true in
    open_none _ _ _ _ c.requires.0.root c.requires.1 (omega arith)

pub settled_component-p-requires : goal.settled_component-p-requires
unfolding word_at
settled_component-p-requires c =
    let K = c.requires.0.looking in
    let e = c.word-q.ensures.0 in
    let l = c.if-q-lt-SETTLED.false in
    record {
      areas = record { size = K.held.size; few = let f = K.few in omega arith };
      readable = subst (λ z. Readable (heap c.args.a.now c.args.d.now) (z - settled_from)) (sym e) (K.pinned.reads _ K.made (omega arith));
    }

pub returns-then-p-eq0 : goal.returns-then-p-eq0
unfolding word_at
returns-then-p-eq0 c =
    let e = c.word-q.ensures.0 in
    let l = c.if-q-lt-SETTLED.false in
    settled_none _ _ _ _ c.requires.0.root (omega arith) _ (subst (λ z. Component c.args.a.now c.args.d.now (z - settled_from) c.args.id c.settled_component-p.result) e c.settled_component-p.ensures) c.if-p-eq0.true

pub overflow_add-result : goal.overflow_add-result
unfolding word_at
overflow_add-result c =
    let K = c.requires.0.looking in
    let e = c.word-q.ensures.0 in
    let l = c.if-q-lt-SETTLED.false in
    let D = K.pinned.reads _ K.made (omega arith) in
    let C = subst (λ z. Component c.args.a.now c.args.d.now (z - settled_from) c.args.id c.settled_component-p.result) e c.settled_component-p.ensures in
    let f = place_low _ _ _ (C.some c.if-p-eq0.false D.type D.reads).reads in
    let h = heap_length c.args.a.now c.args.d.now K.held.size in
    let g = K.few in omega arith

pub returns : goal.returns
unfolding word_at
returns c =
    let e = c.word-q.ensures.0 in
    let l = c.if-q-lt-SETTLED.false in
    settled_some _ _ _ _ c.requires.0.root (omega arith) _ (subst (λ z. Component c.args.a.now c.args.d.now (z - settled_from) c.args.id c.settled_component-p.result) e c.settled_component-p.ensures) c.if-p-eq0.false
