use mathlib.Core.Path.{sym, subst}
use native.Mathlib.Omega.{arith}
use Prim.Native.Nat.{◌-◌}
use Rattle.types_cells.specs.Layout.{settled_from}
use Rattle.types_cells.specs.Settled.{word_at, heap, Readable, Pin, SameType}
use Rattle.types_cells.proofs.SettlingLaws.{settled, compared}
use Rattle.types_cells.proofs.Reading.{place_low, heap_length}
use Rattle.types_unifier.proofs.settling.settle.Goals as goal

pub overflow_add-p : goal.overflow_add-p
overflow_add-p c =
    let P = c.requires.pinning in
    let l = place_low _ _ _ P.readable.reads in
    let h = heap_length c.args.a.now c.args.d.now P.held.size in
    let f = P.few in omega arith

pub overflow_cast-p : goal.overflow_cast-p
overflow_cast-p c =
    let P = c.requires.pinning in
    let l = place_low _ _ _ P.readable.reads in
    let h = heap_length c.args.a.now c.args.d.now P.held.size in
    let f = P.few in omega arith

pub returns-then-q-lt-SETTLED : goal.returns-then-q-lt-SETTLED
unfolding word_at
returns-then-q-lt-SETTLED c =
    let e = c.word-q.ensures.0 in
    let l = c.if-q-lt-SETTLED.true in
    subst (λ z. Pin c.args.a.now z c.args.d.now c.args.r c.args.p _) (sym c.store.ensures) (settled _ _ _ _ c.requires (omega arith))

pub same_type-requires : goal.same_type-requires
unfolding word_at
same_type-requires c =
    let P = c.requires.pinning in
    let e = c.word-q.ensures.0 in
    let l = c.if-q-lt-SETTLED.false in
    record {
      areas = record { size = P.held.size; few = let f = P.few in omega arith };
      left = P.readable;
      right = subst (λ z. Readable (heap c.args.a.now c.args.d.now) (z - settled_from)) (sym e) (P.pinned.reads _ P.made (omega arith));
    }

pub returns : goal.returns
unfolding word_at
returns c =
    let e = c.word-q.ensures.0 in
    let l = c.if-q-lt-SETTLED.false in
    compared _ _ _ _ c.requires _ (omega arith) (subst (λ z. SameType c.args.a.now c.args.d.now c.args.p (z - settled_from) c.same_type.result) e c.same_type.ensures)
