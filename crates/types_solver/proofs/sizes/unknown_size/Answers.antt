use mathlib.Core.Path.{refl, sym, subst}
use native.Mathlib.Omega.{arith}
use Prim.Native.Nat.{◌-◌}
use Rattle.types_cells.specs.Layout.{settled_from}
use Rattle.types_cells.specs.Settled.{word_at, heap, Readable}
use Rattle.types_solver.specs.Sizes.{TypeSize}
use Rattle.types_solver.proofs.sizes.unknown_size.Goals as goal

pub returns-then-q-lt-SETTLED : goal.returns-then-q-lt-SETTLED
unfolding word_at
returns-then-q-lt-SETTLED c =
    let e = c.word-q.ensures.0 in
    let l = c.if-q-lt-SETTLED.true in
    record { free = λ q. refl; settled = λ q. absurd (omega arith); few = omega arith }

pub type_size-requires : goal.type_size-requires
unfolding word_at
type_size-requires c =
    let K = c.requires.looking in
    let e = c.word-q.ensures.0 in
    let l = c.if-q-lt-SETTLED.false in
    record {
      areas = record { size = K.held.size; few = let f = K.few in omega arith };
      readable = subst (λ z. Readable (heap c.args.a.now c.args.d.now) (z - settled_from)) (sym e) (K.pinned.reads _ K.made (omega arith));
    }

pub returns : goal.returns
unfolding word_at
returns c =
    let e = c.word-q.ensures.0 in
    let l = c.if-q-lt-SETTLED.false in
    record {
      free = λ q. absurd (omega arith);
      settled = λ q. subst (λ z. TypeSize c.args.a.now c.args.d.now (z - settled_from) c.type_size.result) e c.type_size.ensures;
      few = c.type_size.ensures.few;
    }
