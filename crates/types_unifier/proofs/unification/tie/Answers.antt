use mathlib.Core.Path.{sym, ap, subst}
use native.Mathlib.Omega.{arith}
use Prim.Native.Nat.{◌-◌}
use Rattle.types_cells.specs.Layout.{settled_from}
use Rattle.types_cells.specs.Settled.{word_at}
use Rattle.types_unifier.specs.Merging.{Tied}
use Rattle.types_unifier.proofs.Tying.{tied_none, tied_some, pinning_y, pinning_as, pin_from}
use Rattle.types_unifier.proofs.unification.tie.Goals as goal

pub returns-then-q-lt-SETTLED : goal.returns-then-q-lt-SETTLED
unfolding word_at
returns-then-q-lt-SETTLED c =
    let e = c.word-q.ensures.0 in
    let l = c.if-q-lt-SETTLED.true in
    subst (λ z. Tied c.args.a.now z c.args.d.now c.args.x c.args.y _) (sym c.set_link.ensures) (tied_none _ _ _ _ c.requires (omega arith))

pub pin-requires : goal.pin-requires
unfolding word_at
pin-requires c =
    let e = c.word-q.ensures.0 in
    let l = c.if-q-lt-SETTLED.false in
    pinning_as _ _ _ _ _ _ c.set_link.ensures (ap (λ z. z - settled_from) e) (pinning_y _ _ _ _ c.requires (omega arith))

pub returns : goal.returns
unfolding word_at
returns c =
    let e = c.word-q.ensures.0 in
    let l = c.if-q-lt-SETTLED.false in
    tied_some _ _ _ _ c.requires _ _ (omega arith) (pin_from _ _ _ _ _ _ _ _ c.set_link.ensures (ap (λ z. z - settled_from) e) c.pin.ensures)
