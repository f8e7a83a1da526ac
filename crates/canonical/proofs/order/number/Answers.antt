use mathlib.Core.Path.{refl, sym, ap, ◌∙◌, subst}
use native.Mathlib.Omega.{arith}
use Prim.Native.Nat.{◌+◌}
use lib.ListN.{length, length-set, get_or}
use Rattle.canonical.proofs.NumberLaws.{NumbersTo, numbers_next, numbers_all}
use Rattle.canonical.proofs.order.number.Goals as goal

pub loop-i-preserved : goal.loop-i-preserved
loop-i-preserved c =
    let s = c.args in
    let p = c.requires in
    let v = get_or s.nodes.now c.loop-i.i 0 in (
      ap length c.store.ensures ∙ length-set c.loop-i.numbers v _ ∙ c.loop-i.invariant.0,
      subst (λ u. NumbersTo s.nodes.now (c.loop-i.i + 1) u) (sym c.store.ensures)
          (numbers_next s.nodes.now c.loop-i.numbers c.loop-i.i v p.distinct c.loop-i-test.true refl
          (let b = p.inside c.loop-i.i c.loop-i-test.true in let q = c.loop-i.invariant.0 in omega (arith, b, q)) c.loop-i.invariant.1),
    )

pub returns : goal.returns
returns c = numbers_all c.args.nodes.now c.loop-i.numbers c.loop-i.i c.loop-i-test.false c.loop-i.invariant.1
