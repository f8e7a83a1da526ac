use mathlib.Core.Path.{◌≡◌, sym, ◌∙◌}
use Prim.Native.Nat.{suc, ◌-◌}
use native.Mathlib.Omega.{arith}
use Rattle.types_cells.specs.Store.{link_at}
use Rattle.types_cells.proofs.LinkLaws.{far_less, hop_below, hop_rep, stop_rep}
use Rattle.types_cells.proofs.links.find.Goals as goal

pub loop-l-smaller : goal.loop-l-smaller
loop-l-smaller c =
    let k = c.loop-l.k in
    let l = c.loop-l.l in
    let p = c.requires in
    let i = c.loop-l.invariant in
    let t = c.loop-l-test.true in
    let q : link_at c.args.a.now k ≡ suc (l - 1) = omega arith in
    far_less _ p.n p.L p.held k (l - 1) (i.2 p.n p.L p.held p.made).0 q

pub loop-l-preserved : goal.loop-l-preserved
loop-l-preserved c =
    let k = c.loop-l.k in
    let l = c.loop-l.l in
    let i = c.loop-l.invariant in
    let t = c.loop-l-test.true in
    let q : link_at c.args.a.now k ≡ suc (l - 1) = omega arith in (
      c.link-l-in-loop-l.ensures.0,
      c.link-l-in-loop-l.ensures.1,
      λ n L h m. let w = i.2 n L h m in (hop_below _ n L h k (l - 1) w.0 q, hop_rep _ n L h k (l - 1) w.0 q ∙ w.1),
    )

pub returns : goal.returns
returns c =
    let i = c.loop-l.invariant in
    let e : link_at c.args.a.now c.loop-l.k ≡ 0 = sym i.0 ∙ c.loop-l-test.false in
    record { is = λ n L h m. let w = i.2 n L h m in sym w.1 ∙ stop_rep _ n L h c.loop-l.k w.0 e; free = e }
