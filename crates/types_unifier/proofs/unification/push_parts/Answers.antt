use mathlib.Core.Path.{◌≡◌, sym, ap, ap₂, ◌∙◌}
use Prim.Native.Nat.{◌+◌, ◌<◌}
use native.Mathlib.Omega.{arith}
use lib.ListN.{length, get_or, length-set}
use Rattle.types_cells.specs.Layout.{max_pending, area_size}
use Rattle.types_cells.specs.Store.{frozen, first_at, run, pending}
use mathlib.Core.Option.{some}
use Rattle.types_unifier.proofs.PendingLaws.{left, left_start, left_end, left_step, push_frozen, push_front, pushed}
use Rattle.types_rules.specs.Classes.{zip_n}
use Rattle.types_unifier.proofs.unification.push_parts.Goals as goal

pub loop-j-preserved : goal.loop-j-preserved
loop-j-preserved c =
    let a = c.loop-j.a in
    let j = c.loop-j.j in
    let i = c.loop-j.invariant in
    let k = c.args.k in
    let w = frozen c.args.a.now in
    let m = c.field-m.result in
    let me = c.field-m.ensures.0 in
    let jm = c.loop-j-test.true in
    let p = c.requires in
    let size : length a ≡ area_size = i.0 ∙ p.size in
    let lk : k + j < max_pending = omega arith in
    let ep : c.part-p.result ≡ get_or w (first_at w c.args.x + j) 0 = c.part-p.ensures.0 ∙ ap (λ z. get_or z (first_at z c.args.x + j) 0) i.1 in
    let eq : c.part-q.result ≡ get_or w (first_at w c.args.y + j) 0 = c.part-q.ensures.0 ∙ ap (λ z. get_or z (first_at z c.args.y + j) 0) i.1 in
    let e = c.push.ensures ∙ ap₂ (λ u v. pushed a (k + j) u v) ep eq in (
      ap length e ∙ (simp length-set) ∙ i.0,
      ap frozen e ∙ push_frozen a (k + j) _ _ size lk ∙ i.1,
      λ t l. ap (λ z. get_or z t 0) e ∙ push_front a (k + j) _ _ size lk t l ∙ i.2 t l,
      ap (λ z. left w (first_at w c.args.x) (first_at w c.args.y) m z k (j + 1)) e
          ∙ left_step w (first_at w c.args.x) (first_at w c.args.y) m a k j size lk jm (omega (arith, p.two.left.room)) (omega (arith, p.two.right.room, p.same)) ∙ i.3,
    )

pub returns : goal.returns
returns c =
    let i = c.loop-j.invariant in
    let k = c.args.k in
    let w = frozen c.args.a.now in
    let x = c.args.x in
    let y = c.args.y in
    let m = c.field-m.result in
    let me = c.field-m.ensures.0 in
    let jm : c.loop-j.j ≡ m = omega arith in
    record {
      count = ap (λ z. k + z) me;
      still = i.1;
      front = i.2;
      pairs = ap₂ (λ u v. zip_n (run w (first_at w x) u) (run w (first_at w y) v) (pending c.args.a.now k)) (sym me) (sym (me ∙ c.requires.same))
          ∙ sym (left_start w (first_at w x) (first_at w y) m c.args.a.now k) ∙ sym i.3
          ∙ left_end w (first_at w x) (first_at w y) m c.loop-j.a k c.loop-j.j c.loop-j-test.false
          ∙ ap (λ z. some (pending c.loop-j.a (k + z))) jm;
    }
