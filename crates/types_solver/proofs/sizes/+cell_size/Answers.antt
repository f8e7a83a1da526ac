use mathlib.Core.Path.{sym, ◌∙◌}
use mathlib.Core.Logic.{⊎_elim}
use native.Mathlib.Nat.{eq-zero-or-pos}
use native.Mathlib.Omega.{arith}
use Prim.Native.Nat.{◌+◌}
use Rattle.types_cells.specs.Store.{frozen, tag_at}
use Rattle.types_solver.specs.Sizes.{mark_at}
use Rattle.types_solver.proofs.Marking.{cap_le}
use Rattle.types_solver.proofs.Looking.{looking_root}
use Rattle.types_solver.proofs.Writer.{r_few, r_cell, r_part}
use Rattle.types_solver.proofs.Sizing.{measured_high, measured_unknown, adding_start, looking_of}
use Rattle.types_solver.proofs.Summing.{add_step, add_end}
use Prim.Native.Nat.{◌<◌}
use Rattle.types_solver.proofs.sizes.+cell_size.Goals as goal

pub returns-then-word-gt-SIZE : goal.returns-then-word-gt-SIZE
unfolding mark_at
returns-then-word-gt-SIZE t c =
    let e = c.word.ensures.0 in
    let q = c.if-word-gt-SIZE.true in
    measured_high _ _ _ (omega arith)

pub field-requires : goal.field-requires
field-requires t c = let P = c.requires in let l = r_few _ _ _ c.find-r.ensures _ _ P.marked P.made in (omega arith, omega arith)

pub unknown_size-requires : goal.unknown_size-requires
unknown_size-requires t c = looking_root _ _ _ _ (looking_of _ _ _ c.requires) c.find-r.ensures

pub returns-then-field-eq-UNKNOWN : goal.returns-then-field-eq-UNKNOWN
returns-then-field-eq-UNKNOWN t c = measured_unknown _ _ _ _ _ c.find-r.ensures (sym c.field.ensures.0 ∙ c.if-field-eq-UNKNOWN.true) c.unknown_size.ensures

pub field-k-requires : goal.field-k-requires
field-k-requires t c = let P = c.requires in let l = r_few _ _ _ c.find-r.ensures _ _ P.marked P.made in (omega arith, omega arith)

pub loop-j-init : goal.loop-j-init
loop-j-init t c =
    let p : 0 < tag_at (frozen c.args.a.now) c.find-r.result = ⊎_elim (λ z. absurd (c.if-field-eq-UNKNOWN.false (c.field.ensures.0 ∙ z))) (λ p. p) (eq-zero-or-pos _) in
    (omega arith, λ n L σ M E l. adding_start _ _ _ _ _ c.find-r.ensures c.field-k.ensures.0 p n L σ M l)

pub part-requires : goal.part-requires
part-requires t c =
    let P = c.requires in
    let l = r_few _ _ _ c.find-r.ensures _ _ P.marked P.made in
    let f = c.field-k.ensures.1 in
    let t = c.loop-j-test.true in
    (omega arith, omega arith)

pub cell_size-requires : goal.cell_size-requires
unfolding mark_at
cell_size-requires t c =
    let P = c.requires in
    let p : 0 < tag_at (frozen c.args.a.now) c.find-r.result = ⊎_elim (λ z. absurd (c.if-field-eq-UNKNOWN.false (c.field.ensures.0 ∙ z))) (λ p. p) (eq-zero-or-pos _) in
    let e = c.word.ensures.0 in
    let q = c.if-word-gt-SIZE.false in
    let b = r_part _ _ _ c.find-r.ensures _ _ P.marked P.made p (omega arith) _ c.field-k.ensures.0 c.loop-j.j c.loop-j-test.true c.part.result c.part.ensures.0 in
    let m = c.decreases in
    (omega (arith, b.1), record { n = P.n; L = P.L; marked = P.marked; pinned = P.pinned; made = b.0; few = P.few })

pub loop-j-preserved : goal.loop-j-preserved
unfolding mark_at
loop-j-preserved t c =
    let P = c.requires in
    let p : 0 < tag_at (frozen c.args.a.now) c.find-r.result = ⊎_elim (λ z. absurd (c.if-field-eq-UNKNOWN.false (c.field.ensures.0 ∙ z))) (λ p. p) (eq-zero-or-pos _) in
    let e = c.word.ensures.0 in
    let q = c.if-word-gt-SIZE.false in
    let t = c.loop-j-test.true in
    let k = c.capped-sum.ensures in
    let f = cap_le (c.loop-j.sum + c.cell_size.result) in (
      omega arith,
      λ n L σ M E l.
          let b = r_part _ _ _ c.find-r.ensures n L M.marked l p (omega arith) _ c.field-k.ensures.0 c.loop-j.j t c.part.result c.part.ensures.0 in
          add_step σ _ _ _ _ _ _ _ _ _ (let z = (r_cell _ _ _ c.find-r.ensures n L M.marked l).room in let y = c.field-k.ensures.0 in omega arith) t c.part.ensures.0 (c.cell_size.ensures.is n L σ M E b.0) c.capped-sum.ensures
          (c.loop-j.invariant.1 n L σ M E l),
    )

pub returns : goal.returns
returns t c = record { is = λ n L σ M E l. add_end σ _ _ _ _ _ _ c.loop-j-test.false c.loop-j.invariant.0 (c.loop-j.invariant.1 n L σ M E l); few = c.loop-j.invariant.0 }
