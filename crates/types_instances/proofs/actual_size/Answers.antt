use mathlib.Core.Path.{◌≡◌, sym, ap, ◌∙◌}
use native.Mathlib.Omega.{arith}
use Prim.Native.Nat.{suc, ◌-◌}
use Rattle.types_rules.specs.Types.{size}
use Rattle.types_cells.specs.Settled.{heap}
use Rattle.types_solver.specs.Sizes.{cap}
use Rattle.types_solver.proofs.Summing.{cap_small}
use Rattle.types_instances.proofs.Rows.{row_some, actual_none, actual_some, parameter_size}
use Rattle.types_instances.proofs.actual_size.Goals as goal

pub returns-then-q-eq0 : goal.returns-then-q-eq0
returns-then-q-eq0 c =
    let s = c.args in
    record {
      is = λ hs R. sym (ap (λ z. cap (size z)) (actual_none (heap s.a.now s.d.now) s.row.now hs s.i R (sym c.actual-q.ensures ∙ c.if-q-eq0.true)) ∙ ap cap (parameter_size s.i) ∙ cap_small 1 (omega arith));
      few = omega arith;
    }

pub type_size-requires : goal.type_size-requires
type_size-requires c =
    let s = c.args in
    let P = c.requires in
    let q = c.actual-q.result in
    let ne = c.if-q-eq0.false in
    let G = row_some (heap s.a.now s.d.now) s.row.now P.types s.i (q - 1) P.stand (sym c.actual-q.ensures ∙ (let z : q ≡ suc (q - 1) = omega arith in z)) in
    record { areas = P.areas; readable = record { type = G.type; reads = G.reads } }

pub returns : goal.returns
returns c =
    let s = c.args in
    let q = c.actual-q.result in
    let ne = c.if-q-eq0.false in
    record {
      is = λ hs R.
          let G = row_some (heap s.a.now s.d.now) s.row.now hs s.i (q - 1) R (sym c.actual-q.ensures ∙ (let z : q ≡ suc (q - 1) = omega arith in z)) in
          c.type_size.ensures.is G.type G.reads ∙ sym (ap (λ z. cap (size z)) (actual_some (heap s.a.now s.d.now) hs s.i (q - 1) G));
      few = c.type_size.ensures.few;
    }
