use mathlib.Core.Path.{ap}
use native.Mathlib.Omega.{arith}
use Prim.Native.Nat.{◌+◌, ◌<◌}
use Rattle.types_solver.proofs.Instancing.{enter_place, first_ask, form_ask, former_done, in_row, later_place, parts_ask, parts_done, parts_none, putting, rest_ask, skip_ask, suc_pred}
use Rattle.types_solver.proofs.entering.+enter_enter_parts.Goals as goal

pub enter-overflow_add-p : goal.enter-overflow_add-p
enter-overflow_add-p t c =
    let z = enter_place _ _ _ _ _ _ _ c.requires in
    let z0 = z.0 in
    let z1 = z.1 in omega arith

pub enter-returns-then-c-ne0 : goal.enter-returns-then-c-ne0
enter-returns-then-c-ne0 t c =
    in_row _ _ _ _ _ _ _ c.requires _ _ _ c.type_word-t.ensures.0 c.type_word-v.ensures.0 c.row_cell-c.ensures c.if-c-ne0.true _
    (suc_pred _ c.if-c-ne0.true)

pub enter-parts_of-m-requires : goal.enter-parts_of-m-requires
enter-parts_of-m-requires t c =
    let z = enter_place _ _ _ _ _ _ _ c.requires in
    let z0 = z.0 in
    let z1 = z.1 in
    (c.requires.room.solved.held.size, omega arith)

pub enter-overflow_add-at : goal.enter-overflow_add-at
enter-overflow_add-at t c =
    let z = enter_place _ _ _ _ _ _ _ c.requires in
    let z0 = z.0 in
    let z1 = z.1 in
    let l = c.lead_words.ensures.1 in omega arith

pub enter-enter_parts-parts-requires : goal.enter-enter_parts-parts-requires
enter-enter_parts-parts-requires t c =
    let z = enter_place _ _ _ _ _ _ _ c.requires in
    let z0 = z.0 in
    let z1 = z.1 in
    let l = c.lead_words.ensures.2 in
    let m = c.decreases in (
      omega arith,
      parts_ask _ _ _ _ _ _ _ c.requires _ _ _ c.type_word-t.ensures.0 c.type_word-v.ensures.0 c.row_cell-c.ensures
          c.if-c-ne0.false _ _ _ c.parts_of-m.ensures.0 c.name_words-w.ensures.0 (ap (λ y. c.args.p + y) c.lead_words.ensures.0),
    )

pub enter-enter_former-requires : goal.enter-enter_former-requires
enter-enter_former-requires t c =
    form_ask _ _ _ _ _ _ _ c.requires _ _ _ c.type_word-t.ensures.0 c.type_word-v.ensures.0 c.row_cell-c.ensures
    c.if-c-ne0.false _ _ _ c.parts_of-m.ensures.0 c.name_words-w.ensures.0 (ap (λ y. c.args.p + y) c.lead_words.ensures.0)
    _ _ _ c.enter_parts-parts.ensures c.type_word-v.ensures.1

pub enter-returns : goal.enter-returns
enter-returns t c =
    former_done _ _ _ _ _ _ _ c.requires _ _ _ c.type_word-t.ensures.0 c.type_word-v.ensures.0 c.row_cell-c.ensures
    c.if-c-ne0.false _ _ _ c.parts_of-m.ensures.0 c.name_words-w.ensures.0 (ap (λ y. c.args.p + y) c.lead_words.ensures.0)
    _ _ _ c.enter_parts-parts.ensures c.type_word-v.ensures.1 _ _ _ _ c.enter_former.ensures

pub enter_parts-returns-then-m-j : goal.enter_parts-returns-then-m-j
enter_parts-returns-then-m-j t c = parts_none _ _ _ _ _ _ _ _ _ _ c.requires c.if-m-j.true

pub enter_parts-overflow_add-at : goal.enter_parts-overflow_add-at
enter_parts-overflow_add-at t c =
    let q = c.if-m-j.false in
    let l : c.args.j < c.args.m = omega arith in
    let z = enter_place _ _ _ _ _ _ _ (first_ask _ _ _ _ _ _ _ _ _ _ c.requires l) in
    let z0 = z.0 in
    let z1 = z.1 in omega arith

pub enter_parts-enter-first-requires : goal.enter_parts-enter-first-requires
enter_parts-enter-first-requires t c =
    let q = c.if-m-j.false in
    let l : c.args.j < c.args.m = omega arith in
    let z = enter_place _ _ _ _ _ _ _ (first_ask _ _ _ _ _ _ _ _ _ _ c.requires l) in
    let z0 = z.0 in
    let z1 = z.1 in
    let m = c.decreases in
    (omega arith, first_ask _ _ _ _ _ _ _ _ _ _ c.requires l)

pub enter_parts-overflow_add-at-2 : goal.enter_parts-overflow_add-at-2
enter_parts-overflow_add-at-2 t c =
    let q = c.if-m-j.false in
    let l : c.args.j < c.args.m = omega arith in
    let z = enter_place _ _ _ _ _ _ _ (first_ask _ _ _ _ _ _ _ _ _ _ c.requires l) in
    let z0 = z.0 in
    let z1 = z.1 in omega arith

pub enter_parts-skip-e-requires : goal.enter_parts-skip-e-requires
enter_parts-skip-e-requires t c =
    let q = c.if-m-j.false in
    let l : c.args.j < c.args.m = omega arith in
    let z = enter_place _ _ _ _ _ _ _ (first_ask _ _ _ _ _ _ _ _ _ _ c.requires l) in
    let z0 = z.0 in
    let z1 = z.1 in
    skip_ask _ _ _ _ _ _ _ _ _ _ c.requires l _ _ _ _ c.enter-first.ensures

pub enter_parts-enter_parts-others-requires : goal.enter_parts-enter_parts-others-requires
enter_parts-enter_parts-others-requires t c =
    let q = c.if-m-j.false in
    let l : c.args.j < c.args.m = omega arith in
    let z = enter_place _ _ _ _ _ _ _ (first_ask _ _ _ _ _ _ _ _ _ _ c.requires l) in
    let z0 = z.0 in
    let z1 = z.1 in
    let X = c.enter-first.ensures in
    let E = c.skip-e.ensures in
    let w = later_place _ _ _ _ _ _ _ _ _ _ c.requires l _ _ _ _ X _ E in
    let w0 = w.0 in
    let w1 = w.1 in
    let m = c.decreases in
    (omega arith, rest_ask _ _ _ _ _ _ _ _ _ _ c.requires l _ _ _ _ X _ E)

pub enter_parts-put_part-requires : goal.enter_parts-put_part-requires
enter_parts-put_part-requires t c =
    let q = c.if-m-j.false in
    let l : c.args.j < c.args.m = omega arith in
    let z = enter_place _ _ _ _ _ _ _ (first_ask _ _ _ _ _ _ _ _ _ _ c.requires l) in
    let z0 = z.0 in
    let z1 = z.1 in
    putting _ _ _ _ _ _ _ _ _ _ c.requires l _ _ _ _ c.enter-first.ensures _ c.skip-e.ensures _ _ _ c.enter_parts-others.ensures

pub enter_parts-returns : goal.enter_parts-returns
enter_parts-returns t c =
    let q = c.if-m-j.false in
    let l : c.args.j < c.args.m = omega arith in
    let z = enter_place _ _ _ _ _ _ _ (first_ask _ _ _ _ _ _ _ _ _ _ c.requires l) in
    let z0 = z.0 in
    let z1 = z.1 in
    parts_done _ _ _ _ _ _ _ _ _ _ c.requires l _ _ _ _ c.enter-first.ensures _ c.skip-e.ensures _ _ _ c.enter_parts-others.ensures _ c.put_part.ensures
