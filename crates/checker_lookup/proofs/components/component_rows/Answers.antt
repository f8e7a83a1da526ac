use Rattle.checker_lookup.proofs.ComponentLaws.{writing_start, writing_next, writing_end, components_of_lem, writing_few}
use Rattle.types_cells.proofs.Reading.{place_few, names_length}
use native.Mathlib.Omega.{arith}
use mathlib.Core.Path.{refl, sym, ◌∙◌}
use Rattle.checker_lookup.proofs.components.component_rows.Goals as goal

pub overflow_add-p : goal.overflow_add-p
overflow_add-p c = let z = place_few _ _ _ _ c.requires.areas c.requires.reads in omega arith

pub overflow_add-at : goal.overflow_add-at
overflow_add-at c = let z = place_few _ _ _ _ c.requires.areas c.requires.reads in omega arith

pub loop-j-init : goal.loop-j-init
loop-j-init c = (refl, λ ids gs R. writing_start _ _ _ _ _ ids gs R c.type_word-m.ensures.0)

pub overflow_add-at-in-loop-j : goal.overflow_add-at-in-loop-j
overflow_add-at-in-loop-j c = let l = writing_few _ _ _ _ _ _ _ _ _ c.requires c.loop-j-test.true c.loop-j.invariant.1 in omega arith

pub put_row-requires : goal.put_row-requires
put_row-requires c =
    let P = c.requires in let l = writing_few _ _ _ _ _ _ _ _ _ c.requires c.loop-j-test.true c.loop-j.invariant.1 in
    let n = names_length _ _ _ _ _ P.reads (sym c.type_word-m.ensures.0) in let t = P.table in (omega arith, c.type_word-id.ensures.1, l)

pub overflow_add-at-in-loop-j-2 : goal.overflow_add-at-in-loop-j-2
overflow_add-at-in-loop-j-2 c = let l = writing_few _ _ _ _ _ _ _ _ _ c.requires c.loop-j-test.true c.loop-j.invariant.1 in omega arith

pub skip-at-requires : goal.skip-at-requires
skip-at-requires c =
    let P = c.requires in let N = writing_next _ _ _ _ _ _ _ _ _ _ c.loop-j-test.true (c.loop-j.invariant.1 _ _ P.reads) in
    record { areas = P.areas; readable = record { type = N.type; reads = N.reads } }

pub loop-j-preserved : goal.loop-j-preserved
loop-j-preserved c =
    let lt = c.loop-j-test.true in (
      c.put_row.auto.work ∙ c.loop-j.invariant.0,
      λ ids gs R.
          let N = writing_next _ _ _ _ _ _ _ _ ids gs lt (c.loop-j.invariant.1 ids gs R) in
          N.then c.put_row.new.work _ _ c.type_word-id.ensures.0 c.put_row.ensures (c.skip-at.ensures.is N.type N.reads),
    )

pub returns : goal.returns
returns c = record { of = λ ids gs R. components_of_lem _ _ _ _ _ _ _ c.requires c.type_word-m.ensures.0 ids gs R (writing_end _ _ _ _ _ _ _ _ ids gs c.loop-j-test.false (c.loop-j.invariant.1 ids gs R)) }
