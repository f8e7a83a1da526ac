use mathlib.Core.Path.{refl}
use mathlib.Core.Bool.{true}
use native.Mathlib.Omega.{arith}
use Rattle.types_rules.proofs.Terms.{bool_no}
use Rattle.types_cells.proofs.Reading.{place_few}
use Rattle.checker_includes.proofs.SameLaws.{lead_needed, match_start, match_step, match_end, part_low, part_near, other_near, part_reading, other_reading, part_comparing, answers_no}
use Rattle.checker_includes.proofs.filling.+same_filled.Goals as goal

pub same_words-requires : goal.same_words-requires
same_words-requires t c =
    let P = c.requires in
    let f = place_few _ _ _ _ P.actuals.areas P.left.reads in
    let g = place_few _ _ _ _ P.actuals.areas P.right.reads in
    let z = c.lead_words-k.ensures.1 in
    (P.actuals.areas.size, omega arith, omega arith)

pub returns-then-not-same_words : goal.returns-then-not-same_words
returns-then-not-same_words t c = record { tells = λ g k hs R S T. answers_no (λ e. c.same_words.ensures.fails c.if-not-same_words.true (lead_needed _ _ _ g k hs R S _ _ c.type_word-t.ensures.0 c.if-t-eq-PARAMETER.false c.lead_words-k.ensures.0 e)) }

pub parts_of-n-requires : goal.parts_of-n-requires
parts_of-n-requires t c =
    let P = c.requires in
    let f = place_few _ _ _ _ P.actuals.areas P.left.reads in
    (P.actuals.areas.size, omega arith)

pub overflow_add-at : goal.overflow_add-at
overflow_add-at t c =
    let P = c.requires in
    let f = place_few _ _ _ _ P.actuals.areas P.left.reads in
    let z = c.lead_words-k.ensures.1 in omega arith

pub overflow_add-to : goal.overflow_add-to
overflow_add-to t c =
    let P = c.requires in
    let f = place_few _ _ _ _ P.actuals.areas P.right.reads in
    let z = c.lead_words-k.ensures.1 in omega arith

pub loop-j-init : goal.loop-j-init
loop-j-init t c =
    let z = c.lead_words-k.ensures.2 in (
      omega arith,
      λ g k hs R S T. match_start _ _ _ g k hs R S _ _ _ _ _ _ c.type_word-t.ensures.0 c.if-t-eq-PARAMETER.false c.lead_words-k.ensures.0 (c.same_words.ensures.holds c.if-not-same_words.false) c.name_words-w.ensures.0 c.parts_of-n.ensures.0 refl refl,
    )

pub same_words-requires-in-loop-j : goal.same_words-requires-in-loop-j
same_words-requires-in-loop-j t c = (c.requires.actuals.areas.size, part_near _ _ _ _ _ _ _ _ _ _ c.requires c.loop-j.invariant.1 c.loop-j-test.true, other_near _ _ _ _ _ _ _ _ _ _ c.requires c.loop-j.invariant.1 c.loop-j-test.true)

pub returns-then-not-same_words-2 : goal.returns-then-not-same_words-2
returns-then-not-same_words-2 t c = record { tells = λ g k hs R S T. answers_no (λ e. c.same_words-in-loop-j.ensures.fails c.if-not-same_words-2.true ((match_step _ _ _ _ _ _ _ _ _ (c.loop-j.invariant.1 g k hs R S T) c.loop-j-test.true).named e)) }

pub overflow_add-x : goal.overflow_add-x
overflow_add-x t c = let x = part_near _ _ _ _ _ _ _ _ _ _ c.requires c.loop-j.invariant.1 c.loop-j-test.true in omega arith

pub overflow_add-y : goal.overflow_add-y
overflow_add-y t c = let y = other_near _ _ _ _ _ _ _ _ _ _ c.requires c.loop-j.invariant.1 c.loop-j-test.true in omega arith

pub same_filled-requires : goal.same_filled-requires
same_filled-requires t c = let n = part_low _ _ _ _ _ _ _ _ _ _ c.requires c.loop-j.invariant.1 c.loop-j-test.true in let m = c.decreases in let o = c.loop-j.invariant.0 in (omega arith, part_comparing _ _ _ _ _ _ _ _ _ _ c.requires c.loop-j.invariant.1 c.loop-j-test.true)

pub returns-then-not-same_filled : goal.returns-then-not-same_filled
returns-then-not-same_filled t c = record {
  tells = λ g k hs R S T.
      let M = match_step _ _ _ _ _ _ _ _ _ (c.loop-j.invariant.1 g k hs R S T) c.loop-j-test.true in
      answers_no (λ e. (c.same_filled.ensures.tells M.part M.other hs M.reads M.there T).fails c.if-not-same_filled.true (M.same e));
}

pub skip-at-requires : goal.skip-at-requires
skip-at-requires t c = part_reading _ _ _ _ _ _ _ _ _ _ c.requires c.loop-j.invariant.1 c.loop-j-test.true

pub skip-to-requires : goal.skip-to-requires
skip-to-requires t c = other_reading _ _ _ _ _ _ _ _ _ _ c.requires c.loop-j.invariant.1 c.loop-j-test.true

pub loop-j-preserved : goal.loop-j-preserved
loop-j-preserved t c =
    let o = c.loop-j.invariant.0 in
    let M = part_comparing _ _ _ _ _ _ _ _ _ _ c.requires c.loop-j.invariant.1 c.loop-j-test.true in
    let e = c.skip-at.ensures.is M.left.type M.left.reads in (
      omega arith,
      λ g k hs R S T.
          let N = match_step _ _ _ _ _ _ _ _ _ (c.loop-j.invariant.1 g k hs R S T) c.loop-j-test.true in
          N.next _ _ (c.skip-at.ensures.is N.part N.reads) (c.skip-to.ensures.is N.other N.there) (c.same_words-in-loop-j.ensures.holds c.if-not-same_words-2.false)
          ((c.same_filled.ensures.tells N.part N.other hs N.reads N.there T).holds c.if-not-same_filled.false),
    )

pub returns : goal.returns
returns t c = record { tells = λ g k hs R S T. record { holds = λ z. match_end _ _ _ _ _ _ _ _ _ (c.loop-j.invariant.1 g k hs R S T) c.loop-j-test.false; fails = λ z. absurd (bool_no true refl z) } }
