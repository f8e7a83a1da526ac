use mathlib.Core.Path.{sym, ap, subst, ◌∙◌}
use native.Mathlib.Omega.{arith}
use lib.ListN.{length}
use Rattle.types_unifier.specs.Comparing.{Pushing, Pushed}
use Rattle.types_unifier.proofs.Turns.{pos, turned_some, few_x, few_y, left_tying, left_turned, right_tying, right_turned, two, pushing, both_turned, apart_turned}
use Rattle.types_unifier.proofs.unification.join.Goals as goal

pub field-requires : goal.field-requires
field-requires c = let l = few_x _ _ _ _ _ c.requires in (omega arith, omega arith)

pub tie-requires : goal.tie-requires
tie-requires c = left_tying _ _ _ _ _ c.requires (sym c.field.ensures.0 ∙ c.if-field-eq-UNKNOWN.true)

pub returns-then-field-eq-UNKNOWN : goal.returns-then-field-eq-UNKNOWN
returns-then-field-eq-UNKNOWN c = turned_some _ _ _ _ _ _ _ c.then_some.ensures (left_turned _ _ _ _ _ c.requires (sym c.field.ensures.0 ∙ c.if-field-eq-UNKNOWN.true) _ _ c.tie.ensures)

pub field-requires-2 : goal.field-requires-2
field-requires-2 c = let l = few_y _ _ _ _ _ c.requires in (omega arith, omega arith)

pub tie-requires-then-field-eq-UNKNOWN-2 : goal.tie-requires-then-field-eq-UNKNOWN-2
tie-requires-then-field-eq-UNKNOWN-2 c = right_tying _ _ _ _ _ c.requires (sym c.field-2.ensures.0 ∙ c.if-field-eq-UNKNOWN-2.true)

pub returns-then-field-eq-UNKNOWN-2 : goal.returns-then-field-eq-UNKNOWN-2
returns-then-field-eq-UNKNOWN-2 c = turned_some _ _ _ _ _ _ _ c.then_some-then-field-eq-UNKNOWN-2.ensures (right_turned _ _ _ _ _ c.requires (sym c.field-2.ensures.0 ∙ c.if-field-eq-UNKNOWN-2.true) _ _ c.tie-then-field-eq-UNKNOWN-2.ensures)

pub same_head-requires : goal.same_head-requires
same_head-requires c = two _ _ _ _ _ c.requires (pos c.field.ensures.0 c.if-field-eq-UNKNOWN.false) (pos c.field-2.ensures.0 c.if-field-eq-UNKNOWN-2.false)

pub set_link-requires : goal.set_link-requires
set_link-requires c = (few_x _ _ _ _ _ c.requires, few_y _ _ _ _ _ c.requires)

pub push_parts-requires : goal.push_parts-requires
push_parts-requires c =
    subst (λ z. Pushing z c.args.k c.args.x c.args.y) (sym c.set_link.ensures)
    (pushing _ _ _ _ _ c.requires (pos c.field.ensures.0 c.if-field-eq-UNKNOWN.false) (pos c.field-2.ensures.0 c.if-field-eq-UNKNOWN-2.false) (c.same_head.ensures.holds c.if-same_head.true))

pub returns-then-same_head : goal.returns-then-same_head
returns-then-same_head c =
    let e = c.set_link.ensures in
    both_turned _ _ _ _ _ c.requires (pos c.field.ensures.0 c.if-field-eq-UNKNOWN.false) (pos c.field-2.ensures.0 c.if-field-eq-UNKNOWN-2.false) (c.same_head.ensures.holds c.if-same_head.true)
    c.push_parts.new.a c.push_parts.result (c.push_parts.auto.a ∙ ap length e)
    (subst (λ z. Pushed z c.push_parts.new.a c.args.k c.args.x c.args.y c.push_parts.result) e c.push_parts.ensures)

pub returns : goal.returns
returns c = apart_turned _ _ _ _ _ c.requires (pos c.field.ensures.0 c.if-field-eq-UNKNOWN.false) (pos c.field-2.ensures.0 c.if-field-eq-UNKNOWN-2.false) (c.same_head.ensures.fails c.if-same_head.false)
