use mathlib.Core.Path.{◌∙◌, sym}
use Rattle.values.proofs.Inserting.{member_value}
use Rattle.evaluator_operations.proofs.OperationLaws.{held_whole, held_tag, tag_set, among_set, among_other}
use Rattle.evaluator_operations.proofs.collections.among.Goals as goal

pub returns-then-word-eq-SET : goal.returns-then-word-eq-SET
returns-then-word-eq-SET c =
    λ x y hx hy.
    let t = tag_set 0 y (sym (held_tag _ y hy) ∙ sym c.word.ensures.0 ∙ c.if-word-eq-SET.true) in
    let l = hy.short in
    among_set _ 0 x y t.0 t.1
    ((rw (c.span.ensures ∙ held_whole _ y hy, c.span-then-word-eq-SET.ensures ∙ held_whole _ x hx, t.1) at c.is_member.ensures) ∙ member_value t.0 x (rw t.1 at l))

pub returns : goal.returns
returns c = λ x y hx hy. among_other _ 0 x y c.refusal.ensures (λ e. c.if-word-eq-SET.false (c.word.ensures.0 ∙ held_tag _ y hy ∙ e))
