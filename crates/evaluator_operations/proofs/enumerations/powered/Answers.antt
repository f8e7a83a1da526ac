use mathlib.Core.Path.{sym, ap, ◌∙◌}
use Rattle.values.specs.Value.{encode}
use Rattle.evaluator_operations.proofs.OperationLaws.{held_whole, held_tag, tag_set}
use Rattle.evaluator_operations.proofs.EnumerationLaws.{power_told, power_misfit}
use Rattle.evaluator_operations.proofs.enumerations.powered.Goals as goal

pub returns-then-word-eq-SET : goal.returns-then-word-eq-SET
returns-then-word-eq-SET c =
    λ x h.
    let t = tag_set 0 x (sym (held_tag _ x h) ∙ sym c.word.ensures.0 ∙ c.if-word-eq-SET.true) in
    let l = h.short in
    let n = h.narrow in
    let p = c.power.ensures t.0 (c.span.ensures ∙ held_whole _ x h ∙ ap encode t.1) (rw t.1 at l) in
    rw t.1 (power_told _ t.0 (rw t.1 at n) (λ m. c.kept.ensures _ p m))

pub returns : goal.returns
returns c = λ x h. power_misfit _ x (λ e. c.if-word-eq-SET.false (c.word.ensures.0 ∙ held_tag _ x h ∙ e)) c.refusal.ensures
