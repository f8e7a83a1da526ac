use mathlib.Core.Path.{refl, sym, ap, ◌∙◌}
use Rattle.values.specs.Value.{encode}
use Rattle.evaluator_operations.specs.Worked.{a_set, no_set}
use Rattle.evaluator_operations.proofs.OperationLaws.{held_whole, held_tag, tag_set}
use Rattle.evaluator_operations.proofs.EnumerationLaws.{no_set_tag, set_crosses, some_not_none}
use Rattle.evaluator_operations.proofs.enumerations.crossed.Goals as goal

pub returns-then-word-ne-SET : goal.returns-then-word-ne-SET
returns-then-word-ne-SET c = λ rs x s h. no_set (no_set_tag x (λ e. c.if-word-ne-SET.true (c.word.ensures.0 ∙ held_tag _ x h ∙ e))) refl

pub returns-in-Some : goal.returns-in-Some
returns-in-Some c =
    λ rs x s h.
    let t = tag_set 0 x (sym (held_tag _ x h) ∙ sym c.word.ensures.0 ∙ c.if-word-ne-SET.false) in
    let l = h.short in
    let p = c.span.ensures ∙ held_whole _ x h ∙ ap encode t.1 in
    rw t.1 (set_crosses c.in-Some.t _ t.0 c.in-Some.is (c.extend.ensures rs t.0 (s.words _ c.in-Some.is) p (rw t.1 at l)))

pub returns-in-None : goal.returns-in-None
returns-in-None c =
    λ rs x s h.
    let t = tag_set 0 x (sym (held_tag _ x h) ∙ sym c.word.ensures.0 ∙ c.if-word-ne-SET.false) in
    rw t.1 (a_set (λ n. refl) (λ n. c.in-None.is) (record { words = λ f k. absurd (some_not_none (sym k)) }))
