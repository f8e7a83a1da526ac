use mathlib.Core.Path.{sym, ◌∙◌}
use Rattle.types_solver.proofs.Instancing.{arg_5, arg_none, arg_word}
use Rattle.types_solver.proofs.entering.argument.Goals as goal

pub returns-then-t-eq-BINDING : goal.returns-then-t-eq-BINDING
returns-then-t-eq-BINDING c = arg_5 _ _ _ c.if-t-eq-BINDING.true

pub returns-then-lead_words-eq1 : goal.returns-then-lead_words-eq1
returns-then-lead_words-eq1 c = arg_none _ _ _ (sym c.lead_words.ensures.0 ∙ c.if-lead_words-eq1.true)

pub returns : goal.returns
returns c = arg_word _ _ _ c.if-t-eq-BINDING.false (λ e. c.if-lead_words-eq1.false (c.lead_words.ensures.0 ∙ e))
