use Rattle.checker_closing.proofs.DeclarationLaws.{typed_refused, typed_fits}
use mathlib.Core.Path.{refl}
use Rattle.checker_closing.proofs.declared.typed.Goals as goal

pub returns-then-number-ne0 : goal.returns-then-number-ne0
returns-then-number-ne0 c = typed_refused refl c.own_finding-number.ensures c.if-number-ne0.true c.lined_at.ensures

pub returns : goal.returns
returns c = typed_fits refl c.own_finding-number.ensures c.if-number-ne0.false c.entered.ensures
