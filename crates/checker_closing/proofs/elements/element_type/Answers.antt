use Rattle.checker_closing.proofs.ElementLaws.{element_closed}
use Rattle.checker_closing.proofs.elements.element_type.Goals as goal

pub returns : goal.returns
returns c = element_closed c.is_power-number.ensures c.if-number-ne0.false c.args.w.now c.closed_type.new.a c.closed_type.new.w c.args.at c.args.free c.closed_type.result c.closed_type.ensures
