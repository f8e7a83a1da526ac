use Rattle.checker_closing.specs.Schemas.{components}
use Rattle.checker_closing.proofs.includes.named.Goals as goal

pub returns : goal.returns
returns c = components c.if-x-ne0.false _ _ c.component_rows-m.ensures c.rename_rows.ensures
