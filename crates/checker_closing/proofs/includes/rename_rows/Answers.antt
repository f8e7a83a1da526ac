use Rattle.std.proofs.Common.{refl}
use Rattle.checker_closing.proofs.SchemaLaws.{renamed_wrong}
use Rattle.checker_closing.proofs.includes.rename_rows.Goals as goal

pub returns-in_default : goal.returns-in_default
returns-in_default c = renamed_wrong _ c.in_default.ensures c.word.ensures.0 c.word-2.ensures.0 c.bring.auto.work refl c.lined_at.ensures
