use Rattle.checker_includes.proofs.KeepRow.{row_asked, row_fresh}
use Rattle.checker_includes.proofs.storing.keep_row.Goals as goal

pub write_instance-z-requires : goal.write_instance-z-requires
write_instance-z-requires c = row_asked _ _ _ _ _ _ _ _ _ c.requires _ c.word-p-2.ensures.0

pub returns : goal.returns
returns c = row_fresh _ _ _ _ _ _ _ _ _ c.requires _ c.word-p-2.ensures.0 _ _ c.write_instance-z.ensures _ _ c.word.ensures.0 c.find-f.ensures c.if-f-m.false _ c.store-2.ensures
