use Rattle.checker_paragraphs.proofs.Defined.{schema_parameters, schema_ask, schema_stops, schema_rows_lem, schema_low, schema_told}
use Rattle.checker_paragraphs.proofs.ParagraphNodes.{all_parameters}
use mathlib.Core.Path.{refl}
use native.Mathlib.Omega.{arith}
use Rattle.checker_paragraphs.proofs.paragraphs.schema_paragraph.Goals as goal

pub push_parameters-at-requires : goal.push_parameters-at-requires
push_parameters-at-requires c = schema_parameters c.requires.0 c.requires.2 c.word-n.ensures.0 c.requires.1

pub schema-t-requires : goal.schema-t-requires
schema-t-requires c = schema_ask c.requires.0 c.requires.2 c.word-n.ensures.0 c.requires.1 c.word.ensures.0 refl (all_parameters c.args.p.now c.push_parameters-at.ensures)

pub returns-then-t-ne0 : goal.returns-then-t-ne0
returns-then-t-ne0 c = schema_stops c.requires.0 c.requires.2 c.word-n.ensures.0 c.requires.1 c.word.ensures.0 refl (all_parameters c.args.p.now c.push_parameters-at.ensures) c.schema-t.ensures c.if-t-ne0.true _ _

pub schema_entry-requires : goal.schema_entry-requires
schema_entry-requires c = (schema_rows_lem c.requires.0 c.requires.2 c.word-n.ensures.0 c.requires.1 c.word.ensures.0 refl (all_parameters c.args.p.now c.push_parameters-at.ensures) c.schema-t.ensures c.if-t-ne0.false, let l = schema_low c.requires.0 c.requires.2 c.word-n.ensures.0 c.requires.1 c.word.ensures.0 refl (all_parameters c.args.p.now c.push_parameters-at.ensures) c.schema-t.ensures c.if-t-ne0.false in omega arith, c.word-2.ensures.1, c.word-n.ensures.1)

pub returns : goal.returns
returns c = schema_told c.requires.0 c.requires.2 c.word-n.ensures.0 c.requires.1 c.word.ensures.0 c.word-2.ensures.0 (all_parameters c.args.p.now c.push_parameters-at.ensures) c.schema-t.ensures c.if-t-ne0.false c.schema_entry.ensures c.wipe.ensures c.lined_at.ensures
