use Rattle.checker_paragraphs.proofs.ParagraphNodes.{axiom_ask, axiom_stops_lem, axiom_rows, axiom_told}
use Rattle.checker_paragraphs.proofs.paragraphs.axiomatic.Goals as goal

pub text-t-requires : goal.text-t-requires
text-t-requires c = axiom_ask c.requires.0 c.requires.2 c.requires.1 c.word.ensures.0

pub returns-then-t-ne0 : goal.returns-then-t-ne0
returns-then-t-ne0 c = axiom_stops_lem c.requires.0 c.requires.2 c.requires.1 c.word.ensures.0 c.text-t.ensures c.if-t-ne0.true _ _

pub name_entries-requires : goal.name_entries-requires
name_entries-requires c = axiom_rows c.requires.0 c.requires.2 c.requires.1 c.word.ensures.0 c.text-t.ensures c.if-t-ne0.false

pub returns : goal.returns
returns c = axiom_told c.requires.0 c.requires.2 c.requires.1 c.word.ensures.0 c.text-t.ensures c.if-t-ne0.false c.name_entries.ensures c.wipe.ensures c.lined_at.ensures
