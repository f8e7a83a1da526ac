use Rattle.checker_paragraphs.proofs.ParagraphNodes.{kind_last}
use Rattle.checker_nodes.proofs.NodeWords.{node_of}
use Rattle.checker_paragraphs.proofs.paragraphs.paragraph.Goals as goal

pub constraint-requires : goal.constraint-requires
constraint-requires c = (node_of c.requires.0 c.part-p.ensures, kind_last c.requires.0 c.part-p.ensures c.word-q.ensures.0 c.if-q-eq-GIVEN.false c.if-q-eq-AXIOM.false c.if-q-eq-SCHEMA.false c.if-q-eq-ABBREVIATION.false, c.requires.1)
