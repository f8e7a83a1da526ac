use Rattle.checker_paragraphs.proofs.ParagraphNodes.{given_short, given_clashes, given_told}
use native.Mathlib.Omega.{arith}
use Rattle.checker_paragraphs.proofs.paragraphs.given.Goals as goal

pub returns-then-not-names_new : goal.returns-then-not-names_new
returns-then-not-names_new c = given_clashes c.requires.0 c.requires.2 c.requires.1 c.names_new.ensures c.if-not-names_new.true c.lined_at.ensures

pub given_entries-requires : goal.given_entries-requires
given_entries-requires c = let l = given_short c.requires.0 c.requires.2 c.requires.1 in omega arith

pub returns : goal.returns
returns c = given_told c.requires.0 c.requires.2 c.requires.1 c.names_new.ensures c.if-not-names_new.false c.given_entries.ensures c.lined_at-2.ensures
