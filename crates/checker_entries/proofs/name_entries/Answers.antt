use native.Mathlib.Omega.{arith}
use Rattle.checker_entries.proofs.Writing.{row_asked, naming_next, naming_end}
use Rattle.checker_entries.proofs.name_entries.Goals as goal

pub name_entry-end-requires : goal.name_entry-end-requires
name_entry-end-requires c = let n = c.loop-j.invariant.0.near in (row_asked _ _ _ _ _ _ _ c.loop-j-test.true c.loop-j.invariant.0 _ c.word-in-loop-j.ensures.0, c.word.ensures.1, omega arith)

pub loop-j-preserved : goal.loop-j-preserved
loop-j-preserved c = naming_next _ _ _ _ _ _ _ _ _ c.loop-j-test.true _ _ c.word.ensures.0 c.word-in-loop-j.ensures.0 _ _ c.loop-j.invariant c.name_entry-end.ensures

pub returns : goal.returns
returns c = naming_end _ _ _ _ _ _ _ _ _ c.loop-j-test.false c.loop-j.invariant
