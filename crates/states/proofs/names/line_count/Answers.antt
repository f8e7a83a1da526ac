use Rattle.words.proofs.Loops.{tests}
use mathlib.Core.Path.{sym, ◌∙◌, ap}
use lib.ListN.{length}
use native.Mathlib.Omega.{arith}
use Rattle.states.specs.Table.{line_count}
use Rattle.states.proofs.NameLaws.{decl_words}
use Rattle.states.proofs.names.line_count.Goals as goal

pub overflow_sub-result : goal.overflow_sub-result
overflow_sub-result c =
    let q = sym c.kind_at-q.ensures.0 ∙ c.if-q-eq-DECL.true in
    omega (arith, (decl_words _ _ c.requires q).0, ap length c.part.ensures)

pub returns-then-q-eq-DECL : goal.returns-then-q-eq-DECL
unfolding line_count
returns-then-q-eq-DECL c =
    let q = sym c.kind_at-q.ensures.0 ∙ c.if-q-eq-DECL.true in
    (rw (c.part.ensures, q), omega (arith, (decl_words _ _ c.requires q).1, ap length c.part.ensures))

pub returns : goal.returns
unfolding line_count
returns c = (rw (← c.kind_at-q.ensures.0) (search tests), omega arith)
