use Rattle.std.proofs.lemmas.Result.{err_from_is_err_and}
use Rattle.reader_rules.specs.Reading.{read_of}
use mathlib.Core.Path.{sym, ◌∙◌}
use Rattle.reader.proofs.read.Goals as goal

pub check_uses_and_tree-requires : goal.check_uses_and_tree-requires
check_uses_and_tree-requires c = (sym c.laid_out.ensures ∙ c.if-not-laid_out.false, sym c.check_nodes.ensures ∙ c.in_ok-check_nodes.was)

pub returns-then-not-laid_out : goal.returns-then-not-laid_out
unfolding read_of
returns-then-not-laid_out c = rw (← c.laid_out.ensures, c.if-not-laid_out.true)

pub returns-in_err-check_nodes : goal.returns-in_err-check_nodes
unfolding read_of
returns-in_err-check_nodes c =
    let p = err_from_is_err_and c.from_residual.result c.from_residual.ensures.1 in
    rw (← c.laid_out.ensures, c.if-not-laid_out.false, ← c.check_nodes.ensures, c.in_err-check_nodes.was, p.1, p.2)

pub returns : goal.returns
unfolding read_of
returns c = rw (← c.laid_out.ensures, c.if-not-laid_out.false, ← c.check_nodes.ensures, c.in_ok-check_nodes.was) c.check_uses_and_tree.ensures
