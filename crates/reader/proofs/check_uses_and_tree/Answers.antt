use Rattle.std.proofs.lemmas.Result.{err_from_is_err_and}
use Rattle.reader.proofs.LinkLaws.{tallied, linked}
use Rattle.reader_rules.specs.Nodes.{document_form}
use Rattle.layout.proofs.Laws.{laid}
use native.Mathlib.Omega.{arith}
use mathlib.Core.Path.{sym, ◌∙◌}
use Rattle.reader.proofs.check_uses_and_tree.Goals as goal

pub link_nodes-requires : goal.link_nodes-requires
link_nodes-requires c = (laid document_form _ c.requires.0).few

pub first_misused-requires : goal.first_misused-requires
first_misused-requires c = (rw c.link_nodes.ensures.0 (tallied _), (laid document_form _ c.requires.0).few)

pub check_tree-requires : goal.check_tree-requires
check_tree-requires c =
    let d = c.args.doc.now in
    record {
      laid = c.requires.0;
      nodes = c.requires.1;
      uses = sym c.first_misused.ensures ∙ c.in_ok-first_misused.was;
      parents = rw c.link_nodes.ensures.1 (linked d (omega (arith, (laid document_form d c.requires.0).few)));
    }

pub returns : goal.returns
returns c = rw (← c.first_misused.ensures, c.in_ok-first_misused.was) c.check_tree.ensures

pub returns-in_err-first_misused : goal.returns-in_err-first_misused
returns-in_err-first_misused c =
    let p = err_from_is_err_and c.from_residual.result c.from_residual.ensures.1 in
    rw (← c.first_misused.ensures, c.in_err-first_misused.was, p.1, p.2)
