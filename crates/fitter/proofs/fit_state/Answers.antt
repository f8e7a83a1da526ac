use Rattle.std.proofs.lemmas.Result.{err_from_is_err_and}
use mathlib.Core.Path.{sym, ◌∙◌}
use Rattle.reader_rules.specs.Decode.{tree_of}
use Rattle.states_rules.specs.Names.{document_names}
use Rattle.fitter.proofs.Findings.{readable_finding, refused_finding}
use Rattle.fitter.proofs.fit_state.Goals as goal

pub first_mistyped-requires : goal.first_mistyped-requires
first_mistyped-requires c = (c.requires, sym c.first_ill_formed.ensures ∙ c.in_ok-first_ill_formed.was)

pub returns : goal.returns
returns c =
    let ns = document_names (tree_of c.args.doc.now) in
    λ E H. readable_finding ns c.args.state.now E (sym c.first_ill_formed.ensures ∙ c.in_ok-first_ill_formed.was) c.first_mistyped.result (c.first_mistyped.ensures E H)

pub returns-in_err-first_ill_formed : goal.returns-in_err-first_ill_formed
returns-in_err-first_ill_formed c =
    let ns = document_names (tree_of c.args.doc.now) in
    let p = err_from_is_err_and c.from_residual.result c.from_residual.ensures.1 in
    λ E H. rw (p.1, p.2) (refused_finding ns c.args.state.now E _ _ (sym c.first_ill_formed.ensures ∙ c.in_err-first_ill_formed.was))
