use mathlib.Core.Path.{sym, ◌∙◌}
use native.Mathlib.Omega.{arith}
use Rattle.layout.proofs.Laws.{laid}
use Rattle.reader_rules.specs.Decode.{tree_of}
use Rattle.states_rules.specs.States.{state_form}
use Rattle.states_rules.specs.Names.{document_names}
use Rattle.states.proofs.TableLaws.{positive_document, by_table, not_laid, not_counted}
use Rattle.states.proofs.NameLaws.{document_words_lem}
use Rattle.states.proofs.first_ill_formed.Goals as goal

pub first_ill_entry-requires : goal.first_ill_entry-requires
first_ill_entry-requires c =
    let l = laid state_form c.args.state.now (sym c.laid_out.ensures ∙ c.if-laid_out.true) in
    omega (arith, l.few, c.word.ensures.0, c.if-word-n.true)

pub returns-then-word-n : goal.returns-then-word-n
returns-then-word-n c =
    let d = c.args.doc.now in
    let l = sym c.laid_out.ensures ∙ c.if-laid_out.true in
    let e = sym c.word.ensures.0 ∙ c.if-word-n.true ∙ c.put_names-n.ensures.0 in
    (rw c.put_names-n.ensures.0 at c.first_ill_entry.ensures)
    ∙ by_table (document_names (tree_of d)) c.args.state.now (positive_document d c.requires (document_words_lem d c.requires).0) l e 2048 (omega arith) _ c.put_names-n.ensures.1

pub returns-then-laid_out : goal.returns-then-laid_out
returns-then-laid_out c = not_counted (document_names (tree_of c.args.doc.now)) c.args.state.now (sym c.laid_out.ensures ∙ c.if-laid_out.true) (λ x. c.if-word-n.false (c.word.ensures.0 ∙ x ∙ sym c.put_names-n.ensures.0))

pub returns : goal.returns
returns c = not_laid (document_names (tree_of c.args.doc.now)) c.args.state.now (sym c.laid_out.ensures ∙ c.if-laid_out.false)
