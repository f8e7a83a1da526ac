use Rattle.layout.specs.Layout.{part}
use Rattle.reader_rules.proofs.NameCounts.{globals_counted}
use Rattle.states.proofs.NameLaws.{document_words_lem}
use Rattle.evaluator_rules.specs.Environment as Scope
use Rattle.evaluator_scope.specs.Blocks as Blocks
use Rattle.evaluator_scope.specs.Named.{said}
use Rattle.evaluator.proofs.RunLaws.{all_declared, run_ending}
use mathlib.Core.Path.{ap, ◌∙◌}
use native.Mathlib.Omega.{arith}
use Rattle.evaluator.proofs.run_paragraphs.Goals as goal

pub run_from-requires : goal.run_from-requires
run_from-requires c =
    let d = c.args.doc.now in
    let st = c.args.state.now in
    let e = c.part.ensures ∙ ap (part d) c.word.ensures.0 in
    let w = document_words_lem d c.requires.0 in
    (record { read = c.requires.0; formed = c.requires.1; pairs = c.put_names.ensures.1 }, e, omega arith, omega arith, rw e (record { few = omega (arith, globals_counted d c.requires.0); wide = c.requires.2 }), rw e (all_declared d c.requires.0))

pub returns : goal.returns
returns c =
    let d = c.args.doc.now in
    let st = c.args.state.now in
    let e = c.part.ensures ∙ ap (part d) c.word.ensures.0 in
    run_ending d c.requires.0 (said d st) _ (λ o t. c.finding_of.ensures o t) (rw e at (c.run_from.ensures Scope.empty Blocks.none))
