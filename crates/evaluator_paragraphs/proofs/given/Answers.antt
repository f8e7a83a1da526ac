use Rattle.evaluator_scope.specs.Named.{said}
use Rattle.states.proofs.NameLaws.{given_names, given_words}
use Rattle.evaluator_paragraphs.proofs.StepLaws.{given_globals, given_steps}
use native.Mathlib.Omega.{arith}
use Rattle.evaluator_paragraphs.proofs.given.Goals as goal

pub put_names-requires : goal.put_names-requires
put_names-requires c =
    let d = c.args.doc.now in
    let st = c.args.state.now in
    let k = c.args.k in
    let e = c.requires.5 in
    let r = c.requires.3 in
    let h = c.requires.1 in
    let q = c.requires.2 in
    let w = r.wide in
    let f = r.few in
    (c.requires.0, rw e (rw (given_names d k h q) at c.requires.4), rw e (omega (arith, f, given_globals d k h (said d st) st st st 0 q)), w, rw e (omega (arith, (given_words d k h q).1)))

pub returns : goal.returns
returns c =
    let d = c.args.doc.now in
    let st = c.args.state.now in
    let k = c.args.k in
    let e = c.requires.5 in
    given_steps d k c.requires.1 (said d st) st _ _ c.args.n c.requires.2 (rw e at c.put_names.ensures)
