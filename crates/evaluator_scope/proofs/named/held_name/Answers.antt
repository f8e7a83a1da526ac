use Rattle.layout.specs.Layout.{part}
use Rattle.values.specs.Held.{keep}
use Rattle.values.specs.declared.held.Held.{Held}
use Rattle.evaluator_operations.specs.Worked.{Holds}
use Rattle.evaluator_scope.specs.Named.{said}
use Rattle.evaluator_scope.proofs.NamedLaws.{entry_few, name_plain, name_given}
use mathlib.Core.Path.{sym, ap, subst, ◌∙◌}
use native.Mathlib.Omega.{arith}
use Rattle.evaluator_scope.proofs.named.held_name.Goals as goal

pub overflow_mul-k : goal.overflow_mul-k
overflow_mul-k c =
    let d = c.args.doc.now in
    let st = c.args.state.now in
    let tb = c.args.table.now in
    omega (arith, c.place_of-k.ensures, entry_few d st tb c.requires.0 c.args.name c.requires.1)

pub returns-then-g-eq0 : goal.returns-then-g-eq0
returns-then-g-eq0 c =
    let d = c.args.doc.now in
    let st = c.args.state.now in
    let tb = c.args.table.now in
    let e = c.place_of-k.ensures in
    let z = rw e at (sym c.word-g.ensures.0 ∙ c.if-g-eq0.true) in
    subst (λ (r : Held). Holds r (said d st c.args.name)) (sym (c.hold.ensures ∙ ap keep (c.part-w.ensures ∙ ap (part st) e))) (name_plain d st tb c.requires.0 c.args.name c.requires.1 (λ i. omega (arith, c.type_inv.state i)) z)

pub returns : goal.returns
returns c =
    let d = c.args.doc.now in
    let st = c.args.state.now in
    let tb = c.args.table.now in
    let e = c.place_of-k.ensures in
    subst (λ (r : Held). Holds r (said d st c.args.name)) (sym c.given_set.ensures) (rw (c.word-g.ensures.0, c.word.ensures.0, c.part-w.ensures, e) (name_given d st tb c.requires.0 c.args.name c.requires.1 (λ i. omega (arith, c.type_inv.state i)) (λ z. c.if-g-eq0.false (c.word-g.ensures.0 ∙ (rw e z)))))
