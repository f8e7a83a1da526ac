use Prim.Native.Nat.{ℕ}
use lib.ListN.{get_or}
use Rattle.evaluator_scope.proofs.BlockLaws.{scoped_same}
use lib.IntN.{pos}
use Rattle.values.specs.declared.held.Held.{Held}
use Rattle.evaluator_operations.specs.Worked.{Holds}
use Rattle.values.specs.Value as Value
use Rattle.evaluator_operations.proofs.ToldLaws.{exit_told}
use Rattle.evaluator_paragraphs.proofs.StepLaws.{plain_lower, plain_stops, plain_goes, generic_steps}
use mathlib.Core.Path.{sym, ap, subst, ◌∙◌}
use mathlib.Core.List.{List}
use native.Mathlib.Omega.{arith}
use Rattle.evaluator_paragraphs.proofs.abbreviation.Goals as goal

pub expr-requires : goal.expr-requires
expr-requires c =
    let d = c.args.doc.now in
    let st = c.args.state.now in
    let k = c.args.k in
    let o = plain_lower d k c.requires.0 (λ i. Value.int (pos 0)) st st st 0 c.requires.1 (sym (c.word.ensures.0 ∙ ap (λ (y : List ℕ). get_or y 2 0) c.requires.3) ∙ c.if-word-eq0.true) in
    let r = c.requires.2 in
    let f = r.few in
    rw (c.word-then-word-eq0.ensures.0, c.requires.3) (record { at = o.at; room = omega arith; wide = r.wide })

pub returns-in_err-y : goal.returns-in_err-y
returns-in_err-y c =
    let d = c.args.doc.now in
    let st = c.args.state.now in
    let k = c.args.k in
    λ s scope g. exit_told c.from_residual.ensures.1 (plain_stops d k c.requires.0 s st st _ c.args.n c.requires.1 (sym (c.word.ensures.0 ∙ ap (λ (y : List ℕ). get_or y 2 0) c.requires.3) ∙ c.if-word-eq0.true) scope (rw (c.word-then-word-eq0.ensures.0, c.requires.3) at (c.in_err-y.ensures.told scope g)))

pub returns-then-word-eq0 : goal.returns-then-word-eq0
returns-then-word-eq0 c =
    let d = c.args.doc.now in
    let st = c.args.state.now in
    let k = c.args.k in
    λ s scope g. plain_goes d k c.requires.0 s st st _ c.args.n c.requires.1 (sym (c.word.ensures.0 ∙ ap (λ (y : List ℕ). get_or y 2 0) c.requires.3) ∙ c.if-word-eq0.true) scope (rw (c.word-then-word-eq0.ensures.0, c.requires.3) at (c.in_ok-y.ensures.told scope g)) (λ x hx. rw (c.word-then-word-eq0-2.ensures.0, c.requires.3) at (c.put_name.ensures.told st scope x (scoped_same st _ _ c.args.n c.in_ok-y.ensures.kept g) (subst (λ (z : Held). Holds z x) (sym (c.bounded.ensures.1 x hx)) hx)))

pub returns : goal.returns
returns c =
    let d = c.args.doc.now in
    let st = c.args.state.now in
    let k = c.args.k in
    λ s. generic_steps d k c.requires.0 s st _ _ c.args.n c.requires.1 (λ z. c.if-word-eq0.false (c.word.ensures.0 ∙ ap (λ (y : List ℕ). get_or y 2 0) c.requires.3 ∙ z)) (λ scope g. rw (c.word-2.ensures.0, c.requires.3) at (c.put_generic.ensures.told st scope g))
