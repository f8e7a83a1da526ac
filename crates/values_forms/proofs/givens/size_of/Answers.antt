use mathlib.Core.Path.{sym, ◌∙◌, ap}
use native.Mathlib.Nat.{sub-zero}
use Rattle.values.specs.Givens.{size_of, small_size}
use Rattle.values_forms.proofs.Elements.{size_hit, size_go, size_end}
use Rattle.values_forms.proofs.givens.size_of.Goals as goal

pub loop-i-init : goal.loop-i-init
unfolding size_of
loop-i-init c = rw sub-zero

pub returns-then-word-g : goal.returns-then-word-g
returns-then-word-g c =
    let s = c.args in
    let w = c.word.ensures.0 in
    c.small_size.ensures.0 ∙ ap small_size c.word-then-word-g.ensures.0 ∙ size_hit s.givens.now s.g _ c.loop-i.i c.loop-i-test.true (sym w ∙ c.if-word-g.true) ∙ sym c.loop-i.invariant

pub loop-i-preserved : goal.loop-i-preserved
loop-i-preserved c =
    let s = c.args in
    c.loop-i.invariant ∙ size_go s.givens.now s.g _ c.loop-i.i c.loop-i-test.true (λ e. c.if-word-g.false (c.word.ensures.0 ∙ e))

pub returns : goal.returns
returns c =
    let s = c.args in
    size_end s.givens.now s.g _ c.loop-i.i c.loop-i-test.false ∙ sym c.loop-i.invariant
