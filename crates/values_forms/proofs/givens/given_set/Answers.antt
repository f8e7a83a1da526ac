use mathlib.Core.Path.{◌≡◌, sym, ◌∙◌, ap}
use mathlib.Core.List.{◌∷◌}
use Prim.Native.Nat.{ℕ}
use native.Mathlib.Omega.{arith}
use Rattle.values.specs.Held.{keep}
use Rattle.values.specs.Value.{encodes}
use Rattle.values.specs.Givens.{elements_from}
use Rattle.values_forms.proofs.Elements.{elements_words, elements_over, elements_more}
use Rattle.values_forms.proofs.givens.given_set.Goals as goal

pub returns-then-n-gt-ELEMENTS : goal.returns-then-n-gt-ELEMENTS
returns-then-n-gt-ELEMENTS c = c.over.ensures ∙ elements_over _ _ c.if-n-gt-ELEMENTS.true

pub loop-k-init : goal.loop-k-init
unfolding elements_from encodes
loop-k-init c = c.hold-v.ensures

pub loop-k-preserved : goal.loop-k-preserved
loop-k-preserved c =
    let a = c.args in
    c.append-v.ensures _ c.loop-k.invariant ∙ ap keep (elements_more a.g a.n c.loop-k.k)

pub returns : goal.returns
returns c =
    let a = c.args in
    let e : c.loop-k.k ≡ a.n = omega arith in
    c.loop-k.invariant ∙ ap (λ (x : ℕ). keep (3 ∷ a.n ∷ encodes (elements_from a.g 0 x))) e ∙ ap keep (sym (elements_words a.g a.n))
