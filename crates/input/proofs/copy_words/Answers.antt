use mathlib.Core.Path.{refl, ap, ◌∙◌}
use mathlib.Core.List.{List, ◌++◌}
use Prim.Native.Nat.{ℕ}
use native.Mathlib.Omega.{arith}
use lib.ListN.{set, drop}
use Rattle.words.specs.Loops.{joined}
use Rattle.input.specs.Input.{first_words}
use Rattle.input.proofs.Laws.{store_next}
use Rattle.input.proofs.copy_words.Goals as goal

pub loop-i-init : goal.loop-i-init
unfolding first_words joined
loop-i-init c = (refl, refl)

pub loop-i-preserved : goal.loop-i-preserved
loop-i-preserved c =
    let w = c.word_at.ensures in
    let next = store_next c.args.bytes.now c.args.words.now c.loop-i.i (omega arith) in (
      c.store.auto.u ∙ c.loop-i.invariant.0,
      c.store.ensures ∙ ap (λ (z : List ℕ). set z c.loop-i.i c.word_at.result) c.loop-i.invariant.1 ∙ ap (set (first_words c.args.bytes.now c.loop-i.i ++ drop c.loop-i.i c.args.words.now) c.loop-i.i) w ∙ next,
    )
