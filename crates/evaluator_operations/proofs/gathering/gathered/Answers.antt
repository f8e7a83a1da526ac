use mathlib.Core.Path.{ap, ◌∙◌}
use lib.ListN.{take}
use Prim.Native.Nat.{ℕ}
use Rattle.values.specs.Held.{keep}
use Rattle.evaluator_operations.proofs.GatherLaws.{set_read}
use Rattle.evaluator_operations.proofs.gathering.gathered.Goals as goal

pub returns : goal.returns
returns c =
    λ vs g.
    let u = c.args.s.now in
    record { words = c.hold.ensures ∙ ap keep (c.span.ensures ∙ ap (λ (n : ℕ). take n u) c.word.ensures.0 ∙ set_read u vs g); short = g.short; narrow = g.narrow }
