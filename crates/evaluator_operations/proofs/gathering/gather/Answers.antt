use mathlib.Core.Path.{ap, ◌∙◌}
use Prim.Native.Nat.{ℕ}
use lib.ListN.{take}
use Rattle.values.specs.Value.{encode}
use Rattle.values.specs.Value as Value
use Rattle.values.specs.SetValues.{insert_value}
use Rattle.values.specs.Held.{keep}
use Rattle.values.proofs.Holding.{held_short, held_long}
use Rattle.values.proofs.Inserting.{insert_value_lem}
use Rattle.evaluator_operations.specs.Worked.{Holds}
use Rattle.evaluator_operations.proofs.OperationLaws.{held_whole, add_over, add_fits, set_narrow}
use Rattle.evaluator_operations.proofs.GatherLaws.{set_read}
use Rattle.evaluator_operations.proofs.gathering.gather.Goals as goal

pub returns-then-t-gt-VALUE : goal.returns-then-t-gt-VALUE
returns-then-t-gt-VALUE c =
    λ vs x g hx.
    let u = c.args.s.now in
    let e = (rw (c.span.ensures ∙ ap (λ (n : ℕ). take n u) c.word.ensures.0 ∙ set_read u vs g, c.span-2.ensures ∙ held_whole _ x hx) at c.insert-t.ensures) ∙ ap keep (insert_value_lem vs x g.short) in
    add_over _ vs x (held_long _ (encode (Value.set (insert_value x vs))) e c.if-t-gt-VALUE.true) c.refusal.ensures

pub returns : goal.returns
returns c =
    λ vs x g hx.
    let u = c.args.s.now in
    let e = (rw (c.span.ensures ∙ ap (λ (n : ℕ). take n u) c.word.ensures.0 ∙ set_read u vs g, c.span-2.ensures ∙ held_whole _ x hx) at c.insert-t.ensures) ∙ ap keep (insert_value_lem vs x g.short) in
    let l = held_short _ (encode (Value.set (insert_value x vs))) e c.if-t-gt-VALUE.false in
    let h : Holds _ (Value.set (insert_value x vs)) = record { words = e; short = l; narrow = set_narrow vs x hx.narrow g.narrow } in
    add_fits _ vs x l (c.put_set.ensures (insert_value x vs) g.long h)
