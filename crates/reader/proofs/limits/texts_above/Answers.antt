use mathlib.Core.Bool.{true, false}
use mathlib.Core.Path.{◌≡◌, sym, ◌∙◌}
use native.Mathlib.Omega.{arith}
use lib.Dec.{eqb}
use borrow.Author.Tests.{eq-eqb, ne_eqb}
use Rattle.reader_rules.specs.Nodes.{kind_at}
use Rattle.reader.proofs.CountLaws.{table_parent, table_place, texts_go}
use Rattle.reader.proofs.limits.texts_above.Goals as goal
use Rattle.reader.proofs.limits.texts_above.Goals.{then-kind_at-eq-TEXT, else-kind_at-eq-TEXT}

pub loop-preserved : goal.loop-preserved
loop-preserved c =
    let d = c.args.doc.now in
    let k = c.kind_at.ensures.0 in
    let a = table_place _ _ c.requires.0 c.loop.a c.word-a.result c.loop.invariant.0 c.word-a.ensures.0 in
    let g = texts_go d c.args.n c.loop.counter c.loop.a c.word-a.result (omega arith) (table_parent _ _ c.requires.0 _ _ c.loop.invariant.0 c.word-a.ensures.0) c.if-a-eq0.false in
    elim c.if-kind_at-eq-TEXT.branch [
      | then-kind_at-eq-TEXT w ↦
          let q : eqb (kind_at d c.word-a.result) 10 ≡ true = eq-eqb _ 10 (sym k ∙ w.if-kind_at-eq-TEXT.true) in
          (a, omega (arith, rw q at g), omega arith)
      | else-kind_at-eq-TEXT w ↦
          let q : eqb (kind_at d c.word-a.result) 10 ≡ false = ne_eqb _ 10 (λ z. w.if-kind_at-eq-TEXT.false (k ∙ z)) in
          (a, omega (arith, rw q at g), omega arith)
    ]
