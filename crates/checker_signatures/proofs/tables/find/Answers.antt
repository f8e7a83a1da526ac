use mathlib.Core.Path.{sym, ◌∙◌}
use Prim.Native.Nat.{◌<◌}
use native.Mathlib.Omega.{arith}
use Rattle.checker_signatures.proofs.InsertLaws.{find_hit, find_miss, find_none}
use Rattle.checker_signatures.proofs.tables.find.Goals as goal

pub returns-then-word-id : goal.returns-then-word-id
returns-then-word-id c =
    let h : 0 < c.loop-j.j = c.loop-j-test.true in
    let e = sym c.word.ensures.0 ∙ c.if-word-id.true in
    record {
      most = omega arith;
      there = λ q. c.loop-j.invariant ∙ find_hit c.args.work.now c.args.base c.args.id c.loop-j.j h e;
      present = λ q. e;
      absent = λ q. absurd (omega arith);
    }

pub loop-j-preserved : goal.loop-j-preserved
loop-j-preserved c =
    let h : 0 < c.loop-j.j = c.loop-j-test.true in
    c.loop-j.invariant ∙ find_miss c.args.work.now c.args.base c.args.id c.loop-j.j h (λ q. c.if-word-id.false (c.word.ensures.0 ∙ q))

pub returns : goal.returns
returns c =
    record {
      most = omega arith;
      there = λ q. absurd (omega arith);
      present = λ q. absurd (omega arith);
      absent = λ q. c.loop-j.invariant ∙ find_none c.args.work.now c.args.base c.args.id c.loop-j.j c.loop-j-test.false;
    }
