use Rattle.std.proofs.Common.{◌≡◌, ◌+◌, ◌-◌, arith}
use Rattle.checker_dictionary.proofs.WaitingLaws.{wait_none, wait_full, wait_next, wait_ready, wait_bound}
use Rattle.checker_dictionary.proofs.waiting.append_all.Goals as goal

pub overflow_add-p : goal.overflow_add-p
overflow_add-p c = let z = wait_bound _ _ _ (omega arith) c.loop.invariant.0 in let y = c.type_inv.work in omega arith

pub overflow_add-p-in-loop-2 : goal.overflow_add-p-in-loop-2
overflow_add-p-in-loop-2 c = let z = wait_bound _ _ _ (omega arith) c.loop.invariant.0 in let q = c.word-len.ensures.0 in let y = c.type_inv.work in omega arith

pub returns-then-not-append : goal.returns-then-not-append
returns-then-not-append c = c.loop.invariant.1 _ _ (wait_full _ _ _ (omega arith) _ _ _ c.word-len.ensures.0 _ c.span.ensures _ c.append.ensures c.if-not-append.true)

pub loop-preserved : goal.loop-preserved
loop-preserved c =
    let n : c.args.m - (c.loop.counter + 1) + 1 ≡ c.args.m - c.loop.counter = omega arith in (
      wait_ready _ _ _ (omega arith) _ _ _ c.word-len.ensures.0 _ c.span.ensures _ c.append.ensures _ n c.loop.invariant.0,
      λ d b N. c.loop.invariant.1 d b (wait_next _ _ _ (omega arith) _ _ _ c.word-len.ensures.0 _ c.span.ensures _ c.append.ensures c.if-not-append.false c.append.auto.d _ n d b N),
    )

pub returns : goal.returns
returns c = c.loop.invariant.1 _ _ (wait_none _ _ _ (omega arith) _)
