use native.Mathlib.Omega.{arith}
use Rattle.reader_repeats.proofs.WritingLaws.{nothing_written}
use Rattle.reader_repeats.proofs.repeat_number.Goals as goal

pub returns-then-q-gt-INCLUDE : goal.returns-then-q-gt-INCLUDE
returns-then-q-gt-INCLUDE c =
    let e = c.kind_at-q.ensures.0 in
    let t = c.if-q-gt-INCLUDE.true in
    let z = nothing_written _ _ c.requires.linked.0 _ c.requires.linked.1 c.requires.linked.2 _ _ c.requires.written (omega arith) in
    (z.0, λ q. z.1)
