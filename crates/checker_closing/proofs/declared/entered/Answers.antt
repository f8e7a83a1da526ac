use Rattle.checker_closing.specs.Declarations.{many, none_new, some_new}
use mathlib.Core.Path.{refl}
use native.Mathlib.Omega.{arith}
use Rattle.checker_closing.proofs.declared.entered.Goals as goal

pub returns-then-count-gt-SIGNATURE : goal.returns-then-count-gt-SIGNATURE
returns-then-count-gt-SIGNATURE c = many _ c.declare-count.ensures c.if-count-gt-SIGNATURE.true refl c.lined_at.ensures

pub returns-then-count-m : goal.returns-then-count-m
returns-then-count-m c = none_new _ c.declare-count.ensures c.if-count-m.true c.wipe.ensures c.lined_at-then-count-m.ensures

pub returns : goal.returns
returns c = some_new _ c.declare-count.ensures (let z = c.if-count-gt-SIGNATURE.false in omega arith) c.if-count-m.false refl c.lined_at-2.ensures
