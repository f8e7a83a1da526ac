use mathlib.Core.Path.{◌≡◌, sym, ap, ◌∙◌}
use Prim.Native.Nat.{◌+◌, ◌*◌}
use native.Mathlib.Omega.{arith}
use mathlib.Core.Bool.{Bool, ◌||◌}
use Rattle.checker_signatures.specs.Rows.{rows, renames, wrong_old_rows}
use Rattle.checker_signatures.proofs.IncludeLaws.{has_found, has_none, wrong_absent, wrong_next, wrong_end}
use Rattle.checker_signatures.proofs.includes.wrong_old.Goals as goal

pub returns-then-find-m : goal.returns-then-find-m
returns-then-find-m c =
    let a = c.args in
    let rs = rows a.work.now a.base a.m in
    let f = c.find.ensures in
    sym (c.loop-j.invariant ∙ wrong_absent a.part.now (a.first + 2 * c.loop-j.j) rs (omega arith) c.word-old.result c.word-old.ensures.0 (has_none c.word-old.result rs (f.absent (omega arith))))

pub returns-then-has_old : goal.returns-then-has_old
returns-then-has_old c =
    let a = c.args in
    let i = a.first + 2 * c.loop-j.j in
    let rs = rows a.work.now a.base a.m in
    let f = c.find.ensures in
    sym
    (c.loop-j.invariant
    ∙ wrong_next a.part.now i rs (omega arith) c.word-old.result c.word-old.ensures.0 (has_found c.word-old.result _ rs (f.there (omega arith)))
    ∙ ap (λ (b : Bool). b || wrong_old_rows (renames a.part.now (i + 2)) rs) (sym c.has_old.ensures ∙ c.if-has_old.true))

pub loop-j-preserved : goal.loop-j-preserved
loop-j-preserved c =
    let a = c.args in
    let i = a.first + 2 * c.loop-j.j in
    let rs = rows a.work.now a.base a.m in
    let f = c.find.ensures in
    let n : i + 2 ≡ a.first + 2 * (c.loop-j.j + 1) = omega arith in
    c.loop-j.invariant
    ∙ wrong_next a.part.now i rs (omega arith) c.word-old.result c.word-old.ensures.0 (has_found c.word-old.result _ rs (f.there (omega arith)))
    ∙ ap (λ (b : Bool). b || wrong_old_rows (renames a.part.now (i + 2)) rs) (sym c.has_old.ensures ∙ c.if-has_old.false)
    ∙ ap (λ k. wrong_old_rows (renames a.part.now k) rs) n

pub returns : goal.returns
returns c =
    let a = c.args in
    sym (c.loop-j.invariant ∙ wrong_end a.part.now (a.first + 2 * c.loop-j.j) (rows a.work.now a.base a.m) (omega arith))
