use mathlib.Core.Path.{sym, ◌∙◌}
use Rattle.checker_signatures.specs.Rows.{renames}
use Rattle.checker_signatures.proofs.BringLaws.{brings_stroked, brings_old, brings_fewer, brings_all}
use Rattle.checker_signatures.proofs.includes.bring.Goals as goal

pub returns-then-some_stroked : goal.returns-then-some_stroked
returns-then-some_stroked c =
    let a = c.args in
    brings_stroked a.work.now a.source a.m a.base a.k (renames a.part.now a.first) 0 (sym c.some_stroked.ensures ∙ c.if-some_stroked.true)

pub returns-then-wrong_old : goal.returns-then-wrong_old
returns-then-wrong_old c =
    let a = c.args in
    brings_old a.work.now a.source a.m a.base a.k (renames a.part.now a.first) c.stroke.new.work c.requires.0.inside
    (sym c.some_stroked.ensures ∙ c.if-some_stroked.false) c.stroke.ensures 0 (sym c.wrong_old.ensures ∙ c.if-wrong_old.true)

pub returns-then-n-m : goal.returns-then-n-m
returns-then-n-m c =
    let a = c.args in
    brings_fewer a.work.now a.source a.m a.base a.k (renames a.part.now a.first) c.stroke.new.work c.requires.0.inside
    (sym c.some_stroked.ensures ∙ c.if-some_stroked.false) c.stroke.ensures c.rename-n.new.work c.rename-n.result
    (sym c.wrong_old.ensures ∙ c.if-wrong_old.false) c.rename-n.ensures c.if-n-m.true

pub returns-else-n-m : goal.returns-else-n-m
returns-else-n-m c =
    let a = c.args in
    brings_all a.work.now a.source a.m a.base a.k (renames a.part.now a.first) c.stroke.new.work c.requires.0.inside
    (sym c.some_stroked.ensures ∙ c.if-some_stroked.false) c.stroke.ensures c.rename-n.new.work c.rename-n.result
    (sym c.wrong_old.ensures ∙ c.if-wrong_old.false) c.rename-n.ensures c.if-n-m.false
