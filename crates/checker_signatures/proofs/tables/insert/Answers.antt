use lib.ListN.{get_or}
use mathlib.Core.List.{[], ◌∷◌, List}
use lib.Seq.{sets}
use Rattle.checker_signatures.specs.Rows.{flat, rows, insert_row}
use mathlib.Core.Path.{refl, sym, ap, subst, ◌∙◌}
use Prim.Native.Nat.{ℕ, ◌+◌, ◌-◌, ◌*◌, ◌<◌}
use native.Mathlib.Omega.{arith}
use Rattle.checker_signatures.specs.Tables.{Table}
use Rattle.checker_signatures.proofs.InsertLaws.{pass_start, pass_go, pass_there, pass_before, pass_end}
use Rattle.checker_signatures.proofs.tables.insert.Goals as goal

pub loop-j-init : goal.loop-j-init
loop-j-init c =
    let a = c.args in
    (refl, pass_start a.work.now a.base a.m a.id a.place)

pub returns-then-x-id : goal.returns-then-x-id
returns-then-x-id c =
    let a = c.args in
    let x = sym (ap (λ (u : List ℕ). get_or u (a.base + 2 * c.loop-j.j) 0) c.loop-j.invariant.0) ∙ sym c.word-x.ensures.0 ∙ c.if-x-id.true in
    subst (λ (v : List ℕ). Table a.work.now v a.base (insert_row a.id a.place (rows a.work.now a.base a.m)) a.m) (sym c.loop-j.invariant.0)
    (pass_there a.work.now a.base a.m a.id a.place c.loop-j.j c.loop-j-test.true x c.loop-j.invariant.1)

pub returns-then-id-x : goal.returns-then-id-x
returns-then-id-x c =
    let a = c.args in
    let x : a.id < get_or a.work.now (a.base + 2 * c.loop-j.j) 0 =
    rw (← c.loop-j.invariant.0) (omega (arith, c.word-x.ensures.0, c.if-id-x.true)) in
    pass_before a.work.now a.base a.m a.id a.place c.loop-j.j c.loop-j-test.true x c.loop-j.invariant.1 c.put_before.new.work
    (c.put_before.ensures ∙ ap (λ (u : List ℕ). sets u (a.base + 2 * c.loop-j.j) (flat ((a.id, a.place) ∷ rows u (a.base + 2 * c.loop-j.j) (a.m - c.loop-j.j)))) c.loop-j.invariant.0)

pub loop-j-preserved : goal.loop-j-preserved
loop-j-preserved c =
    let a = c.args in
    let x : get_or a.work.now (a.base + 2 * c.loop-j.j) 0 < a.id =
    rw (← c.loop-j.invariant.0) (omega (arith, c.word-x.ensures.0, c.if-id-x.false, c.if-x-id.false)) in
    (c.loop-j.invariant.0, c.loop-j.invariant.1 ∙ pass_go a.work.now a.base a.m a.id a.place c.loop-j.j c.loop-j-test.true x)

pub returns : goal.returns
returns c =
    let a = c.args in
    pass_end a.work.now a.base a.m a.id a.place c.loop-j.j (omega arith) c.loop-j.invariant.1 c.put_row.new.work
    (c.put_row.ensures ∙ ap (λ (u : List ℕ). sets u (a.base + 2 * a.m) (a.id ∷ a.place ∷ [])) c.loop-j.invariant.0)
