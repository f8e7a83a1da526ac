use mathlib.Core.List.{[], ◌∷◌, ◌++◌, List}
use Rattle.reader_rules.specs.Decode.{pairs_from}
use Rattle.checker_signatures.proofs.InsertLaws.{rows_more}
use Rattle.checker_signatures.proofs.TableLaws.{table_none, table_word, table_snoc}
use Rattle.checker_signatures.specs.Rows.{rows}
use mathlib.Core.Path.{◌≡◌, refl, sym, ap, subst, ◌∙◌}
use Prim.Native.Nat.{ℕ, ◌+◌, ◌*◌, ◌≤◌, ◌<◌}
use native.Mathlib.Omega.{arith}
use lib.ListN.{get_or}
use Rattle.checker_signatures.specs.Tables.{Table}
use Rattle.checker_signatures.proofs.scopes.push.Goals as goal

pub loop-j-init : goal.loop-j-init
unfolding pairs_from
loop-j-init c =
    let a = c.args in
    table_none a.work.now (a.base + 2 * a.n) (rows a.work.now a.source 0) refl

pub loop-j-preserved : goal.loop-j-preserved
loop-j-preserved c =
    let a = c.args in
    let w = a.work.now in
    let h : c.loop-j.j < a.m = c.loop-j-test.true in
    let rs = rows w a.source c.loop-j.j in
    let kept : (at : ℕ) → a.source ≤ at → at < a.source + 2 * a.m → get_or c.loop-j.work at 0 ≡ get_or w at 0 =
    λ at q r. table_word w (a.base + 2 * a.n) c.loop-j.work rs c.loop-j.j c.loop-j.invariant a.m a.source a.m at (omega arith) c.requires.apart q r in
    let e = c.word-id.ensures.0 ∙ kept (a.source + 2 * c.loop-j.j) (omega arith) (omega arith) in
    let f = c.word-place.ensures.0 ∙ kept (a.source + 2 * c.loop-j.j + 1) (omega arith) (omega arith) in
    let g = table_snoc w (a.base + 2 * a.n) c.loop-j.work rs c.loop-j.j c.loop-j.invariant c.put_row.new.work c.word-id.result c.word-place.result c.put_row.ensures in
    subst (λ (z : List (ℕ × ℕ)). Table w c.put_row.new.work (a.base + 2 * a.n) z (c.loop-j.j + 1))
    (ap (λ (k : ℕ). rs ++ ((k, c.word-place.result) ∷ [])) e ∙ ap (λ (k : ℕ). rs ++ ((get_or w (a.source + 2 * c.loop-j.j) 0, k) ∷ [])) f ∙ sym (rows_more w a.source c.loop-j.j)) g
