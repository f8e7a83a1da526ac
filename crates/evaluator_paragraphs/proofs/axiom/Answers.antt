use Prim.Native.Nat.{ℕ}
use lib.ListN.{get_or}
use Rattle.reader_rules.specs.Nodes.{operand_at}
use Rattle.evaluator_scope.specs.Named.{said}
use Rattle.evaluator_scope.proofs.BlockLaws.{scoped_same}
use Rattle.evaluator_operations.proofs.ToldLaws.{exit_told}
use Rattle.evaluator_paragraphs.proofs.StepLaws.{axiom_text, axiom_names, axiom_globals, axiom_pred, axiom_stops_lem, axiom_goes, axiom_fails_lem, names_counted}
use mathlib.Core.Path.{◌≡◌, ap, ◌∙◌}
use mathlib.Core.List.{List}
use native.Mathlib.Omega.{arith}
use Rattle.evaluator_paragraphs.proofs.axiom.Goals as goal

pub test_lines-requires : goal.test_lines-requires
test_lines-requires c =
    let d = c.args.doc.now in
    let st = c.args.state.now in
    let k = c.args.k in
    let e : c.word-t.result ≡ operand_at d k 1 = c.word-t.ensures.0 ∙ ap (λ (y : List ℕ). get_or y 1 0) c.requires.5 in
    let h = c.requires.1 in
    let q = c.requires.2 in
    let a = c.word-t.result in
    let eu = c.part-u.ensures in
    let r = c.requires.3 in
    let f = r.few in
    (c.requires.0, axiom_text d k h q a e (said d st), eu, omega arith, omega arith, record { few = omega arith; wide = r.wide }, rw eu (rw (axiom_names d k h q a e (said d st)) at c.requires.4))

pub returns-in_err-y : goal.returns-in_err-y
returns-in_err-y c =
    let d = c.args.doc.now in
    let st = c.args.state.now in
    let k = c.args.k in
    let e : c.word-t.result ≡ operand_at d k 1 = c.word-t.ensures.0 ∙ ap (λ (y : List ℕ). get_or y 1 0) c.requires.5 in
    let h = c.requires.1 in
    let q = c.requires.2 in
    let a = c.word-t.result in
    let eu = c.part-u.ensures in
    λ scope g. exit_told c.from_residual.ensures.1 (axiom_stops_lem d k h q a e (said d st) scope (rw eu at (c.in_err-y.ensures.told scope g)))

pub put_lines-requires : goal.put_lines-requires
put_lines-requires c =
    let d = c.args.doc.now in
    let st = c.args.state.now in
    let k = c.args.k in
    let e : c.word-t.result ≡ operand_at d k 1 = c.word-t.ensures.0 ∙ ap (λ (y : List ℕ). get_or y 1 0) c.requires.5 in
    let h = c.requires.1 in
    let q = c.requires.2 in
    let a = c.word-t.result in
    let eu = c.part-u.ensures in
    let r = c.requires.3 in
    let f = r.few in
    let w = r.wide in
    (c.requires.0, axiom_text d k h q a e (said d st), eu, omega arith, omega arith, record { few = rw eu (omega (arith, f, axiom_globals d k h q a e (said d st))); wide = omega arith }, rw eu (rw (axiom_names d k h q a e (said d st)) at c.requires.4))

pub text_count-requires : goal.text_count-requires
text_count-requires c =
    let d = c.args.doc.now in
    let st = c.args.state.now in
    let k = c.args.k in
    let e : c.word-t.result ≡ operand_at d k 1 = c.word-t.ensures.0 ∙ ap (λ (y : List ℕ). get_or y 1 0) c.requires.5 in
    let h = c.requires.1 in
    let q = c.requires.2 in
    let a = c.word-t.result in
    let eu = c.part-u.ensures in
    axiom_text d k h q a e (said d st)

pub demand-requires : goal.demand-requires
demand-requires c =
    let d = c.args.doc.now in
    let st = c.args.state.now in
    let k = c.args.k in
    let e : c.word-t.result ≡ operand_at d k 1 = c.word-t.ensures.0 ∙ ap (λ (y : List ℕ). get_or y 1 0) c.requires.5 in
    let h = c.requires.1 in
    let q = c.requires.2 in
    let a = c.word-t.result in
    let eu = c.part-u.ensures in
    let r = c.requires.3 in
    let f = r.few in
    let w = r.wide in
    let o = axiom_pred d k h q a e (said d st) in
    (rw (c.word.ensures.0, eu) (record { at = o.at; room = omega (arith, f, c.text_count.ensures.1); wide = omega arith }), h.small)

pub returns-in-Onward : goal.returns-in-Onward
returns-in-Onward c =
    let d = c.args.doc.now in
    let st = c.args.state.now in
    let k = c.args.k in
    let e : c.word-t.result ≡ operand_at d k 1 = c.word-t.ensures.0 ∙ ap (λ (y : List ℕ). get_or y 1 0) c.requires.5 in
    let h = c.requires.1 in
    let q = c.requires.2 in
    let a = c.word-t.result in
    let eu = c.part-u.ensures in
    let z = axiom_globals d k h q a e (said d st) in
    let m = c.text_count.ensures.0 ∙ names_counted _ in
    λ scope g. rw z (axiom_goes d k h q a e (said d st) scope (rw c.in-Onward.is at (rw eu at (c.in_ok-y.ensures.told scope g))) (rw (c.word.ensures.0, eu, m) at (c.demand.ensures _ (rw (eu, ← m) at (c.put_lines.ensures scope (scoped_same st _ _ c.args.n c.in_ok-y.ensures.kept g))))))

pub returns-in-Failed : goal.returns-in-Failed
returns-in-Failed c =
    let d = c.args.doc.now in
    let st = c.args.state.now in
    let k = c.args.k in
    let e : c.word-t.result ≡ operand_at d k 1 = c.word-t.ensures.0 ∙ ap (λ (y : List ℕ). get_or y 1 0) c.requires.5 in
    let h = c.requires.1 in
    let q = c.requires.2 in
    let a = c.word-t.result in
    let eu = c.part-u.ensures in
    λ scope g. axiom_fails_lem d k h q a e (said d st) scope (rw c.in-Failed.is at (rw eu at (c.in_ok-y.ensures.told scope g)))
