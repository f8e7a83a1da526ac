use lib.ListN.{length, get_or}
use Prim.Native.Nat.{ℕ, ◌<◌}
use mathlib.Core.Path.{◌≡◌, ap, ◌∙◌}
use mathlib.Core.List.{List}
use native.Mathlib.Omega.{arith}
use Rattle.layout.specs.Layout.{count, part}
use Rattle.reader_rules.specs.Nodes.{operand_at}
use Rattle.evaluator_scope.specs.Named.{said}
use Rattle.evaluator_operations.proofs.ToldLaws.{exit_told}
use Rattle.evaluator_paragraphs.proofs.StepLaws.{run_over, this_paragraph_lem, global_sum, declares_this, declares_others, run_stops, run_goes, run_fails}
use Rattle.evaluator_paragraphs.proofs.run_from.Goals as goal

pub paragraph-requires : goal.paragraph-requires
paragraph-requires c =
    let d = c.args.doc.now in
    let f = said d c.args.state.now in
    let lw = ap length c.requires.1 in
    let x : c.word-k.result ≡ operand_at d (count d) c.loop-j.j = c.word-k.ensures.0 ∙ ap (λ (z : List ℕ). get_or z c.loop-j.j 0) c.requires.1 in
    let q : c.loop-j.j < length (part d (count d)) = omega (arith, lw, c.loop-j-test.true) in
    let r = c.loop-j.invariant.1 in
    (c.requires.0, this_paragraph_lem d f c.loop-j.j c.requires.0.read (omega (arith, c.requires.2)) q _ x, record { few = omega (arith, r.few, global_sum d f c.loop-j.j c.requires.0.read (omega (arith, c.requires.2)) q _ x); wide = r.wide }, declares_this d f c.loop-j.j c.requires.0.read (omega (arith, c.requires.2)) q _ x c.loop-j.invariant.2)

pub returns-in_err-y : goal.returns-in_err-y
returns-in_err-y c =
    let d = c.args.doc.now in
    let f = said d c.args.state.now in
    let lw = ap length c.requires.1 in
    let x : c.word-k.result ≡ operand_at d (count d) c.loop-j.j = c.word-k.ensures.0 ∙ ap (λ (z : List ℕ). get_or z c.loop-j.j 0) c.requires.1 in
    let q : c.loop-j.j < length (part d (count d)) = omega (arith, lw, c.loop-j-test.true) in
    λ scope g. exit_told c.from_residual.ensures.1 (rw lw (c.loop-j.invariant.3.run _ (λ own h. run_stops d f c.loop-j.j c.requires.0.read (omega (arith, c.requires.2)) q _ x own (c.in_err-y.ensures own h)) scope g))

pub global_count-b-requires : goal.global_count-b-requires
global_count-b-requires c =
    let d = c.args.doc.now in
    let f = said d c.args.state.now in
    let lw = ap length c.requires.1 in
    let x : c.word-k.result ≡ operand_at d (count d) c.loop-j.j = c.word-k.ensures.0 ∙ ap (λ (z : List ℕ). get_or z c.loop-j.j 0) c.requires.1 in
    let q : c.loop-j.j < length (part d (count d)) = omega (arith, lw, c.loop-j-test.true) in
    this_paragraph_lem d f c.loop-j.j c.requires.0.read (omega (arith, c.requires.2)) q _ x

pub overflow_add-b : goal.overflow_add-b
overflow_add-b c =
    let d = c.args.doc.now in
    let f = said d c.args.state.now in
    let lw = ap length c.requires.1 in
    let x : c.word-k.result ≡ operand_at d (count d) c.loop-j.j = c.word-k.ensures.0 ∙ ap (λ (z : List ℕ). get_or z c.loop-j.j 0) c.requires.1 in
    let q : c.loop-j.j < length (part d (count d)) = omega (arith, lw, c.loop-j-test.true) in
    omega (arith, c.loop-j.invariant.1.few, c.global_count-b.ensures, global_sum d f c.loop-j.j c.requires.0.read (omega (arith, c.requires.2)) q _ x)

pub loop-j-preserved : goal.loop-j-preserved
loop-j-preserved c =
    let d = c.args.doc.now in
    let f = said d c.args.state.now in
    let lw = ap length c.requires.1 in
    let x : c.word-k.result ≡ operand_at d (count d) c.loop-j.j = c.word-k.ensures.0 ∙ ap (λ (z : List ℕ). get_or z c.loop-j.j 0) c.requires.1 in
    let q : c.loop-j.j < length (part d (count d)) = omega (arith, lw, c.loop-j-test.true) in
    let r = c.loop-j.invariant.1 in
    let k = c.paragraph.auto.work in
    (k ∙ c.loop-j.invariant.0, record { few = omega (arith, r.few, c.global_count-b.ensures, global_sum d f c.loop-j.j c.requires.0.read (omega (arith, c.requires.2)) q _ x); wide = omega (arith, r.wide, k) }, declares_others d f c.loop-j.j c.requires.0.read (omega (arith, c.requires.2)) q _ x c.loop-j.invariant.2, record { run = λ r' h. c.loop-j.invariant.3.run r' (λ own g. run_goes d f c.loop-j.j c.requires.0.read (omega (arith, c.requires.2)) q _ x own (rw c.in-Onward.is at (c.in_ok-y.ensures own g)) (λ own' g'. h own' (rw c.global_count-b.ensures g'))) })

pub returns-in-Failed : goal.returns-in-Failed
returns-in-Failed c =
    let d = c.args.doc.now in
    let f = said d c.args.state.now in
    let lw = ap length c.requires.1 in
    let x : c.word-k.result ≡ operand_at d (count d) c.loop-j.j = c.word-k.ensures.0 ∙ ap (λ (z : List ℕ). get_or z c.loop-j.j 0) c.requires.1 in
    let q : c.loop-j.j < length (part d (count d)) = omega (arith, lw, c.loop-j-test.true) in
    λ scope g. rw lw (c.loop-j.invariant.3.run _ (λ own h. run_fails d f c.loop-j.j c.requires.0.read (omega (arith, c.requires.2)) q _ x own (rw c.in-Failed.is at (c.in_ok-y.ensures own h))) scope g)

pub returns : goal.returns
returns c =
    let d = c.args.doc.now in
    let f = said d c.args.state.now in
    let lw = ap length c.requires.1 in
    λ scope g. rw lw (c.loop-j.invariant.3.run _ (λ own h. run_over d f c.loop-j.j own (omega (arith, lw, c.loop-j-test.false))) scope g)
