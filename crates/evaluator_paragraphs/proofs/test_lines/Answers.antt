use lib.ListN.{length, get_or}
use Rattle.layout.specs.Layout.{part}
use Rattle.reader_rules.specs.Nodes.{kind_at, operand_at}
use Rattle.evaluator_scope.specs.Named.{said}
use Rattle.evaluator_scope.proofs.BlockLaws.{scoped_same}
use Rattle.evaluator_operations.proofs.ToldLaws.{exit_told}
use Rattle.evaluator_paragraphs.proofs.StepLaws.{lines_over, this_line, line_kind, line_lower, few_line, include_stop, decl_stop, decl_go, decl_failed, declares_own, declares_rest}
use mathlib.Core.Path.{◌≡◌, sym, ap, ◌∙◌}
use mathlib.Core.List.{List}
use native.Mathlib.Omega.{arith}
use Prim.Native.Nat.{ℕ, ◌≤◌, ◌<◌}
use Rattle.evaluator_paragraphs.proofs.test_lines.Goals as goal

pub refusal-requires : goal.refusal-requires
refusal-requires c =
    let d = c.args.doc.now in
    let st = c.args.state.now in
    let ti = c.args.t in
    let eu = c.requires.2 in
    let v = c.word-v.result in
    let xv : v ≡ operand_at d ti c.loop-j.j = c.word-v.ensures.0 ∙ ap (λ (z : List ℕ). get_or z c.loop-j.j 0) eu in
    let p : 2 ≤ c.loop-j.j = omega (arith, c.requires.3) in
    let q : c.loop-j.j < length (part d ti) = rw eu at c.loop-j-test.true in
    (this_line d ti (said d st) c.requires.1 c.loop-j.j p q v xv).small

pub returns-then-word-eq-INCLUDE : goal.returns-then-word-eq-INCLUDE
returns-then-word-eq-INCLUDE c =
    let d = c.args.doc.now in
    let st = c.args.state.now in
    let ti = c.args.t in
    let eu = c.requires.2 in
    let v = c.word-v.result in
    let xv : v ≡ operand_at d ti c.loop-j.j = c.word-v.ensures.0 ∙ ap (λ (z : List ℕ). get_or z c.loop-j.j 0) eu in
    let p : 2 ≤ c.loop-j.j = omega (arith, c.requires.3) in
    let q : c.loop-j.j < length (part d ti) = rw eu at c.loop-j-test.true in
    let k12 = sym (c.word.ensures.0 ∙ ap (λ (y : List ℕ). get_or y 0 0) c.part-x.ensures) ∙ c.if-word-eq-INCLUDE.true in
    record { kept = c.loop-j.invariant.1; told = λ scope g. rw eu (c.loop-j.invariant.3 scope g _ (include_stop d ti (said d st) c.requires.1 c.loop-j.j p q v xv scope k12 c.refusal.ensures)) }

pub test_names-requires : goal.test_names-requires
test_names-requires c =
    let d = c.args.doc.now in
    let st = c.args.state.now in
    let ti = c.args.t in
    let eu = c.requires.2 in
    let v = c.word-v.result in
    let xv : v ≡ operand_at d ti c.loop-j.j = c.word-v.ensures.0 ∙ ap (λ (z : List ℕ). get_or z c.loop-j.j 0) eu in
    let p : 2 ≤ c.loop-j.j = omega (arith, c.requires.3) in
    let q : c.loop-j.j < length (part d ti) = rw eu at c.loop-j-test.true in
    let ep = c.part-x.ensures in
    let k11 = line_kind d ti (said d st) c.requires.1 c.loop-j.j p q v xv (λ (z : kind_at d v ≡ 12). c.if-word-eq-INCLUDE.false (c.word.ensures.0 ∙ ap (λ (y : List ℕ). get_or y 0 0) ep ∙ z)) in
    let a = this_line d ti (said d st) c.requires.1 c.loop-j.j p q v xv in
    let o = line_lower d ti (said d st) c.requires.1 c.loop-j.j p q v xv k11 in
    let room = c.requires.5.few in
    let wide = c.requires.5.wide in
    (c.requires.0, rw ep (record { at = o.at; room = omega arith; wide = omega (arith, wide, c.loop-j.invariant.0) }), rw ep (declares_own d ti (said d st) c.requires.1 c.loop-j.j p q v xv k11 c.loop-j.invariant.2), a.small, rw ep (few_line d v a k11))

pub returns-in_err-y : goal.returns-in_err-y
returns-in_err-y c =
    let d = c.args.doc.now in
    let st = c.args.state.now in
    let ti = c.args.t in
    let eu = c.requires.2 in
    let v = c.word-v.result in
    let xv : v ≡ operand_at d ti c.loop-j.j = c.word-v.ensures.0 ∙ ap (λ (z : List ℕ). get_or z c.loop-j.j 0) eu in
    let p : 2 ≤ c.loop-j.j = omega (arith, c.requires.3) in
    let q : c.loop-j.j < length (part d ti) = rw eu at c.loop-j-test.true in
    let ep = c.part-x.ensures in
    let k11 = line_kind d ti (said d st) c.requires.1 c.loop-j.j p q v xv (λ (z : kind_at d v ≡ 12). c.if-word-eq-INCLUDE.false (c.word.ensures.0 ∙ ap (λ (y : List ℕ). get_or y 0 0) ep ∙ z)) in
    let kept = c.loop-j.invariant.1 in
    record {
      kept = c.in_err-y.ensures.kept ∙ kept;
      told = λ scope g own. exit_told c.from_residual.ensures.1 (rw eu (c.loop-j.invariant.3 scope g _ (decl_stop d ti (said d st) c.requires.1 c.loop-j.j p q v xv k11 scope (rw ep at (c.in_err-y.ensures.told scope (scoped_same st _ _ c.args.n kept g)))) own));
    }

pub returns-in-Failed : goal.returns-in-Failed
returns-in-Failed c =
    let d = c.args.doc.now in
    let st = c.args.state.now in
    let ti = c.args.t in
    let eu = c.requires.2 in
    let v = c.word-v.result in
    let xv : v ≡ operand_at d ti c.loop-j.j = c.word-v.ensures.0 ∙ ap (λ (z : List ℕ). get_or z c.loop-j.j 0) eu in
    let p : 2 ≤ c.loop-j.j = omega (arith, c.requires.3) in
    let q : c.loop-j.j < length (part d ti) = rw eu at c.loop-j-test.true in
    let ep = c.part-x.ensures in
    let k11 = line_kind d ti (said d st) c.requires.1 c.loop-j.j p q v xv (λ (z : kind_at d v ≡ 12). c.if-word-eq-INCLUDE.false (c.word.ensures.0 ∙ ap (λ (y : List ℕ). get_or y 0 0) ep ∙ z)) in
    let kept = c.loop-j.invariant.1 in
    record {
      kept = c.in_ok-y.ensures.kept ∙ kept;
      told = λ scope g. rw eu (c.loop-j.invariant.3 scope g _ (decl_failed d ti (said d st) c.requires.1 c.loop-j.j p q v xv k11 scope (rw c.in-Failed.is at (rw ep at (c.in_ok-y.ensures.told scope (scoped_same st _ _ c.args.n kept g))))));
    }

pub loop-j-preserved : goal.loop-j-preserved
loop-j-preserved c =
    let d = c.args.doc.now in
    let st = c.args.state.now in
    let ti = c.args.t in
    let eu = c.requires.2 in
    let v = c.word-v.result in
    let xv : v ≡ operand_at d ti c.loop-j.j = c.word-v.ensures.0 ∙ ap (λ (z : List ℕ). get_or z c.loop-j.j 0) eu in
    let p : 2 ≤ c.loop-j.j = omega (arith, c.requires.3) in
    let q : c.loop-j.j < length (part d ti) = rw eu at c.loop-j-test.true in
    let ep = c.part-x.ensures in
    let k11 = line_kind d ti (said d st) c.requires.1 c.loop-j.j p q v xv (λ (z : kind_at d v ≡ 12). c.if-word-eq-INCLUDE.false (c.word.ensures.0 ∙ ap (λ (y : List ℕ). get_or y 0 0) ep ∙ z)) in
    let kept = c.loop-j.invariant.1 in (
      c.test_names.auto.work ∙ c.loop-j.invariant.0,
      c.in_ok-y.ensures.kept ∙ kept,
      declares_rest d ti (said d st) c.requires.1 c.loop-j.j p q v xv k11 c.loop-j.invariant.2,
      λ scope g r m. c.loop-j.invariant.3 scope g r (decl_go d ti (said d st) c.requires.1 c.loop-j.j p q v xv k11 scope (rw c.in-Onward.is at (rw ep at (c.in_ok-y.ensures.told scope (scoped_same st _ _ c.args.n kept g)))) m),
    )

pub returns : goal.returns
returns c =
    let d = c.args.doc.now in
    let st = c.args.state.now in
    let over = rw c.requires.2 at c.loop-j-test.false in
    record { kept = c.loop-j.invariant.1; told = λ scope g. rw c.requires.2 (c.loop-j.invariant.3 scope g _ (lines_over d c.args.t (said d st) scope c.loop-j.j _ over)) }
