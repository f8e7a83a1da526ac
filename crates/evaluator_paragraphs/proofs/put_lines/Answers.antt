use lib.ListN.{length, get_or}
use Rattle.layout.specs.Layout.{part}
use Rattle.reader_rules.specs.Nodes.{kind_at, operand_at}
use Rattle.evaluator_scope.specs.Named.{said}
use Rattle.states.proofs.NameLaws.{decl_words}
use Rattle.evaluator_paragraphs.proofs.StepLaws.{put_over, this_line, line_kind, few_line, include_count, decl_count, put_include, put_decl, declares_own, declares_rest, declares_skip}
use mathlib.Core.Path.{◌≡◌, sym, ap, ◌∙◌}
use mathlib.Core.List.{List}
use native.Mathlib.Omega.{arith}
use Prim.Native.Nat.{ℕ, ◌≤◌, ◌<◌}
use Rattle.evaluator_paragraphs.proofs.put_lines.Goals as goal
use Rattle.evaluator_paragraphs.proofs.put_lines.Goals.{then-word-ne-INCLUDE, else-word-ne-INCLUDE}

pub put_names-requires : goal.put_names-requires
put_names-requires c =
    let d = c.args.doc.now in
    let st = c.args.state.now in
    let ti = c.args.t in
    let eu = c.requires.2 in
    let v = c.word.result in
    let xv : v ≡ operand_at d ti c.loop-j.j = c.word.ensures.0 ∙ ap (λ (z : List ℕ). get_or z c.loop-j.j 0) eu in
    let p : 2 ≤ c.loop-j.j = omega (arith, c.requires.3) in
    let q : c.loop-j.j < length (part d ti) = rw eu at c.loop-j-test.true in
    let ep = c.part-x.ensures in
    let k11 = line_kind d ti (said d st) c.requires.1 c.loop-j.j p q v xv (λ (z : kind_at d v ≡ 12). c.if-word-ne-INCLUDE.true (c.word-in-loop-j.ensures.0 ∙ ap (λ (y : List ℕ). get_or y 0 0) ep ∙ z)) in
    let few = c.loop-j.invariant.1.few in
    let wide = c.loop-j.invariant.1.wide in
    (c.requires.0, rw ep (declares_own d ti (said d st) c.requires.1 c.loop-j.j p q v xv k11 c.loop-j.invariant.2), rw ep (omega (arith, few, decl_count d ti (said d st) c.requires.1 c.loop-j.j p q v xv k11)), wide, rw ep (few_line d v (this_line d ti (said d st) c.requires.1 c.loop-j.j p q v xv) k11))

pub overflow_sub-top : goal.overflow_sub-top
overflow_sub-top c =
    let d = c.args.doc.now in
    let st = c.args.state.now in
    let ti = c.args.t in
    let eu = c.requires.2 in
    let v = c.word.result in
    let xv : v ≡ operand_at d ti c.loop-j.j = c.word.ensures.0 ∙ ap (λ (z : List ℕ). get_or z c.loop-j.j 0) eu in
    let p : 2 ≤ c.loop-j.j = omega (arith, c.requires.3) in
    let q : c.loop-j.j < length (part d ti) = rw eu at c.loop-j-test.true in
    let ep = c.part-x.ensures in
    let k11 = line_kind d ti (said d st) c.requires.1 c.loop-j.j p q v xv (λ (z : kind_at d v ≡ 12). c.if-word-ne-INCLUDE.true (c.word-in-loop-j.ensures.0 ∙ ap (λ (y : List ℕ). get_or y 0 0) ep ∙ z)) in
    omega (arith, ap length ep, decl_words d v (this_line d ti (said d st) c.requires.1 c.loop-j.j p q v xv) k11)

pub loop-j-preserved : goal.loop-j-preserved
loop-j-preserved c =
    let d = c.args.doc.now in
    let st = c.args.state.now in
    let ti = c.args.t in
    let eu = c.requires.2 in
    let v = c.word.result in
    let xv : v ≡ operand_at d ti c.loop-j.j = c.word.ensures.0 ∙ ap (λ (z : List ℕ). get_or z c.loop-j.j 0) eu in
    let p : 2 ≤ c.loop-j.j = omega (arith, c.requires.3) in
    let q : c.loop-j.j < length (part d ti) = rw eu at c.loop-j-test.true in
    let ep = c.part-x.ensures in
    let few = c.loop-j.invariant.1.few in
    let wide = c.loop-j.invariant.1.wide in
    elim c.if-word-ne-INCLUDE.branch [
      | then-word-ne-INCLUDE w ↦
          let k11 = line_kind d ti (said d st) c.requires.1 c.loop-j.j p q v xv (λ (z : kind_at d v ≡ 12). w.if-word-ne-INCLUDE.true (c.word-in-loop-j.ensures.0 ∙ ap (λ (y : List ℕ). get_or y 0 0) ep ∙ z)) in
          rw (w.work-is, w.top-is) (
            w.put_names.auto.work ∙ c.loop-j.invariant.0,
            record { few = rw ep (omega (arith, few, decl_count d ti (said d st) c.requires.1 c.loop-j.j p q v xv k11)); wide = omega (arith, wide, w.put_names.auto.work) },
            declares_rest d ti (said d st) c.requires.1 c.loop-j.j p q v xv k11 c.loop-j.invariant.2,
            λ x m. c.loop-j.invariant.3 x (put_decl d ti (said d st) c.requires.1 c.loop-j.j p q v xv st _ _ _ c.loop-j.top k11 (rw ep at w.put_names.ensures) (rw ep at m)),
          )
      | else-word-ne-INCLUDE w ↦
          let k12 = sym (c.word-in-loop-j.ensures.0 ∙ ap (λ (y : List ℕ). get_or y 0 0) ep) ∙ w.if-word-ne-INCLUDE.false in
          rw (w.work-is, w.top-is) (
            c.loop-j.invariant.0,
            record { few = omega (arith, few, include_count d ti (said d st) c.requires.1 c.loop-j.j p q v xv k12); wide = wide },
            declares_skip d ti (said d st) c.requires.1 c.loop-j.j p q v xv k12 c.loop-j.invariant.2,
            λ x m. c.loop-j.invariant.3 x (put_include d ti (said d st) c.requires.1 c.loop-j.j p q v xv st _ _ c.loop-j.top k12 m),
          )
    ]

pub returns : goal.returns
returns c =
    let d = c.args.doc.now in
    let st = c.args.state.now in
    let over = rw c.requires.2 at c.loop-j-test.false in
    rw c.requires.2 (c.loop-j.invariant.3 _ (put_over d c.args.t (said d st) st _ c.loop-j.top c.loop-j.j _ over))
