use mathlib.Core.Path.{sym, ap, ap₂, subst, ◌∙◌}
use mathlib.Core.Logic.{⊎_elim}
use native.Mathlib.Nat.{eq-zero-or-pos}
use Prim.Native.Nat.{◌-◌}
use native.Mathlib.Omega.{arith}
use lib.ListN.{length}
use lib.Seq.{sets}
use Rattle.words.proofs.Lists.{sets_append}
use Rattle.types_rules.specs.Words.{words}
use Rattle.types_cells.specs.Layout.{settled_from}
use Rattle.types_cells.specs.Store.{frozen, tag_at}
use Rattle.types_cells.specs.Settled.{heap, word_at, Reads, Readable}
use Rattle.types_solver.specs.Written.{lead_at, rest, Wrote}
use Rattle.types_solver.proofs.Writer.{split_length, step_area, step_end, rest_end, r_few, r_cell, r_part, m_words, m_length, m_settled, m_readable, r_settled}
use Prim.Native.Nat.{◌<◌}
use Rattle.types_solver.proofs.writing.+write.Goals as goal

pub field-requires : goal.field-requires
field-requires t c = let P = c.requires in let l = r_few _ _ _ c.find-r.ensures _ _ P.model.marked P.made in (omega arith, omega arith)

pub overflow_add-r : goal.overflow_add-r
overflow_add-r t c = let P = c.requires in let l = r_few _ _ _ c.find-r.ensures _ _ P.model.marked P.made in omega arith

pub overflow_sub-word : goal.overflow_sub-word
unfolding word_at
overflow_sub-word t c =
    let P = c.requires in
    let t = sym c.field.ensures.0 ∙ c.if-field-eq-UNKNOWN.true in
    let v = r_settled _ _ _ c.find-r.ensures P.n P.L P.model.marked P.made P.resolved t in
    let e = c.word.ensures.0 in omega arith

pub put_type-requires : goal.put_type-requires
unfolding word_at
put_type-requires t c =
    let P = c.requires in
    let t = sym c.field.ensures.0 ∙ c.if-field-eq-UNKNOWN.true in
    let v = r_settled _ _ _ c.find-r.ensures P.n P.L P.model.marked P.made P.resolved t in
    let e = c.word.ensures.0 in
    let q = P.room in (
      record {
        areas = record { size = P.model.marked.held.size; few = let f = P.few in omega arith };
        readable = subst (λ z. Readable (heap c.args.a.now c.args.d.now) (z - settled_from)) (sym e) (m_readable _ _ _ _ c.find-r.ensures P.n P.L P.σ P.model P.made v);
      },
      omega arith,
    )

pub returns-then-field-eq-UNKNOWN : goal.returns-then-field-eq-UNKNOWN
unfolding word_at
returns-then-field-eq-UNKNOWN t c =
    let e = c.word.ensures.0 in
    let t = sym c.field.ensures.0 ∙ c.if-field-eq-UNKNOWN.true in
    λ n L σ M R l.
    let v = r_settled _ _ _ c.find-r.ensures n L M.marked l R t in
    let D = m_readable _ _ _ _ c.find-r.ensures n L σ M l v in
    let Rd = subst (λ z. Reads (heap c.args.a.now c.args.d.now) (z - settled_from) D.type) (sym e) D.reads in
    subst (λ g. Wrote c.args.out.now c.put_type.new.out c.args.at c.put_type.result (words g)) (sym (m_settled _ _ _ _ c.find-r.ensures n L σ M l v D.type D.reads)) (c.put_type.ensures.is D.type Rd)

pub field-k-requires : goal.field-k-requires
field-k-requires t c = let P = c.requires in let l = r_few _ _ _ c.find-r.ensures _ _ P.model.marked P.made in (omega arith, omega arith)

pub put_lead-m-requires : goal.put_lead-m-requires
put_lead-m-requires t c =
    let P = c.requires in
    let Q = c.find-r.ensures in
    let q = P.room in
    record {
      few = r_few _ _ _ Q _ _ P.model.marked P.made;
      tags = (r_cell _ _ _ Q _ _ P.model.marked P.made).tags;
      some = ⊎_elim (λ z. absurd (c.if-field-eq-UNKNOWN.false (c.field.ensures.0 ∙ z))) (λ p. p) (eq-zero-or-pos _);
      room = omega arith;
    }

pub put_name-m-requires : goal.put_name-m-requires
put_name-m-requires t c =
    let P = c.requires in
    let Q = c.find-r.ensures in
    let e = c.field-k.ensures.0 in
    let f = c.field-k.ensures.1 in
    let p : 0 < tag_at (frozen c.args.a.now) c.find-r.result = ⊎_elim (λ z. absurd (c.if-field-eq-UNKNOWN.false (c.field.ensures.0 ∙ z))) (λ p. p) (eq-zero-or-pos _) in
    let i = (c.loop-j.invariant.1 P.n P.L P.σ P.model P.resolved P.made).1 in
    let w = m_length _ _ _ _ Q _ _ P.σ P.model P.made p _ e in
    let h = c.put_lead-m.ensures.end in
    let q = P.room in
    let t = c.loop-j-test.true in
    (r_few _ _ _ Q _ _ P.model.marked P.made, omega arith, omega arith)

pub part-requires : goal.part-requires
part-requires t c =
    let P = c.requires in
    let f = c.field-k.ensures.1 in
    let t = c.loop-j-test.true in
    let l = r_few _ _ _ c.find-r.ensures _ _ P.model.marked P.made in
    (omega arith, omega arith)

pub write-m-requires : goal.write-m-requires
write-m-requires t c =
    let P = c.requires in
    let Q = c.find-r.ensures in
    let e = c.field-k.ensures.0 in
    let p : 0 < tag_at (frozen c.args.a.now) c.find-r.result = ⊎_elim (λ z. absurd (c.if-field-eq-UNKNOWN.false (c.field.ensures.0 ∙ z))) (λ p. p) (eq-zero-or-pos _) in
    let tk = c.loop-j-test.true in
    let j = c.loop-j.j in
    let w = frozen c.args.a.now in
    let pe = c.part.ensures.0 in
    let b = r_part _ _ _ Q _ _ P.model.marked P.made p P.small _ e j tk c.part.result pe in
    let i = (c.loop-j.invariant.1 P.n P.L P.σ P.model P.resolved P.made).1 in
    let y = m_length _ _ _ _ Q _ _ P.σ P.model P.made p _ e in
    let h = c.put_lead-m.ensures.end in
    let g = c.put_name-m.ensures.end in
    let z = split_length P.σ w c.find-r.result c.field-k.result j tk in
    let v = ap (λ u. length (words (P.σ u))) pe in
    let q = P.room in
    let m = c.decreases in
    let small = P.small in
    (omega (arith, b.1), record { n = P.n; L = P.L; σ = P.σ; model = P.model; resolved = P.resolved; made = b.0; few = P.few; small = omega (arith, b.1); room = omega arith })

pub loop-j-preserved : goal.loop-j-preserved
loop-j-preserved t c =
    let P = c.requires in
    let Q = c.find-r.ensures in
    let e = c.field-k.ensures.0 in
    let p : 0 < tag_at (frozen c.args.a.now) c.find-r.result = ⊎_elim (λ z. absurd (c.if-field-eq-UNKNOWN.false (c.field.ensures.0 ∙ z))) (λ p. p) (eq-zero-or-pos _) in
    let tk = c.loop-j-test.true in
    let j = c.loop-j.j in
    let i = c.loop-j.invariant in
    let w = frozen c.args.a.now in
    let pe = c.part.ensures.0 in (
      c.write-m.auto.out ∙ c.put_name-m.auto.out ∙ i.0,
      λ n L σ M R l.
          let b = r_part _ _ _ Q n L M.marked l p P.small _ e j tk c.part.result pe in
          let D = subst (λ z. Wrote c.put_name-m.new.out c.write-m.new.out c.put_name-m.result c.write-m.result (words (σ z))) pe (c.write-m.ensures n L σ M R b.0) in (
            (i.1 n L σ M R l).0 ∙ step_area σ w c.find-r.result c.field-k.result j tk _ _ _ _ _ _ c.put_name-m.ensures D,
            (i.1 n L σ M R l).1 ∙ step_end σ w c.find-r.result c.field-k.result j tk _ _ _ _ _ _ c.put_name-m.ensures D,
          ),
    )

pub returns : goal.returns
returns t c =
    let i = c.loop-j.invariant.1 in
    let w = frozen c.args.a.now in
    let r = c.find-r.result in
    let k = c.field-k.result in
    let pl = c.put_lead-m.ensures in
    let p : 0 < tag_at (frozen c.args.a.now) c.find-r.result = ⊎_elim (λ z. absurd (c.if-field-eq-UNKNOWN.false (c.field.ensures.0 ∙ z))) (λ p. p) (eq-zero-or-pos _) in
    λ n L σ M R l.
    let u = m_words _ _ _ _ c.find-r.ensures n L σ M l p _ c.field-k.ensures.0 in
    let y = m_length _ _ _ _ c.find-r.ensures n L σ M l p _ c.field-k.ensures.0 in
    let z = rest_end σ w r k c.loop-j.j c.loop-j-test.false in
    let f = ap length z in
    let g = (i n L σ M R l).1 in
    let h = pl.end in
    record {
      area = sym (ap (sets c.args.out.now c.args.at) u ∙ sets_append c.args.out.now c.args.at (lead_at w r) (rest σ w r 0 k)
          ∙ ap₂ (λ a b. sets a b (rest σ w r 0 k)) (sym pl.area) (sym h) ∙ (i n L σ M R l).0 ∙ ap (sets c.loop-j.out c.loop-j.m) z);
      end = omega arith;
    }
