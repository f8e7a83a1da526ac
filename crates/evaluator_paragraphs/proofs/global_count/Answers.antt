use Prim.Native.Nat.{ℕ, ◌-◌}
use lib.ListN.{length, get_or}
use lib.IntN.{pos}
use Rattle.values.specs.Value as Value
use Rattle.evaluator_paragraphs.proofs.StepLaws.{given_globals, axiom_text, axiom_globals, abbreviation_globals, other_globals, names_counted}
use mathlib.Core.Path.{sym, ap, ◌∙◌}
use mathlib.Core.List.{List}
use native.Mathlib.Omega.{arith}
use Rattle.evaluator_paragraphs.proofs.global_count.Goals as goal

pub text_count-requires : goal.text_count-requires
text_count-requires c =
    let e = c.word.ensures.0 ∙ ap (λ (y : List ℕ). get_or y 1 0) c.part-w.ensures in
    axiom_text c.args.doc.now c.args.k c.requires ((sym (c.word-q.ensures.0 ∙ ap (λ (y : List ℕ). get_or y 0 0) c.part-w.ensures)) ∙ c.in-3.is) _ e (λ i. Value.int (pos 0))

pub returns-in-2 : goal.returns-in-2
returns-in-2 c = ap (λ (n : ℕ). n - 1) (ap length c.part-w.ensures) ∙ sym (given_globals c.args.doc.now c.args.k c.requires (λ i. Value.int (pos 0)) c.args.doc.now c.args.doc.now c.args.doc.now 0 ((sym (c.word-q.ensures.0 ∙ ap (λ (y : List ℕ). get_or y 0 0) c.part-w.ensures)) ∙ c.in-2.is))

pub returns-in-3 : goal.returns-in-3
returns-in-3 c =
    let e = c.word.ensures.0 ∙ ap (λ (y : List ℕ). get_or y 1 0) c.part-w.ensures in
    c.text_count.ensures.0 ∙ names_counted _ ∙ sym (axiom_globals c.args.doc.now c.args.k c.requires ((sym (c.word-q.ensures.0 ∙ ap (λ (y : List ℕ). get_or y 0 0) c.part-w.ensures)) ∙ c.in-3.is) _ e (λ i. Value.int (pos 0)))

pub returns-in-5 : goal.returns-in-5
returns-in-5 c = sym (abbreviation_globals c.args.doc.now c.args.k c.requires (λ i. Value.int (pos 0)) c.args.doc.now c.args.doc.now c.args.doc.now 0 ((sym (c.word-q.ensures.0 ∙ ap (λ (y : List ℕ). get_or y 0 0) c.part-w.ensures)) ∙ c.in-5.is))

pub returns-in_default : goal.returns-in_default
returns-in_default c =
    let e = c.word-q.ensures.0 ∙ ap (λ (y : List ℕ). get_or y 0 0) c.part-w.ensures in
    sym (other_globals c.args.doc.now c.args.k c.requires (λ z. omega (arith, e, z)) (λ z. omega (arith, e, z)) (λ z. omega (arith, e, z)))
