use Rattle.types_cells.specs.Store.{frozen, tag_at}
use mathlib.Core.Path.{◌≡◌, refl, sym, ◌∙◌}
use mathlib.Core.Bool.{false}
use borrow.Author.Tests.{eqb-true, eqb-false}
use Rattle.types_unifier.proofs.ComparingLaws.{tag_no, same_arg, other_arg, same_ids, other_ids}
use Rattle.types_rules.proofs.Terms.{bool_no}
use Rattle.types_unifier.proofs.unification.same_head.Goals as goal

pub returns-then-t-field : goal.returns-then-t-field
returns-then-t-field c = record { holds = λ e. absurd (bool_no false e refl); fails = λ e. tag_no _ _ _ c.requires (λ q. c.if-t-field.true (c.field-t.ensures.0 ∙ q ∙ sym c.field.ensures.0)) }

pub returns-then-t-eq-BINDING : goal.returns-then-t-eq-BINDING
returns-then-t-eq-BINDING c =
    let p = c.requires in
    let t = sym c.field-t.ensures.0 ∙ c.if-t-field.false ∙ c.field.ensures.0 in
    let k = sym c.field-k.ensures.0 ∙ c.if-k-field.false ∙ c.field-2.ensures.0 in
    let five = sym c.field-t.ensures.0 ∙ c.if-t-eq-BINDING.true in
    let w = c.same_run.ensures in
    let eqs = rw (c.field-p.ensures.0, c.field-q.ensures.0, c.field-k.ensures.0) at w in
    record { holds = λ e. same_ids _ _ _ p t k five (eqs.holds e); fails = λ e. other_ids _ _ _ p t k five (eqs.fails e) }

pub returns : goal.returns
returns c =
    let p = c.requires in
    let t = sym c.field-t.ensures.0 ∙ c.if-t-field.false ∙ c.field.ensures.0 in
    let k = sym c.field-k.ensures.0 ∙ c.if-k-field.false ∙ c.field-2.ensures.0 in
    let five : (tag_at (frozen c.args.a.now) c.args.x ≡ 5 → ⊥) = λ q. c.if-t-eq-BINDING.false (c.field-t.ensures.0 ∙ q) in
    let u = c.field-p.ensures.0 in
    let v = c.field-q.ensures.0 in
    record {
      holds = λ e. same_arg _ _ _ p t k five (sym u ∙ eqb-true _ _ e ∙ v);
      fails = λ e. other_arg _ _ _ p t k five (λ q. eqb-false _ _ e (u ∙ q ∙ sym v));
    }
