use mathlib.Core.Path.{sym, ap, ap₂, subst, ◌∙◌}
use mathlib.Core.List.{[], ◌∷◌}
use Prim.Native.Nat.{◌+◌}
use lib.ListN.{set}
use Rattle.types_cells.specs.Store.{frozen}
use Rattle.types_solver.specs.Written.{Wrote, lead_at}
use Rattle.types_solver.proofs.Writer.{wrote_one, wrote_two, lead_one, lead_three, lead_five, lead_other}
use Rattle.types_solver.proofs.writing.put_lead.Goals as goal

pub returns-then-t-eq-INTEGERS : goal.returns-then-t-eq-INTEGERS
returns-then-t-eq-INTEGERS c =
    let w = frozen c.args.a.now in
    let f = c.field-t.ensures.0 in
    subst (λ z. Wrote c.args.out.now z c.args.at (c.args.at + 1) (lead_at w c.args.r)) (sym c.store.ensures)
    (wrote_one _ _ _ _ (lead_one w c.args.r (sym f ∙ c.if-t-eq-INTEGERS.true) ∙ ap (λ z. z ∷ []) (sym f)))

pub returns-then-t-eq-POWER : goal.returns-then-t-eq-POWER
returns-then-t-eq-POWER c =
    let w = frozen c.args.a.now in
    let f = c.field-t.ensures.0 in
    subst (λ z. Wrote c.args.out.now z c.args.at (c.args.at + 1) (lead_at w c.args.r)) (sym c.store.ensures)
    (wrote_one _ _ _ _ (lead_three w c.args.r (sym f ∙ c.if-t-eq-POWER.true) ∙ ap (λ z. z ∷ []) (sym f)))

pub returns-then-t-eq-BINDING : goal.returns-then-t-eq-BINDING
returns-then-t-eq-BINDING c =
    let w = frozen c.args.a.now in
    let f = c.field-t.ensures.0 in
    let g = c.field.ensures.0 in
    subst (λ z. Wrote c.args.out.now z c.args.at (c.args.at + 2) (lead_at w c.args.r))
    (sym (c.store-then-t-eq-BINDING.ensures ∙ ap (λ z. set z (c.args.at + 1) c.field.result) c.store.ensures))
    (wrote_two _ _ _ _ _ (lead_five w c.args.r (sym f ∙ c.if-t-eq-BINDING.true) ∙ ap₂ (λ u v. u ∷ v ∷ []) (sym f) (sym g)))

pub returns : goal.returns
returns c =
    let w = frozen c.args.a.now in
    let f = c.field-t.ensures.0 in
    let g = c.field-2.ensures.0 in
    subst (λ z. Wrote c.args.out.now z c.args.at (c.args.at + 2) (lead_at w c.args.r))
    (sym (c.store-2.ensures ∙ ap (λ z. set z (c.args.at + 1) c.field-2.result) c.store.ensures))
    (wrote_two _ _ _ _ _ (lead_other w c.args.r c.requires.some c.requires.tags (λ e. c.if-t-eq-INTEGERS.false (f ∙ e)) (λ e. c.if-t-eq-POWER.false (f ∙ e)) (λ e. c.if-t-eq-BINDING.false (f ∙ e))
    ∙ ap₂ (λ u v. u ∷ v ∷ []) (sym f) (sym g)))
