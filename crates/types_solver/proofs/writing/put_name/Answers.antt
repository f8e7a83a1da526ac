use mathlib.Core.Path.{sym, ap, subst, ◌∙◌}
use mathlib.Core.List.{[], ◌∷◌}
use Prim.Native.Nat.{◌+◌}
use lib.ListN.{get_or}
use Rattle.types_cells.specs.Store.{frozen}
use Rattle.types_solver.specs.Written.{Wrote, name_at}
use Rattle.types_solver.proofs.Writer.{wrote_one, wrote_none, name_five, name_none}
use Rattle.types_rules.specs.Former.{int}
use Rattle.types_rules.specs.Types.{node, tnil}
use Rattle.types_solver.proofs.writing.put_name.Goals as goal

pub returns-then-field-eq-BINDING : goal.returns-then-field-eq-BINDING
returns-then-field-eq-BINDING c =
    let w = frozen c.args.a.now in
    let f = c.field.ensures.0 in
    let e = c.held.ensures.0 ∙ ap (λ z. get_or w (z + c.args.j) 0) c.field-then-field-eq-BINDING.ensures.0 in
    subst (λ z. Wrote c.args.out.now z c.args.at (c.args.at + 1) (name_at w c.args.r c.args.j)) (sym c.store.ensures)
    (wrote_one _ _ _ _ (name_five (λ i. node int tnil) w c.args.r c.args.j (sym f ∙ c.if-field-eq-BINDING.true) ∙ ap (λ z. z ∷ []) (sym e)))

pub returns : goal.returns
returns c = wrote_none _ _ _ (name_none (λ i. node int tnil) (frozen c.args.a.now) c.args.r c.args.j (λ e. c.if-field-eq-BINDING.false (c.field.ensures.0 ∙ e)))
