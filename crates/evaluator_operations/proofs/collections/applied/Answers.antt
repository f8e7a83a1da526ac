use mathlib.Core.Path.{◌≡◌, ◌∙◌, sym, ap}
use Rattle.std.specs.Prelude.{Err}
use Rattle.values.specs.declared.sets.NoImage.TheVariants as NoImage
use Rattle.values.specs.Held.{keep}
use Rattle.evaluator_operations.proofs.OperationLaws.{held_whole, apply_found, apply_misfit, apply_none}
use Rattle.evaluator_operations.proofs.collections.applied.Goals as goal

pub returns-in-Ok : goal.returns-in-Ok
returns-in-Ok c =
    λ x y hx hy.
    let e = (rw (c.span.ensures ∙ held_whole _ x hx, c.span-2.ensures ∙ held_whole _ y hy) at c.apply-p.ensures) in
    apply_found _ x y hx.short hx.narrow _ _ (sym c.in-Ok.is ∙ e)
    (c.hold.ensures ∙ ap keep (rw (c.span-in-Ok.ensures ∙ held_whole _ x hx) at c.span-in-Ok-2.ensures))

pub returns-in-Err-Misfit : goal.returns-in-Err-Misfit
returns-in-Err-Misfit c =
    let a = c.in-Err-Misfit in
    let q : a.field-0 ≡ NoImage.Misfit = rw a.is at a.field-0-is in
    λ x y hx hy.
    let e = (rw (c.span.ensures ∙ held_whole _ x hx, c.span-2.ensures ∙ held_whole _ y hy) at c.apply-p.ensures) in
    apply_misfit _ x y hx.short hx.narrow (sym (a.is ∙ ap Err q) ∙ e) c.refusal.ensures

pub returns-in-Err-Undefined : goal.returns-in-Err-Undefined
returns-in-Err-Undefined c =
    let a = c.in-Err-Undefined in
    let q : a.field-0 ≡ NoImage.Undefined = rw a.is at a.field-0-is in
    λ x y hx hy.
    let e = (rw (c.span.ensures ∙ held_whole _ x hx, c.span-2.ensures ∙ held_whole _ y hy) at c.apply-p.ensures) in
    apply_none _ x y hx.short hx.narrow (sym (a.is ∙ ap Err q) ∙ e) c.refusal-in-Err-Undefined.ensures
