use mathlib.Core.Path.{sym, subst, ◌∙◌}
use Prim.Native.Nat.{◌<◌}
use native.Mathlib.Omega.{arith}
use Rattle.types_cells.specs.Store.{frozen, arg_at, count_at, run}
use Rattle.types_solver.specs.Answers.{FirstPlace}
use Rattle.types_cells.proofs.Words.{frozen_length}
use Rattle.types_solver.proofs.Looking.{former_other, former_lacks, former_some, part_few}
use Rattle.types_solver.proofs.components.former_component.Goals as goal

pub place-requires : goal.place-requires
place-requires c =
    let K = c.requires.0.looking in
    let C = K.held.cells _ K.made in
    let q = C.named (sym c.field.ensures.0 ∙ c.if-field-ne-BINDING.false) in
    let a = c.field-p.ensures.0 in
    let b = c.field-k.ensures.0 in
    record { size = frozen_length _ K.held.size; left = omega arith; right = omega arith }

pub returns-in-Some : goal.returns-in-Some
returns-in-Some c =
    let w = frozen c.args.a.now in
    let r = c.args.r in
    let j = c.in-Some.j in
    let b = c.field-k.ensures.0 in
    let E = c.in-Some.ensures in
    let p : FirstPlace (run w (arg_at w r) (count_at w r)) (count_at w r) c.args.id j =
    subst (λ z. FirstPlace (run w (arg_at w r) z) z c.args.id j) b (subst (λ z. FirstPlace (run w z c.field-k.result) c.field-k.result c.args.id j) c.field-p.ensures.0 E.1) in
    let q : j < count_at w r = let t = E.0 in omega arith in
    let K = c.requires.0.looking in
    let f = part_few _ c.args.d.now _ c.args.id c.requires.0.root K.n K.L K.held K.made j q in
    let e = c.part.ensures.0 in
    former_some _ _ _ _ c.requires.0.root j c.part.result (omega arith) (sym c.field.ensures.0 ∙ c.if-field-ne-BINDING.false) q (p.hit q) p.first (sym c.part.ensures.0)

pub returns-in-None : goal.returns-in-None
returns-in-None c =
    let w = frozen c.args.a.now in
    let r = c.args.r in
    let k = c.field-k.result in
    let b = c.field-k.ensures.0 in
    let p : FirstPlace (run w (arg_at w r) (count_at w r)) (count_at w r) c.args.id k =
    subst (λ z. FirstPlace (run w (arg_at w r) z) z c.args.id k) b (subst (λ z. FirstPlace (run w z k) k c.args.id k) c.field-p.ensures.0 c.in-None.ensures) in
    former_lacks _ _ _ _ c.requires.0.root (sym c.field.ensures.0 ∙ c.if-field-ne-BINDING.false) (p.none b)

pub returns-then-field-ne-BINDING : goal.returns-then-field-ne-BINDING
returns-then-field-ne-BINDING c = former_other _ _ _ _ c.requires.0.root c.requires.1 (λ e. c.if-field-ne-BINDING.true (c.field.ensures.0 ∙ e))
