use mathlib.Core.Path.{sym, ap, ◌∙◌}
use mathlib.Core.Bool.{Bool, cond}
use native.Mathlib.Omega.{arith}
use Rattle.fitter_types.proofs.Types.{given_number_lem, declared_number}
use Rattle.fitter_types.proofs.type_number.Goals as goal

pub returns-then-is_typed : goal.returns-then-is_typed
returns-then-is_typed c = λ E H. ap (λ (b : Bool). cond b 0 42) (sym c.if-is_typed.true) ∙ declared_number c.args.doc.now c.args.state.now c.args.dict.now c.requires.1 c.args.k c.requires.2 c.requires.3 E H (λ i. omega (arith, c.type_inv.state i)) _ (sym c.in-Some.is ∙ c.name_of-name.ensures) _ c.part.ensures c.is_typed.result c.is_typed.ensures

pub returns-in-None : goal.returns-in-None
returns-in-None c = λ E H. given_number_lem c.args.doc.now c.args.state.now c.args.dict.now c.requires.1 c.args.k c.requires.2 c.requires.3 E H (sym c.in-None.is ∙ c.name_of-name.ensures)

pub returns-else-is_typed : goal.returns-else-is_typed
returns-else-is_typed c = λ E H. ap (λ (b : Bool). cond b 0 42) (sym c.if-is_typed.false) ∙ declared_number c.args.doc.now c.args.state.now c.args.dict.now c.requires.1 c.args.k c.requires.2 c.requires.3 E H (λ i. omega (arith, c.type_inv.state i)) _ (sym c.in-Some.is ∙ c.name_of-name.ensures) _ c.part.ensures c.is_typed.result c.is_typed.ensures
