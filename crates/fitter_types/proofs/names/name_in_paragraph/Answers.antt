use mathlib.Core.Path.{sym, ◌∙◌}
use Rattle.states.proofs.NameLaws.{axiom_names}
use Rattle.fitter_types.proofs.NameWalk.{axiom_role, given_role}
use Rattle.fitter_types.proofs.names.name_in_paragraph.Goals as goal

pub name_in_text-i-requires : goal.name_in_text-i-requires
name_in_text-i-requires c = (axiom_names _ _ c.requires.0 (sym c.kind_at-q.ensures.0 ∙ c.if-q-eq-AXIOM.true) _ c.operand.ensures.0).0

pub returns-then-q-eq-AXIOM : goal.returns-then-q-eq-AXIOM
returns-then-q-eq-AXIOM c = axiom_role c.args.doc.now c.args.p c.requires.0 c.args.j (sym c.kind_at-q.ensures.0 ∙ c.if-q-eq-AXIOM.true) c.operand.result c.operand.ensures.0 c.name_in_text-i.result c.name_in_text-i.ensures

pub returns : goal.returns
returns c = given_role c.args.doc.now c.args.p c.requires.0 c.args.j (λ x. c.if-q-eq-AXIOM.false (c.kind_at-q.ensures.0 ∙ x)) c.requires.1
