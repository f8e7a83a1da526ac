use mathlib.Core.Path.{◌∙◌, sym, subst}
use Prim.Native.Nat.{ℕ}
use Rattle.evaluator_rules.specs.Environment.{lookup}
use Rattle.evaluator_scope.proofs.BlockLaws.{FoundBlock, lookup_found, refer_unknown, refer_generic, refer_actuals, refer_value}
use Rattle.evaluator_scope.proofs.referred.Goals as goal

pub returns-in_default : goal.returns-in_default
returns-in_default c =
    λ scope s xs a.
    let i = c.args.name in
    let f = subst (λ (b : ℕ). FoundBlock c.args.state.now c.args.work.now b (lookup i scope)) c.in_default.ensures (lookup_found _ _ i _ scope s) in
    refer_unknown c.args.state.now c.args.work.now _ _ f xs c.refusal.ensures

pub returns-then-word-eq-GENERIC : goal.returns-then-word-eq-GENERIC
returns-then-word-eq-GENERIC c =
    λ scope s xs a.
    let i = c.args.name in
    let f = subst (λ (b : ℕ). FoundBlock c.args.state.now c.args.work.now b (lookup i scope)) c.in-Some.ensures.0 (lookup_found _ _ i _ scope s) in
    refer_generic c.args.state.now c.args.work.now _ _ _ f xs (sym c.word.ensures.0 ∙ c.if-word-eq-GENERIC.true) c.refusal-then-word-eq-GENERIC.ensures

pub returns-then-actuals : goal.returns-then-actuals
returns-then-actuals c =
    λ scope s xs a.
    let i = c.args.name in
    let f = subst (λ (b : ℕ). FoundBlock c.args.state.now c.args.work.now b (lookup i scope)) c.in-Some.ensures.0 (lookup_found _ _ i _ scope s) in
    refer_actuals c.args.state.now c.args.work.now _ _ _ f xs (λ e. c.if-word-eq-GENERIC.false (c.word.ensures.0 ∙ e)) (sym c.if-actuals.true ∙ a) c.refusal-then-actuals.ensures

pub returns : goal.returns
returns c =
    λ scope s xs a.
    let i = c.args.name in
    let f = subst (λ (b : ℕ). FoundBlock c.args.state.now c.args.work.now b (lookup i scope)) c.in-Some.ensures.0 (lookup_found _ _ i _ scope s) in
    refer_value c.args.state.now c.args.work.now _ _ _ f xs (λ e. c.if-word-eq-GENERIC.false (c.word.ensures.0 ∙ e)) (sym c.if-actuals.false ∙ a) (λ v t. rw c.value_of.ensures t)
