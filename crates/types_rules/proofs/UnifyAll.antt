-- Several equations: what the unifier answers, and that states are kept.
use Prim.Native.Nat.{ℕ}
use mathlib.Core.List.{List}
use Rattle.types_rules.proofs.Solutions.{spec_iff, unify_spec}
use Rattle.types_rules.proofs.States.{unify_state}
use Rattle.types_rules.specs.Equations.{AllP, Pairs, Solves, end, pair}
use Rattle.types_rules.specs.Substitution.{Respects, State, Substitution}
use Rattle.types_rules.specs.Types.{Each, Term, Ty, under}
use Rattle.types_rules.specs.Unify.{Good, Outcome, Spec, and_then, clash, cycle, ok, stuck, unify, unify_all}

then_spec : (σ : ℕ → Ty) (A B : Type 0) (r : Outcome) (k : List ℕ → Substitution → Outcome) → Spec σ r A → ((vs : List ℕ) (s : Substitution) → Spec σ (k vs s) (Respects σ s × B)) → Spec σ (and_then r k) (A × B)
unfolding and_then
then_spec σ A B (ok vs s) k h f = spec_iff σ (k vs s) _ _ (λ q. (h.0 q.0, q.1)) (λ q. (h.1 q.0, q.1)) (f vs s)
then_spec σ A B clash k h f = λ q. h q.0
then_spec σ A B cycle k h f = λ q. h q.0
then_spec σ A B stuck k h f = tt

pub unify_all_spec : (σ : ℕ → Ty) (vs : List ℕ) (s : Substitution) (P : Pairs Term) → Spec σ (unify_all vs s P) (Respects σ s × Solves (under σ) P)
unfolding unify_all
unify_all_spec σ vs s end = (λ q. (q, tt), λ q. q.0)
unify_all_spec σ vs s (pair a b P) =
    spec_iff σ (and_then (unify vs s a b) (λ vs' s'. unify_all vs' s' P)) _ _ (λ q. (q.0.0, (q.0.1, q.1))) (λ q. ((q.0, q.1.0), q.1.1))
    (then_spec σ _ _ (unify vs s a b) _ (unify_spec σ vs s a b) (λ vs' s'. unify_all_spec σ vs' s' P))

then_good : (N : ℕ → Type 0) (r : Outcome) (k : List ℕ → Substitution → Outcome) → Good N r → ((vs : List ℕ) (s : Substitution) → State N vs s → Good N (k vs s)) → Good N (and_then r k)
unfolding and_then
then_good N (ok vs s) k h f = f vs s h
then_good N clash k h f = tt
then_good N cycle k h f = tt
then_good N stuck k h f = h

pub unify_all_good : (N : ℕ → Type 0) (vs : List ℕ) (s : Substitution) (P : Pairs Term) → State N vs s → AllP (λ a b. Each N a × Each N b) P → Good N (unify_all vs s P)
unfolding unify_all
unify_all_good N vs s end h e = h
unify_all_good N vs s (pair a b P) h e = then_good N (unify vs s a b) _ (unify_state N vs s a b h e.0.0 e.0.1) (λ vs' s' h'. unify_all_good N vs' s' P h' e.1)
