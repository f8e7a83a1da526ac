-- The executable unifier: a worklist of equations, each unknown substituted away as it is bound. `clash` and `cycle` are both 33 in document 01; document 02, ask 10, tells them apart.
use Rattle.std.specs.Prelude.{◌+◌, suc, zero, ℕ, eqb, length, Bool, false, true, List}
use Rattle.std.proofs.Math.Option.{Option, none, some}
use Rattle.types_rules.specs.Equations.{Pairs, end, pair}
use Rattle.types_rules.specs.Former.{same_former}
use Rattle.types_rules.specs.Substitution.{Respects, State, Substitution, bind, occurs, replace, resolve, without}
use Rattle.types_rules.specs.Types.{Each, Term, Terms, Ty, con, cons, nil, term_size, unknown}

pub data Outcome : Type 0 where
  ok : List ℕ → Substitution → Outcome
  clash : Outcome
  cycle : Outcome
  stuck : Outcome

unfoldable pub zip_terms : Terms → Terms → Pairs Term → Option (Pairs Term)
zip_terms nil nil es = some es
zip_terms nil (cons b bs) es = none
zip_terms (cons a as') nil es = none
zip_terms (cons a as') (cons b bs) es = zip_terms as' bs (pair a b es)

unfoldable pub replace_all : ℕ → Term → Pairs Term → Pairs Term
replace_all x u end = end
replace_all x u (pair a b es) = pair (replace x u a) (replace x u b) (replace_all x u es)

unfoldable pub weight : Pairs Term → ℕ
weight end = 1
weight (pair a b es) = term_size a + weight es

unfoldable pub is_unknown : ℕ → Term → Bool
is_unknown x (unknown y) = eqb y x
is_unknown x (con h ts) = false

abbrev pub Next : Type 0
Next = List ℕ → Substitution → Pairs Term → Outcome

-- An unknown x against b. Document 01: "Its unifier refuses a type variable against itself; here that succeeds". Inside a larger term x has no finite type.
unfoldable pub flex : Bool → Bool → Next → (Pairs Term → Outcome) → List ℕ → Substitution → ℕ → Term → Pairs Term → Outcome
flex true o nx go vs s x b es = go es
flex false true nx go vs s x b es = cycle
flex false false nx go vs s x b es = nx (without x vs) (bind x b s) (replace_all x b es)

unfoldable pub rigid : Bool → Option (Pairs Term) → (Pairs Term → Outcome) → Outcome
rigid true (some es) go = go es
rigid true none go = clash
rigid false o go = clash

unfoldable pub unify_step : Next → (Pairs Term → Outcome) → List ℕ → Substitution → Term → Term → Pairs Term → Outcome
unify_step nx go vs s (unknown x) b es = flex (is_unknown x b) (occurs x b) nx go vs s x b es
unify_step nx go vs s (con h ts) (unknown y) es = flex false (occurs y (con h ts)) nx go vs s y (con h ts) es
unify_step nx go vs s (con h ts) (con k us) es = rigid (same_former h k) (zip_terms ts us es) go

-- One level: no unknown has been bound since it began. n bounds the steps.
unfoldable pub unify_level : Next → ℕ → List ℕ → Substitution → Pairs Term → Outcome
unify_level nx zero vs s es = stuck
unify_level nx (suc n) vs s end = ok vs s
unify_level nx (suc n) vs s (pair a b es) = unify_step nx (λ es'. unify_level nx n vs s es') vs s a b es

-- k levels.
unfoldable pub unify_levels : ℕ → Next
unify_levels zero vs s es = unify_level (λ vs' s' es'. stuck) (weight es) vs s es
unify_levels (suc k) vs s es = unify_level (λ vs' s' es'. unify_levels k vs' s' es') (weight es) vs s es

unfoldable pub unify : List ℕ → Substitution → Term → Term → Outcome
unify vs s a b = unify_levels (length vs) vs s (pair (resolve s a) (resolve s b) end)

-- Several equations, one after another.
unfoldable pub and_then : Outcome → (List ℕ → Substitution → Outcome) → Outcome
and_then (ok vs s) k = k vs s
and_then clash k = clash
and_then cycle k = cycle
and_then stuck k = stuck

unfoldable pub unify_all : List ℕ → Substitution → Pairs Term → Outcome
unify_all vs s end = ok vs s
unify_all vs s (pair a b P) = and_then (unify vs s a b) (λ vs' s'. unify_all vs' s' P)

-- What an answer says of σ, when A says that σ solves what was given.
abbrev pub Spec : (ℕ → Ty) → Outcome → Type 0 → Type 0
Spec σ (ok vs s) A = (Respects σ s → A) × (A → Respects σ s)
Spec σ clash A = A → ⊥
Spec σ cycle A = A → ⊥
Spec σ stuck A = Unit {0}

-- The steps suffice, so `stuck` never comes, and states are kept (`unify-state`).
abbrev pub EachE : (ℕ → Type 0) → Pairs Term → Type 0
EachE P end = Unit {0}
EachE P (pair a b es) = Each P a × Each P b × EachE P es

abbrev pub Good : (ℕ → Type 0) → Outcome → Type 0
Good N (ok vs s) = State N vs s
Good N clash = Unit {0}
Good N cycle = Unit {0}
Good N stuck = ⊥
