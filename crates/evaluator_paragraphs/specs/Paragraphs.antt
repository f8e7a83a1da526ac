-- What the functions over paragraphs ask and leave.
use Rattle.std.specs.Prelude.{◌≡◌, Result, List, ℕ, ◌+◌, ◌≤◌, length}
use Rattle.reader_rules.specs.Tree.{Pred, Lines, end, declaration, inclusion}
use Rattle.states_rules.specs.States.{State}
use Rattle.evaluator_rules.specs.Run.{run_work_words}
use Rattle.evaluator_rules.specs.Outcomes.{Outcome, ◌>>=◌, pure}
use Rattle.evaluator_rules.specs.Rules.{eval_pred}
use Rattle.evaluator_rules.specs.Environment.{Environment}
use Rattle.evaluator_rules.specs.Paragraphs.{Step, onward, failed, unless, bind_givens}
use Rattle.reader_rules.specs.declared.Refusal.{Refusal}
use Rattle.evaluator_paragraphs.specs.declared.Progress.{Progress}
use Rattle.evaluator_paragraphs.specs.declared.Progress.TheVariants.{Onward, Failed}
use Rattle.evaluator_operations.specs.Worked.{Told}
use Rattle.evaluator_scope.specs.Blocks.{Scoped}

-- room for all global names, at most 64, and for the identifiers of Texts above them
pub record Roomy (work : List ℕ) (n m : ℕ) : Type 0 where
  pub few : n + m ≤ 64
  pub wide : run_work_words ≤ length work

-- the identifiers of an Axiom's Decls, with the values that the state gives them; `bindGivens` binds any identifiers
unfoldable pub bind_lines : Lines → State → Environment → Environment
bind_lines end state scope = scope
bind_lines (declaration n a xs ls) state scope = bind_lines ls state (bind_givens xs state scope)
bind_lines (inclusion i ls) state scope = bind_lines ls state scope

-- a predicate that must be true; it fails at node n
unfoldable pub demanded : ℕ → Pred → Environment → Outcome Step
demanded n p scope = eval_pred p scope >>= λ b. pure (unless n b scope)

-- it goes on, with what P says of the names so far, or fails at a node
abbrev pub Stepped : (Environment → Type 0) → Progress → Step → Type 0
Stepped P r (onward scope) = (r ≡ Onward) × P scope
Stepped P r (failed k) = r ≡ Failed k

-- tests that leave the names as f of those that an Axiom has so far
abbrev pub TestsTold : (Environment → Environment) → Result Progress Refusal → (Environment → Outcome Step) → Type 0
TestsTold f r o = (own : Environment) → Told (Stepped (λ scope. scope ≡ f own)) r (o own)

-- a paragraph, or several: from n blocks to m
abbrev pub Steps : List ℕ → List ℕ → List ℕ → ℕ → ℕ → Result Progress Refusal → (Environment → Outcome Step) → Type 0
Steps state before after n m r o = (scope : Environment) → Scoped state before n scope → Told (Stepped (Scoped state after m)) r (o scope)
