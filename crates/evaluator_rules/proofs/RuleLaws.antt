-- Sentences of the evaluation rules, for any operands, scope and state.
use mathlib.Core.Path.{◌≡◌, refl}
use mathlib.Core.List.{List, [], ◌∷◌}
use Prim.Native.Nat.{ℕ, suc, ◌-◌, ◌%◌, ◌<◌}
use native.Mathlib.Omega.{arith}
use native.Mathlib.Nat.{mod-lt, zero-lt-suc}
use lib.IntN.{ℤ, pos, negsuc}
use Rattle.values_integers.specs.Integer.{remainder, by_divisor, floor_mod}
use Rattle.std.proofs.Common.{Ok}
use Rattle.reader_rules.specs.Tree.{Expr, expr_node, Paragraph, abbreviation}
use Rattle.reader_rules.specs.Tree as Tree
use Rattle.states_rules.specs.States.{State}
use Rattle.evaluator_rules.specs.Outcomes.{Event, done, stopped, after, ◌>>=◌, stop}
use Rattle.evaluator_rules.specs.Environment.{Environment}
use Rattle.evaluator_rules.specs.Operations.{calculate}
use Rattle.evaluator_rules.specs.Rules.{eval_expr}
use Rattle.evaluator_rules.specs.Paragraphs.{onward, then, run_paragraph, run_paragraphs}
use Rattle.evaluator_rules.specs.Claims.{NotRun, no_integers, no_select, no_theta, no_schema_set}

-- "As values ℤ, .. Select, Theta, SchemaSet .. are 54 before their operands"
pub not_run_lem : (a : Expr) → NotRun a → (scope : Environment) → eval_expr a scope ≡ stop 54 (expr_node a)
unfolding eval_expr expr_node
not_run_lem _ (no_integers n) scope = refl
not_run_lem _ (no_select n a i) scope = refl
not_run_lem _ (no_theta n s k) scope = refl
not_run_lem _ (no_schema_set n i) scope = refl

-- "a mod n lies in 0 to n − 1", n being d + 1
pub mod_within : (a : ℤ) (d : ℕ) → (r : ℕ) × ((calculate Tree.remainder a (pos (suc d)) ≡ Ok (pos r)) × (r < suc d))
unfolding calculate remainder by_divisor floor_mod
mod_within (pos a) d = (a % suc d, (refl, mod-lt a (zero-lt-suc d)))
mod_within (negsuc a) d = (suc d - suc (a % suc d), (refl, omega arith))

-- "Abbreviation without parameters is worked out", used or not (R27)
pub abbreviation_stops_lem : (n i : ℕ) (a : Expr) (state : State) (scope : Environment) {t : List Event} {number node : ℕ}
    → eval_expr a scope ≡ stopped t number node → run_paragraph (abbreviation n i [] a) state scope ≡ stopped t number node
unfolding run_paragraph ◌>>=◌
abbreviation_stops_lem n i a state scope e = rw e refl

-- the paragraphs after one that goes on are run too
pub paragraphs_go_on : (p : Paragraph) (ps : List Paragraph) (state : State) (scope scope' : Environment) {t : List Event}
    → run_paragraph p state scope ≡ done t (onward scope') → run_paragraphs (p ∷ ps) state scope ≡ after t (run_paragraphs ps state scope')
unfolding run_paragraphs ◌>>=◌ then
paragraphs_go_on p ps state scope scope' e = rw e refl
