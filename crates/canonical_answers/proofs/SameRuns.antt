-- THE RUN OF TWO DOCUMENTS WITH THE SAME TREE and one state: the same list and finding, at corresponding nodes.
use Rattle.std.specs.Prelude.{Err}
use mathlib.Core.Path.{◌≡◌, refl, ap, sym, ◌∙◌}
use mathlib.Core.Bool.{Bool, true, false, cond}
use mathlib.Core.List.{List, []}
use Prim.Native.Nat.{ℕ, ◌<◌}
use native.Mathlib.Omega.{arith}
use lib.Dec.{leb}
use borrow.Author.Tests.{le-ltb, lt-ltb}
use Rattle.reader_rules.specs.Reading.{read_of}
use Rattle.reader_rules.specs.Refusals.{Finding, Readable, Refused}
use Rattle.reader_rules.specs.Tree.{Document}
use Rattle.reader_rules.specs.Decode.{tree_of}
use Rattle.evaluator_rules.specs.Outcomes.{Outcome}
use Rattle.evaluator_rules.specs.Paragraphs.{Step, onward, failed}
use Rattle.evaluator_rules.specs.Claims.{Good, finished, ceased, Short, Trouble}
use Rattle.evaluator_rules.specs.Run.{ran, ending, run_state, run_work_words, run_work, run_read, run_of}
use Rattle.evaluator_rules.proofs.StatePlace.{state_ill}
use Rattle.evaluator_rules.proofs.RunFindings.{document_fine}
use Rattle.states_rules.specs.Names.{document_names}
use Rattle.states_rules.specs.States.{state_of, value_in}
use Rattle.canonical_rules.specs.MapNodes.{map_nodes, Same}
use Rattle.canonical_rules.specs.Positions.{corresponding}
use Rattle.canonical_answers.proofs.MapOutcomes.{map_found, map_ran}
use Rattle.canonical_answers.specs.MapAnswers.{map_events, map_finding, map_run}
use Rattle.canonical_answers.proofs.EvaluationMaps.{names_stay, ran_maps}
use Rattle.canonical_rules.proofs.SameTrees.{same_renumbered, readable_distinct}

module _ (f : ℕ → ℕ) where
  -- the place that the paragraphs find is a node
  fine_run : {m : Outcome Step} → Good Short Trouble (λ s. Unit {0}) m → map_ran f (ending m) ≡ map_run f (ending m)
  unfolding ending map_finding map_found
  fine_run (finished {t = t} {a = onward scope} l h) = refl
  fine_run (finished {t = t} {a = failed n} l h) = refl
  fine_run (ceased {t = t} {number = e} {node = n} l h) =
      ap (λ b. ran (Refused e (cond b n (f n))) (map_events f t)) (sym (le-ltb e 51 h.0))

  -- the place of a finding below 51 is none
  ill_run : (n p : ℕ) → n < 51 → ran (Refused n p) [] ≡ map_run f (ran (Refused n p) [])
  unfolding map_finding map_events
  ill_run n p h = ap (λ b. ran (Refused n (cond b p (f p))) []) (sym (lt-ltb n 51 h))

  module _ (t : Document) (state : List ℕ) where
    state_run : (r : Finding) → state_of (document_names t) state ≡ r → run_state r (map_nodes f t) state ≡ map_run f (run_state r t state)
    unfolding run_state
    state_run Readable e = ran_maps f t state ∙ fine_run (document_fine t (value_in (document_names t) state))
    state_run (Err err) e = let h = ((state_ill (document_names t) state err.number err.place).0 e).0 in ill_run err.number err.place (omega arith)

    pub work_run : (b : Bool) → run_work b (map_nodes f t) state ≡ map_run f (run_work b t state)
    unfolding run_work map_finding map_events
    work_run true = ap (λ ns. run_state (state_of ns state) (map_nodes f t) state) (names_stay f t) ∙ state_run (state_of (document_names t) state) refl
    work_run false = refl

module _ (doc dup : List ℕ) (read : read_of doc ≡ Readable) (reread : read_of dup ≡ Readable) (same : Same (tree_of doc) (tree_of dup)) where
  pub trees_renumbered : map_nodes (corresponding doc dup) (tree_of doc) ≡ tree_of dup
  unfolding corresponding
  trees_renumbered = same_renumbered (tree_of doc) (tree_of dup) (readable_distinct doc read) same

  pub runs_agree : (state : List ℕ) (work : ℕ) → run_of dup state work ≡ map_run (corresponding doc dup) (run_of doc state work)
  unfolding run_of run_read
  runs_agree state work =
      rw (read, reread) (ap (λ u. run_work (leb run_work_words work) u state) (sym trees_renumbered) ∙ work_run (corresponding doc dup) (tree_of doc) state (leb run_work_words work))
