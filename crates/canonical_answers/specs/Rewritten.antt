-- What the check, the fit and the run answer to two documents with the same tree; what a rewritten document promises.
use Rattle.std.specs.Prelude.{◌≡◌, List, ℕ, ◌+◌, ◌<◌, length, get_or}
use Rattle.layout.specs.Layout.{count}
use Rattle.reader_rules.specs.Reading.{read_of}
use Rattle.reader_rules.specs.Refusals.{Readable}
use Rattle.reader_rules.specs.TreeNumbers.{node_numbers}
use Rattle.reader_rules.specs.Decode.{tree_of}
use Rattle.states_rules.specs.States.{state_check_of}
use Rattle.checker_rules.specs.Check.{check_of}
use Rattle.checker_rules.specs.Areas.{dictionary_after}
use Rattle.fitter_rules.specs.Fit.{fit_of}
use Rattle.evaluator_rules.specs.Run.{run_of}
use Rattle.canonical_rules.specs.MapNodes.{map_nodes, Same}
use Rattle.canonical_rules.specs.Numbered.{number_document}
use Rattle.canonical_rules.specs.Positions.{corresponding}
use Rattle.canonical_answers.specs.MapAnswers.{map_answer, map_fit, map_run}

pub record Agrees (doc dup : List ℕ) : Type 0 where
  -- a node's number becomes the number at the same place of the other tree; 0, which is no node, stays
  pub nodes : map_nodes (corresponding doc dup) (tree_of doc) ≡ tree_of dup
  pub no_node : corresponding doc dup 0 ≡ 0
  -- in areas of the same lengths: the same number at the corresponding node, or the same dictionary
  pub check : (d w : ℕ) → check_of dup d w ≡ map_answer (corresponding doc dup) (check_of doc d w)
  -- the check leaves the same words in the dictionary area
  pub dictionary : (d w : ℕ) → dictionary_after (check_of dup d w) d ≡ dictionary_after (check_of doc d w) d
  -- a state is well formed for both, or ill formed at the same entry
  pub state : (state : List ℕ) → state_check_of dup state ≡ state_check_of doc state
  -- it fits both, or the fit has the same number, at the corresponding node or at the same entry of the state
  pub fit : (state : List ℕ) (d w : ℕ) → fit_of dup state d w ≡ map_fit (corresponding doc dup) (fit_of doc state d w)
  -- on the same state: the same finding, at the corresponding node or at the same entry of the state, and the same list at corresponding nodes
  pub run : (state : List ℕ) (work : ℕ) → run_of dup state work ≡ map_run (corresponding doc dup) (run_of doc state work)

pub record Rewritten (doc new : List ℕ) : Type 0 where
  pub readable : read_of new ≡ Readable
  -- equal apart from node numbers, which are 1, 2, .. in the order of the tree, operands before their node; so it is the numbered tree
  pub same : Same (tree_of doc) (tree_of new)
  pub order : (i : ℕ) → i < count new → get_or (node_numbers (tree_of new)) i 0 ≡ 1 + i
  pub tree : tree_of new ≡ number_document (tree_of doc)
  -- as many nodes, as many words
  pub nodes : count new ≡ count doc
  pub words : length new ≡ length doc
  pub answers : Agrees doc new
