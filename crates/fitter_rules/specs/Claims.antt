-- The findings of the fit call, in their order: the check's, 41, 42 at its first entry.
use Rattle.std.specs.Prelude.{◌≡◌, List, ℕ, ◌≤◌, ◌<◌, length}
use Rattle.reader_rules.specs.Decode.{tree_of}
use Rattle.checker_rules.specs.Dictionary.{Dictionary}
use Rattle.checker_rules.specs.Check.{Answer, accepted, refused, check_of}
use Rattle.states_rules.specs.Names.{Name, document_names}
use Rattle.evaluator_rules.specs.Claims.{IllFormedState, WellFormedState}
use Rattle.fitter_rules.specs.Fit.{type_number}

pub data FitFinds (doc state : List ℕ) (d w : ℕ) (ns : List Name) : Answer → Type 0 where
  unchecked : {n p : ℕ} → check_of doc d w ≡ refused n p → FitFinds doc state d w ns (refused n p)
  ill_formed : {E : Dictionary} {p : ℕ} → check_of doc d w ≡ accepted E → IllFormedState ns state p → FitFinds doc state d w ns (refused 41 p)
  mistyped : {E : Dictionary} {k : ℕ} → check_of doc d w ≡ accepted E → WellFormedState ns state → 1 ≤ k → k ≤ length ns → type_number E ns state k ≡ 42 →
      ((j : ℕ) → 1 ≤ j → j < k → type_number E ns state j ≡ 0) → FitFinds doc state d w ns (refused 42 k)
  fits : {E : Dictionary} → check_of doc d w ≡ accepted E → WellFormedState ns state → ((k : ℕ) → 1 ≤ k → k ≤ length ns → type_number E ns state k ≡ 0) → FitFinds doc state d w ns (accepted E)
