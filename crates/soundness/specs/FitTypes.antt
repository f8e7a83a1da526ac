-- The fit call by document 01's own words (`Has`): "on acceptance", and 42, "state value not of its recorded type".
use Rattle.std.specs.Prelude.{◌≡◌, ◌↔◌, List, false, ℕ, ◌≤◌, ◌<◌, length}
use Rattle.reader_rules.specs.Decode.{tree_of}
use Rattle.types_rules.specs.Types.{Ty}
use Rattle.checker_rules.specs.Dictionary.{Dictionary, of_global, name_in}
use Rattle.checker_rules.specs.Check.{accepted, refused, check_of}
use Rattle.states_rules.specs.Names.{Name, document_names}
use Rattle.states_rules.specs.States.{name_at}
use Rattle.evaluator_rules.specs.Claims.{WellFormedState}
use Rattle.fitter_rules.specs.HasType.{Has}
use Rattle.fitter_rules.specs.Recorded.{entry_at, EntryFits, StateFits}
use Rattle.fitter_rules.specs.Fit.{fit_of}

-- Entry k is the first whose value is not of its recorded type.
pub record FirstUnfit (E : Dictionary) (ns : List Name) (state : List ℕ) (k : ℕ) : Type 0 where
  pub from : 1 ≤ k
  pub to : k ≤ length ns
  pub value : (name_at ns k).is_given ≡ false
  pub type : Ty
  pub recorded : name_in (name_at ns k).identifier E ≡ of_global 0 type
  pub unfit : Has (entry_at ns state k) type → ⊥
  pub before : (j : ℕ) → 1 ≤ j → j < k → EntryFits E ns state j

-- The fit accepts exactly where the check accepts, the state is well formed and each value is of its recorded type. It is 42 at k exactly where the check
-- accepts, the state is well formed and k is the first entry whose value is not of its recorded type.
pub record FitByTypes : Type 0 where
  pub accepts : (doc state : List ℕ) (d w : ℕ) (E : Dictionary)
      → (fit_of doc state d w ≡ accepted E) ↔ ((check_of doc d w ≡ accepted E) × WellFormedState (document_names (tree_of doc)) state × StateFits E (document_names (tree_of doc)) state)
  pub mistyped : (doc state : List ℕ) (d w k : ℕ)
      → (fit_of doc state d w ≡ refused 42 k) ↔ ((E : Dictionary) × (check_of doc d w ≡ accepted E) × WellFormedState (document_names (tree_of doc)) state × FirstUnfit E (document_names (tree_of doc)) state k)
