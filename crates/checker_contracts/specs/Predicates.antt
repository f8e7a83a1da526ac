-- Predicates, between pieces: what visiting one asks and promises.
use Rattle.std.specs.Prelude.{◌≡◌, List, ℕ, ◌≤◌, ◌<◌, ◌^◌, length}
use Rattle.reader_rules.specs.Limited.{LimitedPred}
use Rattle.reader_rules.specs.Tree.{Pred}
use Rattle.reader_rules.specs.TreeNumbers.{pred_numbers}
use Rattle.checker_rules.specs.Dictionary.{Dictionary}
use Rattle.checker_rules.specs.Items.{Items}
use Rattle.checker_rules.specs.Rules.{pred_items}
use Rattle.checker_rules.specs.Scopes.{Scope}
use Rattle.types_cells.specs.Layout.{area_size}
use Rattle.types_cells.specs.Settled.{lower}
use Rattle.types_instances.specs.Clean.{Clean}
use Rattle.checker_pieces.specs.Piece.{Steady}
use Rattle.checker_lookup.specs.Scoped.{Scoped}
use Rattle.checker_contracts.specs.Visits.{Fresh, EachOnce, idle, Spared, Went}
use Rattle.checker_contracts.specs.Room.{Between, Crowd}
use Rattle.checker_contracts.specs.Done.{Done}

-- What holds between pieces, at a part of the tree whose nodes are l.
pub record Walking (s d w : List ℕ) (rows at free h : ℕ) (l : List ℕ) : Type 0 where
  pub before : Items
  pub known : List ℕ
  pub steady : Steady before known
  pub scope : Scope
  pub dictionary : Dictionary
  pub scoped : Scoped s d w rows (idle before known) scope dictionary
  pub fresh : Fresh l known
  pub once : EachOnce l
  pub size : length s ≡ area_size
  pub few : length d < 2 ^ 31
  pub clean : Clean s at
  pub bound : ℕ
  pub crowd : Crowd bound l
  pub room : Between w rows at free h bound

pub record PredAsk (s d w : List ℕ) (rows at free : ℕ) (p : Pred) : Type 0 where
  pub height : ℕ
  pub texts : ℕ
  pub limited : LimitedPred height texts p
  pub walking : Walking s d w rows at free height (pred_numbers p)

-- Number 0: the items of the predicate pass, and the pool is as it was; otherwise they refuse with this number at the place.
pub record PredDone (s s' d w w' : List ℕ) (rows at free : ℕ) (p : Pred) (number place : ℕ) : Type 0 where
  pub done : Done s d w rows (Spared w w' rows free) (lower s' ≡ lower s) (Unit {0}) (λ x H U. Fresh (pred_numbers p) U) (λ x Γ D. pred_items p Γ) (λ x H U Γ D. Went H (pred_items p Γ) U (pred_numbers p)) number place
