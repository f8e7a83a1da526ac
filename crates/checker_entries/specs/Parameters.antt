-- Parameters in scope: X, the k-th from 1 on, has type power X (document 01, paragraphs 4 and 5). The words of the k-th type stand at 4 (k - 1) + 1, with a
-- zero word after them.
use Rattle.std.specs.Prelude.{◌≡◌, List, [], ℕ, suc, ◌+◌, ◌*◌, ◌≤◌, ◌<◌, length, get_or}
use Rattle.checker_rules.specs.Dictionary.{Dictionary}
use Rattle.checker_rules.specs.Items.{skip}
use Rattle.checker_rules.specs.Scopes.{Scope, with_parameters}
use Rattle.types_instances.specs.Clean.{Clean}
use Rattle.checker_dictionary.specs.Index.{index_at, index_end}
use Rattle.checker_lookup.specs.Scoped.{Scoped}
use Rattle.checker_includes.specs.Storing.{Stored}
use Rattle.checker_contracts.specs.Visits.{idle}
use Rattle.types_cells.specs.Layout.{area_size}

-- j parameters are in scope, of n that are words of p from 3 on.
pub record ParametersAsk (s w p : List ℕ) (j n : ℕ) : Type 0 where
  pub size : length s ≡ area_size
  pub clean : Clean s (4 * j + 1)
  pub wide : 8 ≤ length w
  pub few : n ≤ 4
  pub order : j ≤ n
  pub inside : n + 3 ≤ length p

-- The parameters `is` are in scope too. The dictionary's index stays.
pub record ParametersPushed (s s' w w' is : List ℕ) (j n at : ℕ) : Type 0 where
  pub stored : Stored s s' (4 * j + 1) at
  pub place : at ≡ 4 * n + 1
  pub size : length w' ≡ length w
  pub index : (i : ℕ) → index_at ≤ i → i < index_end → get_or w' i 0 ≡ get_or w i 0
  pub scoped : (d : List ℕ) (Γ : Scope) (D : Dictionary) → Scoped s d w j (idle skip []) Γ D → Scoped s' d w' n (idle skip []) (with_parameters is (suc j) Γ) D
