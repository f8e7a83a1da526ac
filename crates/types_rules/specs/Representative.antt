-- What stands for a term where equations are merged, and the component that the equations give a term.
use Rattle.std.specs.Prelude.{ℕ, length}
use Rattle.std.proofs.Math.Option.{Option}
use Rattle.types_rules.specs.Classes.{rep}
use Rattle.types_rules.specs.Classify.{Out, apart, merge_levels, merged, same_term, spent, univ, view_term}
use Rattle.types_rules.specs.Component.{component}
use Rattle.types_rules.specs.Equations.{Pairs, end}
use Rattle.types_rules.specs.Types.{Term}

unfoldable pub stands_for : Out Term → Term → Term
stands_for (merged L) a = rep same_term L a
stands_for apart a = a
stands_for spent a = a

-- A term that follows to be equal to a, with a former where some such term has one.
unfoldable pub representative : Pairs Term → Term → Term
representative P a = stands_for (merge_levels same_term view_term (length (univ P)) end P) a

unfoldable pub component_by : Pairs Term → ℕ → Term → Option Term
component_by P i a = component i (representative P a)
