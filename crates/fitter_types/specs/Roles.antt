-- The names of a state's entries, as the code has them.
use Rattle.std.specs.Prelude.{cond, List, ℕ, get_or, Option, Some, None}
use Rattle.states_rules.specs.Names.{Name, nobody}

abbrev pub identifier_at : List Name → ℕ → ℕ
identifier_at ns j = (get_or ns j nobody).identifier

-- None for a given, whose value is a size, and the identifier of any other name
unfoldable pub role_of : Name → Option ℕ
role_of n = cond n.is_given None (Some n.identifier)
