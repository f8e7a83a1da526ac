-- Well-formed types in dictionaries and valuations: a power has one part, a product 2 to 6, a binding one for each of its ascending identifiers.
use Rattle.std.specs.Prelude.{ℕ}
use Rattle.types_rules.specs.Formed.{WellFormed}
use Rattle.types_rules.specs.Trees.{finite, infinite}
use Rattle.checker_rules.specs.Unknowns.{Valuation}
use Rattle.checker_rules.specs.Items.{Typings}
use Rattle.checker_rules.specs.Dictionary.{name_entry, schema_entry, Dictionary, blank, ◌▸◌}
use Rattle.checker_rules.specs.Check.{Answer, accepted, refused}

unfoldable pub FormedDictionary : Dictionary → Type 0
FormedDictionary blank = Unit {0}
FormedDictionary (D ▸ name_entry i p g) = FormedDictionary D × WellFormed g
FormedDictionary (D ▸ schema_entry s p g) = FormedDictionary D × WellFormed g

abbrev pub FormedAnswer : Answer → Type 0
FormedAnswer (accepted E) = FormedDictionary E
FormedAnswer (refused f m) = Unit {0}

-- Typings by well-formed types alone; those of possibly infinite types are all among them.
abbrev pub FormedValuation : Valuation → Type 0
FormedValuation τ = (x : ℕ) → WellFormed (τ x)

abbrev pub FormedTypings : Typings
FormedTypings finite τ = FormedValuation τ
FormedTypings infinite ρ = Unit {0}
