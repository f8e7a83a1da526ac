-- A type of any size: the power, k times, of ℤ. Its words stand for those of a type over size 32.
use Rattle.std.specs.Prelude.{ℕ, zero, suc}
use Rattle.types_rules.specs.Former.{power}
use Rattle.types_rules.specs.Types.{Ty, node, tnil, tcons, integer_type}

unfoldable pub powers : ℕ → Ty
powers zero = integer_type
powers (suc k) = node power (tcons (powers k) tnil)

abbrev pub large : Ty
large = powers 32
