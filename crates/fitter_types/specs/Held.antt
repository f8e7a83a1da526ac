-- What finding 42 asks of a dictionary area, and what its test says.
use Rattle.std.specs.Prelude.{◌≡◌, Bool, List, ℕ, ◌≤◌, length}
use Rattle.types_rules.specs.Types.{Ty, size}
use Rattle.types_rules.specs.Formed.{WellFormed}
use Rattle.types_rules.specs.Words.{words}
use Rattle.values.specs.Value.{Value, encode}
use Rattle.values.specs.Typed.{is_of}
use Rattle.checker_rules.specs.Dictionary.{Dictionary, of_global, name_in}
use Rattle.checker_rules.specs.Check.{accepted, check_of}
use Rattle.checker_dictionary.specs.Holds.{Holds}

-- an area that holds the dictionary with which the check accepts the document
pub record Held (doc dict : List ℕ) (E : Dictionary) : Type 0 where
  pub room : ℕ
  pub work : ℕ
  pub checked : check_of doc room work ≡ accepted E
  pub holds : Holds E dict

-- 42's test of a value's words against the type that a dictionary records for a name
pub record TestedValue (dict : List ℕ) (id : ℕ) (w : List ℕ) (r : Bool) : Type 0 where
  pub told : (E : Dictionary) (v : Value) (g : Ty) → Holds E dict → encode v ≡ w → length w ≤ 64 → name_in id E ≡ of_global 0 g → WellFormed g → size g ≤ 32
      → r ≡ is_of v (words g)
