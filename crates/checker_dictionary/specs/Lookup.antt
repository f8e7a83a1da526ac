-- An entry of the area found by its class and name. Entries are numbered from 1, in order of declaration; 0 stands for none.
use Rattle.std.specs.Prelude.{◌≡◌, ℕ, zero, suc, ◌+◌, ◌≤◌, Bool, cond, ◌&&◌, List, ◌++◌, drop, ◌==◌, slice_index}
use Rattle.layout.specs.Layout.{offset_at}
use Rattle.types_rules.specs.Types.{Ty}
use Rattle.types_rules.specs.Words.{words}
use Rattle.checker_rules.specs.Dictionary.{Dictionary, Named, unnamed, of_global, name_in, NamedSchema, no_schema, a_schema, schema_in}

-- The words of entry k (document 01, "Entry: class, identifier or schema name, parameter count, type"); a type is known by its place.
unfoldable pub class_at : List ℕ → ℕ → ℕ
class_at d k = slice_index d (offset_at d k)

unfoldable pub name_at : List ℕ → ℕ → ℕ
name_at d k = slice_index d (offset_at d k + 1)

unfoldable pub parameters_at : List ℕ → ℕ → ℕ
parameters_at d k = slice_index d (offset_at d k + 2)

unfoldable pub type_at : List ℕ → ℕ → ℕ
type_at d k = offset_at d k + 3

unfoldable pub is_entry : List ℕ → ℕ → ℕ → ℕ → Bool
is_entry d class name k = class == class_at d k && name == name_at d k

-- the last of the first k numbers that passes the test
unfoldable pub newest : (ℕ → Bool) → ℕ → ℕ
newest f zero = 0
newest f (suc k) = cond (f (suc k)) (suc k) (newest f k)

-- Entry k has the parameter count and the type of the answer, the type's words at its place.
pub record Recorded (Answer : Type 0) (answer : Answer) (some : ℕ → Ty → Answer) (d : List ℕ) (k : ℕ) : Type 0 where
  pub parameters : ℕ
  pub type : Ty
  pub means : answer ≡ some parameters type
  pub counted : parameters_at d k ≡ parameters
  pub after : List ℕ
  pub written : drop (type_at d k) d ≡ words type ++ after

-- The entry k is the answer of a lookup, and 0 stands for none.
pub record Located (Answer : Type 0) (answer none : Answer) (some : ℕ → Ty → Answer) (d : List ℕ) (k : ℕ) : Type 0 where
  pub absent : k ≡ 0 → answer ≡ none
  pub present : 1 ≤ k → Recorded Answer answer some d k

-- the entry k is what the dictionary says of a name, and of a schema's name
abbrev pub NameFound : Dictionary → List ℕ → ℕ → ℕ → Type 0
NameFound D d i k = Located Named (name_in i D) unnamed of_global d k

abbrev pub SchemaFound : Dictionary → List ℕ → ℕ → ℕ → Type 0
SchemaFound D d s k = Located NamedSchema (schema_in s D) no_schema a_schema d k
