-- The dictionary: what the paragraphs so far have declared, and its words (document 01, "The dictionary"; R18).
use Rattle.std.specs.Prelude.{cond, List, [], ◌∷◌, ◌++◌, ℕ, ◌+◌, ◌*◌, eqb, length}
use Rattle.types_rules.specs.Types.{Ty, Term}
use Rattle.types_rules.specs.Words.{words}

-- class 1 name, class 2 schema: identifier or schema name, parameter count, type; a schema's type is its binding
pub data Entry : Type 0 where
  name_entry : ℕ → ℕ → Ty → Entry
  schema_entry : ℕ → ℕ → Ty → Entry

-- in order of declaration, the newest entry last
infixl 12 ◌▸◌
pub data Dictionary : Type 0 where
  blank : Dictionary
  ◌▸◌ : Dictionary → Entry → Dictionary

unfoldable pub entry_words : Entry → List ℕ
entry_words (name_entry i p g) = 1 ∷ i ∷ p ∷ words g
entry_words (schema_entry s p g) = 2 ∷ s ∷ p ∷ words g

unfoldable pub entries : Dictionary → List Entry
entries blank = []
entries (D ▸ e) = entries D ++ (e ∷ [])

-- the pairs (offset, length) of entries that begin at the offset o
unfoldable pub entry_pairs : List Entry → ℕ → List ℕ
entry_pairs [] o = []
entry_pairs (e ∷ es) o = o ∷ length (entry_words e) ∷ entry_pairs es (o + length (entry_words e))

unfoldable pub all_words : List Entry → List ℕ
all_words [] = []
all_words (e ∷ es) = entry_words e ++ all_words es

-- word 0 the entry count, pairs, entries
unfoldable pub laid_out_words : List Entry → List ℕ
laid_out_words es = length es ∷ (entry_pairs es (1 + 2 * length es) ++ all_words es)

unfoldable pub dictionary_words : Dictionary → List ℕ
dictionary_words D = laid_out_words (entries D)

abbrev pub dictionary_length : Dictionary → ℕ
dictionary_length D = length (dictionary_words D)

-- What a name is in scope: nothing; an identifier of a Text, or a parameter, with its type; a recorded name with its parameter count and type.
pub data Named : Type 0 where
  unnamed : Named
  of_local : Term → Named
  of_global : ℕ → Ty → Named

unfoldable pub name_in : ℕ → Dictionary → Named
name_in i blank = unnamed
name_in i (D ▸ name_entry j p g) = cond (eqb i j) (of_global p g) (name_in i D)
name_in i (D ▸ schema_entry s p g) = name_in i D

-- What a schema name is: nothing, or a recorded schema with its parameter count and binding.
pub data NamedSchema : Type 0 where
  no_schema : NamedSchema
  a_schema : ℕ → Ty → NamedSchema

unfoldable pub schema_in : ℕ → Dictionary → NamedSchema
schema_in s blank = no_schema
schema_in s (D ▸ name_entry j p g) = schema_in s D
schema_in s (D ▸ schema_entry r p g) = cond (eqb s r) (a_schema p g) (schema_in s D)
