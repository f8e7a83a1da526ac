-- The entries of a paragraph (document 01, "The dictionary"; R18), from the rows of its table: identifiers, and places of types.
use Rattle.std.specs.Prelude.{List, [], ◌∷◌, ℕ, ◌+◌, ◌*◌, ◌≤◌, ◌<◌, ◌^◌, length}
use Rattle.types_rules.specs.Former.{binding}
use Rattle.types_rules.specs.Types.{Ty, Tys, node, tnil, tcons, size}
use Rattle.checker_rules.specs.Dictionary.{Entry, name_entry, schema_entry, entry_words}
use Rattle.checker_rules.specs.Unknowns.{given_set}
use Rattle.types_cells.specs.Settled.{heap, Reads, Areas}
use Rattle.checker_signatures.specs.Rows.{rows, identifiers_of}

-- The types of the rows: their words stand at the places.
unfoldable pub TypesAt : List ℕ → List (ℕ × ℕ) → Tys → Type 0
TypesAt H [] tnil = Unit {0}
TypesAt H [] (tcons g gs) = ⊥
TypesAt H (r ∷ rs) tnil = ⊥
TypesAt H (r ∷ rs) (tcons g gs) = Reads H r.1 g × TypesAt H rs gs

-- Each of size 32 at most (38).
unfoldable pub AllSmall : Tys → Type 0
AllSmall tnil = Unit {0}
AllSmall (tcons g gs) = (size g ≤ 32) × AllSmall gs

-- The entries of a Given, and of an Axiom.
unfoldable pub given_entries : List ℕ → List Entry
given_entries [] = []
given_entries (i ∷ is) = name_entry i 0 (given_set i) ∷ given_entries is

unfoldable pub name_entries : List (ℕ × ℕ) → Tys → List Entry
name_entries [] gs = []
name_entries (r ∷ rs) tnil = []
name_entries (r ∷ rs) (tcons g gs) = name_entry r.0 0 g ∷ name_entries rs gs

-- The entry of a schema.
abbrev pub schema_of : ℕ → ℕ → List (ℕ × ℕ) → Tys → Entry
schema_of s p rs gs = schema_entry s p (node (binding (identifiers_of rs)) gs)

-- One entry that waits, after its length.
abbrev pub entry_waits : Entry → List ℕ
entry_waits e = length (entry_words e) ∷ entry_words e

-- A type at p, of size 32 at most.
pub record TypeAsk (s d : List ℕ) (p : ℕ) : Type 0 where
  pub areas : Areas s d
  pub type : Ty
  pub reads : Reads (heap s d) p type
  pub small : size type ≤ 32

-- A table of m rows at base, before the place `at`.
pub record TableAsk (s d w : List ℕ) (base m at : ℕ) : Type 0 where
  pub areas : Areas s d
  pub types : Tys
  pub stand : TypesAt (heap s d) (rows w base m) types
  pub small : AllSmall types
  pub before : base + 2 * m ≤ at
  pub near : at + 100 * m < 2 ^ 32
