-- The scope at run time: a stack of rows in the work area, an identifier and the place of its settled type each, over the dictionary's area.
use Rattle.std.specs.Prelude.{◌≡◌, List, ℕ, ◌≤◌}
use Rattle.types_rules.specs.Equations.{In}
use Rattle.types_rules.specs.Formed.{part_count_type}
use Rattle.types_rules.specs.Former.{binding}
use Rattle.types_rules.specs.Types.{Ty, Tys, node, Term, Each, under, size}
use Rattle.checker_rules.specs.Unknowns.{Valuation}
use Rattle.checker_rules.specs.Items.{◌⨾◌, Meets}
use Rattle.checker_rules.specs.Dictionary.{Dictionary, blank, ◌▸◌, name_entry, schema_entry}
use Rattle.checker_rules.specs.Scopes.{Scope}
use Rattle.checker_rules.specs.WellFormed.{FormedDictionary}
use Rattle.types_cells.specs.Settled.{heap, Reads}
use Rattle.checker_dictionary.specs.Index.{Indexed}
use Rattle.checker_signatures.specs.Rows.{stack}
use Rattle.checker_signatures.specs.Carried.{Stacked}
use Rattle.checker_pieces.specs.Stage.{Ghost}

-- The term t is settled: one type in every table that meets the items so far, and its words stand at the place p.
pub record SettledAt (s d : List ℕ) (G : Ghost) (t : Term) (p : ℕ) : Type 0 where
  pub over : Each (λ x. In x G.mentioned) t
  pub type : Ty
  pub reads : Reads (heap s d) p type
  pub means : (τ : Valuation) → Meets (G.before ⨾ G.items) τ → under τ t ≡ type

-- The binding of a schema has 16 components at most (38).
abbrev pub FewParts : Ty → Type 0
FewParts (node h gs) = part_count_type gs ≤ 16

abbrev pub IsBinding : Ty → Type 0
IsBinding g = (ids : List ℕ) × (gs : Tys) × (g ≡ node (binding ids) gs)

-- The type of a schema is its binding (document 01, the dictionary).
abbrev pub SchemaType : Ty → Type 0
SchemaType g = FewParts g × IsBinding g

-- Entries keep to the limits: a name has 4 parameters at most and a type of size 32 at most, a schema the type of a schema (document 01, kinds 4 and 5, and 38).
unfoldable pub Limited : Dictionary → Type 0
Limited blank = Unit {0}
Limited (D ▸ name_entry i p g) = Limited D × (p ≤ 4) × (size g ≤ 32)
Limited (D ▸ schema_entry s p g) = Limited D × SchemaType g

-- The area d holds the dictionary D, w has its index, and the entries are well formed and within the limits.
pub record DictionaryHeld (D : Dictionary) (d w : List ℕ) : Type 0 where
  pub holds : Indexed D d w
  pub formed : FormedDictionary D
  pub limited : Limited D

-- The rows of w stand for the scope Γ, with the dictionary D below it, whose index they have too.
pub record Scoped (s d w : List ℕ) (rows : ℕ) (G : Ghost) (Γ : Scope) (D : Dictionary) : Type 0 where
  pub stacked : Stacked (SettledAt s d G) Γ (stack w 0 rows) D
  pub recorded : DictionaryHeld D d w
