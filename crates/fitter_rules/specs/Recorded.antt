-- The values of a state and the types that a dictionary records for its names (document 01, "state value not of its recorded type").
use Rattle.std.specs.Prelude.{◌≡◌, List, false, ℕ, ◌≤◌, length}
use Rattle.layout.specs.Layout.{part}
use Rattle.values.specs.Value.{Value}
use Rattle.types_rules.specs.Types.{Ty}
use Rattle.checker_rules.specs.Dictionary.{Dictionary, of_global, name_in}
use Rattle.states_rules.specs.Names.{Name}
use Rattle.states_rules.specs.Decode.{value_of}
use Rattle.states_rules.specs.States.{name_at, sizes_in}
use Rattle.fitter_rules.specs.HasType.{Has}

-- the value of entry k, where the entry is no Given's
abbrev pub entry_at : List Name → List ℕ → ℕ → Value
entry_at ns state k = value_of (sizes_in ns state) (part state k)

-- Entry k is a Given's size, or its value is of the type that the dictionary records for its name.
abbrev pub EntryFits : Dictionary → List Name → List ℕ → ℕ → Type 0
EntryFits E ns state k =
    (name_at ns k).is_given ≡ false → (g : Ty) × (name_in (name_at ns k).identifier E ≡ of_global 0 g) × Has (entry_at ns state k) g

-- Each value of the state is of its recorded type.
pub record StateFits (E : Dictionary) (ns : List Name) (state : List ℕ) : Type 0 where
  pub entry : (k : ℕ) → 1 ≤ k → k ≤ length ns → EntryFits E ns state k
