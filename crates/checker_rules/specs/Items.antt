-- Items: what the typing rules ask of a paragraph, in visiting order; and what the documents say of them, for all typings at once. `Passes` and `Refuses`
-- are the findings 31 to 39: 33 and 39 where the equations through this node have no solution, 34 where a piece has several, 35 where some solution of the
-- equations so far has no binding with this component, 38 where a type is over size 32. Of 33 and 39 (document 02, ask 10), 33 comes where not even possibly
-- infinite types solve the equations, which is where two different formers stand side by side (specs/SideBySide); 39 where such types do: a type would
-- contain itself.
use Rattle.std.specs.Prelude.{◌≡◌, ◌⊎◌, ℕ, ◌≤◌, ◌<◌}
use Rattle.std.proofs.Math.Option.{Option, some, none as nothing}
use Rattle.types_rules.specs.Types.{Ty, Term, under, size}
use Rattle.types_rules.specs.Component.{component_type}
use Rattle.types_rules.specs.Equations.{Pairs, Solves}
use Rattle.types_rules.specs.Infinite.{Inf, under_inf}
use Rattle.types_rules.specs.Trees.{Extent, finite, infinite, Tree, under_in, component_in}
use Rattle.checker_rules.specs.Unknowns.{Valuation}

infixr 15 ◌⨾◌
pub data Items : Type 0 where
  skip : Items
  ◌⨾◌ : Items → Items → Items
  -- an unknown of the piece
  fresh : ℕ → Items
  -- node, the equations that it adds: they hold, all together (33, 39)
  equations : ℕ → Pairs Term → Items
  -- finding, node, two settled terms: they are equal (36, where identifiers merge)
  equate : ℕ → ℕ → Term → Term → Items
  -- node, identifier, term, unknown: the unknown is the type of this component of the term (35)
  select : ℕ → ℕ → Term → ℕ → Items
  -- node, term: of size 32 at most (38)
  small : ℕ → Term → Items
  -- finding, node: a refusal that the types do not decide
  refusal : ℕ → ℕ → Items
  -- closing node, a closed piece (34)
  piece : ℕ → Items → Items

-- The type has the component, whatever its type.
unfoldable pub Known : Option Ty → Type 0
Known (some g) = Unit {0}
Known nothing = ⊥

-- Of size 32 at most; a possibly infinite type is not asked its size.
abbrev pub Small : (w : Extent) → Tree w → Type 0
Small finite g = size g ≤ 32
Small infinite g = Unit {0}

-- The valuation meets the items, one of types or one of possibly infinite types.
unfoldable pub MeetsIn : Items → (w : Extent) → (ℕ → Tree w) → Type 0
MeetsIn skip w τ = Unit {0}
MeetsIn (a ⨾ b) w τ = MeetsIn a w τ × MeetsIn b w τ
MeetsIn (fresh x) w τ = Unit {0}
MeetsIn (equations n es) w τ = Solves (under_in w τ) es
MeetsIn (equate f n a b) w τ = under_in w τ a ≡ under_in w τ b
MeetsIn (select n i a x) w τ = component_in w i (under_in w τ a) ≡ some (τ x)
MeetsIn (small n a) w τ = Small w (under_in w τ a)
MeetsIn (refusal f n) w τ = ⊥
MeetsIn (piece n t) w τ = MeetsIn t w τ

abbrev pub Meets : Items → Valuation → Type 0
Meets t τ = MeetsIn t finite τ

-- Two valuations agree on a piece's own unknowns; pieces inside it have theirs (R15).
unfoldable pub Agree : Items → Valuation → Valuation → Type 0
Agree skip σ τ = Unit {0}
Agree (a ⨾ b) σ τ = Agree a σ τ × Agree b σ τ
Agree (fresh x) σ τ = σ x ≡ τ x
Agree (equations n es) σ τ = Unit {0}
Agree (equate f n a b) σ τ = Unit {0}
Agree (select n i a x) σ τ = Unit {0}
Agree (small n a) σ τ = Unit {0}
Agree (refusal f n) σ τ = Unit {0}
Agree (piece n t) σ τ = Unit {0}

-- Some valuations, of types and of possibly infinite types.
abbrev pub Typings : Type 1
Typings = (w : Extent) → (ℕ → Tree w) → Type 0

abbrev pub Any : Typings
Any w τ = Unit {0}

abbrev pub And : Typings → Items → Typings
And P t w τ = P w τ × MeetsIn t w τ

-- The items pass, where P are the valuations that meet the items before them.
unfoldable pub Passes : Items → Typings → Type 0
Passes skip P = Unit {0}
Passes (a ⨾ b) P = Passes a P × Passes b (And P a)
Passes (fresh x) P = Unit {0}
Passes (equations n es) P = (τ : Valuation) × P finite τ × Solves (under τ) es
Passes (equate f n a b) P = (τ : Valuation) × P finite τ × (under τ a ≡ under τ b)
Passes (select n i a x) P =
    ((τ : Valuation) → P finite τ → Known (component_type i (under τ a))) × ((τ : Valuation) × P finite τ × (component_type i (under τ a) ≡ some (τ x)))
Passes (small n a) P = (τ : Valuation) → P finite τ → size (under τ a) ≤ 32
Passes (refusal f n) P = ⊥
Passes (piece n t) P = Passes t P × ((σ τ : Valuation) → And P t finite σ → And P t finite τ → Agree t σ τ)

-- The number of equations that no types solve: 33, and 39 where possibly infinite types solve them.
abbrev pub Unsolved : ℕ → Type 0 → Type 0
Unsolved f A = ((f ≡ 33) × (A → ⊥)) ⊎ ((f ≡ 39) × A)

-- The first item that does not pass gives the finding f at the node m. (33 at a Select never comes in a document, where its unknown is new: proofs/SelectFindings.)
unfoldable pub Refuses : Items → Typings → ℕ → ℕ → Type 0
Refuses skip P f m = ⊥
Refuses (a ⨾ b) P f m = Refuses a P f m ⊎ (Passes a P × Refuses b (And P a) f m)
Refuses (fresh x) P f m = ⊥
Refuses (equations n es) P f m =
    (m ≡ n) × ((τ : Valuation) → P finite τ → Solves (under τ) es → ⊥) × Unsolved f ((ρ : ℕ → Inf) × P infinite ρ × Solves (under_inf ρ) es)
Refuses (equate g n a b) P f m = (f ≡ g) × (m ≡ n) × ((τ : Valuation) → P finite τ → under τ a ≡ under τ b → ⊥)
Refuses (select n i a x) P f m =
    ((f ≡ 35) × (m ≡ n) × ((τ : Valuation) × P finite τ × (Known (component_type i (under τ a)) → ⊥)))
    ⊎ ((f ≡ 33) × (m ≡ n) × ((τ : Valuation) → P finite τ → Known (component_type i (under τ a)))
    × ((τ : Valuation) → P finite τ → component_type i (under τ a) ≡ some (τ x) → ⊥))
Refuses (small n a) P f m = (f ≡ 38) × (m ≡ n) × ((τ : Valuation) × P finite τ × (32 < size (under τ a)))
Refuses (refusal g n) P f m = (f ≡ g) × (m ≡ n)
Refuses (piece n t) P f m =
    Refuses t P f m
    ⊎ (Passes t P × (f ≡ 34) × (m ≡ n) × ((σ τ : Valuation) × And P t finite σ × And P t finite τ × (Agree t σ τ → ⊥)))
