-- "The equations through this node" (33, 39), "some solution of the equations so far" (35) and "a piece has several solutions" (34) speak of the node's own
-- piece: what the pieces before and inside it, merging (36) and sizes (38) ask of the types makes no difference (R15; proofs/PieceEquations).
use Rattle.std.specs.Prelude.{◌≡◌, List, [], ◌∷◌, ◌↔◌, ℕ}
use Rattle.std.proofs.Math.Option.{some}
use Rattle.reader_rules.specs.Tree.{Paragraph}
use Rattle.types_rules.specs.Types.{under}
use Rattle.types_rules.specs.Component.{component_type}
use Rattle.types_rules.specs.Equations.{Solves}
use Rattle.types_rules.specs.Trees.{finite}
use Rattle.checker_rules.specs.Unknowns.{Valuation}
use Rattle.checker_rules.specs.Items.{Items, skip, ◌⨾◌, fresh, equations, equate, select, small, refusal, piece, Known, Meets, Agree, Any, And, Passes, Refuses, Typings}
use Rattle.checker_rules.specs.Dictionary.{Dictionary}
use Rattle.checker_rules.specs.Rules.{paragraph_items}
use Rattle.checker_rules.specs.Entries.{extend}
use Rattle.checker_rules.specs.Pieces.{Owns, InPiece}

-- The valuation solves the own equations of a piece, those of its nodes and of its Selects; not those of a piece inside it, of 36, or of sizes.
unfoldable pub SolvesOwn : Items → Valuation → Type 0
SolvesOwn skip τ = Unit {0}
SolvesOwn (a ⨾ b) τ = SolvesOwn a τ × SolvesOwn b τ
SolvesOwn (fresh x) τ = Unit {0}
SolvesOwn (equations n es) τ = Solves (under τ) es
SolvesOwn (equate f n a b) τ = Unit {0}
SolvesOwn (select n i a x) τ = component_type i (under τ a) ≡ some (τ x)
SolvesOwn (small n a) τ = Unit {0}
SolvesOwn (refusal f n) τ = Unit {0}
SolvesOwn (piece n t) τ = Unit {0}

-- σ is τ, but for the own unknowns of the piece w.
abbrev pub Beside : Items → Valuation → Valuation → Type 0
Beside w σ τ = (x : ℕ) → (Owns w x → ⊥) → σ x ≡ τ x

-- E: the valuations that solve the own equations of the piece w so far. A solution of them alone: types for the piece's own unknowns that solve E, beside a
-- typing τ of what comes before.
abbrev pub OwnSolution : Items → (Valuation → Type 0) → Valuation → Valuation → Type 0
OwnSolution w E τ σ = Beside w σ τ × E σ

-- 33 or 39 (specs/SideBySide tells them apart), 35 and 34 by the solutions of the own equations of their piece, at each item that is reached; w: the whole
-- piece that the items are of; P: the valuations that meet all that comes before in the paragraph. Beside any one of them, τ, it is the same: the types of other
-- pieces are settled.
unfoldable pub ByOwnEquations : Items → Items → Typings → (Valuation → Type 0) → Type 0
ByOwnEquations skip w P E = Unit {0}
ByOwnEquations (a ⨾ b) w P E = ByOwnEquations a w P E × (Passes a P → ByOwnEquations b w (And P a) (λ τ. E τ × SolvesOwn a τ))
ByOwnEquations (fresh x) w P E = Unit {0}
ByOwnEquations (equations n es) w P E =
    (τ : Valuation) → P finite τ → (((f : ℕ) × Refuses (equations n es) P f n) ↔ ((σ : Valuation) → OwnSolution w E τ σ → Solves (under σ) es → ⊥))
ByOwnEquations (equate f n a b) w P E = Unit {0}
ByOwnEquations (select n i a x) w P E =
    (τ : Valuation) → P finite τ → (Refuses (select n i a x) P 35 n ↔ ((σ : Valuation) × OwnSolution w E τ σ × (Known (component_type i (under σ a)) → ⊥)))
ByOwnEquations (small n a) w P E = Unit {0}
ByOwnEquations (refusal f n) w P E = Unit {0}
ByOwnEquations (piece n t) w P E =
    ByOwnEquations t t P (Any finite)
    × (Passes t P → (τ : Valuation) → And P t finite τ
    → (((σ υ : Valuation) × And P t finite σ × And P t finite υ × (Agree t σ υ → ⊥))
    ↔ ((σ υ : Valuation) × OwnSolution t (SolvesOwn t) τ σ × OwnSolution t (SolvesOwn t) τ υ × (Agree t σ υ → ⊥))))

-- The types of the pieces in items that pass are settled: all valuations that meet the items give them the same ones (R15, "34 at the Decl otherwise").
abbrev pub Settled : Items → Typings → Type 0
Settled t P = (σ τ : Valuation) → And P t finite σ → And P t finite τ → (x : ℕ) → InPiece t x → σ x ≡ τ x

-- through paragraphs, over the dictionary so far, with any typing of each; no piece is around a paragraph
unfoldable pub PiecesAlone : List Paragraph → Dictionary → Type 0
PiecesAlone [] D = Unit {0}
PiecesAlone (p ∷ ps) D = ByOwnEquations (paragraph_items p D) skip Any (Any finite) × ((τ : Valuation) → Meets (paragraph_items p D) τ → PiecesAlone ps (extend p D τ))
