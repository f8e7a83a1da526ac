-- "A node's accepted type is that in its piece's one solution": the pieces of a paragraph, the expression nodes of each, and their types in every valuation that
-- meets the piece after what comes before it.
use Rattle.std.specs.Prelude.{◌≡◌, List, [], ◌∷◌, ◌⊎◌, ℕ}
use Rattle.reader_rules.specs.Tree.{Paragraph}
use Rattle.types_rules.specs.Types.{Ty}
use Rattle.types_rules.specs.Trees.{finite}
use Rattle.checker_rules.specs.Unknowns.{Valuation, slot}
use Rattle.checker_rules.specs.Items.{Items, skip, ◌⨾◌, fresh, equations, equate, select, small, refusal, piece, Meets, Any, And, Typings}
use Rattle.checker_rules.specs.Dictionary.{Dictionary}
use Rattle.checker_rules.specs.Rules.{paragraph_items}
use Rattle.checker_rules.specs.Entries.{extend}
use Rattle.checker_rules.specs.ExpressionNodes.{InParagraph}

-- x is an unknown of the piece itself; pieces inside it have theirs (R15).
unfoldable pub Owns : Items → ℕ → Type 0
Owns skip x = ⊥
Owns (a ⨾ b) x = Owns a x ⊎ Owns b x
Owns (fresh y) x = y ≡ x
Owns (equations n es) x = ⊥
Owns (equate f n a b) x = ⊥
Owns (select n i a y) x = ⊥
Owns (small n a) x = ⊥
Owns (refusal f n) x = ⊥
Owns (piece n t) x = ⊥

-- x is an unknown of one of the pieces.
unfoldable pub InPiece : Items → ℕ → Type 0
InPiece skip x = ⊥
InPiece (a ⨾ b) x = InPiece a x ⊎ InPiece b x
InPiece (fresh y) x = ⊥
InPiece (equations n es) x = ⊥
InPiece (equate f n a b) x = ⊥
InPiece (select n i a y) x = ⊥
InPiece (small n a) x = ⊥
InPiece (refusal f n) x = ⊥
InPiece (piece n t) x = Owns t x ⊎ InPiece t x

-- P are the valuations that meet the items before. T m g of the node m whose type is an unknown of a piece, with its type g in any solution of the piece.
unfoldable pub EachPiece : Items → Typings → (ℕ → Ty → Type 0) → Type 0
EachPiece skip P T = Unit {0}
EachPiece (a ⨾ b) P T = EachPiece a P T × EachPiece b (And P a) T
EachPiece (fresh x) P T = Unit {0}
EachPiece (equations n es) P T = Unit {0}
EachPiece (equate f n a b) P T = Unit {0}
EachPiece (select n i a x) P T = Unit {0}
EachPiece (small n a) P T = Unit {0}
EachPiece (refusal f n) P T = Unit {0}
EachPiece (piece n t) P T = ((σ : Valuation) → And P t finite σ → (m : ℕ) → Owns t (slot m 0) → T m (σ (slot m 0))) × EachPiece t P T

-- In each paragraph every expression node is of a piece, and T m g of each node m of a piece and its type g; so through the document.
unfoldable pub PieceTypes : List Paragraph → Dictionary → (ℕ → Ty → Type 0) → Type 0
PieceTypes [] D T = Unit {0}
PieceTypes (p ∷ ps) D T =
    ((m : ℕ) → InParagraph m p → InPiece (paragraph_items p D) (slot m 0))
    × EachPiece (paragraph_items p D) Any (λ m g. InParagraph m p → T m g)
    × ((τ : Valuation) → Meets (paragraph_items p D) τ → PieceTypes ps (extend p D τ) T)
