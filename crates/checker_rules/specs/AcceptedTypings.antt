-- The accepted type of a node by typings alone (specs/Typing), with no items: there is a typing of its paragraph, and every typing of it gives the node this
-- type. It is `HasType` (proofs/AcceptedTypings).
use Rattle.std.specs.Prelude.{◌≡◌, List, [], ◌∷◌, ◌⊎◌, ℕ}
use Rattle.reader_rules.specs.Tree.{Paragraph}
use Rattle.reader_rules.specs.Decode.{tree_of}
use Rattle.types_rules.specs.Types.{Ty}
use Rattle.types_rules.specs.Formed.{WellFormed}
use Rattle.checker_rules.specs.Unknowns.{Valuation, slot}
use Rattle.checker_rules.specs.Dictionary.{Dictionary, blank}
use Rattle.checker_rules.specs.Entries.{extend}
use Rattle.checker_rules.specs.ExpressionNodes.{InParagraph}
use Rattle.checker_rules.specs.Check.{paragraphs_of}
use Rattle.checker_rules.specs.Typing.{TypedParagraph}

unfoldable pub HasTyping : List Paragraph → Dictionary → ℕ → Ty → Type 0
HasTyping [] D m g = ⊥
HasTyping (p ∷ ps) D m g =
    ((τ : Valuation) × TypedParagraph τ p D)
    × ((InParagraph m p × ((τ : Valuation) → TypedParagraph τ p D → τ (slot m 0) ≡ g))
    ⊎ ((τ : Valuation) → TypedParagraph τ p D → HasTyping ps (extend p D τ) m g))

-- The node's type in all typings, a well-formed one, and that there is no other.
pub record TypedAs (doc : List ℕ) (m : ℕ) (g : Ty) : Type 0 where
  pub has : HasTyping (paragraphs_of (tree_of doc)) blank m g
  pub only : (k : Ty) → HasTyping (paragraphs_of (tree_of doc)) blank m k → g ≡ k
  pub formed : WellFormed g
