-- "A node's accepted type is that in its piece's one solution": there is a typing of the paragraph, and every typing of it gives this type to the
-- expression node m. The dictionary is that of the paragraphs before, which have typings too, with any typing of each.
use Rattle.std.specs.Prelude.{◌≡◌, List, [], ◌∷◌, ◌⊎◌, ℕ}
use Rattle.reader_rules.specs.Tree.{Paragraph}
use Rattle.reader_rules.specs.Decode.{tree_of}
use Rattle.types_rules.specs.Types.{Ty}
use Rattle.types_rules.specs.Formed.{WellFormed}
use Rattle.checker_rules.specs.Unknowns.{Valuation, slot}
use Rattle.checker_rules.specs.Items.{Meets}
use Rattle.checker_rules.specs.Dictionary.{Dictionary, blank}
use Rattle.checker_rules.specs.Rules.{paragraph_items}
use Rattle.checker_rules.specs.Entries.{extend}
use Rattle.checker_rules.specs.ExpressionNodes.{InParagraph}
use Rattle.checker_rules.specs.Check.{paragraphs_of}

unfoldable pub HasType : List Paragraph → Dictionary → ℕ → Ty → Type 0
HasType [] D m g = ⊥
HasType (p ∷ ps) D m g =
    ((τ : Valuation) × Meets (paragraph_items p D) τ)
    × ((InParagraph m p × ((τ : Valuation) → Meets (paragraph_items p D) τ → τ (slot m 0) ≡ g))
    ⊎ ((τ : Valuation) → Meets (paragraph_items p D) τ → HasType ps (extend p D τ) m g))

-- The type g of the expression node m: it has it, it has no other, and it is well formed.
pub record TheType (doc : List ℕ) (m : ℕ) (g : Ty) : Type 0 where
  pub has : HasType (paragraphs_of (tree_of doc)) blank m g
  pub only : (k : Ty) → HasType (paragraphs_of (tree_of doc)) blank m k → g ≡ k
  pub formed : WellFormed g
