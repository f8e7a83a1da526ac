-- EACH EXPRESSION OF AN ACCEPTED DOCUMENT HAS ITS ACCEPTED TYPE IN EVERY SOLUTION OF ITS PIECE, after what comes before the piece; and each is in a piece.
use mathlib.Core.Path.{◌≡◌, refl, sym, subst}
use mathlib.Core.Bool.{Bool, true, false}
use mathlib.Core.List.{List, [], ◌∷◌}
use mathlib.Core.Logic.{◌⊎◌, inl, inr}
use Prim.Native.Nat.{ℕ}
use native.Mathlib.Omega.{arith}
use lib.Dec.{eqb}
use borrow.Author.Tests.{eqb-true, eqb-false, ne_eqb}
use Rattle.types_rules.specs.Types.{Ty, integer_type, ℙℤ}
use Rattle.types_rules.specs.Substitution.{update}
use Rattle.types_rules.proofs.Terms.{update_same, update_other}
use Rattle.types_rules.specs.Trees.{finite}
use Rattle.reader_rules.specs.Tree.{Paragraph}
use Rattle.reader_rules.specs.Decode.{tree_of}
use Rattle.checker_rules.specs.Unknowns.{Valuation, slot}
use Rattle.checker_rules.specs.Items.{Items, skip, ◌⨾◌, fresh, equations, equate, select, small, refusal, piece, MeetsIn, Agree, Any, And, Passes, Typings}
use Rattle.checker_rules.specs.Dictionary.{Dictionary, blank}
use Rattle.checker_rules.specs.Rules.{paragraph_items}
use Rattle.checker_rules.specs.Entries.{extend}
use Rattle.checker_rules.specs.ExpressionNodes.{InParagraph}
use Rattle.checker_rules.specs.AcceptedTypes.{HasType, TheType}
use Rattle.checker_rules.specs.Pieces.{Owns, InPiece, EachPiece, PieceTypes}
use Rattle.checker_rules.specs.PieceEquations.{Settled}
use Rattle.checker_rules.specs.Check.{accepted, check_of, paragraphs_of}
use Rattle.checker_rules.specs.Verdicts.{Accepts}
use Rattle.checker_rules.proofs.ItemLaws.{Agrees}
use Rattle.checker_rules.proofs.FindingLaws.{either}
use Rattle.checker_rules.proofs.OneType.{one_para, one_type, extend_same}
use Rattle.checker_rules.proofs.CheckRight.{accepted_says}
use Rattle.checker_rules.proofs.AcceptedTypes.{the_type}

-- ---- every solution of a piece agrees on the piece's own unknowns with the typing τ of the whole
pub owned : (t : Items) (σ τ : Valuation) → Agree t σ τ → (x : ℕ) → Owns t x → σ x ≡ τ x
unfolding Agree Owns
owned skip σ τ h x q = absurd q
owned (a ⨾ b) σ τ h x (inl q) = owned a σ τ h.0 x q
owned (a ⨾ b) σ τ h x (inr q) = owned b σ τ h.1 x q
owned (fresh y) σ τ h x q = subst (λ (z : ℕ). σ z ≡ τ z) q h
owned (equations n es) σ τ h x q = absurd q
owned (equate f n a b) σ τ h x q = absurd q
owned (select n i a y) σ τ h x q = absurd q
owned (small n a) σ τ h x q = absurd q
owned (refusal f n) σ τ h x q = absurd q
owned (piece n t) σ τ h x q = absurd q

each_piece : (t : Items) (P : Typings) (T : ℕ → Ty → Type 0) (τ : Valuation) → Passes t P → And P t finite τ → ((m : ℕ) → T m (τ (slot m 0))) → EachPiece t P T
unfolding Passes MeetsIn EachPiece
each_piece skip P T τ p h f = tt
each_piece (a ⨾ b) P T τ p h f = (each_piece a P T τ p.0 (h.0, h.1.0) f, each_piece b (And P a) T τ p.1 ((h.0, h.1.0), h.1.1) f)
each_piece (fresh x) P T τ p h f = tt
each_piece (equations n es) P T τ p h f = tt
each_piece (equate g n a b) P T τ p h f = tt
each_piece (select n i a x) P T τ p h f = tt
each_piece (small n a) P T τ p h f = tt
each_piece (refusal g n) P T τ p h f = tt
each_piece (piece n t) P T τ p h f =
    (λ σ w m q. subst (T m) (sym (owned t σ τ (p.1 σ τ w h) (slot m 0) q)) (f m), each_piece t P T τ p.0 h f)

-- What has passed is settled.
pub settled : (t : Items) (P : Typings) → Passes t P → Settled t P
unfolding Passes MeetsIn InPiece
settled skip P p σ τ g h x q = absurd q
settled (a ⨾ b) P p σ τ g h x (inl q) = settled a P p.0 σ τ (g.0, g.1.0) (h.0, h.1.0) x q
settled (a ⨾ b) P p σ τ g h x (inr q) = settled b (And P a) p.1 σ τ ((g.0, g.1.0), g.1.1) ((h.0, h.1.0), h.1.1) x q
settled (fresh y) P p σ τ g h x q = absurd q
settled (equations n es) P p σ τ g h x q = absurd q
settled (equate f n a b) P p σ τ g h x q = absurd q
settled (select n i a y) P p σ τ g h x q = absurd q
settled (small n a) P p σ τ g h x q = absurd q
settled (refusal f n) P p σ τ g h x q = absurd q
settled (piece n t) P p σ τ g h x (inl q) = owned t σ τ (p.1 σ τ g h) x q
settled (piece n t) P p σ τ g h x (inr q) = settled t P p.0 σ τ g h x q

-- ---- every expression node is in a piece: valuations that differ at its type alone would agree otherwise
never : ⊥ ⊎ (⊥ → ⊥)
never = inr (λ z. z)

pub owns_decide : (t : Items) (x : ℕ) → Owns t x ⊎ (Owns t x → ⊥)
unfolding Owns
owns_decide skip x = never
owns_decide (a ⨾ b) x = either _ _ (owns_decide a x) (owns_decide b x)
owns_decide (fresh y) x = go (eqb y x) refl
  where
    go : (b : Bool) → eqb y x ≡ b → (y ≡ x) ⊎ (y ≡ x → ⊥)
    go true e = inl (eqb-true y x e)
    go false e = inr (eqb-false y x e)
owns_decide (equations n es) x = never
owns_decide (equate f n a b) x = never
owns_decide (select n i a y) x = never
owns_decide (small n a) x = never
owns_decide (refusal f n) x = never
owns_decide (piece n t) x = never

in_decide : (t : Items) (x : ℕ) → InPiece t x ⊎ (InPiece t x → ⊥)
unfolding InPiece
in_decide skip x = never
in_decide (a ⨾ b) x = either _ _ (in_decide a x) (in_decide b x)
in_decide (fresh y) x = never
in_decide (equations n es) x = never
in_decide (equate f n a b) x = never
in_decide (select n i a y) x = never
in_decide (small n a) x = never
in_decide (refusal f n) x = never
in_decide (piece n t) x = either _ _ (owns_decide t x) (in_decide t x)

module _ (x : ℕ) (σ τ : Valuation) (e : (y : ℕ) → (y ≡ x → ⊥) → σ y ≡ τ y) where
  unowned : (t : Items) → (Owns t x → ⊥) → Agree t σ τ
  unfolding Owns Agree
  unowned skip w = tt
  unowned (a ⨾ b) w = (unowned a (λ z. w (inl z)), unowned b (λ z. w (inr z)))
  unowned (fresh y) w = e y w
  unowned (equations n es) w = tt
  unowned (equate f n a b) w = tt
  unowned (select n i a y) w = tt
  unowned (small n a) w = tt
  unowned (refusal f n) w = tt
  unowned (piece n t) w = tt

  outside : (t : Items) (P : Typings) → Passes t P → (InPiece t x → ⊥) → Agrees t σ τ
  unfolding InPiece Agrees Passes
  outside skip P p w = tt
  outside (a ⨾ b) P p w = (outside a P p.0 (λ z. w (inl z)), outside b (And P a) p.1 (λ z. w (inr z)))
  outside (fresh y) P p w = tt
  outside (equations n es) P p w = tt
  outside (equate f n a b) P p w = tt
  outside (select n i a y) P p w = tt
  outside (small n a) P p w = tt
  outside (refusal f n) P p w = p
  outside (piece n t) P p w = (unowned t (λ z. w (inl z)), outside t P p.0 (λ z. w (inr z)))

in_piece : (p : Paragraph) (D : Dictionary) → Passes (paragraph_items p D) Any → (m : ℕ) → InParagraph m p → InPiece (paragraph_items p D) (slot m 0)
in_piece p D h m q = go (in_decide (paragraph_items p D) (slot m 0))
  where
    σ : Valuation
    σ = λ y. integer_type

    τ : Valuation
    τ = update (λ y. integer_type) (slot m 0) ℙℤ

    differ : σ (slot m 0) ≡ τ (slot m 0) → ⊥
    differ e = let r = update_same (λ y. integer_type) (slot m 0) ℙℤ in let z : ◌≡◌ {A = ℕ} 0 1 = cc in omega arith

    go : InPiece (paragraph_items p D) (slot m 0) ⊎ (InPiece (paragraph_items p D) (slot m 0) → ⊥) → InPiece (paragraph_items p D) (slot m 0)
    go (inl z) = z
    go (inr w) =
        absurd (differ (one_para σ τ p D (outside (slot m 0) σ τ (λ y n. sym (update_other (λ y. integer_type) (slot m 0) ℙℤ y (ne_eqb y (slot m 0) n))) (paragraph_items p D) Any h w) m q))

-- ---- through the document
piece_types : (ps : List Paragraph) (D : Dictionary) (d : ℕ) (E : Dictionary) (T : ℕ → Ty → Type 0) → Accepts Any ps D d E → ((m : ℕ) (g : Ty) → HasType ps D m g → T m g) → PieceTypes ps D T
unfolding Accepts HasType PieceTypes
piece_types [] D d E T h f = tt
piece_types (p ∷ ps) D d E T h f = (
  λ m q. in_piece p D h.0 m q,
  each_piece (paragraph_items p D) Any (λ m g. InParagraph m p → T m g) h.1.0 h.0 h.1.1
      (λ m q. f m (h.1.0 (slot m 0)) ((h.1.0, h.1.1.1), inl (q, λ τ s. one_type p D h.0 τ h.1.0 s h.1.1.1 m q))),
  λ τ s. subst (λ X. PieceTypes ps X T) (extend_same p D h.0 h.1.0 τ h.1.1.1 s)
      (piece_types ps (extend p D h.1.0) d E T h.1.3 (λ m g t. f m g ((h.1.0, h.1.1.1), inr (λ υ s. subst (λ X. HasType ps X m g) (extend_same p D h.0 h.1.0 υ h.1.1.1 s) t)))),
)

-- In every solution of its piece a node has the accepted type, and no other.
pub accepted_pieces : (doc : List ℕ) (d w : ℕ) (E : Dictionary) → check_of doc d w ≡ accepted E → PieceTypes (paragraphs_of (tree_of doc)) blank (TheType doc)
accepted_pieces doc d w E e =
    piece_types (paragraphs_of (tree_of doc)) blank d E (TheType doc) (accepted_says doc d w E e).passes (λ m g t. the_type doc d w E e m g t)
