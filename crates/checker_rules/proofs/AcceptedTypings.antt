-- ACCEPTED TYPES BY TYPINGS ALONE: what `HasType` says by items, specs/AcceptedTypings says by the sentences of document 01.
use mathlib.Core.Path.{◌≡◌}
use mathlib.Core.List.{List, [], ◌∷◌}
use mathlib.Core.Logic.{inl, inr}
use Prim.Native.Nat.{ℕ}
use Rattle.reader_rules.specs.Tree.{Paragraph}
use Rattle.reader_rules.specs.Decode.{tree_of}
use Rattle.types_rules.specs.Types.{Ty}
use Rattle.checker_rules.specs.Dictionary.{Dictionary, blank}
use Rattle.checker_rules.specs.Entries.{extend}
use Rattle.checker_rules.specs.ExpressionNodes.{InParagraphs}
use Rattle.checker_rules.specs.AcceptedTypes.{HasType}
use Rattle.checker_rules.specs.AcceptedTypings.{HasTyping, TypedAs}
use Rattle.checker_rules.specs.Check.{accepted, check_of, paragraphs_of}
use Rattle.checker_rules.proofs.TypingLaws.{paragraph_law}
use Rattle.checker_rules.proofs.AcceptedTypes.{accepted_type}

to_typing : (ps : List Paragraph) (D : Dictionary) (m : ℕ) (g : Ty) → HasType ps D m g → HasTyping ps D m g
unfolding HasType HasTyping
to_typing [] D m g t = absurd t
to_typing (p ∷ ps) D m g (x, inl t) = ((x.0, (paragraph_law x.0 p D).0 x.1), inl (t.0, λ τ h. t.1 τ ((paragraph_law τ p D).1 h)))
to_typing (p ∷ ps) D m g (x, inr t) = ((x.0, (paragraph_law x.0 p D).0 x.1), inr (λ τ h. to_typing ps (extend p D τ) m g (t τ ((paragraph_law τ p D).1 h))))

from_typing : (ps : List Paragraph) (D : Dictionary) (m : ℕ) (g : Ty) → HasTyping ps D m g → HasType ps D m g
unfolding HasType HasTyping
from_typing [] D m g t = absurd t
from_typing (p ∷ ps) D m g (x, inl t) = ((x.0, (paragraph_law x.0 p D).1 x.1), inl (t.0, λ τ h. t.1 τ ((paragraph_law τ p D).0 h)))
from_typing (p ∷ ps) D m g (x, inr t) = ((x.0, (paragraph_law x.0 p D).1 x.1), inr (λ τ h. from_typing ps (extend p D τ) m g (t τ ((paragraph_law τ p D).0 h))))

-- EACH EXPRESSION OF AN ACCEPTED DOCUMENT HAS ONE TYPE IN ALL TYPINGS, a well-formed one, and no other.
pub accepted_typing : (doc : List ℕ) (d w : ℕ) (E : Dictionary) → check_of doc d w ≡ accepted E → (m : ℕ) → InParagraphs m (paragraphs_of (tree_of doc))
    → (g : Ty) × TypedAs doc m g
accepted_typing doc d w E e m q =
    let t = accepted_type doc d w E e m q in
    let ps = paragraphs_of (tree_of doc) in
    (t.0, record { has = to_typing ps blank m t.0 t.1.has; only = λ k s. t.1.only k (from_typing ps blank m k s); formed = t.1.formed })
