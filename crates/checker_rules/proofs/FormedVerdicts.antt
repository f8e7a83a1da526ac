-- ONLY WELL-FORMED TYPES COUNT AS SOLUTIONS, AND THE VERDICTS ARE THE SAME; a type that an accepted document's node has is well formed.
use mathlib.Core.Path.{◌≡◌, subst}
use mathlib.Core.List.{List, [], ◌∷◌}
use mathlib.Core.Logic.{◌↔◌, inl, inr}
use Prim.Native.Nat.{ℕ}
use Rattle.reader_rules.specs.Reading.{read_of}
use Rattle.reader_rules.specs.Tree.{Paragraph}
use Rattle.reader_rules.specs.Decode.{tree_of}
use Rattle.reader_rules.proofs.Sized.{SizedParagraphs}
use Rattle.types_rules.specs.Types.{Ty}
use Rattle.types_rules.specs.Formed.{WellFormed}
use Rattle.checker_rules.specs.Unknowns.{Valuation, slot}
use Rattle.checker_rules.specs.Items.{Any}
use Rattle.checker_rules.specs.Dictionary.{Dictionary, blank}
use Rattle.checker_rules.specs.Rules.{paragraph_items}
use Rattle.checker_rules.specs.Entries.{extend}
use Rattle.checker_rules.specs.Solving.{solve}
use Rattle.checker_rules.specs.AcceptedTypes.{HasType}
use Rattle.checker_rules.specs.Check.{Answer, accepted, refused, check_of, paragraphs_of}
use Rattle.checker_rules.specs.Verdicts.{Accepts, RefusesAt, AnswersFrom, Answers}
use Rattle.checker_rules.specs.WellFormed.{FormedDictionary, FormedValuation, FormedTypings}
use Rattle.checker_rules.proofs.SolvingRight.{Verdict}
use Rattle.checker_rules.proofs.CheckRight.{answers_from, check_right_in, paragraphs_law}
use Rattle.checker_rules.proofs.SizedTree.{tree_sized}
use Rattle.checker_rules.proofs.FormedItems.{formed_paragraph}
use Rattle.checker_rules.proofs.FormedCheck.{extend_formed}
use Rattle.checker_rules.proofs.FormedSolutions.{right_formed}
use Rattle.reader_rules.specs.Refusals.{Readable}

-- What makes the solver right about well-formed valuations.
abbrev Keeping : List Paragraph → Dictionary → Type 0
Keeping ps D = SizedParagraphs ps × FormedDictionary D

right : (p : Paragraph) (ps : List Paragraph) (D : Dictionary) → Keeping (p ∷ ps) D → Verdict FormedTypings (paragraph_items p D) (solve (paragraph_items p D))
unfolding SizedParagraphs
right p ps D i = right_formed (paragraph_items p D) (formed_paragraph p D i.0.0 i.1)

onward : (p : Paragraph) (ps : List Paragraph) (D : Dictionary) (τ : Valuation) → Keeping (p ∷ ps) D → FormedValuation τ → Keeping ps (extend p D τ)
unfolding SizedParagraphs
onward p ps D τ i c = (i.0.1, extend_formed τ c p D i.1)

-- THE CHECK'S ANSWER IS WHAT THE PAGE SAYS with well-formed types alone as solutions.
pub check_right_formed : (doc : List ℕ) (d w : ℕ) (a : Answer) → (check_of doc d w ≡ a) ↔ Answers FormedTypings doc d w a
check_right_formed doc d w a = check_right_in FormedTypings Keeping right onward doc d w a (λ r. (tree_sized doc r, unfold FormedDictionary in tt))

-- A READABLE DOCUMENT'S VERDICTS ARE THE SAME where only well-formed types count as solutions.
pub answers_same : (ps : List Paragraph) (D : Dictionary) → SizedParagraphs ps → FormedDictionary D → (d : ℕ) (a : Answer) → AnswersFrom Any ps D d a ↔ AnswersFrom FormedTypings ps D d a
answers_same ps D z h d a =
    let u = paragraphs_law ps D d a in
    let v = answers_from FormedTypings Keeping right onward ps D d (z, h) a in
    (λ x. v.0 (u.1 x), λ x. u.0 (v.1 x))

pub accepts_same : (doc : List ℕ) → read_of doc ≡ Readable → (d : ℕ) (E : Dictionary)
    → Accepts Any (paragraphs_of (tree_of doc)) blank d E ↔ Accepts FormedTypings (paragraphs_of (tree_of doc)) blank d E
unfolding AnswersFrom
accepts_same doc r d E = answers_same (paragraphs_of (tree_of doc)) blank (tree_sized doc r) (unfold FormedDictionary in tt) d (accepted E)

pub refuses_same : (doc : List ℕ) → read_of doc ≡ Readable → (d f m : ℕ)
    → RefusesAt Any (paragraphs_of (tree_of doc)) blank d f m ↔ RefusesAt FormedTypings (paragraphs_of (tree_of doc)) blank d f m
unfolding AnswersFrom
refuses_same doc r d f m = answers_same (paragraphs_of (tree_of doc)) blank (tree_sized doc r) (unfold FormedDictionary in tt) d (refused f m)

-- Accepted types are well formed.
pub type_formed : (ps : List Paragraph) (D : Dictionary) (d : ℕ) (E : Dictionary) → Accepts FormedTypings ps D d E → (m : ℕ) (g : Ty) → HasType ps D m g → WellFormed g
unfolding Accepts HasType
type_formed [] D d E a m g t = absurd t
type_formed (p ∷ ps) D d E (a, (τ, w, l, r)) m g (y, inl t) = subst WellFormed (t.1 τ w.1) (w.0 (slot m 0))
type_formed (p ∷ ps) D d E (a, (τ, w, l, r)) m g (y, inr t) = type_formed ps (extend p D τ) d E r m g (t τ w.1)
