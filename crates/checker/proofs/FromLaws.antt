-- The paragraphs from an operand of the Document on: the answer by the first of them, and what is asked before the next.
use mathlib.Core.Path.{◌≡◌, refl, sym, ap, subst, ◌∙◌}
use mathlib.Core.Logic.{inr}
use mathlib.Core.List.{List, ◌∷◌}
use Prim.Native.Nat.{ℕ, zero, suc, ◌+◌, ◌-◌, ◌≤◌}
use native.Mathlib.Omega.{arith}
use native.Mathlib.Numerals.{add-one}
use lib.ListN.{length}
use Rattle.layout.specs.Layout.{count}
use Rattle.reader_rules.specs.Nodes.{operand_at, document_words}
use Rattle.reader_rules.specs.Tree.{Paragraph}
use Rattle.reader_rules.specs.Decode.{gather, paragraph_at, paragraphs_from}
use Rattle.checker_rules.specs.Areas.{answer_finding}
use Rattle.checker_rules.specs.Check.{Answer, accepted, refused}
use Rattle.checker_rules.specs.Dictionary.{Dictionary}
use Rattle.checker_rules.specs.Entries.{extend}
use Rattle.checker_rules.specs.Items.{Any}
use Rattle.checker_rules.specs.Verdicts.{Accepts, RefusesAt, AnswersFrom}
use Rattle.reader_rules.specs.Refusals.{Finding, Accepted, Refused}
use Rattle.checker_dictionary.specs.Holds.{Holds}
use Rattle.types_instances.proofs.CleanLaws.{clean_lower}
use Rattle.checker_lookup.specs.Scoped.{DictionaryHeld}
use Rattle.checker_extension.specs.Entering.{Grown, Entered}
use Rattle.checker.specs.Answering.{ParagraphsAsk, Answered}
use Rattle.checker.proofs.AnsweringLaws.{told_refused}
use Rattle.checker.proofs.DocumentWords.{words_few}

-- The paragraphs from operand i on, where some are left.
from_next : (doc : List ℕ) (n i m : ℕ) → (m ≡ 0 → ⊥) → paragraphs_from doc n i m ≡ paragraph_at doc (operand_at doc n i) ∷ paragraphs_from doc n (i + 1) (m - 1)
unfolding paragraphs_from gather
from_next doc n i zero h = absurd (h refl)
from_next doc n i (suc m) h = let e : suc m - 1 ≡ m = omega arith in rw (add-one i, e) refl

-- The first of the paragraphs, then the others.
answers_next : (p : Paragraph) (ps : List Paragraph) (D : Dictionary) (d' w' : List ℕ) (G : Grown p D d' w') (a : Answer)
    → AnswersFrom Any ps (extend p D G.table) (length d') a → AnswersFrom Any (p ∷ ps) D (length d') a
unfolding AnswersFrom Accepts RefusesAt
answers_next p ps D d' w' G (accepted E) h = (G.passes, (G.table, (tt, G.meets), G.recorded.holds.holds.fits, h))
answers_next p ps D d' w' G (refused f m) h = inr (G.passes, (G.table, (tt, G.meets), inr (G.recorded.holds.holds.fits, h)))

module _ (doc : List ℕ) (i m : ℕ) where
  pub from_none : m ≡ 0 → (d w : List ℕ) (D : Dictionary) → DictionaryHeld D d w → Answered (paragraphs_from doc (count doc) i m) D (length d) d Accepted
  unfolding AnswersFrom Accepts paragraphs_from gather answer_finding
  from_none z d w D R = rw z (record { answer = accepted D; answers = refl; told = record { finding = refl; held = λ E q. let e : D ≡ E = cc in subst (λ (X : Dictionary). Holds X d) e R.holds.holds } })

  module _ (some : m ≡ 0 → ⊥) (k : ℕ) (is : k ≡ operand_at doc (count doc) i) where
    abbrev rest : List Paragraph
    rest = paragraphs_from doc (count doc) (i + 1) (m - 1)

    from_first : paragraph_at doc k ∷ rest ≡ paragraphs_from doc (count doc) i m
    from_first = ap (λ (j : ℕ). paragraph_at doc j ∷ rest) is ∙ sym (from_next doc (count doc) i m some)

    pub from_stops : (s s' d d' w w' : List ℕ) (r : Finding) → Entered s s' d d' w w' (paragraph_at doc k) r → (f j : ℕ) → r ≡ Refused f j → (D : Dictionary) → DictionaryHeld D d w
        → Answered (paragraphs_from doc (count doc) i m) D (length d) d' (Refused f j)
    unfolding AnswersFrom
    from_stops s s' d d' w w' r E f j q D R = record {
      answer = refused f j;
      answers = subst (λ (ps : List Paragraph). RefusesAt Any ps D (length d) f j) from_first (E.stops f j q D R rest);
      told = told_refused f j d';
    }

    pub from_goes : (s s' d d₁ w w₁ : List ℕ) (r : Finding) → Entered s s' d d₁ w w₁ (paragraph_at doc k) r → r ≡ Accepted → length d₁ ≡ length d → (d' : List ℕ) (a : Finding)
        → ((D : Dictionary) → DictionaryHeld D d₁ w₁ → Answered rest D (length d₁) d' a) → (D : Dictionary) → DictionaryHeld D d w
        → Answered (paragraphs_from doc (count doc) i m) D (length d) d' a
    from_goes s s' d d₁ w w₁ r E q e d' a N D R =
        let G = E.goes q D R in
        let X = N (extend (paragraph_at doc k) D G.table) G.recorded in
        record {
          answer = X.answer;
          answers =
              subst (λ (ps : List Paragraph). AnswersFrom Any ps D (length d) X.answer) from_first
              (subst (λ (n : ℕ). AnswersFrom Any (paragraph_at doc k ∷ rest) D n X.answer) e (answers_next (paragraph_at doc k) rest D d₁ w₁ G X.answer X.answers));
          told = X.told;
        }

-- The node of operand i.
pub node_at_lem : (doc : List ℕ) (n i k : ℕ) → n ≡ count doc → k ≡ operand_at doc n i → k ≡ operand_at doc (count doc) i
node_at_lem doc n i k e q = q ∙ ap (λ (j : ℕ). operand_at doc j i) e

-- What is asked before a paragraph, and before the next.
module _ (doc s d w : List ℕ) (i m : ℕ) (A : ParagraphsAsk doc s d w i m) (some : m ≡ 0 → ⊥) where
  pub from_small : i + 1 ≤ document_words
  from_small = let a = A.ends in let b = words_few doc A.read in omega arith

  pub from_ask : (s' d' w' : List ℕ) (p : Paragraph) (r : Finding) → Entered s s' d d' w w' p r → r ≡ Accepted → length s' ≡ length s → length w' ≡ length w
      → ParagraphsAsk doc s' d' w' (i + 1) (m - 1)
  from_ask s' d' w' p r E q e f =
      let R = A.ready in
      let D = R.dictionary in
      let G = E.goes q D R.recorded in
      let b = from_small in
      let l = G.short in
      let o = A.short in
      let y = A.some in
      let z = A.ends in
      let v = R.size in
      let u = R.wide in
      record {
        read = A.read;
        some = omega arith;
        ends = omega arith;
        ready = record {
          size = omega arith;
          clean = clean_lower s s' 1 R.clean (E.low q);
          wide = omega arith;
          dictionary = extend p D G.table;
          recorded = G.recorded;
          few = omega arith;
        };
        short = omega arith;
      }
