-- THE CHECK IS RIGHT: its answer is the one that the rules give, and no other; one type and no other through an accepted document.
use Rattle.std.specs.Prelude.{Err}
use mathlib.Core.Path.{◌≡◌, refl, ap, ap₂, sym, ◌∙◌, subst}
use mathlib.Core.Bool.{Bool, true, false, cond}
use mathlib.Core.List.{List, [], ◌∷◌}
use mathlib.Core.Logic.{◌↔◌, inl, inr}
use Prim.Native.Nat.{ℕ, zero, suc, ◌≤◌, ◌<◌}
use native.Mathlib.Omega.{arith}
use lib.Dec.{leb, ltb, eqb}
use borrow.Author.Tests.{leb-true, leb-false, le-leb, lt-leb, eq-eqb, eqb-true, eqb-false, lt-ltb, le-ltb, ltb-true, ltb-false, ne_eqb}
use Rattle.reader_rules.specs.Reading.{read_of}
use Rattle.reader_rules.specs.Tree.{Paragraph, Document, paragraph_node}
use Rattle.reader_rules.specs.Decode.{tree_of}
use Rattle.types_rules.specs.Trees.{finite}
use Rattle.checker_rules.specs.Unknowns.{Valuation}
use Rattle.checker_rules.specs.Items.{Any, And, Passes, Typings}
use Rattle.checker_rules.specs.Dictionary.{Dictionary, blank, dictionary_length}
use Rattle.checker_rules.specs.Rules.{paragraph_items}
use Rattle.checker_rules.specs.Entries.{extend}
use Rattle.checker_rules.specs.Solving.{Solved, pass, refuse, solve, valuation_of}
use Rattle.checker_rules.specs.Check.{Answer, accepted, refused, fitting, settle, check_paragraphs, paragraphs_of, after_reading, check_work_words, check_of}
use Rattle.checker_rules.specs.Verdicts.{Accepts, RefusesAt, AnswersFrom, AnswersTree, Answers, OneType, Records}
use Rattle.checker_rules.proofs.ItemLaws.{not_both, one}
use Rattle.checker_rules.proofs.SolvingRight.{Verdict, solve_right}
use Rattle.checker_rules.proofs.OneType.{one_type, extend_same}
use Rattle.reader_rules.specs.Refusals.{Finding, Readable, Refused}

-- P: the valuations that count. I: what paragraphs, over the dictionary before them, must have for the solver to be right about P.
module _ (P : Typings) (I : List Paragraph → Dictionary → Type 0)
    (right : (p : Paragraph) (ps : List Paragraph) (D : Dictionary) → I (p ∷ ps) D → Verdict P (paragraph_items p D) (solve (paragraph_items p D)))
    (onward : (p : Paragraph) (ps : List Paragraph) (D : Dictionary) (τ : Valuation) → I (p ∷ ps) D → P finite τ → I ps (extend p D τ)) where
  module _ (p : Paragraph) (ps : List Paragraph) (D : Dictionary) (d : ℕ) (i : I (p ∷ ps) D) where
    shift : (τ : Valuation) → Passes (paragraph_items p D) P → And P (paragraph_items p D) finite τ → dictionary_length (extend p D τ) ≤ d → (a : Answer) → AnswersFrom P ps (extend p D τ) d a → AnswersFrom P (p ∷ ps) D d a
    unfolding AnswersFrom Accepts RefusesAt
    shift τ h s l (accepted E) r = (h, (τ, s, l, r))
    shift τ h s l (refused f m) r = inr (h, (τ, s, inr (l, r)))

    module _ (k : Dictionary → Answer) (g : (E : Dictionary) → I ps E → AnswersFrom P ps E d (k E)) where
      fit_right : (τ : Valuation) → Passes (paragraph_items p D) P → And P (paragraph_items p D) finite τ → (b : Bool) → leb (dictionary_length (extend p D τ)) d ≡ b
          → AnswersFrom P (p ∷ ps) D d (fitting b (paragraph_node p) (extend p D τ) k)
      unfolding fitting AnswersFrom RefusesAt
      fit_right τ h s true e = shift τ h s (leb-true _ d e) (k (extend p D τ)) (g (extend p D τ) (onward p ps D τ i s.0))
      fit_right τ h s false e = inr (h, (τ, s, inl (leb-false _ d e, refl, refl)))

      settle_right : (r : Solved) → Verdict P (paragraph_items p D) r → AnswersFrom P (p ∷ ps) D d (settle r p D d k)
      unfolding settle AnswersFrom RefusesAt
      settle_right (refuse f m) v = inl v
      settle_right (pass vs s) v = fit_right (valuation_of s) v.0 (v.2, v.1) _ refl

    module _ (k : Dictionary → Answer) (g : (E : Dictionary) → I ps E → (a : Answer) → AnswersFrom P ps E d a → k E ≡ a) where
      next_only : (X Y : Dictionary) → X ≡ Y → I ps X → dictionary_length X ≤ d → (a : Answer) → AnswersFrom P ps X d a → fitting (leb (dictionary_length Y) d) (paragraph_node p) Y k ≡ a
      unfolding fitting
      next_only X Y q j l a r =
          subst (λ (Z : Dictionary). fitting (leb (dictionary_length Z) d) (paragraph_node p) Z k ≡ a) q (ap (λ b. fitting b (paragraph_node p) X k) (le-leb (dictionary_length X) d l) ∙ g X j a r)

      full_only : (X Y : Dictionary) → X ≡ Y → d < dictionary_length X → fitting (leb (dictionary_length Y) d) (paragraph_node p) Y k ≡ refused 22 (paragraph_node p)
      unfolding fitting
      full_only X Y q l = ap (λ b. fitting b (paragraph_node p) Y k) (lt-leb (dictionary_length Y) d (subst (λ Z. d < dictionary_length Z) q l))

      -- v: what the solver says of all valuations
      settle_only : (r : Solved) → Verdict P (paragraph_items p D) r → Verdict Any (paragraph_items p D) r → (a : Answer) → AnswersFrom P (p ∷ ps) D d a → settle r p D d k ≡ a
      unfolding settle AnswersFrom Accepts RefusesAt
      settle_only (refuse f m) u v (accepted E) h = absurd (not_both (paragraph_items p D) P f m h.0 u)
      settle_only (refuse f m) u v (refused e j) (inl h) = let q = one (paragraph_items p D) P f m e j u h in ap₂ refused q.0 q.1
      settle_only (refuse f m) u v (refused e j) (inr h) = absurd (not_both (paragraph_items p D) P f m h.0 u)
      settle_only (pass vs s) u v (accepted E) (h, (τ, t, l, y)) =
          next_only _ _ (extend_same p D v.0 τ (valuation_of s) t.1 v.1) (onward p ps D τ i t.0) l (accepted E) y
      settle_only (pass vs s) u v (refused e j) (inl h) = absurd (not_both (paragraph_items p D) P e j u.0 h)
      settle_only (pass vs s) u v (refused e j) (inr (h, (τ, t, inl y))) =
          full_only _ _ (extend_same p D v.0 τ (valuation_of s) t.1 v.1) y.0 ∙ ap₂ refused (sym y.1) (sym y.2)
      settle_only (pass vs s) u v (refused e j) (inr (h, (τ, t, inr y))) =
          next_only _ _ (extend_same p D v.0 τ (valuation_of s) t.1 v.1) (onward p ps D τ i t.0) y.0 (refused e j) y.1

  paragraphs_right : (ps : List Paragraph) (D : Dictionary) (d : ℕ) → I ps D → AnswersFrom P ps D d (check_paragraphs ps D d)
  unfolding check_paragraphs AnswersFrom Accepts
  paragraphs_right [] D d i = refl
  paragraphs_right (p ∷ ps) D d i = settle_right p ps D d i (λ E. check_paragraphs ps E d) (λ E j. paragraphs_right ps E d j) (solve (paragraph_items p D)) (right p ps D i)

  paragraphs_only : (ps : List Paragraph) (D : Dictionary) (d : ℕ) → I ps D → (a : Answer) → AnswersFrom P ps D d a → check_paragraphs ps D d ≡ a
  unfolding check_paragraphs AnswersFrom Accepts RefusesAt
  paragraphs_only [] D d i (accepted E) h = ap accepted h
  paragraphs_only [] D d i (refused f m) h = absurd h
  paragraphs_only (p ∷ ps) D d i a h =
      settle_only p ps D d i (λ E. check_paragraphs ps E d) (λ E j b r. paragraphs_only ps E d j b r) (solve (paragraph_items p D)) (right p ps D i) (solve_right (paragraph_items p D)) a h

  pub answers_from : (ps : List Paragraph) (D : Dictionary) (d : ℕ) → I ps D → (a : Answer) → (check_paragraphs ps D d ≡ a) ↔ AnswersFrom P ps D d a
  answers_from ps D d i a = (λ e. subst (λ b. AnswersFrom P ps D d b) e (paragraphs_right ps D d i), paragraphs_only ps D d i a)

  -- A readable document.
  module _ (t : Document) (d w : ℕ) (i : I (paragraphs_of t) blank) where
    tree_right : AnswersTree P t d w (cond (ltb w check_work_words) (refused 21 0) (cond (eqb d 0) (refused 22 0) (check_paragraphs (paragraphs_of t) blank d)))
    unfolding AnswersTree
    tree_right = go (ltb w check_work_words) refl (eqb d 0) refl
      where
        some_words : (d : ℕ) → (d ≡ 0 → ⊥) → 0 < d
        some_words zero f = absurd (f refl)
        some_words (suc d) f = omega arith

        go : (b : Bool) → ltb w check_work_words ≡ b → (c : Bool) → eqb d 0 ≡ c
            → AnswersTree P t d w (cond b (refused 21 0) (cond c (refused 22 0) (check_paragraphs (paragraphs_of t) blank d)))
        go true e c q = inl (ltb-true w check_work_words e, refl)
        go false e true q = inr (ltb-false w check_work_words e, inl (eqb-true d 0 q, refl))
        go false e false q = inr (ltb-false w check_work_words e, inr (some_words d (eqb-false d 0 q), paragraphs_right (paragraphs_of t) blank d i))

    tree_only : (a : Answer) → AnswersTree P t d w a → cond (ltb w check_work_words) (refused 21 0) (cond (eqb d 0) (refused 22 0) (check_paragraphs (paragraphs_of t) blank d)) ≡ a
    unfolding AnswersTree
    tree_only a (inl h) = ap (λ b. cond b (refused 21 0) (cond (eqb d 0) (refused 22 0) (check_paragraphs (paragraphs_of t) blank d))) (lt-ltb w check_work_words h.0) ∙ sym h.1
    tree_only a (inr (l, inl h)) =
        ap (λ b. cond b (refused 21 0) (cond (eqb d 0) (refused 22 0) (check_paragraphs (paragraphs_of t) blank d))) (le-ltb w check_work_words l)
        ∙ ap (λ c. cond c (refused 22 0) (check_paragraphs (paragraphs_of t) blank d)) (eq-eqb d 0 h.0)
        ∙ sym h.1
    tree_only a (inr (l, inr h)) =
        ap (λ b. cond b (refused 21 0) (cond (eqb d 0) (refused 22 0) (check_paragraphs (paragraphs_of t) blank d))) (le-ltb w check_work_words l)
        ∙ ap (λ c. cond c (refused 22 0) (check_paragraphs (paragraphs_of t) blank d)) (ne_eqb d 0 (λ e. omega (arith, h.0, e)))
        ∙ paragraphs_only (paragraphs_of t) blank d i a h.1

  -- The check is total and right: its answer to any words, with areas of any lengths, is the one that the rules give.
  pub check_right_in : (doc : List ℕ) (d w : ℕ) (a : Answer) → (read_of doc ≡ Readable → I (paragraphs_of (tree_of doc)) blank) → (check_of doc d w ≡ a) ↔ Answers P doc d w a
  unfolding check_of Answers after_reading
  check_right_in doc d w a i = (λ e. subst (λ b. Answers P doc d w b) e (given_right (read_of doc) refl), λ h. only h)
    where
      rest : Answer
      rest = cond (ltb w check_work_words) (refused 21 0) (cond (eqb d 0) (refused 22 0) (check_paragraphs (paragraphs_of (tree_of doc)) blank d))

      given_right : (r : Finding) → read_of doc ≡ r → Answers P doc d w (after_reading r rest)
      given_right Readable e = inr (e, tree_right (tree_of doc) d w (i e))
      given_right (Err err) e = inl (err.number, err.place, e, refl)

      only : Answers P doc d w a → after_reading (read_of doc) rest ≡ a
      only (inl h) = ap (λ r. after_reading r rest) h.2 ∙ sym h.3
      only (inr h) = ap (λ r. after_reading r rest) h.0 ∙ tree_only (tree_of doc) d w (i h.0) a h.1

-- Every valuation counts.
pub paragraphs_law : (ps : List Paragraph) (D : Dictionary) (d : ℕ) (a : Answer) → (check_paragraphs ps D d ≡ a) ↔ AnswersFrom Any ps D d a
paragraphs_law ps D d a = answers_from Any (λ ps D. Unit {0}) (λ p ps D i. solve_right (paragraph_items p D)) (λ p ps D τ i c. tt) ps D d tt a

pub check_right : (doc : List ℕ) (d w : ℕ) (a : Answer) → (check_of doc d w ≡ a) ↔ Answers Any doc d w a
check_right doc d w a = check_right_in Any (λ ps D. Unit {0}) (λ p ps D i. solve_right (paragraph_items p D)) (λ p ps D τ i c. tt) doc d w a (λ e. tt)

-- So the first break is unique: the rules give one answer.
pub one_answer : (doc : List ℕ) (d w : ℕ) (a b : Answer) → Answers Any doc d w a → Answers Any doc d w b → a ≡ b
one_answer doc d w a b h k = sym ((check_right doc d w a).1 h) ∙ (check_right doc d w b).1 k

-- What acceptance says: the document is readable and every rule passes.
pub record Acceptance (doc : List ℕ) (d w : ℕ) (E : Dictionary) : Type 0 where
  pub read : read_of doc ≡ Readable
  pub work : check_work_words ≤ w
  pub passes : Accepts Any (paragraphs_of (tree_of doc)) blank d E

pub accepted_says : (doc : List ℕ) (d w : ℕ) (E : Dictionary) → check_of doc d w ≡ accepted E → Acceptance doc d w E
unfolding Answers AnswersTree AnswersFrom
accepted_says doc d w E e = go ((check_right doc d w (accepted E)).0 e)
  where
    no : (f m : ℕ) → accepted E ≡ refused f m → ⊥
    no f m q = let z : ◌≡◌ {A = ℕ} 0 1 = cc in omega arith

    go : Answers Any doc d w (accepted E) → Acceptance doc d w E
    go (inl h) = absurd (no h.0 h.1 h.3)
    go (inr (r, inl h)) = absurd (no 21 0 h.1)
    go (inr (r, inr (l, inl h))) = absurd (no 22 0 h.1)
    go (inr (r, inr (l, inr h))) = record { read = r; work = l; passes = h.1 }

-- Each expression of an accepted document has one type and no other.
one_types : (ps : List Paragraph) (D : Dictionary) (d : ℕ) (E : Dictionary) → Accepts Any ps D d E → OneType ps D
unfolding Accepts OneType
one_types [] D d E h = tt
one_types (p ∷ ps) D d E h = (
  (h.1.0, h.1.1.1),
  λ σ τ a b. one_type p D h.0 σ τ a b,
  λ τ s. subst (λ X. OneType ps X) (extend_same p D h.0 h.1.0 τ h.1.1.1 s) (one_types ps (extend p D h.1.0) d E h.1.3),
)

pub accepted_one_type : (doc : List ℕ) (d w : ℕ) (E : Dictionary) → check_of doc d w ≡ accepted E → OneType (paragraphs_of (tree_of doc)) blank
accepted_one_type doc d w E e = one_types (paragraphs_of (tree_of doc)) blank d E (accepted_says doc d w E e).passes

-- The dictionary's entries are those types.
records : (ps : List Paragraph) (D : Dictionary) (d : ℕ) (E : Dictionary) → Accepts Any ps D d E → Records ps D E
unfolding Accepts Records
records [] D d E h = h
records (p ∷ ps) D d E h = (
  (h.1.0, h.1.1.1),
  λ τ s. subst (λ X. Records ps X E) (extend_same p D h.0 h.1.0 τ h.1.1.1 s) (records ps (extend p D h.1.0) d E h.1.3),
)

pub accepted_records : (doc : List ℕ) (d w : ℕ) (E : Dictionary) → check_of doc d w ≡ accepted E → Records (paragraphs_of (tree_of doc)) blank E
accepted_records doc d w E e = records (paragraphs_of (tree_of doc)) blank d E (accepted_says doc d w E e).passes
