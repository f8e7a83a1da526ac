-- The numbers of a check's refusals are 39 at most: 41 and 42 are the fit's, 51 to 55 the run's.
use mathlib.Core.Path.{◌≡◌, refl}
use mathlib.Core.Bool.{Bool, true, ◌&&◌, false≢true}
use mathlib.Core.List.{List, [], ◌∷◌}
use mathlib.Core.Logic.{inl, inr, ⊎_elim}
use Prim.Native.Nat.{ℕ, ◌≤◌}
use native.Mathlib.Omega.{arith}
use lib.Dec.{leb, eqb}
use borrow.Author.Tests.{eqb-true, leb-true}
use Rattle.words.specs.Loops.{has}
use Rattle.words.proofs.Loops.{and_left, and_right}
use Rattle.reader_rules.specs.Tree.{Expr, reference, number, integers, set, tuple, product, power, application, selection, theta, schema_set, arithmetic}
use Rattle.reader_rules.specs.Tree.{comprehension, Exprs, none, more, Pred, truth, equal, member, at_most, not, connected, quantified, Text, text, Lines}
use Rattle.reader_rules.specs.Tree.{end, declaration, inclusion, Include, include, Schema, plain, from, both, Paragraph, given, axiomatic, schema}
use Rattle.reader_rules.specs.Tree.{abbreviation, constraint, include_node, paragraph_node}
use Rattle.checker_rules.specs.Dictionary.{blank}
use Rattle.checker_rules.specs.Check.{refused, check_of, paragraphs_of}
use Rattle.checker_rules.specs.Items.{Any}
use Rattle.checker_rules.specs.Verdicts.{AnswersFrom, AnswersTree, Answers}
use Rattle.reader_rules.specs.Places.{At}
use Rattle.reader_rules.proofs.ReadNumbers.{read_number}
use Rattle.checker_rules.specs.Places.{PlacedExpr, PlacedExprs, PlacedPred, PlacedText, PlacedLines, PlacedInclude, PlacedSchema, PlacedParagraph}
use Rattle.checker_rules.specs.Places.{PlacedParagraphs}
use Rattle.checker_rules.proofs.CheckRight.{check_right}
use Rattle.checker_rules.proofs.GlobalNames.{or_side}
use Rattle.checker_rules.proofs.PlaceLaws.{refusal_placed}

-- ---- the rules: a refusal has a place (proofs/PlaceLaws), and no place takes a number over 39
small : List ℕ → Bool
small [] = true
small (x ∷ l) = leb x 39 && small l

module _ (f j : ℕ) where
  listed_few : (l : List ℕ) → small l ≡ true → has f l ≡ true → f ≤ 39
  unfolding small has
  listed_few [] h e = absurd (false≢true e)
  listed_few (x ∷ l) h e = ⊎_elim (λ q. let z = eqb-true x f q in omega (arith, leb-true x 39 (and_left (leb x 39) (small l) h))) (λ q. listed_few l (and_right (leb x 39) (small l) h) q) (or_side (eqb x f) (has f l) e)

  at_few : (n : ℕ) (l : List ℕ) → small l ≡ true → At f j n l → f ≤ 39
  at_few n l h w = listed_few l h w.1

  mutual
    unfolding PlacedExpr small

    expr_few : (a : Expr) → PlacedExpr f j a → f ≤ 39
    expr_few (reference n i xs) h = ⊎_elim (at_few n _ refl) (λ x. exprs_few xs x) h
    expr_few (number n v) h = at_few n _ refl h
    expr_few (integers n) h = at_few n _ refl h
    expr_few (set n xs) h = ⊎_elim (at_few n _ refl) (λ x. exprs_few xs x) h
    expr_few (tuple n xs) h = ⊎_elim (at_few n _ refl) (λ x. exprs_few xs x) h
    expr_few (product n xs) h = ⊎_elim (at_few n _ refl) (λ x. exprs_few xs x) h
    expr_few (power n a) h = ⊎_elim (at_few n _ refl) (λ x. expr_few a x) h
    expr_few (application n a b) h = ⊎_elim (at_few n _ refl) (⊎_elim (λ x. expr_few a x) (λ x. expr_few b x)) h
    expr_few (selection n a i) h = ⊎_elim (at_few n _ refl) (λ x. expr_few a x) h
    expr_few (theta n s k) h = at_few n _ refl h
    expr_few (schema_set n i) h = ⊎_elim (at_few n _ refl) (⊎_elim (at_few (include_node i) _ refl) (λ x. include_few i x)) h
    expr_few (arithmetic n o a b) h = ⊎_elim (at_few n _ refl) (⊎_elim (λ x. expr_few a x) (λ x. expr_few b x)) h
    expr_few (comprehension n t a) h = ⊎_elim (at_few n _ refl) (⊎_elim (λ x. text_few t x) (λ x. expr_few a x)) h

    exprs_few : (xs : Exprs) → PlacedExprs f j xs → f ≤ 39
    exprs_few none h = absurd h
    exprs_few (more a xs) h = ⊎_elim (λ x. expr_few a x) (λ x. exprs_few xs x) h

    pred_few : (p : Pred) → PlacedPred f j p → f ≤ 39
    pred_few (truth n) h = absurd h
    pred_few (equal n a b) h = ⊎_elim (at_few n _ refl) (⊎_elim (λ x. expr_few a x) (λ x. expr_few b x)) h
    pred_few (member n a b) h = ⊎_elim (at_few n _ refl) (⊎_elim (λ x. expr_few a x) (λ x. expr_few b x)) h
    pred_few (at_most n a b) h = ⊎_elim (at_few n _ refl) (⊎_elim (λ x. expr_few a x) (λ x. expr_few b x)) h
    pred_few (not n p) h = pred_few p h
    pred_few (connected n o p q) h = ⊎_elim (λ x. pred_few p x) (λ x. pred_few q x) h
    pred_few (quantified n o t p) h = ⊎_elim (λ x. text_few t x) (λ x. pred_few p x) h

    text_few : (t : Text) → PlacedText f j t → f ≤ 39
    text_few (text n p ls) h = ⊎_elim (λ x. lines_few ls x) (λ x. pred_few p x) h

    lines_few : (ls : Lines) → PlacedLines f j ls → f ≤ 39
    lines_few end h = absurd h
    lines_few (declaration n a is ls) h = ⊎_elim (at_few n _ refl) (⊎_elim (λ x. expr_few a x) (λ x. lines_few ls x)) h
    lines_few (inclusion i ls) h = ⊎_elim (at_few (include_node i) _ refl) (⊎_elim (λ x. include_few i x) (λ x. lines_few ls x)) h

    include_few : (i : Include) → PlacedInclude f j i → f ≤ 39
    include_few (include n s k xs rs) h = ⊎_elim (at_few n _ refl) (λ x. exprs_few xs x) h

  schema_few : (x : Schema) → PlacedSchema f j x → f ≤ 39
  unfolding PlacedSchema small
  schema_few (plain t) h = text_few t h
  schema_few (from i) h = ⊎_elim (at_few (include_node i) _ refl) (include_few i) h
  schema_few (both n a b) h = ⊎_elim (at_few n _ refl) (⊎_elim (λ x. schema_few a x) (λ x. schema_few b x)) h

  paragraph_few : (p : Paragraph) → PlacedParagraph f j p → f ≤ 39
  unfolding PlacedParagraph small
  paragraph_few (given n is) h = at_few n _ refl h
  paragraph_few (axiomatic n t) h = text_few t h
  paragraph_few (schema n s ps x) h = schema_few x h
  paragraph_few (abbreviation n i ps a) h = ⊎_elim (at_few n _ refl) (expr_few a) h
  paragraph_few (constraint n p) h = pred_few p h

  paragraphs_few : (ps : List Paragraph) → PlacedParagraphs f j ps → f ≤ 39
  unfolding PlacedParagraphs small
  paragraphs_few [] h = absurd h
  paragraphs_few (p ∷ ps) h = ⊎_elim (paragraph_few p) (⊎_elim (at_few (paragraph_node p) _ refl) (λ x. paragraphs_few ps x)) h

pub same_number : (n p m q : ℕ) → refused n p ≡ refused m q → n ≡ m
same_number n p m q e = cc

answers_few : (doc : List ℕ) (d w n p : ℕ) → Answers Any doc d w (refused n p) → n ≤ 39
unfolding Answers AnswersTree AnswersFrom
answers_few doc d w n p (inl (f, m, e, s)) = let z = same_number n p f m s in let l = read_number doc f m e in omega arith
answers_few doc d w n p (inr (r, inl h)) = let z = same_number n p 21 0 h.1 in omega arith
answers_few doc d w n p (inr (r, inr (l, inl h))) = let z = same_number n p 22 0 h.1 in omega arith
answers_few doc d w n p (inr (r, inr (l, inr h))) = paragraphs_few n p (paragraphs_of _) (refusal_placed n p _ blank d h.1)

pub check_numbers : (doc : List ℕ) (d w n p : ℕ) → check_of doc d w ≡ refused n p → n ≤ 39
check_numbers doc d w n p e = answers_few doc d w n p ((check_right doc d w (refused n p)).0 e)
