-- The answer to a readable document and to any words, and the areas at the end.
use mathlib.Core.Path.{◌≡◌, refl, sym, ap, subst, ◌∙◌}
use mathlib.Core.Logic.{inl, inr}
use mathlib.Core.List.{List, ◌++◌}
use Prim.Native.Nat.{ℕ, ◌-◌, ◌≤◌, ◌<◌}
use native.Mathlib.Omega.{arith}
use lib.ListN.{length, replicate}
use Rattle.reader_rules.specs.Reading.{read_of}
use Rattle.reader_rules.specs.Tree.{Document}
use Rattle.reader_rules.specs.Decode.{tree_of}
use Rattle.reader_rules.specs.Refusals.{Finding, Readable, Accepted, Refused}
use Rattle.checker_rules.specs.Areas.{answer_finding, dictionary_after, CheckCall}
use Rattle.checker_rules.specs.Check.{Answer, accepted, refused, paragraphs_of, check_of, check_work_words}
use Rattle.checker_rules.specs.Dictionary.{blank, dictionary_words, dictionary_length}
use Rattle.checker_rules.specs.Items.{Any}
use Rattle.checker_rules.specs.Verdicts.{AnswersTree, Answers}
use Rattle.checker_rules.proofs.CheckRight.{check_right}
use Rattle.checker.specs.Answering.{Told, Answered, TreeAnswered}

-- A refusal's area holds no dictionary yet.
pub told_refused : (f m : ℕ) (d : List ℕ) → Told (refused f m) d (Refused f m)
unfolding answer_finding
told_refused f m d = record { finding = refl; held = λ E q. let z : ◌≡◌ {A = ℕ} 0 1 = cc in absurd (omega arith) }

-- A readable document.
module _ (t : Document) (d w : ℕ) (d' : List ℕ) where
  pub tree_21 : w < check_work_words → TreeAnswered t d w d' (Refused 21 0)
  unfolding AnswersTree
  tree_21 l = record { answer = refused 21 0; answers = inl (l, refl); told = told_refused 21 0 d' }

  pub tree_22 : check_work_words ≤ w → d ≡ 0 → TreeAnswered t d w d' (Refused 22 0)
  unfolding AnswersTree
  tree_22 l z = record { answer = refused 22 0; answers = inr (l, inl (z, refl)); told = told_refused 22 0 d' }

  pub tree_paragraphs : check_work_words ≤ w → 0 < d → (r : Finding) → Answered (paragraphs_of t) blank d d' r → TreeAnswered t d w d' r
  unfolding AnswersTree
  tree_paragraphs l s r X = record { answer = X.answer; answers = inr (l, inr (s, X.answers)); told = X.told }

-- Any words.
module _ (doc : List ℕ) (d w : ℕ) (d' : List ℕ) where
  told_by : (a : Answer) (r : Finding) → Answers Any doc d w a → Told a d' r → Told (check_of doc d w) d' r
  told_by a r h X = subst (λ (b : Answer). Told b d' r) (sym ((check_right doc d w a).1 h)) X

  pub words_tree : (r : Finding) → read_of doc ≡ Readable → TreeAnswered (tree_of doc) d w d' r → Told (check_of doc d w) d' r
  unfolding Answers
  words_tree r e X = told_by X.answer r (inr (e, X.answers)) X.told

  pub words_unread : (f m : ℕ) → read_of doc ≡ Refused f m → Told (check_of doc d w) d' (Refused f m)
  unfolding Answers
  words_unread f m e = told_by (refused f m) (Refused f m) (inl (f, m, e, refl)) (told_refused f m d')

-- The areas at the end. The work area has w words and is cleared to w''; the dictionary's area has d words, d' before it is cleared, if it is.
module _ (doc : List ℕ) (d w : ℕ) (d' : List ℕ) (e : length d' ≡ d) (r : Finding) (X : Told (check_of doc d w) d' r) (w' w'' : List ℕ) (y : w'' ≡ replicate (length w') 0) (z : length w' ≡ w) where
  cleared_to : w'' ≡ replicate w 0
  cleared_to = y ∙ ap (λ (n : ℕ). replicate n 0) z

  pub checked_accepted : r ≡ Accepted → CheckCall doc d w Accepted d' w''
  unfolding answer_finding dictionary_after
  checked_accepted q = record { finding = sym q ∙ X.finding; recorded = go (check_of doc d w) X; cleared = cleared_to }
    where
      go : (a : Answer) → Told a d' r → d' ≡ dictionary_after a d
      go (accepted E) Y = (Y.held E refl).laid ∙ ap (λ (n : ℕ). dictionary_words E ++ replicate (n - dictionary_length E) 0) e
      go (refused f m) Y = let h = Y.finding in let o : ◌≡◌ {A = ℕ} 0 1 = cc in absurd (omega arith)

  pub checked_refused : (f m : ℕ) → r ≡ Refused f m → (d'' : List ℕ) → d'' ≡ replicate (length d') 0 → CheckCall doc d w (Refused f m) d'' w''
  unfolding answer_finding dictionary_after
  checked_refused f m q d'' u = record { finding = sym q ∙ X.finding; recorded = u ∙ ap (λ (n : ℕ). replicate n 0) e ∙ go (check_of doc d w) X; cleared = cleared_to }
    where
      go : (a : Answer) → Told a d' r → replicate d 0 ≡ dictionary_after a d
      go (accepted E) Y = let h = Y.finding in let o : ◌≡◌ {A = ℕ} 0 1 = cc in absurd (omega arith)
      go (refused g j) Y = refl
