-- THE FIT OF TWO DOCUMENTS WITH THE SAME TREE and one state: the same answer, at corresponding nodes or at the same entry.
use mathlib.Core.Path.{◌≡◌, refl, ap, ap₂, sym, ◌∙◌}
use mathlib.Core.Bool.{cond}
use mathlib.Core.List.{List}
use Prim.Native.Nat.{ℕ}
use native.Mathlib.Omega.{arith}
use borrow.Author.Tests.{lt-ltb}
use Rattle.reader_rules.specs.Reading.{read_of}
use Rattle.reader_rules.specs.Refusals.{Readable}
use Rattle.reader_rules.specs.Decode.{tree_of}
use Rattle.states_rules.specs.Names.{Name, document_names}
use Rattle.states_rules.specs.States.{state_of, state_check_of}
use Rattle.checker_rules.specs.Dictionary.{Dictionary}
use Rattle.checker_rules.specs.Check.{Answer, accepted, refused, check_of}
use Rattle.checker_rules.proofs.CheckNumbers.{check_numbers}
use Rattle.fitter_rules.specs.Fit.{fit_checked, fit_of}
use Rattle.fitter_rules.specs.Claims.{FitFinds, unchecked, ill_formed, mistyped, fits}
use Rattle.fitter_rules.proofs.FitFindings.{fit_finds}
use Rattle.canonical_rules.specs.MapNodes.{Same}
use Rattle.canonical_rules.specs.Positions.{corresponding}
use Rattle.canonical_answers.specs.MapAnswers.{map_answer, map_fit}
use Rattle.canonical_answers.proofs.EvaluationMaps.{names_stay}
use Rattle.canonical_answers.proofs.SameChecks.{checks_agree}
use Rattle.canonical_answers.proofs.SameRuns.{trees_renumbered}

not_both : (E : Dictionary) (n p : ℕ) → refused n p ≡ accepted E → ⊥
not_both E n p e = let z : ◌≡◌ {A = ℕ} 0 1 = cc in omega arith

module _ (f : ℕ → ℕ) where
  -- after acceptance the place is an entry
  entry_stays : (doc state : List ℕ) (d w : ℕ) (ns : List Name) (a : Answer) → FitFinds doc state d w ns a → (E : Dictionary) → check_of doc d w ≡ accepted E → a ≡ map_fit f a
  unfolding map_fit
  entry_stays doc state d w ns a (unchecked c) E e = absurd (not_both E _ _ (sym c ∙ e))
  entry_stays doc state d w ns a (ill_formed c h) E e = refl
  entry_stays doc state d w ns a (mistyped c h l m v b) E e = refl
  entry_stays doc state d w ns a (fits c h t) E e = refl

module _ (doc dup : List ℕ) (read : read_of doc ≡ Readable) (reread : read_of dup ≡ Readable) (same : Same (tree_of doc) (tree_of dup)) where
  names_agree : document_names (tree_of dup) ≡ document_names (tree_of doc)
  names_agree = ap document_names (sym (trees_renumbered doc dup read reread same)) ∙ names_stay (corresponding doc dup) (tree_of doc)

  pub states_agree : (state : List ℕ) → state_check_of dup state ≡ state_check_of doc state
  unfolding state_check_of
  states_agree state = rw (read, reread) (ap (λ ns. state_of ns state) names_agree)

  pub fits_agree : (state : List ℕ) (d w : ℕ) → fit_of dup state d w ≡ map_fit (corresponding doc dup) (fit_of doc state d w)
  unfolding fit_of fit_checked map_answer map_fit
  fits_agree state d w =
      ap₂ (λ a ns. fit_checked a ns state) (checks_agree doc dup read reread same d w) names_agree ∙ go (check_of doc d w) refl (fit_finds doc state d w)
    where
      f : ℕ → ℕ
      f = corresponding doc dup

      ns : List Name
      ns = document_names (tree_of doc)

      go : (a : Answer) → check_of doc d w ≡ a → FitFinds doc state d w ns (fit_checked a ns state) → fit_checked (map_answer f a) ns state ≡ map_fit f (fit_checked a ns state)
      go (accepted E) e h = entry_stays f doc state d w ns _ h E e
      go (refused n p) e h = let l = check_numbers doc d w n p e in ap (λ b. refused n (cond b (f p) p)) (sym (lt-ltb n 41 (omega (arith, l))))
