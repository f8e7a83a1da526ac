-- 28 and 29: a Text, then a predicate that sees what it declares. The types that the Text stored are wiped at the end.
use mathlib.Core.Path.{◌≡◌, ◌∙◌}
use mathlib.Core.Bool.{false}
use mathlib.Core.List.{List, [], ◌∷◌, ◌++◌}
use Prim.Native.Nat.{ℕ, ◌+◌, ◌-◌, ◌≤◌}
use native.Mathlib.Omega.{arith}
use lib.ListN.{length, replicate, length-append}
use lib.Seq.{sets}
use Rattle.reader_rules.specs.Limited.{LimitedPred}
use Rattle.reader_rules.specs.Tree.{Pred, Text, Quantifier, quantified}
use Rattle.reader_rules.specs.TreeNumbers.{pred_numbers, text_numbers}
use Rattle.checker_rules.specs.Dictionary.{Dictionary, blank}
use Rattle.checker_rules.specs.Items.{Items, ◌⨾◌}
use Rattle.checker_rules.specs.Rules.{pred_items, text_items}
use Rattle.checker_rules.specs.Scopes.{Scope, inside}
use Rattle.checker_pieces.specs.Piece.{Steady}
use Rattle.checker_pieces.proofs.Between.{refuses_first, refuses_second}
use Rattle.checker_lookup.specs.Scoped.{Scoped}
use Rattle.checker_contracts.specs.Predicates.{Walking, PredAsk, PredDone}
use Rattle.checker_contracts.specs.Texts.{TextAsk, TextDone, Declared}
use Rattle.checker_contracts.specs.Visits.{Fresh, EachOnce, idle, Spared, Went, globals_if}
use Rattle.checker_contracts.proofs.Nodes.{once_right, fresh_left, fresh_after}
use Rattle.checker_contracts.proofs.Passing.{walking_first, went_then}
use Rattle.checker_contracts.proofs.Rooms.{between_part, crowd_part}
use Rattle.checker_contracts.proofs.Scopes.{spared_on, spared_less}
use Rattle.checker_contracts.proofs.Wiping.{stored_kept, wiped_low}
use Rattle.checker_contracts.proofs.Refused.{done_refused}

module _ (s d w : List ℕ) (rows at free k : ℕ) (o : Quantifier) (t : Text) (p : Pred) (A : PredAsk s d w rows at free (quantified k o t p)) where
  abbrev N : List ℕ
  N = text_numbers t ++ pred_numbers p

  tall : 1 ≤ A.height
  unfolding LimitedPred
  tall = A.limited.0

  both : Walking s d w rows at free (A.height - 1) N
  unfolding pred_numbers
  both = walking_first s d w rows at free A.height (A.height - 1) N (k ∷ []) (omega arith) A.walking

  once : EachOnce N
  once = both.once

  shorter : length (pred_numbers p) ≤ length (pred_numbers (quantified k o t p))
  unfolding pred_numbers
  shorter = let n = length-append (text_numbers t) (pred_numbers p) in let l = length-append N (k ∷ []) in omega arith

  pub quantified_text : TextAsk s d w rows at free t
  unfolding LimitedPred
  quantified_text = record {
    height = A.height - 1;
    texts = A.texts;
    limited = A.limited.1;
    walking = walking_first s d w rows at free (A.height - 1) (A.height - 1) (text_numbers t) (pred_numbers p) (omega arith) both;
  }

  -- THE TEXT WAS VISITED.
  module _ (s₁ w₁ : List ℕ) (number place m at₁ : ℕ) (T : TextDone s s₁ d w w₁ rows at free t false number place m at₁) where
    pub quantified_stopped : (number ≡ 0 → ⊥) → PredDone s s₁ d w w₁ rows at free (quantified k o t p) number place
    unfolding pred_numbers pred_items globals_if
    quantified_stopped e = record {
      done = done_refused T.done.still e (λ H U S Γ D C u F.
          refuses_first H (text_items t Γ blank) (pred_items p (inside t Γ)) number place
          (T.done.stops e H U S Γ D C tt (fresh_left (text_numbers t) (pred_numbers p) U (fresh_left N (k ∷ []) U F))));
    }

    module _ (fine : number ≡ 0) where
      -- any items before
      module _ (H : Items) (U : List ℕ) (S : Steady H U) (Γ : Scope) (D : Dictionary) (C : Scoped s d w rows (idle H U) Γ D) (F : Fresh N U) where
        declared : Declared s₁ d w₁ rows m free H U Γ D false t
        declared = T.done.goes fine H U S Γ D C tt (fresh_left (text_numbers t) (pred_numbers p) U F)

        abbrev went : Went H (text_items t Γ (globals_if false D)) U (text_numbers t)
        went = record { unknowns = declared.unknowns; walked = declared.walked }

        fresh : Fresh (pred_numbers p) declared.unknowns
        fresh = fresh_after (text_numbers t) (pred_numbers p) U declared.unknowns once F declared.walked.new

      pub quantified_body : PredAsk s₁ d w₁ (rows + m) at₁ free p
      unfolding LimitedPred
      quantified_body =
          let K = both in
          let X = declared K.before K.known K.steady K.scope K.dictionary K.scoped K.fresh in
          let B = A.walking.room in
          let e = (T.done.areas fine).short in
          let f = (T.done.areas fine).few in
          let h = tall in
          let n = length-append (text_numbers t) (pred_numbers p) in
          let x = A.walking.room.some in
          let y = (T.done.areas fine).stored.more in
          record {
            height = A.height - 1;
            texts = A.texts;
            limited = A.limited.2;
            walking = record {
              before = K.before ⨾ text_items t K.scope (globals_if false K.dictionary);
              known = X.unknowns;
              steady = X.walked.steady;
              scope = inside t K.scope;
              dictionary = K.dictionary;
              scoped = X.within;
              fresh = fresh K.before K.known K.steady K.scope K.dictionary K.scoped K.fresh;
              once = once_right (text_numbers t) (pred_numbers p) once;
              size = (T.done.areas fine).stored.size ∙ K.size;
              few = K.few;
              clean = (T.done.areas fine).stored.after;
              bound = A.walking.bound;
              crowd = crowd_part A.walking.bound (pred_numbers (quantified k o t p)) (pred_numbers p) A.walking.crowd shorter;
              room =
                  between_part w w₁ rows (rows + m) at at₁ free free A.height (A.height - 1) A.walking.bound A.walking.bound B T.done.still.size (omega arith) (omega arith)
                  (omega arith) B.low (omega arith) (omega arith) (omega arith);
            };
          }

      -- THE BODY WAS VISITED.
      module _ (s₂ w₂ : List ℕ) (number₂ place₂ : ℕ) (P : PredDone s₁ s₂ d w₁ w₂ (rows + m) at₁ free p number₂ place₂) where
        spared : Spared w w₂ rows free
        spared = spared_on w w₁ w₂ rows free T.done.still (spared_less w₁ w₂ (rows + m) rows free free (omega arith) (omega arith) P.done.still)

        pub quantified_refused : (number₂ ≡ 0 → ⊥) → PredDone s s₂ d w w₂ rows at free (quantified k o t p) number₂ place₂
        unfolding pred_numbers pred_items globals_if
        quantified_refused e = record {
          done = done_refused spared e (λ H U S Γ D C u F.
              let F' = fresh_left N (k ∷ []) U F in
              let X = declared H U S Γ D C F' in
              refuses_second H (text_items t Γ blank) (pred_items p (inside t Γ)) number₂ place₂ X.walked.goes
              (P.done.stops e (H ⨾ text_items t Γ blank) X.unknowns X.walked.steady (inside t Γ) D X.within tt (fresh H U S Γ D C F')));
        }

        pub quantified_done : number₂ ≡ 0 → length s₂ ≡ length s₁ → PredDone s (sets s₂ at (replicate (at₁ - at) 0)) d w w₂ rows at free (quantified k o t p) number₂ place₂
        unfolding pred_numbers pred_items globals_if
        quantified_done fine₂ z = record {
          done = record {
            still = spared;
            areas = λ e.
                let pool = A.walking.room.pool in
                let h = tall in
                let x = (T.done.areas fine).short in
                let y = (T.done.areas fine).few in
                wiped_low s s₂ at at₁ A.walking.size A.walking.clean A.walking.room.some (omega arith)
                (stored_kept s s₁ s₂ at at₁ (omega arith) (T.done.areas fine).stored z (P.done.areas fine₂));
            goes = λ e H U S Γ D C u F.
                let F' = fresh_left N (k ∷ []) U F in
                let X = declared H U S Γ D C F' in
                went_then H (text_items t Γ blank) (pred_items p (inside t Γ)) U (text_numbers t) (pred_numbers p) k S (went H U S Γ D C F')
                (P.done.goes fine₂ (H ⨾ text_items t Γ blank) X.unknowns X.walked.steady (inside t Γ) D X.within tt (fresh H U S Γ D C F'));
            stops = λ e. absurd (e fine₂);
          };
        }
