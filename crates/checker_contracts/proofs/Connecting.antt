-- True, Not and the connectives: the items of their parts, one after the other.
use mathlib.Core.Path.{◌≡◌, refl, ◌∙◌}
use mathlib.Core.List.{List, [], ◌∷◌, ◌++◌}
use Prim.Native.Nat.{ℕ, ◌-◌}
use native.Mathlib.Omega.{arith}
use lib.ListN.{length}
use Rattle.reader_rules.specs.Limited.{LimitedPred}
use Rattle.reader_rules.specs.Tree.{Pred, truth, not, connected, Connective}
use Rattle.reader_rules.specs.TreeNumbers.{pred_numbers}
use Rattle.checker_rules.specs.Dictionary.{Dictionary}
use Rattle.checker_rules.specs.Items.{Items, ◌⨾◌}
use Rattle.checker_rules.specs.Rules.{pred_items}
use Rattle.checker_rules.specs.Scopes.{Scope}
use Rattle.checker_pieces.specs.Piece.{Steady}
use Rattle.checker_pieces.proofs.Between.{walked_skip, refuses_first, refuses_second}
use Rattle.checker_lookup.specs.Scoped.{Scoped}
use Rattle.checker_contracts.specs.Predicates.{PredAsk, PredDone}
use Rattle.checker_contracts.specs.Visits.{Owned, Fresh, EachOnce, idle, Went}
use Rattle.checker_contracts.proofs.Nodes.{once_left, fresh_left, fresh_after, owned_left}
use Rattle.checker_contracts.proofs.Passing.{scoped_after, walking_first, walking_second, went_wider, went_then}
use Rattle.checker_contracts.proofs.Scopes.{spared_refl, spared_on}
use Rattle.checker_contracts.proofs.Refused.{done_refused}

pub truth_done : (s d w : List ℕ) (rows at free k place : ℕ) → PredDone s s d w w rows at free (truth k) 0 place
unfolding pred_items
truth_done s d w rows at free k place = record {
  done = record {
    still = spared_refl w rows free;
    areas = λ e. refl;
    goes = λ e H U S Γ D C u F. record { unknowns = U; walked = walked_skip H U (Owned (pred_numbers (truth k))) S };
    stops = λ e. absurd (e refl);
  };
}

module _ (s d w : List ℕ) (rows at free k : ℕ) where
  module _ (p : Pred) where
    pub not_part : PredAsk s d w rows at free (not k p) → PredAsk s d w rows at free p
    unfolding LimitedPred pred_numbers
    not_part A = record {
      height = A.height - 1;
      texts = A.texts;
      limited = A.limited.1;
      walking = walking_first s d w rows at free A.height (A.height - 1) (pred_numbers p) (k ∷ []) (omega arith) A.walking;
    }

    pub not_done : (s' w' : List ℕ) (number place : ℕ) → PredDone s s' d w w' rows at free p number place → PredDone s s' d w w' rows at free (not k p) number place
    unfolding pred_numbers pred_items
    not_done s' w' number place P = record {
      done = record {
        still = P.done.still;
        areas = P.done.areas;
        goes = λ e H U S Γ D C u F.
            went_wider H (pred_items p Γ) U (pred_numbers p) (pred_numbers p ++ (k ∷ [])) (owned_left (pred_numbers p) (k ∷ []))
            (P.done.goes e H U S Γ D C tt (fresh_left (pred_numbers p) (k ∷ []) U F));
        stops = λ e H U S Γ D C u F. P.done.stops e H U S Γ D C tt (fresh_left (pred_numbers p) (k ∷ []) U F);
      };
    }

  -- TWO PARTS.
  module _ (o : Connective) (p q : Pred) (A : PredAsk s d w rows at free (connected k o p q)) where
    abbrev both : List ℕ
    both = pred_numbers p ++ pred_numbers q

    pub connected_first : PredAsk s d w rows at free p
    unfolding LimitedPred pred_numbers
    connected_first = record {
      height = A.height - 1;
      texts = A.texts;
      limited = A.limited.1;
      walking =
          walking_first s d w rows at free (A.height - 1) (A.height - 1) (pred_numbers p) (pred_numbers q) (omega arith)
          (walking_first s d w rows at free A.height (A.height - 1) both (k ∷ []) (omega arith) A.walking);
    }

    once : EachOnce both
    unfolding pred_numbers
    once = once_left both (k ∷ []) A.walking.once

    module _ (s' w' : List ℕ) (number place : ℕ) (P : PredDone s s' d w w' rows at free p number place) where
      -- the finding of the first
      pub connected_stopped : (number ≡ 0 → ⊥) → PredDone s s' d w w' rows at free (connected k o p q) number place
      unfolding pred_numbers pred_items
      connected_stopped n = record {
        done = done_refused P.done.still n (λ H U S Γ D C u F.
            refuses_first H (pred_items p Γ) (pred_items q Γ) number place
            (P.done.stops n H U S Γ D C tt (fresh_left (pred_numbers p) (pred_numbers q) U (fresh_left both (k ∷ []) U F))));
      }

      module _ (fine : number ≡ 0) where
        pub connected_second : length s' ≡ length s → PredAsk s' d w' rows at free q
        unfolding LimitedPred pred_numbers
        connected_second z =
            let K = walking_first s d w rows at free A.height (A.height - 1) both (k ∷ []) (omega arith) A.walking in
            let W = P.done.goes fine K.before K.known K.steady K.scope K.dictionary K.scoped tt (fresh_left (pred_numbers p) (pred_numbers q) K.known K.fresh) in
            record {
              height = A.height - 1;
              texts = A.texts;
              limited = A.limited.2;
              walking =
                  walking_second s s' d w w' rows at free (A.height - 1) (pred_numbers p) (pred_numbers q) K (pred_items p K.scope) W.unknowns W.walked z (P.done.areas fine) P.done.still;
            }

        pub connected_done : (s'' w'' : List ℕ) (number' place' : ℕ) → PredDone s' s'' d w' w'' rows at free q number' place' →
            PredDone s s'' d w w'' rows at free (connected k o p q) number' place'
        unfolding pred_numbers pred_items
        connected_done s'' w'' number' place' Q = record {
          done = record {
            still = spared_on w w' w'' rows free P.done.still Q.done.still;
            areas = λ e. Q.done.areas e ∙ P.done.areas fine;
            goes = λ e H U S Γ D C u F.
                let X = went H U S Γ D C F in
                went_then H (pred_items p Γ) (pred_items q Γ) U (pred_numbers p) (pred_numbers q) k S X
                (Q.done.goes e (H ⨾ pred_items p Γ) X.unknowns X.walked.steady Γ D (after H U Γ D C X) tt (fresh H U Γ F X));
            stops = λ e H U S Γ D C u F.
                let X = went H U S Γ D C F in
                refuses_second H (pred_items p Γ) (pred_items q Γ) number' place' X.walked.goes
                (Q.done.stops e (H ⨾ pred_items p Γ) X.unknowns X.walked.steady Γ D (after H U Γ D C X) tt (fresh H U Γ F X));
          };
        }
          where
            went : (H : Items) (U : List ℕ) → Steady H U → (Γ : Scope) (D : Dictionary) → Scoped s d w rows (idle H U) Γ D → Fresh (both ++ (k ∷ [])) U → Went H (pred_items p Γ) U (pred_numbers p)
            went H U S Γ D C F = P.done.goes fine H U S Γ D C tt (fresh_left (pred_numbers p) (pred_numbers q) U (fresh_left both (k ∷ []) U F))

            after : (H : Items) (U : List ℕ) (Γ : Scope) (D : Dictionary) → Scoped s d w rows (idle H U) Γ D → (X : Went H (pred_items p Γ) U (pred_numbers p)) →
                Scoped s' d w' rows (idle (H ⨾ pred_items p Γ) X.unknowns) Γ D
            after H U Γ D C X =
                scoped_after s s' d w w' rows free Γ D H (pred_items p Γ) U X.unknowns (Owned (pred_numbers p)) X.walked (P.done.areas fine) P.done.still C

            fresh : (H : Items) (U : List ℕ) (Γ : Scope) → Fresh (both ++ (k ∷ [])) U → (X : Went H (pred_items p Γ) U (pred_numbers p)) → Fresh (pred_numbers q) X.unknowns
            fresh H U Γ F X = fresh_after (pred_numbers p) (pred_numbers q) U X.unknowns once (fresh_left both (k ∷ []) U F) X.walked.new
