-- Predicates by the words of their node: true, not, the connectives.
use mathlib.Core.Path.{◌≡◌, refl, sym, subst}
use mathlib.Core.List.{List}
use mathlib.Core.Logic.{⊎_elim}
use Prim.Native.Nat.{ℕ, ◌≤◌, ◌<◌}
use native.Mathlib.Omega.{arith}
use lib.ListN.{length, get_or}
use Rattle.reader_rules.specs.Decode.{pred_at, connective_of}
use Rattle.reader_rules.specs.Kinds.{predicates}
use Rattle.reader_rules.specs.Nodes.{kind_at}
use Rattle.reader_rules.specs.Promise.{Lower}
use Rattle.reader_rules.specs.Tree.{Pred, not, connected}
use Rattle.reader_rules.proofs.TreePred.{pred_truth, pred_not, pred_connected}
use Rattle.reader_rules.proofs.TreeShape.{One, Two}
use Rattle.types_cells.proofs.Growing.{lt_or_ge}
use Rattle.checker_contracts.specs.Predicates.{PredAsk, PredDone}
use Rattle.checker_contracts.proofs.Connecting.{truth_done, not_part, not_done, connected_first, connected_stopped, connected_second, connected_done}
use Rattle.checker_closing.specs.Nodes.{Node, VerdictAt}
use Rattle.checker_closing.specs.declared.results.Verdict.{Verdict}
use Rattle.checker_nodes.proofs.NodeWords.{word_at_lem}

-- The next kind.
pub beyond : (q n : ℕ) → n ≤ q → (q ≡ n → ⊥) → n < q
beyond q n l d = ⊎_elim (λ (z : n < q). z) (λ (z : q ≤ n). absurd (d (omega arith))) (lt_or_ge n q)

-- The promise in the words of the result.
pub pred_told : {s s' d w w' : List ℕ} {rows at free number place : ℕ} {p : Pred} {r : Verdict} → VerdictAt r number place → PredDone s s' d w w' rows at free p number place →
    PredDone s s' d w w' rows at free p r.number r.place
pred_told {s} {s'} {d} {w} {w'} {rows} {at} {free} {number} {place} {p} {r} F P =
    subst (λ z. PredDone s s' d w w' rows at free p z r.place) (sym F.number_is) (subst (λ z. PredDone s s' d w w' rows at free p number z) (sym F.place_is) P)

module _ {doc p : List ℕ} {k : ℕ} (B : Node doc p predicates k) {s d w : List ℕ} {rows at free : ℕ} where
  -- 20
  pub at_truth : kind_at doc k ≡ 20 → (r : Verdict) → VerdictAt r 0 k → PredDone s s d w w rows at free (pred_at doc k) r.number r.place
  at_truth q r F = pred_told F (subst (λ t. PredDone s s d w w rows at free t 0 k) (sym (pred_truth doc k B.at q)) (truth_done s d w rows at free k k))

  module _ (A : PredAsk s d w rows at free (pred_at doc k)) where
    -- 24
    module _ (q : kind_at doc k ≡ 24) (x : ℕ) (e : x ≡ get_or p 1 0) where
      negated : One doc k predicates x (pred_at doc k ≡ not k (pred_at doc x))
      negated = pred_not doc k B.at q x (word_at_lem B 1 x e)

      pub at_not_ask : Lower doc k predicates x × PredAsk s d w rows at free (pred_at doc x)
      at_not_ask = (negated.first, not_part s d w rows at free k (pred_at doc x) (subst (PredAsk s d w rows at free) negated.tree A))

      pub at_not : {s' w' : List ℕ} {number place : ℕ} → PredDone s s' d w w' rows at free (pred_at doc x) number place → PredDone s s' d w w' rows at free (pred_at doc k) number place
      at_not {s'} {w'} {number} {place} P =
          subst (λ t. PredDone s s' d w w' rows at free t number place) (sym negated.tree) (not_done s d w rows at free k (pred_at doc x) s' w' number place P)

    -- 25 to 27
    module _ (least : 25 ≤ kind_at doc k) (most : kind_at doc k ≤ 27) (x y : ℕ) (e : x ≡ get_or p 1 0) (f : y ≡ get_or p 2 0) where
      joined : Two doc k predicates predicates x y (pred_at doc k ≡ connected k (connective_of (kind_at doc k)) (pred_at doc x) (pred_at doc y))
      joined = pred_connected doc k B.at (kind_at doc k) refl least most x y (word_at_lem B 1 x e) (word_at_lem B 2 y f)

      ask : PredAsk s d w rows at free (connected k (connective_of (kind_at doc k)) (pred_at doc x) (pred_at doc y))
      ask = subst (PredAsk s d w rows at free) joined.tree A

      pub at_first : Lower doc k predicates x × PredAsk s d w rows at free (pred_at doc x)
      at_first = (joined.left, connected_first s d w rows at free k (connective_of (kind_at doc k)) (pred_at doc x) (pred_at doc y) ask)

      module _ {s' w' : List ℕ} {number place : ℕ} (P : PredDone s s' d w w' rows at free (pred_at doc x) number place) where
        pub at_first_stopped : (number ≡ 0 → ⊥) → PredDone s s' d w w' rows at free (pred_at doc k) number place
        at_first_stopped n =
            subst (λ t. PredDone s s' d w w' rows at free t number place) (sym joined.tree)
            (connected_stopped s d w rows at free k (connective_of (kind_at doc k)) (pred_at doc x) (pred_at doc y) ask s' w' number place P n)

        pub at_second : number ≡ 0 → length s' ≡ length s → Lower doc k predicates y × PredAsk s' d w' rows at free (pred_at doc y)
        at_second fine z =
            (joined.right, connected_second s d w rows at free k (connective_of (kind_at doc k)) (pred_at doc x) (pred_at doc y) ask s' w' number place P fine z)

        pub at_connected : number ≡ 0 → {s'' w'' : List ℕ} {number' place' : ℕ} → PredDone s' s'' d w' w'' rows at free (pred_at doc y) number' place' →
            PredDone s s'' d w w'' rows at free (pred_at doc k) number' place'
        at_connected fine {s''} {w''} {number'} {place'} Q =
            subst (λ t. PredDone s s'' d w w'' rows at free t number' place') (sym joined.tree)
            (connected_done s d w rows at free k (connective_of (kind_at doc k)) (pred_at doc x) (pred_at doc y) ask s' w' number place P fine s'' w'' number' place' Q)
