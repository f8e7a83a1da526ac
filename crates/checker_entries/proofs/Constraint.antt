-- A Constraint: its predicate; no entries.
use mathlib.Core.Path.{◌≡◌, refl, sym, subst}
use mathlib.Core.List.{List, [], ◌∷◌}
use Prim.Native.Nat.{ℕ}
use native.Mathlib.Omega.{arith}
use lib.ListN.{drop}
use Rattle.reader_rules.specs.Limited.{LimitedParagraph}
use Rattle.reader_rules.specs.Tree.{Paragraph, constraint, Pred}
use Rattle.reader_rules.specs.TreeNumbers.{paragraph_numbers, pred_numbers}
use Rattle.checker_rules.specs.Entries.{extend}
use Rattle.checker_rules.specs.Items.{skip, MeetsIn}
use Rattle.checker_rules.specs.Rules.{paragraph_items, pred_items}
use Rattle.checker_rules.specs.Scopes.{globals}
use Rattle.checker_dictionary.specs.Waiting.{with_entries, waiting}
use Rattle.checker_contracts.specs.Room.{frames_at}
use Rattle.checker_contracts.specs.Paragraphs.{ParagraphAsk, ParagraphDone}
use Rattle.checker_contracts.specs.Predicates.{PredAsk, PredDone}
use Rattle.checker_contracts.proofs.Nodes.{once_left}
use Rattle.checker_entries.proofs.Beginning.{nothing_before, nothing_known, no_rows, room_below, walking_below, passes_any, refuses_any}

module _ (s d w : List ℕ) (p : Paragraph) (k : ℕ) (q : Pred) (e : p ≡ constraint k q) where
  pub constraint_asked : ParagraphAsk s d w p → PredAsk s d w 0 1 frames_at q
  unfolding LimitedParagraph paragraph_numbers
  constraint_asked A' =
      let A = subst (ParagraphAsk s d w) e A' in
      record {
        height = 10;
        texts = 4;
        limited = A.limited.1;
        walking =
            walking_below s d w 0 1 (pred_numbers q) (globals A.dictionary) A.dictionary A.size A.few A.clean (once_left (pred_numbers q) (k ∷ []) A.once)
            (room_below w 0 1 A.wide (omega arith) (omega arith) (omega arith)) (no_rows s d w A.dictionary A.recorded);
      }

  pub constraint_done : (s' w' : List ℕ) (number place at : ℕ) → PredDone s s' d w w' 0 1 frames_at q number place → ParagraphDone s s' d w w' p number place at 0
  unfolding paragraph_items extend with_entries waiting MeetsIn
  constraint_done s' w' number place at P = subst (λ x. ParagraphDone s s' d w w' x number place at 0) (sym e) (record {
    size = P.done.still.size;
    index = P.done.still.index;
    low = P.done.areas;
    goes = λ z D R.
        let X = P.done.goes z skip [] nothing_before (globals D) D (no_rows s d w D R) tt (nothing_known (pred_numbers q)) in
        let S = X.walked.steady.some in
        record {
          passes = passes_any (pred_items q (globals D)) X.walked.goes;
          table = S.0;
          meets = S.1.1;
          entries = [];
          counted = refl;
          waits = record { after = drop at w'; words = refl };
          short = omega arith;
          extends = refl;
        };
    stops = λ z D R. refuses_any (pred_items q (globals D)) number place (P.done.stops z skip [] nothing_before (globals D) D (no_rows s d w D R) tt (nothing_known (pred_numbers q)));
  })
