-- Operand lists of a tree, one turn at a time: a loop that is at operand i and ends before e.
use mathlib.Core.Path.{◌≡◌, refl, ap}
use mathlib.Core.List.{List, [], ◌∷◌}
use Prim.Native.Nat.{ℕ, zero, suc, ◌+◌, ◌-◌, ◌/◌, ◌≤◌, ◌<◌}
use native.Mathlib.Omega.{arith}
use native.Mathlib.Numerals.{add-one, add-two}
use lib.ListN.{get_or}
use Rattle.layout.specs.Layout.{part}
use Rattle.reader_rules.specs.Nodes.{operand_at}
use Rattle.reader_rules.specs.Tree.{exprs_length, none, more, end}
use Rattle.reader_rules.specs.Decode.{gather, pairs_from, expr_at, line_at, paragraph_at, exprs_from, lines_from, paragraphs_from}
use Rattle.reader_rules.proofs.TreeShape.{gather_go, gather_end}

module _ (doc : List ℕ) (k e i : ℕ) where
  pub exprs_go : i < e → exprs_from doc k i (e - i) ≡ more (expr_at doc (operand_at doc k i)) (exprs_from doc k (i + 1) (e - (i + 1)))
  unfolding exprs_from
  exprs_go = gather_go (λ j. more (expr_at doc j)) (part doc k) e i none

  pub exprs_end : e ≤ i → exprs_from doc k i (e - i) ≡ none
  unfolding exprs_from
  exprs_end = gather_end (λ j. more (expr_at doc j)) (part doc k) e i none

  pub lines_go : i < e → lines_from doc k i (e - i) ≡ line_at doc (operand_at doc k i) (lines_from doc k (i + 1) (e - (i + 1)))
  unfolding lines_from
  lines_go = gather_go (line_at doc) (part doc k) e i end

  pub lines_end_lem : e ≤ i → lines_from doc k i (e - i) ≡ end
  unfolding lines_from
  lines_end_lem = gather_end (line_at doc) (part doc k) e i end

  pub paragraphs_go : i < e
      → paragraphs_from doc k i (e - i) ≡ paragraph_at doc (operand_at doc k i) ∷ paragraphs_from doc k (i + 1) (e - (i + 1))
  unfolding paragraphs_from
  paragraphs_go = gather_go (λ j. ◌∷◌ (paragraph_at doc j)) (part doc k) e i []

  pub paragraphs_end : e ≤ i → paragraphs_from doc k i (e - i) ≡ []
  unfolding paragraphs_from
  paragraphs_end = gather_end (λ j. ◌∷◌ (paragraph_at doc j)) (part doc k) e i []

-- so many expressions as operands
pub exprs_length_lem : (doc : List ℕ) (k i m : ℕ) → exprs_length (exprs_from doc k i m) ≡ m
unfolding exprs_length exprs_from gather
exprs_length_lem doc k = go
  where
    go : (i m : ℕ) → exprs_length (gather (λ j. more (expr_at doc j)) (part doc k) i m none) ≡ m
    go i zero = refl
    go i (suc m) = ap suc (go (suc i) m)

-- rename pairs
module _ (w : List ℕ) (e i : ℕ) where
  pub pairs_go : i + 1 < e → pairs_from w i ((e - i) / 2) ≡ (get_or w i 0, get_or w (i + 1) 0) ∷ pairs_from w (i + 2) ((e - (i + 2)) / 2)
  unfolding pairs_from
  pairs_go h = let m : (e - i) / 2 ≡ suc ((e - (i + 2)) / 2) = omega arith in rw (m, pairs_from, add-one i, add-two i)

  pub pairs_end : e ≤ i + 1 → pairs_from w i ((e - i) / 2) ≡ []
  unfolding pairs_from
  pairs_end h = let m : (e - i) / 2 ≡ 0 = omega arith in rw m
