-- THE ROWS OF THE LIST OF KINDS AND THE CHOICES OVER RANGES ARE ONE FUNCTION ON ALL WORDS (rows_chosen); what follows for the numbers in which the code
-- has the choices.
use mathlib.Core.Path.{◌≡◌, refl, sym, ◌∙◌, ap, fun_ext}
use mathlib.Core.Bool.{Bool, true, false}
use mathlib.Core.List.{List, [], ◌∷◌}
use Prim.Native.Nat.{ℕ, ◌+◌, ◌*◌, ◌/◌, ◌%◌, ◌≤◌, ◌<◌}
use native.Mathlib.Omega.{arith}
use lib.Dec.{ltb}
use lib.ListN.{get_or, get_or-eq_default}
use borrow.Author.Tests.{ltb-true, ltb-false}
use Rattle.words.specs.Loops.{every}
use Rattle.reader_rules.specs.Kinds.{table, cell}
use Rattle.reader_nodes.specs.Choices.{by_ranges, by_kind, from_below, paragraph_counts, predicate_counts, expression_counts, other_counts, chosen_counts, counts_number, nothing, paragraph_sorts, predicate_sorts, expression_sorts, other_sorts, chosen_sorts, sorts_number, row_of, chosen_row}
use Rattle.reader_nodes.proofs.RangeLaws.{past, same_words, alike}

-- the kinds from 47 on
module _ (q : ℕ) (h : 47 ≤ q) where
  past_cell : (j : ℕ) → j < 6 → cell q j ≡ 0
  unfolding cell
  past_cell j l = get_or-eq_default table 0 {n = 6 * q + j} (omega arith)

  past_counts : chosen_counts q ≡ from_below 0 0
  unfolding chosen_counts other_counts
  past_counts = past paragraph_counts predicate_counts expression_counts _ _ _ _ _ _ q h

  past_sorts : chosen_sorts q ≡ nothing
  unfolding chosen_sorts other_sorts
  past_sorts = past paragraph_sorts predicate_sorts expression_sorts _ _ _ _ _ _ q h

  past_rows : row_of q ≡ chosen_row q
  unfolding row_of chosen_row
  past_rows =
      rw (past_cell 0 (omega arith), past_cell 1 (omega arith), past_cell 2 (omega arith), past_cell 3 (omega arith), past_cell 4 (omega arith), past_cell 5 (omega arith), past_counts, past_sorts)

-- the kinds below 47
listed_rows : every (λ q. same_words (row_of q) (chosen_row q)) 0 47 ≡ true
unfolding every row_of cell chosen_row chosen_counts chosen_sorts by_ranges by_kind paragraph_counts predicate_counts expression_counts other_counts paragraph_sorts predicate_sorts expression_sorts other_sorts
listed_rows = refl

-- THE LIST AND THE CHOICE
pub rows_chosen : row_of ≡ chosen_row
rows_chosen = fun_ext (λ q. go q (ltb q 47) refl)
  where
    go : (q : ℕ) (b : Bool) → ltb q 47 ≡ b → row_of q ≡ chosen_row q
    go q true e = alike row_of chosen_row 0 47 listed_rows q (omega arith) (ltb-true q 47 e)
    go q false e = past_rows q (ltb-false q 47 e)

-- The digits of the numbers are the columns of the row.
abbrev columns : ℕ → ℕ → List ℕ
columns n m = n % 16 ∷ n / 16 ∷ m / 4096 ∷ m / 256 % 16 ∷ m / 16 % 16 ∷ m % 16 ∷ []

numbered : ℕ → List ℕ
numbered q = columns (counts_number (chosen_counts q)) (sorts_number (chosen_sorts q))

listed_numbers : every (λ q. same_words (numbered q) (chosen_row q)) 0 47 ≡ true
unfolding numbered counts_number sorts_number every chosen_row chosen_counts chosen_sorts by_ranges by_kind paragraph_counts predicate_counts expression_counts other_counts paragraph_sorts predicate_sorts expression_sorts other_sorts
listed_numbers = refl

module _ (q : ℕ) where
  digits : (b : Bool) → ltb q 47 ≡ b → numbered q ≡ chosen_row q
  unfolding numbered counts_number sorts_number chosen_row
  digits true e = alike numbered chosen_row 0 47 listed_numbers q (omega arith) (ltb-true q 47 e)
  digits false e = rw (past_counts q (ltb-false q 47 e), past_sorts q (ltb-false q 47 e))

  pub numbers : columns (counts_number (chosen_counts q)) (sorts_number (chosen_sorts q)) ≡ row_of q
  unfolding numbered
  numbers = digits (ltb q 47) refl ∙ sym (ap (λ (f : ℕ → List ℕ). f q) rows_chosen)

  pub fewest_cell : counts_number (chosen_counts q) % 16 ≡ cell q 0
  unfolding row_of
  fewest_cell = ap (λ (r : List ℕ). get_or r 0 0) numbers

  pub limit_cell : counts_number (chosen_counts q) / 16 ≡ cell q 1
  unfolding row_of
  limit_cell = ap (λ (r : List ℕ). get_or r 1 0) numbers

  pub first_cell : sorts_number (chosen_sorts q) / 4096 ≡ cell q 2
  unfolding row_of
  first_cell = ap (λ (r : List ℕ). get_or r 2 0) numbers

  pub second_cell : sorts_number (chosen_sorts q) / 256 % 16 ≡ cell q 3
  unfolding row_of
  second_cell = ap (λ (r : List ℕ). get_or r 3 0) numbers

  pub others_cell : sorts_number (chosen_sorts q) / 16 % 16 ≡ cell q 4
  unfolding row_of
  others_cell = ap (λ (r : List ℕ). get_or r 4 0) numbers

  pub last_cell : sorts_number (chosen_sorts q) % 16 ≡ cell q 5
  unfolding row_of
  last_cell = ap (λ (r : List ℕ). get_or r 5 0) numbers
