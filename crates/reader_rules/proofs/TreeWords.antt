-- The plain words of Number, Theta and Include are in their ranges.
use mathlib.Core.Path.{◌≡◌, refl, ◌∙◌}
use mathlib.Core.Bool.{true, false}
use mathlib.Core.List.{List}
use Prim.Native.Nat.{ℕ, ◌-◌, ◌≤◌, ◌<◌}
use native.Mathlib.Omega.{arith}
use lib.Dec.{eqb}
use lib.ListN.{length}
use borrow.Author.Tests.{leb-true}
use Rattle.layout.specs.Layout.{part}
use Rattle.reader_rules.specs.Identifiers.{is_name}
use Rattle.reader_rules.specs.Kinds.{cell, sort_at, sort_in, sort_row, plain_ok, schema_names, strokes, numbers}
use Rattle.reader_rules.specs.Nodes.{kind_at, operand_at}
use Rattle.reader_rules.specs.Promise.{At}
use Rattle.reader_rules.proofs.Operands.{cond_same}
use Rattle.reader_rules.proofs.TreeCounts.{at_least, plain_word}

module _ (doc : List ℕ) (s k : ℕ) (h : At doc s k) where
  -- operand i, by the sort that it has
  plain_of : (i t : ℕ) → 1 ≤ i → i < length (part doc k) → sort_at (part doc k) i ≡ t → plain_ok t (operand_at doc k i) ≡ true
  plain_of i t a b e = rw e at (plain_word doc s k h i a b)

  -- operand i, by the kind's row
  row_word : (q t i : ℕ) → kind_at doc k ≡ q → eqb q 12 ≡ false → cell q 5 ≡ 0 → sort_row q i ≡ t → 1 ≤ i → i < length (part doc k) → plain_ok t (operand_at doc k i) ≡ true
  unfolding sort_in
  row_word q t i e x z f a b = plain_of i t a b (rw (e, x, z) (cond_same (eqb i (length (part doc k) - 1)) (sort_row q i) ∙ f))

  pub number_word : kind_at doc k ≡ 31 → operand_at doc k 1 ≤ 2147483647
  unfolding cell plain_ok
  number_word q =
      let m : 1 < length (part doc k) = rw q at (at_least doc s k h) in leb-true _ _ (row_word 31 numbers 1 q refl refl refl (omega arith) m)

  pub theta_words : kind_at doc k ≡ 39 → (is_name (operand_at doc k 1) ≡ true) × (operand_at doc k 2 ≤ 3)
  unfolding cell plain_ok
  theta_words q =
      let m : 2 < length (part doc k) = rw q at (at_least doc s k h) in
      (row_word 39 schema_names 1 q refl refl refl (omega arith) (omega arith), leb-true _ _ (row_word 39 strokes 2 q refl refl refl (omega arith) m))

  pub included_words : kind_at doc k ≡ 12 → (is_name (operand_at doc k 1) ≡ true) × (operand_at doc k 2 ≤ 3)
  unfolding sort_in cell plain_ok
  included_words q =
      let m : 3 < length (part doc k) = rw q at (at_least doc s k h) in
      (plain_of 1 schema_names (omega arith) (omega arith) (rw q refl), leb-true _ _ (plain_of 2 strokes (omega arith) (omega arith) (rw q refl)))
