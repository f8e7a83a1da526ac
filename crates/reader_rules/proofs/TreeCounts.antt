-- How many words a readable node has, and the range of its plain words.
use mathlib.Core.Path.{◌≡◌, ap}
use mathlib.Core.Bool.{true}
use mathlib.Core.List.{List}
use Prim.Native.Nat.{ℕ, ◌+◌, ◌-◌, ◌%◌, ◌≤◌, ◌<◌}
use native.Mathlib.Omega.{arith}
use lib.Dec.{leb, ltb, eqb}
use lib.ListN.{length}
use borrow.Author.Tests.{leb-true, ltb-true, eqb-true, ne_eqb, le-leb}
use Rattle.words.proofs.Loops.{and_left, and_right, every_at}
use Rattle.layout.specs.Layout.{part}
use Rattle.reader_rules.specs.Kinds.{cell, sort_at, sort_in, count_row, count_by, plain_ok}
use Rattle.reader_rules.specs.Nodes.{kind_at, operand_at}
use Rattle.reader_rules.specs.Findings.{plain_at}
use Rattle.reader_rules.specs.Promise.{At}
use Rattle.reader_rules.proofs.Accepted.{Sound, readable, some_words, least_operands}

-- the words of an Include with n actuals: these, 4 words before them, and pairs after them
pub record Actuals (doc : List ℕ) (k n : ℕ) : Type 0 where
  pub few : n ≤ 4
  pub long : n + 4 ≤ length (part doc k)
  pub even : (length (part doc k) - (n + 4)) % 2 ≡ 0
  pub pairs : length (part doc k) ≤ n + 16

module _ (doc : List ℕ) (s k : ℕ) (h : At doc s k) where
  sound : Sound doc k
  sound = (readable doc h.read).nodes.node k h.some h.most

  -- a node has at least as many operands as its row's first column says, and fewer than the second
  pub at_least : cell (kind_at doc k) 0 < length (part doc k)
  at_least = least_operands doc k sound (some_words doc k (readable doc h.read).nodes.laid h.some h.most)

  pub at_most : length (part doc k) ≤ cell (kind_at doc k) 1
  at_most =
      let n = length (part doc k) - 1 in
      let q = kind_at doc k in
      let l : ltb n (cell q 1) ≡ true = and_right (leb (cell q 0) n) _ (and_left (count_row q n) _ sound.counted) in
      let m = at_least in
      omega (arith, ltb-true n (cell q 1) l)

  -- the number of words by the count that stands among them
  counted : count_by (kind_at doc k) (length (part doc k) - 1) (operand_at doc k 2) (operand_at doc k 3) ≡ true
  counted = and_right (count_row (kind_at doc k) (length (part doc k) - 1)) _ sound.counted

  -- 4 and 5: the parameters, and 4 words more
  pub defined_words : (q : ℕ) → kind_at doc k ≡ q → 4 ≤ q → q ≤ 5 → length (part doc k) ≡ operand_at doc k 2 + 4
  unfolding count_by
  defined_words q e a b =
      let n = length (part doc k) - 1 in
      let c = rw (e, ne_eqb q 12 (omega arith), le-leb 4 q a, le-leb q 5 b) at counted in
      let m = at_least in
      omega (arith, eqb-true n (operand_at doc k 2 + 3) c)

  -- a plain word is in its range
  pub plain_word : (i : ℕ) → 1 ≤ i → i < length (part doc k) → plain_ok (sort_at (part doc k) i) (operand_at doc k i) ≡ true
  plain_word i a b = every_at (plain_at (part doc k)) 1 (length (part doc k) - 1) sound.plain i a (omega arith)

  -- 12: at most 4 actuals and 6 rename pairs
  pub include_words : kind_at doc k ≡ 12 → Actuals doc k (operand_at doc k 3)
  unfolding count_by plain_ok sort_in cell
  include_words q =
      let n = length (part doc k) - 1 in
      let a = operand_at doc k 3 in
      let c = rw q at counted in
      let d = and_right (leb (a + 3) n) _ c in
      let m = at_least in
      let l : 3 < length (part doc k) = omega (arith, ap (λ (j : ℕ). cell j 0) q) in
      let f : leb a 4 ≡ true = rw q at (plain_word 3 (omega arith) l) in
      let g = leb-true (a + 3) n (and_left (leb (a + 3) n) _ c) in
      record {
        few = leb-true a 4 f;
        long = omega arith;
        even = omega (arith, eqb-true ((n - (a + 3)) % 2) 0 (and_left (eqb ((n - (a + 3)) % 2) 0) _ d));
        pairs = omega (arith, leb-true (n - (a + 3)) 12 (and_right (eqb ((n - (a + 3)) % 2) 0) _ d));
      }
