-- The laws of Texts, their lines and schema expressions, 10 to 15: operands, and the tree by theirs.
use mathlib.Core.Path.{◌≡◌, refl, ap, ◌∙◌}
use mathlib.Core.Bool.{Bool, true, false, ◌||◌}
use mathlib.Core.Logic.{◌⊎◌, inl, inr}
use mathlib.Core.List.{List}
use Prim.Native.Nat.{ℕ, ◌+◌, ◌-◌, ◌/◌, ◌≤◌, ◌<◌}
use native.Mathlib.Omega.{arith}
use lib.Dec.{leb, eqb}
use lib.ListN.{length, drop}
use borrow.Author.Tests.{leb-true, eqb-true, le-leb, lt-leb}
use Rattle.words.proofs.Loops.{and_left, and_right}
use Rattle.layout.specs.Layout.{part}
use Rattle.reader_rules.specs.Kinds.{cell, sort_at, sort_in, of_sort, expressions, schema_expressions, predicates, texts, lines, includes}
use Rattle.reader_rules.specs.Nodes.{kind_at, operand_at}
use Rattle.reader_rules.specs.Promise.{At, Lower}
use Rattle.reader_rules.specs.Tree.{none, more, text, Lines, end, declaration, inclusion, include, plain, from, both}
use Rattle.reader_rules.specs.Decode.{Node, gather, pairs_from, makers, expr_at, pred_at, text_at, include_at, line_at, schema_at, exprs_from, lines_from}
use Rattle.reader_rules.proofs.Operands.{first_of, each_of, lower_operand}
use Rattle.reader_rules.proofs.TreeShape.{One, Two, sub, sub_lower, seen, as_made, one_law, two_law, lower_gather}
use Rattle.reader_rules.proofs.TreeCounts.{Actuals, include_words}

-- a node of the kind that another sort asks is of that sort too: a Text or Include among schema expressions, an Include among lines
pub as_sort : (doc : List ℕ) (s k t : ℕ) → At doc s k → of_sort t (kind_at doc k) ≡ true → At doc t k
as_sort doc s k t h e = record { read = h.read; some = h.some; most = h.most; small = h.small; sort = e }

pub as_text : (doc : List ℕ) (s k : ℕ) → At doc s k → kind_at doc k ≡ 10 → At doc texts k
unfolding of_sort
as_text doc s k h q = as_sort doc s k texts h (rw q refl)

pub as_include : (doc : List ℕ) (s k : ℕ) → At doc s k → kind_at doc k ≡ 12 → At doc includes k
unfolding of_sort
as_include doc s k h q = as_sort doc s k includes h (rw q refl)

pub text_kind : (doc : List ℕ) (k : ℕ) → At doc texts k → kind_at doc k ≡ 10
unfolding of_sort
text_kind doc k h = eqb-true (kind_at doc k) 10 h.sort

pub include_kind : (doc : List ℕ) (k : ℕ) → At doc includes k → kind_at doc k ≡ 12
unfolding of_sort
include_kind doc k h = eqb-true (kind_at doc k) 12 h.sort

pub line_range : (doc : List ℕ) (k : ℕ) → At doc lines k → (11 ≤ kind_at doc k) × (kind_at doc k ≤ 12)
unfolding of_sort
line_range doc k h = let e = h.sort in (leb-true _ _ (and_left (leb 11 (kind_at doc k)) _ e), leb-true _ _ (and_right (leb 11 (kind_at doc k)) _ e))

-- 10 Text: the predicate a, and the lines
pub record Parts (doc : List ℕ) (k a : ℕ) (Tree : Type 0) : Type 0 where
  pub first : Lower doc k predicates a
  pub each : (j : ℕ) → 2 ≤ j → j < length (part doc k) → (v : ℕ) → v ≡ operand_at doc k j → Lower doc k lines v
  pub tree : Tree

pub text_law : (doc : List ℕ) (s k : ℕ) → At doc s k → kind_at doc k ≡ 10 → (a : ℕ) → a ≡ operand_at doc k 1
    → Parts doc k a (text_at doc k ≡ text k (pred_at doc a) (lines_from doc k 2 (length (part doc k) - 2)))
unfolding text_at pred_at lines_from line_at cell makers
text_law doc s k h q a x =
    let o = first_of doc s k h predicates (rw q refl) (omega arith) in
    let l = each_of doc s k h lines (rw q refl) (omega arith) in
    rw x (record {
      first = o;
      each = λ j c d v y. rw y (l j c d);
      tree =
          seen doc k (λ (n : Node). n.text)
          ∙ rw q (ap (λ (n : Node). text k n.pred (gather (λ j. (sub doc k j).line) (part doc k) 2 (length (part doc k) - 2) end)) (sub_lower doc k predicates (operand_at doc k 1) o))
          ∙ ap (text k (pred_at doc (operand_at doc k 1)))
          (lower_gather doc k lines 2 (length (part doc k) - 2) (λ n. n.line) end (λ j c d. l j c (omega arith)));
    })

-- 11 Decl, as a line before others
pub line_declaration : (doc : List ℕ) (k : ℕ) → At doc lines k → kind_at doc k ≡ 11 → (a : ℕ) → a ≡ operand_at doc k 1
    → One doc k expressions a ((ls : Lines) → line_at doc k ls ≡ declaration k (expr_at doc a) (drop 2 (part doc k)) ls)
unfolding line_at expr_at cell makers
line_declaration doc k h q a x =
    let o = one_law doc lines k h (λ n. n.line) (λ y ls. declaration k y.expr (drop 2 (part doc k)) ls) (λ below. rw q refl) expressions (rw q refl) a x in
    record { first = o.first; tree = λ ls. ap (λ (f : Lines → Lines). f ls) o.tree }

-- 12 Include with n actuals; as a line; as a schema expression
pub record Included (doc : List ℕ) (k n : ℕ) (Tree : Type 0) : Type 0 where
  pub words : Actuals doc k n
  pub each : (j : ℕ) → 4 ≤ j → j < n + 4 → (v : ℕ) → v ≡ operand_at doc k j → Lower doc k expressions v
  pub tree : Tree

pub actual_sort : (doc : List ℕ) (k j : ℕ) → kind_at doc k ≡ 12 → 4 ≤ j → j < operand_at doc k 3 + 4 → sort_at (part doc k) j ≡ expressions
unfolding sort_in
actual_sort doc k j q a b = rw (q, lt-leb j 3 a, le-leb j (operand_at doc k 3 + 3) (omega arith))

pub include_law : (doc : List ℕ) (s k : ℕ) → At doc s k → kind_at doc k ≡ 12 → (n : ℕ) → n ≡ operand_at doc k 3
    → Included doc k n (include_at doc k
    ≡ include k (operand_at doc k 1) (operand_at doc k 2) (exprs_from doc k 4 n) (pairs_from (part doc k) (n + 4) ((length (part doc k) - (n + 4)) / 2)))
unfolding include_at exprs_from expr_at makers
include_law doc s k h q n x =
    let a = operand_at doc k 3 in
    let c = include_words doc s k h q in
    rw x (record {
      words = c;
      each = λ j p r v y. rw y (o j p r);
      tree =
          seen doc k (λ (m : Node). m.include)
          ∙ rw q (ap (λ xs. include k (operand_at doc k 1) (operand_at doc k 2) xs (pairs_from (part doc k) (a + 4) ((length (part doc k) - (a + 4)) / 2)))
          (lower_gather doc k expressions 4 a (λ m. more m.expr) none (λ j p r. o j p (omega arith))));
    })
  where
    o : (j : ℕ) → 4 ≤ j → j < operand_at doc k 3 + 4 → Lower doc k expressions (operand_at doc k j)
    o j p r =
        let c = include_words doc s k h q in
        lower_operand doc s k h j expressions (omega arith) (omega arith) (actual_sort doc k j q p r) (omega arith)

pub line_inclusion : (doc : List ℕ) (k : ℕ) → kind_at doc k ≡ 12 → (ls : Lines) → line_at doc k ls ≡ inclusion (include_at doc k) ls
unfolding line_at include_at makers
line_inclusion doc k q ls = as_made doc k (λ n. n.line ls ≡ inclusion n.include ls) (rw q refl)

-- schema expressions
pub schema_kinds : (doc : List ℕ) (k : ℕ) → At doc schema_expressions k → (kind_at doc k ≡ 10) ⊎ ((kind_at doc k ≡ 12) ⊎ (kind_at doc k ≡ 15))
unfolding of_sort
schema_kinds doc k h = go (eqb (kind_at doc k) 10) (eqb (kind_at doc k) 12) (eqb-true (kind_at doc k) 10) (eqb-true (kind_at doc k) 12) h.sort
  where
    go : (a b : Bool) → (a ≡ true → kind_at doc k ≡ 10) → (b ≡ true → kind_at doc k ≡ 12) → (a || (b || eqb (kind_at doc k) 15)) ≡ true
        → (kind_at doc k ≡ 10) ⊎ ((kind_at doc k ≡ 12) ⊎ (kind_at doc k ≡ 15))
    go true b f g e = inl (f refl)
    go false true f g e = inr (inl (g refl))
    go false false f g e = inr (inr (eqb-true (kind_at doc k) 15 e))

pub schema_plain : (doc : List ℕ) (k : ℕ) → kind_at doc k ≡ 10 → schema_at doc k ≡ plain (text_at doc k)
unfolding schema_at text_at makers
schema_plain doc k q = as_made doc k (λ n. n.schema ≡ plain n.text) (rw q refl)

pub schema_from : (doc : List ℕ) (k : ℕ) → kind_at doc k ≡ 12 → schema_at doc k ≡ from (include_at doc k)
unfolding schema_at include_at makers
schema_from doc k q = as_made doc k (λ n. n.schema ≡ from n.include) (rw q refl)

-- 15 Conjunction
pub schema_both : (doc : List ℕ) (k : ℕ) → At doc schema_expressions k → kind_at doc k ≡ 15 → (a b : ℕ) → a ≡ operand_at doc k 1 → b ≡ operand_at doc k 2
    → Two doc k schema_expressions schema_expressions a b (schema_at doc k ≡ both k (schema_at doc a) (schema_at doc b))
unfolding schema_at cell makers
schema_both doc k h q =
    two_law doc schema_expressions k h (λ n. n.schema) (λ x y. both k x.schema y.schema) (λ below. rw q refl) schema_expressions schema_expressions
    (rw q refl)
