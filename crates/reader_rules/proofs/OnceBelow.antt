-- No node stands twice in the tree at a node of a readable document.
use mathlib.Core.Path.{◌≡◌, refl, ap}
use mathlib.Core.Bool.{Bool, true, false, cond}
use mathlib.Core.List.{List, [], ◌∷◌}
use Prim.Native.Nat.{ℕ, ◌+◌, ◌≤◌}
use native.Mathlib.Omega.{arith}
use lib.Dec.{eqb}
use Rattle.words.specs.Loops.{occurrences}
use Rattle.layout.specs.Layout.{count}
use Rattle.reader_rules.specs.Kinds.{between, expressions, schema_expressions, predicates, texts, paragraphs, includes}
use Rattle.reader_rules.specs.Promise.{At}
use Rattle.reader_rules.specs.Decode.{expr_at, pred_at, text_at, include_at, schema_at, paragraph_at}
use Rattle.reader_rules.specs.TreeNumbers.{expr_numbers, pred_numbers, text_numbers, include_numbers, schema_numbers, paragraph_numbers}
use Rattle.reader_rules.specs.Below.{numbers_at}
use Rattle.reader_rules.proofs.Accepted.{readable}
use Rattle.reader_rules.proofs.Occurrences.{sum_of}
use Rattle.reader_rules.proofs.TreeChildren.{once}
use Rattle.reader_rules.proofs.SumsBelow.{sum_under, sum_all}
use Rattle.reader_rules.proofs.TreeNodes.{each_numbered}

abbrev mark : ℕ → ℕ → ℕ
mark j k = cond (eqb k j) 1 0

occurrences_sum : (j : ℕ) (l : List ℕ) → occurrences j l ≡ sum_of (mark j) l
unfolding occurrences sum_of
occurrences_sum j [] = refl
occurrences_sum j (x ∷ xs) = ap (λ (n : ℕ). mark j x + n) (occurrences_sum j xs)

one_most : (b : Bool) → cond b 1 0 ≤ 1
one_most true = omega arith
one_most false = omega arith

-- A NODE STANDS AT MOST ONCE at a node and below it.
pub once_below : (doc : List ℕ) (s k : ℕ) → At doc s k → (j : ℕ) → occurrences j (numbers_at doc k) ≤ 1
once_below doc s k h j =
    let d = readable doc h.read in
    let N = count doc in
    let a = occurrences_sum j (numbers_at doc k) in
    let b = sum_under doc d (mark j) k h.some h.most in
    let c = sum_all doc d (mark j) in
    let e = occurrences_sum j (numbers_at doc N) in
    let f = once doc d j in
    let g = one_most (between 1 j N) in
    omega arith

-- so in the tree at a node, of each sort
pub record OnceAt (doc : List ℕ) (k : ℕ) : Type 0 where
  pub expr : At doc expressions k → (j : ℕ) → occurrences j (expr_numbers (expr_at doc k)) ≤ 1
  pub pred : At doc predicates k → (j : ℕ) → occurrences j (pred_numbers (pred_at doc k)) ≤ 1
  pub text : At doc texts k → (j : ℕ) → occurrences j (text_numbers (text_at doc k)) ≤ 1
  pub include : At doc includes k → (j : ℕ) → occurrences j (include_numbers (include_at doc k)) ≤ 1
  pub schema : At doc schema_expressions k → (j : ℕ) → occurrences j (schema_numbers (schema_at doc k)) ≤ 1
  pub paragraph : At doc paragraphs k → (j : ℕ) → occurrences j (paragraph_numbers (paragraph_at doc k)) ≤ 1

pub once_at : (doc : List ℕ) (k : ℕ) → OnceAt doc k
once_at doc k =
    let n = each_numbered doc k in
    record {
      expr = λ h j. rw (n.expr h) (once_below doc expressions k h j);
      pred = λ h j. rw (n.pred h) (once_below doc predicates k h j);
      text = λ h j. rw (n.text h) (once_below doc texts k h j);
      include = λ h j. rw (n.include h) (once_below doc includes k h j);
      schema = λ h j. rw (n.schema h) (once_below doc schema_expressions k h j);
      paragraph = λ h j. rw (n.paragraph h) (once_below doc paragraphs k h j);
    }
