-- The law of each kind of paragraph, 2 to 6, and of the Document, 1: operands, and the tree by theirs.
use mathlib.Core.Path.{◌≡◌, refl, ap, ◌∙◌}
use mathlib.Core.Bool.{true}
use mathlib.Core.List.{List, [], ◌∷◌}
use Prim.Native.Nat.{ℕ, ◌+◌, ◌-◌, ◌≤◌, ◌<◌}
use native.Mathlib.Omega.{arith}
use lib.Dec.{leb, eqb}
use lib.ListN.{length, take, drop}
use borrow.Author.Tests.{leb-true, eq-eqb}
use Rattle.words.proofs.Loops.{and_left, and_right}
use Rattle.layout.specs.Layout.{count, part}
use Rattle.reader_rules.specs.Kinds.{cell, sort_at, sort_in, of_sort, expressions, schema_expressions, predicates, texts, paragraphs, counts, is_node_sort}
use Rattle.reader_rules.specs.Nodes.{kind_at, operand_at}
use Rattle.reader_rules.specs.Reading.{read_of}
use Rattle.reader_rules.specs.Refusals.{Readable}
use Rattle.reader_rules.specs.Promise.{At, Lower}
use Rattle.reader_rules.specs.Tree.{Paragraph, given, axiomatic, schema, abbreviation, constraint, document}
use Rattle.reader_rules.specs.Decode.{Node, makers, make_at, node_at, expr_at, pred_at, text_at, schema_at, paragraph_at, paragraphs_from, tree_of}
use Rattle.reader_rules.proofs.Accepted.{readable, operand, last_document}
use Rattle.reader_rules.proofs.Operands.{cond_same, lower_operand}
use Rattle.reader_rules.proofs.Parents.{place_child}
use Rattle.reader_rules.proofs.TreeShape.{One, Each, sub, sub_lower, seen, one_law, lower_gather}
use Rattle.reader_rules.proofs.TreeCounts.{defined_words, at_most}

pub paragraph_range : (doc : List ℕ) (k : ℕ) → At doc paragraphs k → (2 ≤ kind_at doc k) × (kind_at doc k ≤ 6)
unfolding of_sort
paragraph_range doc k h = let e = h.sort in (leb-true _ _ (and_left (leb 2 (kind_at doc k)) _ e), leb-true _ _ (and_right (leb 2 (kind_at doc k)) _ e))

-- a Schema or Abbreviation with p parameters and the body a
pub record Defined (doc : List ℕ) (k s p a : ℕ) (Tree : Type 0) : Type 0 where
  pub few : p ≤ 4
  pub words : length (part doc k) ≡ p + 4
  pub body : Lower doc k s a
  pub tree : Tree

body_sort : (doc : List ℕ) (k q t : ℕ) → kind_at doc k ≡ q → length (part doc k) ≡ operand_at doc k 2 + 4 → (let i = operand_at doc k 2 + 3 in sort_in q i (operand_at doc k 3) i ≡ t)
    → sort_at (part doc k) (operand_at doc k 2 + 3) ≡ t
body_sort doc k q t e l f =
    let n : length (part doc k) - 1 ≡ operand_at doc k 2 + 3 = omega arith in
    rw (e, n) f

module _ (doc : List ℕ) (k : ℕ) (h : At doc paragraphs k) where
  -- 2 Given
  pub paragraph_given : kind_at doc k ≡ 2 → paragraph_at doc k ≡ given k (drop 1 (part doc k))
  unfolding paragraph_at makers
  paragraph_given q = seen doc k (λ (n : Node). n.paragraph) ∙ rw q

  -- 3 Axiom
  pub paragraph_axiomatic : kind_at doc k ≡ 3 → (a : ℕ) → a ≡ operand_at doc k 1 → One doc k texts a (paragraph_at doc k ≡ axiomatic k (text_at doc a))
  unfolding paragraph_at text_at cell makers
  paragraph_axiomatic q = one_law doc paragraphs k h (λ n. n.paragraph) (λ x. axiomatic k x.text) (λ below. rw q refl) texts (rw q refl)

  -- 6 Constraint
  pub paragraph_constraint : kind_at doc k ≡ 6 → (a : ℕ) → a ≡ operand_at doc k 1 → One doc k predicates a (paragraph_at doc k ≡ constraint k (pred_at doc a))
  unfolding paragraph_at pred_at cell makers
  paragraph_constraint q = one_law doc paragraphs k h (λ n. n.paragraph) (λ x. constraint k x.pred) (λ below. rw q refl) predicates (rw q refl)

  -- a body that is the last operand
  defined_law : (g : ℕ → Node → Paragraph) (q t : ℕ) → kind_at doc k ≡ q → 4 ≤ q → q ≤ 5 → cell q 1 ≡ 8 → counts < t
      → (let i = operand_at doc k 2 + 3 in sort_in q i (operand_at doc k 3) i ≡ t)
      → (make_at doc k (sub doc k)).paragraph ≡ g (operand_at doc k 2) (sub doc k (operand_at doc k (operand_at doc k 2 + 3)))
      → (p a : ℕ) → p ≡ operand_at doc k 2 → a ≡ operand_at doc k (p + 3) → Defined doc k t p a ((node_at doc k).paragraph ≡ g p (node_at doc a))
  defined_law g q t e u v c r f m p a x y =
      let l = defined_words doc paragraphs k h q e u v in
      let n : length (part doc k) ≤ 8 = rw (e, c) at (at_most doc paragraphs k h) in
      let j = operand_at doc k 2 + 3 in
      let o = lower_operand doc paragraphs k h j t (omega arith) (omega arith) (body_sort doc k q t e l f) r in
      rw (y, x) (record {
        few = omega arith;
        words = l;
        body = o;
        tree = seen doc k (λ (w : Node). w.paragraph) ∙ m ∙ ap (g (operand_at doc k 2)) (sub_lower doc k t (operand_at doc k j) o);
      })

  -- 4 Schema
  pub paragraph_schema : kind_at doc k ≡ 4 → (p a : ℕ) → p ≡ operand_at doc k 2 → a ≡ operand_at doc k (p + 3)
      → Defined doc k schema_expressions p a (paragraph_at doc k ≡ schema k (operand_at doc k 1) (take p (drop 3 (part doc k))) (schema_at doc a))
  unfolding paragraph_at schema_at cell sort_in makers
  paragraph_schema q =
      defined_law (λ p x. schema k (operand_at doc k 1) (take p (drop 3 (part doc k))) x.schema) 4 schema_expressions q (omega arith) (omega arith) refl
      (omega arith) (rw (eq-eqb (operand_at doc k 2 + 3) (operand_at doc k 2 + 3) refl)) (rw q refl)

  -- 5 Abbreviation
  pub paragraph_abbreviation : kind_at doc k ≡ 5 → (p a : ℕ) → p ≡ operand_at doc k 2 → a ≡ operand_at doc k (p + 3)
      → Defined doc k expressions p a (paragraph_at doc k ≡ abbreviation k (operand_at doc k 1) (take p (drop 3 (part doc k))) (expr_at doc a))
  unfolding paragraph_at expr_at cell sort_in makers
  paragraph_abbreviation q =
      defined_law (λ p x. abbreviation k (operand_at doc k 1) (take p (drop 3 (part doc k))) x.expr) 5 expressions q (omega arith) (omega arith) refl
      (omega arith) (rw (eq-eqb (operand_at doc k 2 + 3) (operand_at doc k 2 + 3) refl)) (rw q refl)

-- 1 Document: the last node
pub document_sort : (doc : List ℕ) (k : ℕ) → kind_at doc k ≡ 1 → (j : ℕ) → sort_at (part doc k) j ≡ paragraphs
unfolding cell sort_in
document_sort doc k q j =
    rw (q, cond_same (eqb j 2) paragraphs, cond_same (eqb j 1) paragraphs) (cond_same (eqb j (length (part doc k) - 1)) paragraphs)

pub document_law : (doc : List ℕ) → read_of doc ≡ Readable
    → (let n = count doc in Each doc n paragraphs 1 (length (part doc n)) (tree_of doc ≡ document n (paragraphs_from doc n 1 (length (part doc n) - 1))))
unfolding tree_of paragraphs_from paragraph_at makers
document_law doc r =
    record {
      each = λ j a b v x. rw x (o j a b);
      tree =
          seen doc (count doc) (λ (m : Node). m.document)
          ∙ rw q (ap (document (count doc))
          (lower_gather doc (count doc) paragraphs 1 (length (part doc (count doc)) - 1) (λ m. ◌∷◌ m.paragraph) [] (λ j a b. o j a (omega arith))));
    }
  where
    q : kind_at doc (count doc) ≡ 1
    q = last_document doc (readable doc r)

    sort : (j : ℕ) → sort_at (part doc (count doc)) j ≡ paragraphs
    sort = document_sort doc (count doc) q

    o : (j : ℕ) → 1 ≤ j → j < length (part doc (count doc)) → Lower doc (count doc) paragraphs (operand_at doc (count doc) j)
    o j a b =
        let d = readable doc r in
        let l = d.nodes.laid in
        let m = l.some in
        let f = l.few in
        let s : is_node_sort (sort_at (part doc (count doc)) j) ≡ true = rw sort refl in
        let x = operand doc (count doc) j (d.nodes.node (count doc) m (omega arith)) a b s in
        let y = x.below in
        record {
          at = record { read = r; some = x.some; most = omega arith; small = omega arith; sort = rw sort at x.sort };
          below = y;
          child = place_child doc (count doc) j a b s;
        }
