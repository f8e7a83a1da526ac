-- Every node of a readable document stands in its tree once.
use mathlib.Core.Path.{◌≡◌, refl, sym, ap, ◌∙◌}
use mathlib.Core.Bool.{true, false, cond}
use mathlib.Core.Logic.{⊎_elim}
use mathlib.Core.List.{List, [], ◌∷◌, ◌++◌, append-nil}
use Prim.Native.Nat.{ℕ, zero, suc, ◌+◌, ◌-◌, ◌≤◌, ◌<◌}
use native.Mathlib.Omega.{arith}
use lib.Dec.{eqb}
use lib.ListN.{length}
use borrow.Author.Tests.{eq-eqb, ne_eqb, lt-leb}
use Rattle.words.specs.Loops.{occurrences}
use Rattle.layout.specs.Layout.{count, part}
use Rattle.reader_rules.specs.Kinds.{cell, sort_at, sort_in, is_node_sort, between, identifiers, schema_names, counts, expressions, schema_expressions}
use Rattle.reader_rules.specs.Kinds.{predicates, texts, lines, paragraphs, includes}
use Rattle.reader_rules.specs.Nodes.{kind_at, operand_at, nodes_among, children}
use Rattle.reader_rules.specs.Reading.{read_of}
use Rattle.reader_rules.specs.Refusals.{Readable}
use Rattle.reader_rules.specs.Promise.{At}
use Rattle.reader_rules.specs.Tree.{Lines, end}
use Rattle.reader_rules.specs.Decode.{expr_at, pred_at, text_at, include_at, line_at, schema_at, paragraph_at, exprs_from, lines_from, paragraphs_from, tree_of}
use Rattle.reader_rules.specs.TreeNumbers.{expr_numbers, exprs_numbers, pred_numbers, text_numbers, lines_numbers, include_numbers, schema_numbers}
use Rattle.reader_rules.specs.TreeNumbers.{paragraph_numbers, paragraphs_numbers, node_numbers}
use Rattle.reader_rules.specs.Below.{flat, numbers_at}
use Rattle.reader_rules.proofs.Accepted.{readable, last_document}
use Rattle.reader_rules.proofs.Operands.{cond_same}
use Rattle.reader_rules.proofs.TreeCounts.{at_least}
use Rattle.reader_rules.proofs.TreeShape.{all_at, ◌▹◌}
use Rattle.reader_rules.proofs.TreeText.{text_kind, include_kind, line_range, text_law, line_declaration, actual_sort, include_law, line_inclusion}
use Rattle.reader_rules.proofs.TreeText.{schema_kinds, schema_plain, schema_from, schema_both}
use Rattle.reader_rules.proofs.TreeParagraph.{paragraph_range, paragraph_given, paragraph_axiomatic, paragraph_schema, paragraph_abbreviation}
use Rattle.reader_rules.proofs.TreeParagraph.{paragraph_constraint, document_sort, document_law}
use Rattle.reader_rules.proofs.TreeChildren.{numbers_at_lem, once}
use Rattle.reader_rules.proofs.TreeAmong.{among_none, gathered, by_children, one_numbers, two_numbers, first_child, last_child, middle_children}
use Rattle.reader_rules.proofs.TreeAmong.{same_sort, no_node}
use Rattle.reader_rules.proofs.TreeNumbered.{Numbered, below_expr, below_pred, below_text, listed_exprs, expr_numbered, pred_numbered}

-- an Include's first three operands, and those after its actuals, are plain
include_start : (doc : List ℕ) (k : ℕ) → kind_at doc k ≡ 12 → nodes_among (part doc k) 1 3 ≡ []
unfolding nodes_among sort_in cell
include_start doc k e = rw e

include_after : (doc : List ℕ) (k : ℕ) → kind_at doc k ≡ 12 → (j : ℕ) → 4 + operand_at doc k 3 ≤ j → is_node_sort (sort_at (part doc k) j) ≡ false
unfolding sort_in
include_after doc k e j p = rw (e, lt-leb j 3 (omega arith), lt-leb j (operand_at doc k 3 + 3) (omega arith))

module _ (doc : List ℕ) (k : ℕ) (ih : (j : ℕ) → j < k → Numbered doc j) where
  -- 10, as a Text or a schema expression
  text_numbered : (s : ℕ) → At doc s k → kind_at doc k ≡ 10 → text_numbers (text_at doc k) ≡ numbers_at doc k
  unfolding expr_numbers lines_from cell sort_in flat
  text_numbered s h e =
      let l = text_law doc s k h e _ refl in
      let w = part doc k in
      let n = length w - 2 in
      let m : 1 < length w = rw e at (at_least doc s k h) in
      rw l.tree (by_children doc s k h (operand_at doc k 1 ∷ nodes_among w 2 n)
      (first_child doc k m (rw e (ap is_node_sort (cond_same (eqb 1 (length w - 1)) predicates)))) (pred_numbers (pred_at doc (operand_at doc k 1)) ++ lines_numbers (lines_from doc k 2 n))
      (rw (below_pred doc k ih l.first) (ap (λ (x : List ℕ). numbers_at doc (operand_at doc k 1) ++ x)
      (gathered lines_numbers (line_at doc) (numbers_at doc) w 2 n end
      (λ j c d. rw (e, ne_eqb j 1 (omega arith)) (ap is_node_sort (same_sort (eqb j (length w - 1)) false (eqb j 2) lines)))
      (λ j c d. let o = l.each j c (omega arith) _ refl in (ih _ o.below).line o.at)
      ∙ append-nil (flat (numbers_at doc) (nodes_among w 2 n))))))

  -- 12, as an operand, a line or a schema expression
  include_numbered : (s : ℕ) → At doc s k → kind_at doc k ≡ 12 → include_numbers (include_at doc k) ≡ numbers_at doc k
  unfolding expr_numbers children
  include_numbered s h e =
      let l = include_law doc s k h e _ refl in
      let c = l.words in
      let w = part doc k in
      let a = operand_at doc k 3 in
      let m : length w - 1 ≡ 3 + (a + (length w - (a + 4))) = omega arith in
      rw l.tree (by_children doc s k h (nodes_among w 4 a) (rw m (middle_children w a (length w - (a + 4)) (include_start doc k e) (include_after doc k e))) (exprs_numbers (exprs_from doc k 4 a))
      (listed_exprs doc k ih 4 a (λ j p q. rw (actual_sort doc k j e p (omega arith)) refl) (λ j p q. l.each j p (omega arith) _ refl)))

  -- 11 and 12 as lines
  declaration_numbered : (h : At doc lines k) → kind_at doc k ≡ 11 → (ls : Lines) → lines_numbers (line_at doc k ls) ≡ numbers_at doc k ++ lines_numbers ls
  unfolding expr_numbers cell sort_in flat
  declaration_numbered h e ls =
      let l = line_declaration doc k h e _ refl in
      let w = part doc k in
      let v = operand_at doc k 1 in
      let m : 2 < length w = rw e at (at_least doc lines k h) in
      let c =
      first_child doc k (omega arith) (rw e (ap is_node_sort (cond_same (eqb 1 (length w - 1)) expressions)))
      ∙ ap (◌∷◌ v) (among_none w 2 (length w - 2)
      (λ j p q. rw (e, ne_eqb j 1 (omega arith)) (ap is_node_sort (same_sort (eqb j (length w - 1)) false (eqb j 2) identifiers))))
      in
      rw (l.tree ls) (ap (λ (x : List ℕ). x ++ lines_numbers ls)
      (by_children doc lines k h (v ∷ []) c (expr_numbers (expr_at doc v)) (below_expr doc k ih l.first ∙ sym (append-nil (numbers_at doc v)))))

  line_numbered : At doc lines k → (ls : Lines) → lines_numbers (line_at doc k ls) ≡ numbers_at doc k ++ lines_numbers ls
  unfolding expr_numbers
  line_numbered h ls =
      let r = line_range doc k h in
      all_at (λ q. kind_at doc k ≡ q → lines_numbers (line_at doc k ls) ≡ numbers_at doc k ++ lines_numbers ls) 11 2
      ((λ e. declaration_numbered h e ls)
      ▹ (λ e. rw (line_inclusion doc k e ls) (ap (λ (x : List ℕ). x ++ lines_numbers ls) (include_numbered lines h e)))
      ▹ tt)
      (kind_at doc k) r.0 (omega arith) refl

  schema_numbered : At doc schema_expressions k → schema_numbers (schema_at doc k) ≡ numbers_at doc k
  unfolding schema_numbers cell sort_in
  schema_numbered h =
      ⊎_elim
      (λ e. rw (schema_plain doc k e) (text_numbered schema_expressions h e))
      (⊎_elim
      (λ e. rw (schema_from doc k e) (include_numbered schema_expressions h e))
      (λ e.
      let l = schema_both doc k h e _ _ refl refl in
      rw l.tree (two_numbers doc schema_expressions k h 15 e refl _ _
      ((ih _ l.left.below).schema l.left.at) ((ih _ l.right.below).schema l.right.at))))
      (schema_kinds doc k h)

  -- 4 and 5
  defined_numbers : (q : ℕ) → kind_at doc k ≡ q → At doc paragraphs k → length (part doc k) ≡ operand_at doc k 2 + 4
      → ((i a j : ℕ) → (j ≡ i → ⊥) → is_node_sort (sort_in q i a j) ≡ false) → ((i a : ℕ) → is_node_sort (sort_in q i a i) ≡ true)
      → (x : List ℕ) → x ≡ numbers_at doc (operand_at doc k (operand_at doc k 2 + 3)) → x ++ (k ∷ []) ≡ numbers_at doc k
  unfolding flat
  defined_numbers q e h l f g x y =
      let w = part doc k in
      let i = operand_at doc k 2 + 3 in
      let n : length w - 1 ≡ i = omega arith in
      by_children doc paragraphs k h (operand_at doc k i ∷ [])
      (last_child doc k i (omega arith) (omega arith) (λ j c d. rw (e, n) (f i (operand_at doc k 3) j (omega arith))) (rw (e, n) (g i (operand_at doc k 3)))) x
      (y ∙ sym (append-nil (numbers_at doc (operand_at doc k i))))

  given_numbered : At doc paragraphs k → kind_at doc k ≡ 2 → paragraph_numbers (paragraph_at doc k) ≡ numbers_at doc k
  unfolding paragraph_numbers cell sort_in children flat
  given_numbered h e =
      let w = part doc k in
      let c = among_none w 1 (length w - 1) (λ j p q. rw e (ap is_node_sort (same_sort (eqb j (length w - 1)) (eqb j 1) (eqb j 2) identifiers))) in
      rw (paragraph_given doc k h e) (by_children doc paragraphs k h [] c [] refl)

  paragraph_numbered : At doc paragraphs k → paragraph_numbers (paragraph_at doc k) ≡ numbers_at doc k
  unfolding paragraph_numbers cell sort_in
  paragraph_numbered h =
      let r = paragraph_range doc k h in
      all_at (λ q. kind_at doc k ≡ q → paragraph_numbers (paragraph_at doc k) ≡ numbers_at doc k) 2 5
      (given_numbered h
      ▹ (λ e. let l = paragraph_axiomatic doc k h e _ refl in rw l.tree (one_numbers doc paragraphs k h 3 e refl _ (below_text doc k ih l.first)))
      ▹ (λ e.
      let l = paragraph_schema doc k h e _ _ refl refl in
      rw l.tree (defined_numbers 4 e h l.words (λ i a j n. rw (ne_eqb j i n) (no_node (eqb j 1) (eqb j 2) schema_names counts identifiers refl refl refl))
      (λ i a. rw (eq-eqb i i refl)) _ ((ih _ l.body.below).schema l.body.at)))
      ▹ (λ e.
      let l = paragraph_abbreviation doc k h e _ _ refl refl in
      rw l.tree (defined_numbers 5 e h l.words (λ i a j n. rw (ne_eqb j i n) (no_node (eqb j 1) (eqb j 2) identifiers counts identifiers refl refl refl))
      (λ i a. rw (eq-eqb i i refl)) _ (below_expr doc k ih l.body)))
      ▹ (λ e. let l = paragraph_constraint doc k h e _ refl in rw l.tree (one_numbers doc paragraphs k h 6 e refl _ (below_pred doc k ih l.first)))
      ▹ tt)
      (kind_at doc k) r.0 (omega arith) refl

  numbered : Numbered doc k
  numbered =
      record {
        expr = expr_numbered doc k ih;
        pred = pred_numbered doc k ih;
        text = λ h. text_numbered texts h (text_kind doc k h);
        include = λ h. include_numbered includes h (include_kind doc k h);
        line = line_numbered;
        schema = schema_numbered;
        paragraph = paragraph_numbered;
      }

all_numbered : (doc : List ℕ) (n k : ℕ) → k < n → Numbered doc k
all_numbered doc zero k h = absurd (omega arith)
all_numbered doc (suc n) k h = numbered doc k (λ j l. all_numbered doc n j (omega arith))

pub each_numbered : (doc : List ℕ) (k : ℕ) → Numbered doc k
each_numbered doc k = all_numbered doc (suc k) k (omega arith)

-- the numbers of the tree are the last node and all below it
pub tree_numbers : (doc : List ℕ) → read_of doc ≡ Readable → node_numbers (tree_of doc) ≡ numbers_at doc (count doc)
unfolding node_numbers paragraphs_numbers paragraphs_from children
tree_numbers doc r =
    let d = readable doc r in
    let N = count doc in
    let w = part doc N in
    let l = document_law doc r in
    let some = d.nodes.laid.some in
    rw l.tree (ap (λ (x : List ℕ). x ++ (N ∷ []))
    (gathered paragraphs_numbers (λ j. ◌∷◌ (paragraph_at doc j)) (numbers_at doc) w 1 (length w - 1) []
    (λ j p q. rw (document_sort doc N (last_document doc d) j) refl)
    (λ j p q y.
    let o = l.each j p (omega arith) _ refl in
    ap (λ (x : List ℕ). x ++ paragraphs_numbers y) ((all_numbered doc (suc N) _ (omega (arith, o.below))).paragraph o.at))
    ∙ append-nil (flat (numbers_at doc) (nodes_among w 1 (length w - 1))))
    ∙ sym (numbers_at_lem doc N (d.nodes.node N some (omega arith))))

-- 1 to the count: each once; no other number
pub each_node_once : (doc : List ℕ) → read_of doc ≡ Readable → (k : ℕ) → occurrences k (node_numbers (tree_of doc)) ≡ cond (between 1 k (count doc)) 1 0
each_node_once doc r k = rw (tree_numbers doc r) (once doc (readable doc r) k)
