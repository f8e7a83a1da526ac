-- THE ROWS OF A RENUMBERED TREE are the tree's, with the operands that are nodes mapped.
use mathlib.Core.Path.{◌≡◌, refl, ap, ap₂, sym, ◌∙◌}
use mathlib.Core.Bool.{true, false, cond}
use mathlib.Core.List.{List, [], ◌∷◌, ◌++◌, map}
use Prim.Native.Nat.{ℕ, zero, suc, ◌+◌, ◌-◌, ◌≤◌, ◌<◌}
use native.Mathlib.Omega.{arith}
use lib.Dec.{eqb}
use lib.ListN.{length, get_or, length-append}
use borrow.Author.Tests.{ne_eqb, eq-eqb, lt-leb, le-leb}
use Rattle.reader_rules.specs.Kinds.{cell, sort_in, sort_at, is_node_sort, predicates, expressions, lines, paragraphs, identifiers}
use Rattle.reader_rules.proofs.Operands.{cond_same}
use Rattle.reader_rules.proofs.TreeShape.{all_at}
use Rattle.reader_rules.proofs.TreeAmong.{same_sort, no_node}
use Rattle.reader_rules.specs.Tree.{Operator, plus, minus, times, quotient, remainder, Connective, and, or, implies, Quantifier, forall, exists}
use Rattle.reader_rules.specs.Tree.{Expr, reference, number, integers, set, tuple, product, power, application, selection, theta, schema_set}
use Rattle.reader_rules.specs.Tree.{arithmetic, comprehension, Exprs, none, more, Pred, truth, equal, member, at_most, not, connected, quantified}
use Rattle.reader_rules.specs.Tree.{Text, text, Lines, end, declaration, inclusion, Include, include, Schema, plain, from, both, Paragraph, given}
use Rattle.reader_rules.specs.Tree.{axiomatic, schema, abbreviation, constraint, Document, document, expr_node, pred_node, text_node, include_node, schema_node, exprs_length}
use Rattle.canonical_rules.specs.MapNodes.{map_expr, map_exprs, map_pred, map_text, map_lines, map_include, map_schema, map_paragraph, map_paragraphs, map_nodes}
use Rattle.canonical_rules.specs.RowMap.{map_ops, map_row}
use Rattle.canonical_rules.specs.Canonical.{exprs_nodes, lines_nodes, paragraphs_nodes, operator_kind, connective_kind, quantifier_kind}
use Rattle.canonical_rules.specs.Canonical.{pair_words, expr_rows, exprs_rows, pred_rows, text_rows, lines_rows, include_rows, schema_rows, paragraph_rows, paragraphs_rows, document_rows}
use Rattle.canonical_rules.proofs.Lists.{map_parts, map_last}
use Rattle.canonical_rules.proofs.NodeMaps.{nodes_length, expr_node_lem, pred_node_lem, text_node_lem, include_node_lem, schema_node_lem, paragraph_node_lem, length_maps}

module _ (f : ℕ → ℕ) where
  ops_all : (w v : List ℕ) (i : ℕ) → ((j : ℕ) → i ≤ j → j < i + length v → is_node_sort (sort_at w j) ≡ true) → map_ops f w i v ≡ map f v
  unfolding map_ops
  ops_all w [] i h = refl
  ops_all w (x ∷ v) i h = ap₂ (λ b l. cond b (f x) x ∷ l) (h i (omega arith) (omega arith)) (ops_all w v (suc i) (λ j p q. h j (omega arith) (omega arith)))

  ops_none : (w v : List ℕ) (i : ℕ) → ((j : ℕ) → i ≤ j → j < i + length v → is_node_sort (sort_at w j) ≡ false) → map_ops f w i v ≡ v
  unfolding map_ops
  ops_none w [] i h = refl
  ops_none w (x ∷ v) i h = ap₂ (λ b l. cond b (f x) x ∷ l) (h i (omega arith) (omega arith)) (ops_none w v (suc i) (λ j p q. h j (omega arith) (omega arith)))

  ops_append : (w u v : List ℕ) (i : ℕ) → map_ops f w i (u ++ v) ≡ map_ops f w i u ++ map_ops f w (i + length u) v
  unfolding map_ops
  ops_append w [] v i = ap (λ j. map_ops f w j v) (zero_more i)
    where
      zero_more : (i : ℕ) → i ≡ i + 0
      zero_more i = omega arith
  ops_append w (x ∷ u) v i = ap (λ l. cond (is_node_sort (sort_at w i)) (f x) x ∷ l) (ops_append w u v (suc i) ∙ ap (λ j. map_ops f w (suc i) u ++ map_ops f w j v) (one_more i (length u)))
    where
      one_more : (i n : ℕ) → suc i + n ≡ i + suc n
      one_more i n = omega arith

  -- rows by kind
  all_row : (q : ℕ) (ns : List ℕ) → ((n a j : ℕ) → is_node_sort (sort_in q n a j) ≡ true) → q ∷ map f ns ≡ map_row f (q ∷ ns)
  unfolding map_row
  all_row q ns h = ap (λ l. q ∷ l) (sym (ops_all (q ∷ ns) ns 1 (λ j a b. h (length (q ∷ ns) - 1) (get_or (q ∷ ns) 3 0) j)))

  members_row : (q : ℕ) → 33 ≤ q → q ≤ 35 → (n a j : ℕ) → is_node_sort (sort_in q n a j) ≡ true
  unfolding sort_in cell
  members_row q l u n a j = all_at (λ q. is_node_sort (sort_in q n a j) ≡ true) 33 3 (at_33, (at_33, (at_33, tt))) q l (omega arith)
    where
      at_33 : is_node_sort (sort_in 33 n a j) ≡ true
      at_33 = unfold sort_in cell in ap is_node_sort (same_sort (eqb j n) (eqb j 1) (eqb j 2) expressions)

  document_row : (ns : List ℕ) → 1 ∷ map f ns ≡ map_row f (1 ∷ ns)
  unfolding sort_in cell
  document_row ns = all_row 1 ns (λ n a j. ap is_node_sort (same_sort (eqb j n) (eqb j 1) (eqb j 2) paragraphs))

  given_row : (is : List ℕ) → 2 ∷ is ≡ map_row f (2 ∷ is)
  unfolding map_row sort_in cell
  given_row is = ap (λ l. 2 ∷ l) (sym (ops_none (2 ∷ is) is 1 (λ j a b. ap is_node_sort (same_sort (eqb j (length (2 ∷ is) - 1)) (eqb j 1) (eqb j 2) identifiers))))

  reference_row : (i : ℕ) (ns : List ℕ) → 30 ∷ i ∷ map f ns ≡ map_row f (30 ∷ i ∷ ns)
  unfolding map_row map_ops sort_in cell
  reference_row i ns =
      let w : List ℕ = 30 ∷ i ∷ ns in
      ap₂ (λ b l. 30 ∷ cond b (f i) i ∷ l) (sym (ap is_node_sort (cond_same (eqb 1 (length w - 1)) identifiers)))
      (sym (ops_all w ns 2 (λ j a b. rw (ne_eqb j 1 (omega arith)) (ap is_node_sort (same_sort (eqb j (length w - 1)) false (eqb j 2) expressions)))))

  text_row : (p : ℕ) (ns : List ℕ) → 10 ∷ f p ∷ map f ns ≡ map_row f (10 ∷ p ∷ ns)
  unfolding map_row map_ops sort_in cell
  text_row p ns =
      let w : List ℕ = 10 ∷ p ∷ ns in
      ap₂ (λ b l. 10 ∷ cond b (f p) p ∷ l) (sym (ap is_node_sort (cond_same (eqb 1 (length w - 1)) predicates)))
      (sym (ops_all w ns 2 (λ j a b. rw (ne_eqb j 1 (omega arith)) (ap is_node_sort (same_sort (eqb j (length w - 1)) false (eqb j 2) lines)))))

  declaration_row : (p : ℕ) (is : List ℕ) → 11 ∷ f p ∷ is ≡ map_row f (11 ∷ p ∷ is)
  unfolding map_row map_ops sort_in cell
  declaration_row p is =
      let w : List ℕ = 11 ∷ p ∷ is in
      ap₂ (λ b l. 11 ∷ cond b (f p) p ∷ l) (sym (ap is_node_sort (cond_same (eqb 1 (length w - 1)) expressions)))
      (sym (ops_none w is 2 (λ j a b. rw (ne_eqb j 1 (omega arith)) (ap is_node_sort (same_sort (eqb j (length w - 1)) false (eqb j 2) identifiers)))))

  include_row : (s k a : ℕ) (ns ws : List ℕ) → a ≡ length ns → 12 ∷ s ∷ k ∷ a ∷ (map f ns ++ ws) ≡ map_row f (12 ∷ s ∷ k ∷ a ∷ (ns ++ ws))
  unfolding map_row map_ops sort_in cell
  include_row s k a ns ws e =
      let w : List ℕ = 12 ∷ s ∷ k ∷ a ∷ (ns ++ ws) in
      ap (λ l. 12 ∷ s ∷ k ∷ a ∷ l)
      (sym (ops_append w ns ws 4
      ∙ ap₂ (λ x y. x ++ y)
      (ops_all w ns 4 (λ j p q. rw (lt-leb j 3 (omega arith), le-leb j (a + 3) (omega arith))))
      (ops_none w ws (4 + length ns) (λ j p q. rw (lt-leb j 3 (omega arith), lt-leb j (a + 3) (omega arith))))))

  defined_row : (q : ℕ) → ((n a j : ℕ) → (j ≡ n → ⊥) → is_node_sort (sort_in q n a j) ≡ false) → ((n a : ℕ) → is_node_sort (sort_in q n a n) ≡ true)
      → (s : ℕ) (ps : List ℕ) (x : ℕ) → q ∷ s ∷ length ps ∷ (ps ++ (f x ∷ [])) ≡ map_row f (q ∷ s ∷ length ps ∷ (ps ++ (x ∷ [])))
  unfolding map_row map_ops
  defined_row q other last s ps x =
      let w : List ℕ = q ∷ s ∷ length ps ∷ (ps ++ (x ∷ [])) in
      let n = length w - 1 in
      let e = length-append ps (x ∷ []) in
      let a = get_or w 3 0 in
      let at : 3 + length ps ≡ n = omega (arith, e) in
      let p1 = other n a 1 (λ z. omega (arith, e, z)) in
      let p2 = other n a 2 (λ z. omega (arith, e, z)) in
      (λ i. q ∷ cond (sym p1 i) (f s) s ∷ cond (sym p2 i) (f (length ps)) (length ps) ∷ (ps ++ (f x ∷ [])))
      ∙ ap (λ l. q ∷ cond (is_node_sort (sort_in q n a 1)) (f s) s ∷ cond (is_node_sort (sort_in q n a 2)) (f (length ps)) (length ps) ∷ l)
      (sym (ops_append w ps (x ∷ []) 3
      ∙ ap₂ (λ u v. u ++ v) (ops_none w ps 3 (λ j c d. other n a j (λ z. omega (arith, e, z))))
      (ap (λ b. cond b (f x) x ∷ []) (ap (λ z. is_node_sort (sort_in q n a z)) at ∙ last n a))))

  schema_row : (s : ℕ) (ps : List ℕ) (x : ℕ) → 4 ∷ s ∷ length ps ∷ (ps ++ (f x ∷ [])) ≡ map_row f (4 ∷ s ∷ length ps ∷ (ps ++ (x ∷ [])))
  unfolding sort_in cell
  schema_row = defined_row 4 (λ n a j z. rw (ne_eqb j n z) (no_node (eqb j 1) (eqb j 2) 2 5 1 refl refl refl)) (λ n a. rw (eq-eqb n n refl))

  abbreviation_row : (s : ℕ) (ps : List ℕ) (x : ℕ) → 5 ∷ s ∷ length ps ∷ (ps ++ (f x ∷ [])) ≡ map_row f (5 ∷ s ∷ length ps ∷ (ps ++ (x ∷ [])))
  unfolding sort_in cell
  abbreviation_row = defined_row 5 (λ n a j z. rw (ne_eqb j n z) (no_node (eqb j 1) (eqb j 2) 1 5 1 refl refl refl)) (λ n a. rw (eq-eqb n n refl))

  operator_row : (k : Operator) (x y : ℕ) → operator_kind k ∷ f x ∷ f y ∷ [] ≡ map_row f (operator_kind k ∷ x ∷ y ∷ [])
  unfolding operator_kind map_row map_ops sort_in cell
  operator_row plus x y = refl
  operator_row minus x y = refl
  operator_row times x y = refl
  operator_row quotient x y = refl
  operator_row remainder x y = refl

  connective_row : (k : Connective) (x y : ℕ) → connective_kind k ∷ f x ∷ f y ∷ [] ≡ map_row f (connective_kind k ∷ x ∷ y ∷ [])
  unfolding connective_kind map_row map_ops sort_in cell
  connective_row and x y = refl
  connective_row or x y = refl
  connective_row implies x y = refl

  quantifier_row : (k : Quantifier) (x y : ℕ) → quantifier_kind k ∷ f x ∷ f y ∷ [] ≡ map_row f (quantifier_kind k ∷ x ∷ y ∷ [])
  unfolding quantifier_kind map_row map_ops sort_in cell
  quantifier_row forall x y = refl
  quantifier_row exists x y = refl

  exprs_nodes_lem : (xs : Exprs) → exprs_nodes (map_exprs f xs) ≡ map f (exprs_nodes xs)
  unfolding exprs_nodes map_exprs
  exprs_nodes_lem none = refl
  exprs_nodes_lem (more a xs) = ap₂ (λ x l. x ∷ l) (expr_node_lem f a) (exprs_nodes_lem xs)

  lines_nodes_lem : (ls : Lines) → lines_nodes (map_lines f ls) ≡ map f (lines_nodes ls)
  unfolding lines_nodes map_lines
  lines_nodes_lem end = refl
  lines_nodes_lem (declaration n a is ls) = ap (λ l. f n ∷ l) (lines_nodes_lem ls)
  lines_nodes_lem (inclusion i ls) = ap₂ (λ x l. x ∷ l) (include_node_lem f i) (lines_nodes_lem ls)

  paragraphs_nodes_lem : (ps : List Paragraph) → paragraphs_nodes (map_paragraphs f ps) ≡ map f (paragraphs_nodes ps)
  unfolding paragraphs_nodes map_paragraphs
  paragraphs_nodes_lem [] = refl
  paragraphs_nodes_lem (p ∷ ps) = ap₂ (λ x l. x ∷ l) (paragraph_node_lem f p) (paragraphs_nodes_lem ps)

  -- rows of a tree
  mutual
    unfolding expr_rows map_expr map_row map_ops sort_in cell

    pub expr_rows_lem : (x : Expr) → expr_rows (map_expr f x) ≡ map (map_row f) (expr_rows x)
    expr_rows_lem (reference n i xs) = map_last (map_row f) (exprs_rows xs) (30 ∷ i ∷ exprs_nodes xs) (exprs_rows_lem xs) (ap (λ l. 30 ∷ i ∷ l) (exprs_nodes_lem xs) ∙ reference_row i (exprs_nodes xs))
    expr_rows_lem (number n v) = refl
    expr_rows_lem (integers n) = refl
    expr_rows_lem (set n xs) = map_last (map_row f) (exprs_rows xs) (33 ∷ exprs_nodes xs) (exprs_rows_lem xs) (ap (λ l. 33 ∷ l) (exprs_nodes_lem xs) ∙ all_row 33 (exprs_nodes xs) (members_row 33 (omega arith) (omega arith)))
    expr_rows_lem (tuple n xs) = map_last (map_row f) (exprs_rows xs) (34 ∷ exprs_nodes xs) (exprs_rows_lem xs) (ap (λ l. 34 ∷ l) (exprs_nodes_lem xs) ∙ all_row 34 (exprs_nodes xs) (members_row 34 (omega arith) (omega arith)))
    expr_rows_lem (product n xs) = map_last (map_row f) (exprs_rows xs) (35 ∷ exprs_nodes xs) (exprs_rows_lem xs) (ap (λ l. 35 ∷ l) (exprs_nodes_lem xs) ∙ all_row 35 (exprs_nodes xs) (members_row 35 (omega arith) (omega arith)))
    expr_rows_lem (power n a) = map_last (map_row f) (expr_rows a) (36 ∷ expr_node a ∷ []) (expr_rows_lem a) (ap (λ x. 36 ∷ x ∷ []) (expr_node_lem f a))
    expr_rows_lem (application n a b) = map_last (map_row f) (expr_rows a ++ expr_rows b) (37 ∷ expr_node a ∷ expr_node b ∷ []) (map_parts (map_row f) (expr_rows a) (expr_rows b) (expr_rows_lem a) (expr_rows_lem b)) (ap₂ (λ x y. 37 ∷ x ∷ y ∷ []) (expr_node_lem f a) (expr_node_lem f b))
    expr_rows_lem (selection n a i) = map_last (map_row f) (expr_rows a) (38 ∷ expr_node a ∷ i ∷ []) (expr_rows_lem a) (ap (λ x. 38 ∷ x ∷ i ∷ []) (expr_node_lem f a))
    expr_rows_lem (theta n s k) = refl
    expr_rows_lem (schema_set n i) = map_last (map_row f) (include_rows i) (40 ∷ include_node i ∷ []) (include_rows_lem i) (ap (λ x. 40 ∷ x ∷ []) (include_node_lem f i))
    expr_rows_lem (arithmetic n k a b) = map_last (map_row f) (expr_rows a ++ expr_rows b) (operator_kind k ∷ expr_node a ∷ expr_node b ∷ []) (map_parts (map_row f) (expr_rows a) (expr_rows b) (expr_rows_lem a) (expr_rows_lem b)) (ap₂ (λ x y. operator_kind k ∷ x ∷ y ∷ []) (expr_node_lem f a) (expr_node_lem f b) ∙ operator_row k (expr_node a) (expr_node b))
    expr_rows_lem (comprehension n t a) = map_last (map_row f) (text_rows t ++ expr_rows a) (46 ∷ text_node t ∷ expr_node a ∷ []) (map_parts (map_row f) (text_rows t) (expr_rows a) (text_rows_lem t) (expr_rows_lem a)) (ap₂ (λ x y. 46 ∷ x ∷ y ∷ []) (text_node_lem f t) (expr_node_lem f a))

    pub exprs_rows_lem : (x : Exprs) → exprs_rows (map_exprs f x) ≡ map (map_row f) (exprs_rows x)
    exprs_rows_lem none = refl
    exprs_rows_lem (more a xs) = map_parts (map_row f) (expr_rows a) (exprs_rows xs) (expr_rows_lem a) (exprs_rows_lem xs)

    pub pred_rows_lem : (x : Pred) → pred_rows (map_pred f x) ≡ map (map_row f) (pred_rows x)
    pred_rows_lem (truth n) = refl
    pred_rows_lem (equal n a b) = map_last (map_row f) (expr_rows a ++ expr_rows b) (21 ∷ expr_node a ∷ expr_node b ∷ []) (map_parts (map_row f) (expr_rows a) (expr_rows b) (expr_rows_lem a) (expr_rows_lem b)) (ap₂ (λ x y. 21 ∷ x ∷ y ∷ []) (expr_node_lem f a) (expr_node_lem f b))
    pred_rows_lem (member n a b) = map_last (map_row f) (expr_rows a ++ expr_rows b) (22 ∷ expr_node a ∷ expr_node b ∷ []) (map_parts (map_row f) (expr_rows a) (expr_rows b) (expr_rows_lem a) (expr_rows_lem b)) (ap₂ (λ x y. 22 ∷ x ∷ y ∷ []) (expr_node_lem f a) (expr_node_lem f b))
    pred_rows_lem (at_most n a b) = map_last (map_row f) (expr_rows a ++ expr_rows b) (23 ∷ expr_node a ∷ expr_node b ∷ []) (map_parts (map_row f) (expr_rows a) (expr_rows b) (expr_rows_lem a) (expr_rows_lem b)) (ap₂ (λ x y. 23 ∷ x ∷ y ∷ []) (expr_node_lem f a) (expr_node_lem f b))
    pred_rows_lem (not n p) = map_last (map_row f) (pred_rows p) (24 ∷ pred_node p ∷ []) (pred_rows_lem p) (ap (λ x. 24 ∷ x ∷ []) (pred_node_lem f p))
    pred_rows_lem (connected n k p q) = map_last (map_row f) (pred_rows p ++ pred_rows q) (connective_kind k ∷ pred_node p ∷ pred_node q ∷ []) (map_parts (map_row f) (pred_rows p) (pred_rows q) (pred_rows_lem p) (pred_rows_lem q)) (ap₂ (λ x y. connective_kind k ∷ x ∷ y ∷ []) (pred_node_lem f p) (pred_node_lem f q) ∙ connective_row k (pred_node p) (pred_node q))
    pred_rows_lem (quantified n k t p) = map_last (map_row f) (text_rows t ++ pred_rows p) (quantifier_kind k ∷ text_node t ∷ pred_node p ∷ []) (map_parts (map_row f) (text_rows t) (pred_rows p) (text_rows_lem t) (pred_rows_lem p)) (ap₂ (λ x y. quantifier_kind k ∷ x ∷ y ∷ []) (text_node_lem f t) (pred_node_lem f p) ∙ quantifier_row k (text_node t) (pred_node p))

    pub text_rows_lem : (x : Text) → text_rows (map_text f x) ≡ map (map_row f) (text_rows x)
    text_rows_lem (text n p ls) = map_last (map_row f) (pred_rows p ++ lines_rows ls) (10 ∷ pred_node p ∷ lines_nodes ls) (map_parts (map_row f) (pred_rows p) (lines_rows ls) (pred_rows_lem p) (lines_rows_lem ls)) (ap₂ (λ x l. 10 ∷ x ∷ l) (pred_node_lem f p) (lines_nodes_lem ls) ∙ text_row (pred_node p) (lines_nodes ls))

    pub lines_rows_lem : (x : Lines) → lines_rows (map_lines f x) ≡ map (map_row f) (lines_rows x)
    lines_rows_lem end = refl
    lines_rows_lem (declaration n a is ls) = map_parts (map_row f) (expr_rows a ++ ((11 ∷ expr_node a ∷ is) ∷ [])) (lines_rows ls) (map_last (map_row f) (expr_rows a) (11 ∷ expr_node a ∷ is) (expr_rows_lem a) (ap (λ x. 11 ∷ x ∷ is) (expr_node_lem f a) ∙ declaration_row (expr_node a) is)) (lines_rows_lem ls)
    lines_rows_lem (inclusion i ls) = map_parts (map_row f) (include_rows i) (lines_rows ls) (include_rows_lem i) (lines_rows_lem ls)

    pub include_rows_lem : (x : Include) → include_rows (map_include f x) ≡ map (map_row f) (include_rows x)
    include_rows_lem (include n s k xs rs) = map_last (map_row f) (exprs_rows xs) (12 ∷ s ∷ k ∷ exprs_length xs ∷ (exprs_nodes xs ++ pair_words rs)) (exprs_rows_lem xs) (ap₂ (λ x l. 12 ∷ s ∷ k ∷ x ∷ (l ++ pair_words rs)) (length_maps f xs) (exprs_nodes_lem xs) ∙ include_row s k (exprs_length xs) (exprs_nodes xs) (pair_words rs) (sym (nodes_length xs)))

  pub schema_rows_lem : (x : Schema) → schema_rows (map_schema f x) ≡ map (map_row f) (schema_rows x)
  unfolding schema_rows map_schema map_row map_ops sort_in cell
  schema_rows_lem (plain t) = text_rows_lem t
  schema_rows_lem (from i) = include_rows_lem i
  schema_rows_lem (both n a b) = map_last (map_row f) (schema_rows a ++ schema_rows b) (15 ∷ schema_node a ∷ schema_node b ∷ []) (map_parts (map_row f) (schema_rows a) (schema_rows b) (schema_rows_lem a) (schema_rows_lem b)) (ap₂ (λ x y. 15 ∷ x ∷ y ∷ []) (schema_node_lem f a) (schema_node_lem f b))

  pub paragraph_rows_lem : (x : Paragraph) → paragraph_rows (map_paragraph f x) ≡ map (map_row f) (paragraph_rows x)
  unfolding paragraph_rows map_paragraph map_row map_ops sort_in cell
  paragraph_rows_lem (given n is) = ap (λ l. l ∷ []) (given_row is)
  paragraph_rows_lem (axiomatic n t) = map_last (map_row f) (text_rows t) (3 ∷ text_node t ∷ []) (text_rows_lem t) (ap (λ x. 3 ∷ x ∷ []) (text_node_lem f t))
  paragraph_rows_lem (schema n s ps x) = map_last (map_row f) (schema_rows x) (4 ∷ s ∷ length ps ∷ (ps ++ (schema_node x ∷ []))) (schema_rows_lem x) (ap (λ y. 4 ∷ s ∷ length ps ∷ (ps ++ (y ∷ []))) (schema_node_lem f x) ∙ schema_row s ps (schema_node x))
  paragraph_rows_lem (abbreviation n i ps a) = map_last (map_row f) (expr_rows a) (5 ∷ i ∷ length ps ∷ (ps ++ (expr_node a ∷ []))) (expr_rows_lem a) (ap (λ y. 5 ∷ i ∷ length ps ∷ (ps ++ (y ∷ []))) (expr_node_lem f a) ∙ abbreviation_row i ps (expr_node a))
  paragraph_rows_lem (constraint n p) = map_last (map_row f) (pred_rows p) (6 ∷ pred_node p ∷ []) (pred_rows_lem p) (ap (λ x. 6 ∷ x ∷ []) (pred_node_lem f p))

  paragraphs_rows_lem : (ps : List Paragraph) → paragraphs_rows (map_paragraphs f ps) ≡ map (map_row f) (paragraphs_rows ps)
  unfolding paragraphs_rows map_paragraphs
  paragraphs_rows_lem [] = refl
  paragraphs_rows_lem (p ∷ ps) = map_parts (map_row f) (paragraph_rows p) (paragraphs_rows ps) (paragraph_rows_lem p) (paragraphs_rows_lem ps)

  pub rows_map : (t : Document) → document_rows (map_nodes f t) ≡ map (map_row f) (document_rows t)
  unfolding document_rows map_nodes
  rows_map (document n ps) = map_last (map_row f) (paragraphs_rows ps) (1 ∷ paragraphs_nodes ps) (paragraphs_rows_lem ps) (ap (λ l. 1 ∷ l) (paragraphs_nodes_lem ps) ∙ document_row (paragraphs_nodes ps))

  -- what mapping leaves of a row
  ops_length : (w v : List ℕ) (i : ℕ) → length (map_ops f w i v) ≡ length v
  unfolding map_ops
  ops_length w [] i = refl
  ops_length w (x ∷ v) i = ap suc (ops_length w v (suc i))

  pub row_length : (w : List ℕ) → length (map_row f w) ≡ length w
  unfolding map_row
  row_length [] = refl
  row_length (q ∷ v) = ap suc (ops_length (q ∷ v) v 1)

  pub row_kind : (w : List ℕ) → get_or (map_row f w) 0 0 ≡ get_or w 0 0
  unfolding map_row
  row_kind [] = refl
  row_kind (q ∷ v) = refl

  ops_at : (w v : List ℕ) (i j : ℕ) → j < length v → get_or (map_ops f w i v) j 0 ≡ cond (is_node_sort (sort_at w (i + j))) (f (get_or v j 0)) (get_or v j 0)
  unfolding map_ops
  ops_at w [] i j h = absurd (omega arith)
  ops_at w (x ∷ v) i zero h = ap (λ z. cond (is_node_sort (sort_at w z)) (f x) x) (zero_more i)
    where
      zero_more : (i : ℕ) → i ≡ i + 0
      zero_more i = omega arith
  ops_at w (x ∷ v) i (suc j) h = ops_at w v (suc i) j (omega arith) ∙ ap (λ z. cond (is_node_sort (sort_at w z)) (f (get_or v j 0)) (get_or v j 0)) (one_more i j)
    where
      one_more : (i n : ℕ) → suc i + n ≡ i + suc n
      one_more i n = omega arith

  pub row_at : (w : List ℕ) (j : ℕ) → 1 ≤ j → j < length w → get_or (map_row f w) j 0 ≡ cond (is_node_sort (sort_at w j)) (f (get_or w j 0)) (get_or w j 0)
  unfolding map_row
  row_at [] j a b = absurd (omega arith)
  row_at (q ∷ v) zero a b = absurd (omega arith)
  row_at (q ∷ v) (suc j) a b = ops_at (q ∷ v) v 1 j (omega arith) ∙ ap (λ z. cond (is_node_sort (sort_at (q ∷ v) z)) (f (get_or v j 0)) (get_or v j 0)) (one_plus j)
    where
      one_plus : (n : ℕ) → 1 + n ≡ suc n
      one_plus n = omega arith
