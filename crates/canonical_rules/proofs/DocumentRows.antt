-- THE ROWS OF A READABLE DOCUMENT'S TREE ARE THE DOCUMENT'S PARTS, operands before their node.
use mathlib.Core.Path.{◌≡◌, refl, ap, ap₂, sym, ◌∙◌}
use mathlib.Core.Logic.{⊎_elim}
use mathlib.Core.List.{List, [], ◌∷◌, ◌++◌, map, append-nil}
use Prim.Native.Nat.{ℕ, zero, suc, ◌+◌, ◌*◌, ◌-◌, ◌/◌, ◌≤◌, ◌<◌}
use native.Mathlib.Omega.{arith}
use native.Mathlib.Numerals.{add-three}
use lib.ListN.{length, get_or, take, drop, length-drop, take-append-drop}
use lib.Seq.{drop-cons, take_all, drop-drop}
use Rattle.words.specs.Loops.{every}
use Rattle.layout.specs.Layout.{count, part}
use Rattle.reader_rules.specs.Kinds.{cell, expressions, schema_expressions, predicates, texts, lines, paragraphs, includes}
use Rattle.reader_rules.specs.Nodes.{kind_at, operand_at}
use Rattle.reader_rules.specs.Reading.{read_of}
use Rattle.reader_rules.specs.Refusals.{Readable}
use Rattle.reader_rules.specs.Promise.{At, Lower}
use Rattle.reader_rules.specs.Tree.{Expr, Exprs, none, more, Lines, end, expr_node, pred_node, text_node, include_node, schema_node, paragraph_node}
use Rattle.reader_rules.specs.TreeNumbers.{expr_numbers, exprs_numbers, pred_numbers, text_numbers, lines_numbers, include_numbers, schema_numbers, paragraph_numbers, paragraphs_numbers, node_numbers}
use Rattle.reader_rules.specs.Decode.{expr_at, pred_at, text_at, include_at, line_at, schema_at, paragraph_at, exprs_from, lines_from, paragraphs_from, tree_of}
use Rattle.reader_rules.specs.Decode.{members_of, relation_of, operator_of, connective_of, quantifier_of, gather, pairs_from, makers, unlisted}
use Rattle.reader_rules.proofs.Accepted.{readable, last_document}
use Rattle.reader_rules.proofs.TreeCounts.{at_least}
use Rattle.reader_rules.proofs.TreeLists.{exprs_length_lem}
use Rattle.reader_rules.proofs.TreeShape.{AllFrom, all_at, ◌▹◌, gather_keeps, sub, as_made}
use Rattle.reader_rules.proofs.TreeAmong.{exactly}
use Rattle.reader_rules.proofs.TreeExpr.{expr_range, expr_reference, expr_number, expr_integers, expr_members, expr_power, expr_application, expr_selection}
use Rattle.reader_rules.proofs.TreeExpr.{expr_theta, expr_schema_set, expr_arithmetic, expr_comprehension, expr_node_lem}
use Rattle.reader_rules.proofs.TreePred.{pred_range, pred_truth, pred_relation, pred_not, pred_connected, pred_quantified}
use Rattle.reader_rules.proofs.TreeText.{text_kind, include_kind, line_range, text_law, line_declaration, include_law, line_inclusion}
use Rattle.reader_rules.proofs.TreeText.{schema_kinds, schema_plain, schema_from, schema_both}
use Rattle.reader_rules.proofs.TreeParagraph.{paragraph_range, paragraph_given, paragraph_axiomatic, paragraph_schema, paragraph_abbreviation}
use Rattle.reader_rules.proofs.TreeParagraph.{paragraph_constraint, document_law}
use Rattle.canonical_rules.specs.Canonical.{exprs_nodes, lines_nodes, paragraphs_nodes, operator_kind, connective_kind, quantifier_kind}
use Rattle.canonical_rules.specs.Canonical.{pair_words, expr_rows, exprs_rows, pred_rows, text_rows, lines_rows, include_rows, schema_rows, paragraph_rows, paragraphs_rows, document_rows}
use Rattle.canonical_rules.proofs.Lists.{map_parts, map_last}

-- WORDS FROM THEIR PARTS.
word0 : (w : List ℕ) (q : ℕ) → length w ≡ 1 → get_or w 0 0 ≡ q → q ∷ [] ≡ w
word0 [] q l e = absurd (omega arith)
word0 (x ∷ []) q l e = ap (λ z. z ∷ []) (sym e)
word0 (x ∷ y ∷ w) q l e = absurd (omega arith)

first_word : (w : List ℕ) (q : ℕ) → 1 ≤ length w → get_or w 0 0 ≡ q → q ∷ drop 1 w ≡ w
first_word [] q l e = absurd (omega arith)
first_word (x ∷ w) q l e = ap (λ z. z ∷ w) (sym e)

two_words : (w : List ℕ) (q a : ℕ) → 2 ≤ length w → get_or w 0 0 ≡ q → a ≡ get_or w 1 0 → q ∷ a ∷ drop 2 w ≡ w
two_words [] q a l e f = absurd (omega arith)
two_words (x ∷ []) q a l e f = absurd (omega arith)
two_words (x ∷ y ∷ w) q a l e f = ap₂ (λ z v. z ∷ v ∷ w) (sym e) f

no_words : (w : List ℕ) → length w ≡ 0 → w ≡ []
no_words [] l = refl
no_words (x ∷ w) l = absurd (omega arith)

word1 : (w : List ℕ) (q a : ℕ) → length w ≡ 2 → get_or w 0 0 ≡ q → a ≡ get_or w 1 0 → q ∷ a ∷ [] ≡ w
word1 w q a l e f = ap (λ z. q ∷ a ∷ z) (sym (no_words (drop 2 w) (simp length-drop (omega arith)))) ∙ two_words w q a (omega arith) e f

word2 : (w : List ℕ) (q a b : ℕ) → length w ≡ 3 → get_or w 0 0 ≡ q → a ≡ get_or w 1 0 → b ≡ get_or w 2 0 → q ∷ a ∷ b ∷ [] ≡ w
word2 [] q a b l e f g = absurd (omega arith)
word2 (x ∷ []) q a b l e f g = absurd (omega arith)
word2 (x ∷ y ∷ []) q a b l e f g = absurd (omega arith)
word2 (x ∷ y ∷ z ∷ []) q a b l e f g = ap₂ (λ u v. u ∷ v ∷ b ∷ []) (sym e) f ∙ ap (λ v. x ∷ y ∷ v ∷ []) g
word2 (x ∷ y ∷ z ∷ v ∷ w) q a b l e f g = absurd (omega arith)

-- the operands i to i + m - 1 of a row, gathered into something that lists them
gathers : {A : Type 0} (num : A → List ℕ) (f : ℕ → A → A) (w : List ℕ) (z : A) (m i : ℕ) → i + m ≤ length w
    → ((j : ℕ) → i ≤ j → j < i + m → (y : A) → num (f (get_or w j 0) y) ≡ get_or w j 0 ∷ num y) → num (gather f w i m z) ≡ take m (drop i w) ++ num z
unfolding gather
gathers num f w z zero i l h = refl
gathers num f w z (suc m) i l h =
    h i (omega arith) (omega arith) (gather f w (suc i) m z)
    ∙ ap (λ v. get_or w i 0 ∷ v) (gathers num f w z m (suc i) (omega arith) (λ j p q. h j (omega arith) (omega arith)))
    ∙ ap (λ v. take (suc m) v ++ num z) (sym (drop-cons w i 0 (omega arith)))

pairs_words : (m : ℕ) (w : List ℕ) (i : ℕ) → i + 2 * m ≡ length w → pair_words (pairs_from w i m) ≡ drop i w
unfolding pair_words pairs_from
pairs_words zero w i l = sym (no_words (drop i w) (simp length-drop (omega arith)))
pairs_words (suc m) w i l =
    ap (λ v. get_or w i 0 ∷ get_or w (suc i) 0 ∷ v) (pairs_words m w (suc (suc i)) (omega arith))
    ∙ ap (λ v. get_or w i 0 ∷ v) (sym (drop-cons w (suc i) 0 (omega arith)))
    ∙ sym (drop-cons w i 0 (omega arith))

-- PARTS.
module _ (doc : List ℕ) where
  pub record RowsAt (k : ℕ) : Type 0 where
    pub expr : At doc expressions k → expr_rows (expr_at doc k) ≡ map (part doc) (expr_numbers (expr_at doc k))
    pub pred : At doc predicates k → pred_rows (pred_at doc k) ≡ map (part doc) (pred_numbers (pred_at doc k))
    pub text : At doc texts k → text_rows (text_at doc k) ≡ map (part doc) (text_numbers (text_at doc k))
    pub include : At doc includes k → include_rows (include_at doc k) ≡ map (part doc) (include_numbers (include_at doc k))
    pub line : At doc lines k → (ls : Lines) → lines_rows ls ≡ map (part doc) (lines_numbers ls) → lines_rows (line_at doc k ls) ≡ map (part doc) (lines_numbers (line_at doc k ls))
    pub schema : At doc schema_expressions k → schema_rows (schema_at doc k) ≡ map (part doc) (schema_numbers (schema_at doc k))
    pub paragraph : At doc paragraphs k → paragraph_rows (paragraph_at doc k) ≡ map (part doc) (paragraph_numbers (paragraph_at doc k))

  -- the roots
  pred_node_lem : (k : ℕ) → At doc predicates k → pred_node (pred_at doc k) ≡ k
  unfolding pred_node pred_at makers
  pred_node_lem k h =
      let r = pred_range doc k h in
      as_made doc k (λ n. pred_node n.pred ≡ k) (all_at (λ q. pred_node (get_or makers q unlisted (sub doc k) k (part doc k)).pred ≡ k) 20 10
      (refl ▹ refl ▹ refl ▹ refl ▹ refl ▹ refl ▹ refl ▹ refl ▹ refl ▹ refl ▹ tt) (kind_at doc k) r.0 (omega arith))

  text_node_lem : (s k : ℕ) → At doc s k → kind_at doc k ≡ 10 → text_node (text_at doc k) ≡ k
  unfolding text_node
  text_node_lem s k h e = rw (text_law doc s k h e _ refl).tree

  include_node_lem : (s k : ℕ) → At doc s k → kind_at doc k ≡ 12 → include_node (include_at doc k) ≡ k
  unfolding include_node
  include_node_lem s k h e = rw (include_law doc s k h e _ refl).tree

  schema_node_lem : (k : ℕ) → At doc schema_expressions k → schema_node (schema_at doc k) ≡ k
  unfolding schema_node
  schema_node_lem k h =
      ⊎_elim
      (λ e. rw (schema_plain doc k e) (text_node_lem schema_expressions k h e))
      (⊎_elim (λ e. rw (schema_from doc k e) (include_node_lem schema_expressions k h e)) (λ e. rw (schema_both doc k h e _ _ refl refl).tree))
      (schema_kinds doc k h)

  paragraph_node_lem : (k : ℕ) → At doc paragraphs k → paragraph_node (paragraph_at doc k) ≡ k
  unfolding paragraph_node paragraph_at makers
  paragraph_node_lem k h =
      let r = paragraph_range doc k h in
      as_made doc k (λ n. paragraph_node n.paragraph ≡ k) (all_at (λ q. paragraph_node (get_or makers q unlisted (sub doc k) k (part doc k)).paragraph ≡ k) 2 5
      (refl ▹ refl ▹ refl ▹ refl ▹ refl ▹ tt) (kind_at doc k) r.0 (omega arith))

  line_node : (k : ℕ) → At doc lines k → (ls : Lines) → lines_nodes (line_at doc k ls) ≡ k ∷ lines_nodes ls
  unfolding lines_nodes
  line_node k h ls =
      let r = line_range doc k h in
      all_at (λ q. kind_at doc k ≡ q → lines_nodes (line_at doc k ls) ≡ k ∷ lines_nodes ls) 11 2
      ((λ e. rw ((line_declaration doc k h e _ refl).tree ls))
      ▹ (λ e. rw (line_inclusion doc k e ls) (ap (λ v. v ∷ lines_nodes ls) (include_node_lem lines k h e)))
      ▹ tt)
      (kind_at doc k) r.0 (omega arith) refl

  module _ (k : ℕ) (ih : (j : ℕ) → j < k → RowsAt j) where
    below_expr : {a : ℕ} → Lower doc k expressions a → expr_rows (expr_at doc a) ≡ map (part doc) (expr_numbers (expr_at doc a))
    below_expr {a} l = (ih a l.below).expr l.at

    below_pred : {a : ℕ} → Lower doc k predicates a → pred_rows (pred_at doc a) ≡ map (part doc) (pred_numbers (pred_at doc a))
    below_pred {a} l = (ih a l.below).pred l.at

    below_text : {a : ℕ} → Lower doc k texts a → text_rows (text_at doc a) ≡ map (part doc) (text_numbers (text_at doc a))
    below_text {a} l = (ih a l.below).text l.at

    exprs_rows_lem : (i m : ℕ) → ((j : ℕ) → i ≤ j → j < i + m → Lower doc k expressions (operand_at doc k j)) → exprs_rows (exprs_from doc k i m) ≡ map (part doc) (exprs_numbers (exprs_from doc k i m))
    unfolding exprs_from expr_rows expr_numbers
    exprs_rows_lem i m o =
        gather_keeps (λ xs. exprs_rows xs ≡ map (part doc) (exprs_numbers xs)) (λ j. more (expr_at doc j)) (part doc k) none refl i m
        (λ j a b y s. map_parts (part doc) (expr_numbers (expr_at doc (operand_at doc k j))) (exprs_numbers y) (below_expr (o j a b)) s)

    exprs_nodes_lem : (i m : ℕ) → i + m ≤ length (part doc k) → ((j : ℕ) → i ≤ j → j < i + m → Lower doc k expressions (operand_at doc k j)) → exprs_nodes (exprs_from doc k i m) ≡ take m (drop i (part doc k))
    unfolding exprs_from exprs_nodes
    exprs_nodes_lem i m l o =
        gathers exprs_nodes (λ j. more (expr_at doc j)) (part doc k) none m i l (λ j a b y. ap (λ v. v ∷ exprs_nodes y) (expr_node_lem doc (operand_at doc k j) (o j a b).at))
        ∙ append-nil (take m (drop i (part doc k)))

    rest_words : (i : ℕ) → take (length (part doc k) - i) (drop i (part doc k)) ≡ drop i (part doc k)
    rest_words i = take_all (length (part doc k) - i) (drop i (part doc k)) (simp length-drop (omega arith))

    module _ (h : At doc expressions k) where
      Claim : ℕ → Type 0
      Claim q = kind_at doc k ≡ q → expr_rows (expr_at doc k) ≡ map (part doc) (expr_numbers (expr_at doc k))

      members : (q : ℕ) → 33 ≤ q → q ≤ 35 → ((xs : Exprs) → expr_rows (members_of q k xs) ≡ exprs_rows xs ++ ((q ∷ exprs_nodes xs) ∷ [])) → ((xs : Exprs) → expr_numbers (members_of q k xs) ≡ exprs_numbers xs ++ (k ∷ [])) → Claim q
      unfolding Claim
      members q a b f g e =
          let l = expr_members doc k h q e a b in
          let n = length (part doc k) - 1 in
          let m = at_least doc expressions k h in
          let o : (j : ℕ) → 1 ≤ j → j < 1 + n → Lower doc k expressions (operand_at doc k j) = λ j c d. l.each j c (omega arith) _ refl in
          let xs = exprs_from doc k 1 n in
          rw l.tree (f xs
          ∙ map_last (part doc) (exprs_numbers xs) k (exprs_rows_lem 1 n o) (ap (λ v. q ∷ v) (exprs_nodes_lem 1 n (omega arith) o ∙ rest_words 1) ∙ first_word (part doc k) q (omega arith) e)
          ∙ ap (map (part doc)) (sym (g xs)))

      arithmetics : (q : ℕ) → 41 ≤ q → q ≤ 45 → Claim q
      unfolding Claim expr_rows expr_numbers cell every
      arithmetics q a b e =
          let l = expr_arithmetic doc k h q e a b _ _ refl refl in
          let c = exactly doc expressions k h q 2 e (all_at (λ r. cell r 0 ≡ 2) 41 5 (refl ▹ refl ▹ refl ▹ refl ▹ refl ▹ tt) q a (omega arith)) (all_at (λ r. cell r 1 ≡ 3) 41 5 (refl ▹ refl ▹ refl ▹ refl ▹ refl ▹ tt) q a (omega arith)) in
          let t = all_at (λ r. operator_kind (operator_of r) ≡ r) 41 5 kinds q a (omega arith) in
          let x = operand_at doc k 1 in
          let y = operand_at doc k 2 in
          rw l.tree (map_last (part doc) (expr_numbers (expr_at doc x) ++ expr_numbers (expr_at doc y)) k (map_parts (part doc) (expr_numbers (expr_at doc x)) (expr_numbers (expr_at doc y)) (below_expr l.left) (below_expr l.right))
          (word2 (part doc k) (operator_kind (operator_of q)) (expr_node (expr_at doc x)) (expr_node (expr_at doc y)) c (e ∙ sym t) (expr_node_lem doc x l.left.at) (expr_node_lem doc y l.right.at)))
        where
          kinds : AllFrom (λ r. operator_kind (operator_of r) ≡ r) 41 5
          kinds = unfold operator_kind in (refl ▹ refl ▹ refl ▹ refl ▹ refl ▹ tt)

      expr_rows_lem : expr_rows (expr_at doc k) ≡ map (part doc) (expr_numbers (expr_at doc k))
      unfolding Claim expr_rows expr_numbers cell
      expr_rows_lem =
          let r = expr_range doc k h in
          let s = exactly doc expressions k h in
          all_at Claim 30 17
          ((λ e.
          let l = expr_reference doc k h e in
          let n = length (part doc k) - 2 in
          let m : 1 < length (part doc k) = rw e at (at_least doc expressions k h) in
          let o : (j : ℕ) → 2 ≤ j → j < 2 + n → Lower doc k expressions (operand_at doc k j) = λ j c d. l.each j c (omega arith) _ refl in
          rw l.tree (map_last (part doc) (exprs_numbers (exprs_from doc k 2 n)) k (exprs_rows_lem 2 n o)
          (ap (λ v. 30 ∷ operand_at doc k 1 ∷ v) (exprs_nodes_lem 2 n (omega arith) o ∙ rest_words 2) ∙ two_words (part doc k) 30 (operand_at doc k 1) m e refl)))
          ▹ (λ e. rw (expr_number doc k h e) (ap (λ v. v ∷ []) (word1 (part doc k) 31 (operand_at doc k 1) (s 31 1 e refl refl) e refl)))
          ▹ (λ e. rw (expr_integers doc k h e) (ap (λ v. v ∷ []) (word0 (part doc k) 32 (s 32 0 e refl refl) e)))
          ▹ members 33 (omega arith) (omega arith) (λ xs. refl) (λ xs. refl)
          ▹ members 34 (omega arith) (omega arith) (λ xs. refl) (λ xs. refl)
          ▹ members 35 (omega arith) (omega arith) (λ xs. refl) (λ xs. refl)
          ▹ (λ e.
          let l = expr_power doc k h e _ refl in
          let x = operand_at doc k 1 in
          rw l.tree (map_last (part doc) (expr_numbers (expr_at doc x)) k (below_expr l.first) (word1 (part doc k) 36 (expr_node (expr_at doc x)) (s 36 1 e refl refl) e (expr_node_lem doc x l.first.at))))
          ▹ (λ e.
          let l = expr_application doc k h e _ _ refl refl in
          let x = operand_at doc k 1 in
          let y = operand_at doc k 2 in
          rw l.tree (map_last (part doc) (expr_numbers (expr_at doc x) ++ expr_numbers (expr_at doc y)) k (map_parts (part doc) (expr_numbers (expr_at doc x)) (expr_numbers (expr_at doc y)) (below_expr l.left) (below_expr l.right))
          (word2 (part doc k) 37 (expr_node (expr_at doc x)) (expr_node (expr_at doc y)) (s 37 2 e refl refl) e (expr_node_lem doc x l.left.at) (expr_node_lem doc y l.right.at))))
          ▹ (λ e.
          let l = expr_selection doc k h e _ refl in
          let x = operand_at doc k 1 in
          rw l.tree (map_last (part doc) (expr_numbers (expr_at doc x)) k (below_expr l.first) (word2 (part doc k) 38 (expr_node (expr_at doc x)) (operand_at doc k 2) (s 38 2 e refl refl) e (expr_node_lem doc x l.first.at) refl)))
          ▹ (λ e. rw (expr_theta doc k h e) (ap (λ v. v ∷ []) (word2 (part doc k) 39 (operand_at doc k 1) (operand_at doc k 2) (s 39 2 e refl refl) e refl refl)))
          ▹ (λ e.
          let l = expr_schema_set doc k h e _ refl in
          let x = operand_at doc k 1 in
          rw l.tree (map_last (part doc) (include_numbers (include_at doc x)) k ((ih _ l.first.below).include l.first.at)
          (word1 (part doc k) 40 (include_node (include_at doc x)) (s 40 1 e refl refl) e (include_node_lem includes x l.first.at (include_kind doc x l.first.at)))))
          ▹ arithmetics 41 (omega arith) (omega arith)
          ▹ arithmetics 42 (omega arith) (omega arith)
          ▹ arithmetics 43 (omega arith) (omega arith)
          ▹ arithmetics 44 (omega arith) (omega arith)
          ▹ arithmetics 45 (omega arith) (omega arith)
          ▹ (λ e.
          let l = expr_comprehension doc k h e _ _ refl refl in
          let x = operand_at doc k 1 in
          let y = operand_at doc k 2 in
          rw l.tree (map_last (part doc) (text_numbers (text_at doc x) ++ expr_numbers (expr_at doc y)) k (map_parts (part doc) (text_numbers (text_at doc x)) (expr_numbers (expr_at doc y)) (below_text l.left) (below_expr l.right))
          (word2 (part doc k) 46 (text_node (text_at doc x)) (expr_node (expr_at doc y)) (s 46 2 e refl refl) e (text_node_lem texts x l.left.at (text_kind doc x l.left.at)) (expr_node_lem doc y l.right.at))))
          ▹ tt)
          (kind_at doc k) r.0 (omega arith) refl

    module _ (h : At doc predicates k) where
      PredClaim : ℕ → Type 0
      PredClaim q = kind_at doc k ≡ q → pred_rows (pred_at doc k) ≡ map (part doc) (pred_numbers (pred_at doc k))

      relations : (q : ℕ) → 21 ≤ q → q ≤ 23 → cell q 0 ≡ 2 → cell q 1 ≡ 3 → ((x y : Expr) → pred_rows (relation_of q k x y) ≡ (expr_rows x ++ expr_rows y) ++ ((q ∷ expr_node x ∷ expr_node y ∷ []) ∷ []))
          → ((x y : Expr) → pred_numbers (relation_of q k x y) ≡ (expr_numbers x ++ expr_numbers y) ++ (k ∷ [])) → PredClaim q
      unfolding PredClaim
      relations q a b c d f g e =
          let l = pred_relation doc k h q e a b _ _ refl refl in
          let x = operand_at doc k 1 in
          let y = operand_at doc k 2 in
          let s = exactly doc predicates k h q 2 e c d in
          rw l.tree (f (expr_at doc x) (expr_at doc y)
          ∙ map_last (part doc) (expr_numbers (expr_at doc x) ++ expr_numbers (expr_at doc y)) k (map_parts (part doc) (expr_numbers (expr_at doc x)) (expr_numbers (expr_at doc y)) (below_expr l.left) (below_expr l.right))
          (word2 (part doc k) q (expr_node (expr_at doc x)) (expr_node (expr_at doc y)) s e (expr_node_lem doc x l.left.at) (expr_node_lem doc y l.right.at))
          ∙ ap (map (part doc)) (sym (g (expr_at doc x) (expr_at doc y))))

      connections : (q : ℕ) → 25 ≤ q → q ≤ 27 → cell q 0 ≡ 2 → cell q 1 ≡ 3 → connective_kind (connective_of q) ≡ q → PredClaim q
      unfolding PredClaim expr_rows expr_numbers
      connections q a b c d t e =
          let l = pred_connected doc k h q e a b _ _ refl refl in
          let x = operand_at doc k 1 in
          let y = operand_at doc k 2 in
          let s = exactly doc predicates k h q 2 e c d in
          rw l.tree (map_last (part doc) (pred_numbers (pred_at doc x) ++ pred_numbers (pred_at doc y)) k (map_parts (part doc) (pred_numbers (pred_at doc x)) (pred_numbers (pred_at doc y)) (below_pred l.left) (below_pred l.right))
          (word2 (part doc k) (connective_kind (connective_of q)) (pred_node (pred_at doc x)) (pred_node (pred_at doc y)) s (e ∙ sym t) (pred_node_lem x l.left.at) (pred_node_lem y l.right.at)))

      quantifications : (q : ℕ) → 28 ≤ q → q ≤ 29 → cell q 0 ≡ 2 → cell q 1 ≡ 3 → quantifier_kind (quantifier_of q) ≡ q → PredClaim q
      unfolding PredClaim expr_rows expr_numbers
      quantifications q a b c d t e =
          let l = pred_quantified doc k h q e a b _ _ refl refl in
          let x = operand_at doc k 1 in
          let y = operand_at doc k 2 in
          let s = exactly doc predicates k h q 2 e c d in
          rw l.tree (map_last (part doc) (text_numbers (text_at doc x) ++ pred_numbers (pred_at doc y)) k (map_parts (part doc) (text_numbers (text_at doc x)) (pred_numbers (pred_at doc y)) (below_text l.left) (below_pred l.right))
          (word2 (part doc k) (quantifier_kind (quantifier_of q)) (text_node (text_at doc x)) (pred_node (pred_at doc y)) s (e ∙ sym t) (text_node_lem texts x l.left.at (text_kind doc x l.left.at)) (pred_node_lem y l.right.at)))

      pred_rows_lem : pred_rows (pred_at doc k) ≡ map (part doc) (pred_numbers (pred_at doc k))
      unfolding PredClaim expr_rows expr_numbers cell connective_kind quantifier_kind
      pred_rows_lem =
          let r = pred_range doc k h in
          all_at PredClaim 20 10
          ((λ e. rw (pred_truth doc k h e) (ap (λ v. v ∷ []) (word0 (part doc k) 20 (exactly doc predicates k h 20 0 e refl refl) e)))
          ▹ relations 21 (omega arith) (omega arith) refl refl (λ x y. refl) (λ x y. refl)
          ▹ relations 22 (omega arith) (omega arith) refl refl (λ x y. refl) (λ x y. refl)
          ▹ relations 23 (omega arith) (omega arith) refl refl (λ x y. refl) (λ x y. refl)
          ▹ (λ e.
          let l = pred_not doc k h e _ refl in
          let x = operand_at doc k 1 in
          rw l.tree (map_last (part doc) (pred_numbers (pred_at doc x)) k (below_pred l.first) (word1 (part doc k) 24 (pred_node (pred_at doc x)) (exactly doc predicates k h 24 1 e refl refl) e (pred_node_lem x l.first.at))))
          ▹ connections 25 (omega arith) (omega arith) refl refl refl
          ▹ connections 26 (omega arith) (omega arith) refl refl refl
          ▹ connections 27 (omega arith) (omega arith) refl refl refl
          ▹ quantifications 28 (omega arith) (omega arith) refl refl refl
          ▹ quantifications 29 (omega arith) (omega arith) refl refl refl
          ▹ tt)
          (kind_at doc k) r.0 (omega arith) refl

    text_rows_lem : (s : ℕ) → At doc s k → kind_at doc k ≡ 10 → text_rows (text_at doc k) ≡ map (part doc) (text_numbers (text_at doc k))
    unfolding expr_rows expr_numbers lines_from lines_nodes cell
    text_rows_lem s h e =
        let l = text_law doc s k h e _ refl in
        let n = length (part doc k) - 2 in
        let m : 1 < length (part doc k) = rw e at (at_least doc s k h) in
        let x = operand_at doc k 1 in
        let ls = gather (line_at doc) (part doc k) 2 n end in
        let a : lines_rows ls ≡ map (part doc) (lines_numbers ls) =
        gather_keeps (λ ls. lines_rows ls ≡ map (part doc) (lines_numbers ls)) (line_at doc) (part doc k) end refl 2 n
        (λ j c d y z. let o = l.each j c (omega arith) _ refl in (ih _ o.below).line o.at y z)
        in
        let b : lines_nodes ls ≡ drop 2 (part doc k) =
        gathers lines_nodes (line_at doc) (part doc k) end n 2 (omega arith) (λ j c d y. let o = l.each j c (omega arith) _ refl in line_node (operand_at doc k j) o.at y)
        ∙ append-nil (take n (drop 2 (part doc k)))
        ∙ rest_words 2
        in
        rw l.tree (map_last (part doc) (pred_numbers (pred_at doc x) ++ lines_numbers ls) k (map_parts (part doc) (pred_numbers (pred_at doc x)) (lines_numbers ls) (below_pred l.first) a)
        (ap₂ (λ u v. 10 ∷ u ∷ v) (pred_node_lem x l.first.at) b ∙ two_words (part doc k) 10 x m e refl))

    include_rows_lem : (s : ℕ) → At doc s k → kind_at doc k ≡ 12 → include_rows (include_at doc k) ≡ map (part doc) (include_numbers (include_at doc k))
    unfolding expr_rows expr_numbers
    include_rows_lem s h e =
        let l = include_law doc s k h e _ refl in
        let c = l.words in
        let v = part doc k in
        let a = operand_at doc k 3 in
        let p = (length v - (a + 4)) / 2 in
        let o : (j : ℕ) → 4 ≤ j → j < 4 + a → Lower doc k expressions (operand_at doc k j) = λ j x y. l.each j x (omega arith) _ refl in
        let q : (a + 4) + 2 * p ≡ length v = omega (arith, c.long, c.even) in
        let t : drop (a + 4) v ≡ drop a (drop 4 v) = ap (λ z. drop z v) (swap a) ∙ sym (drop-drop a 4 v) in
        rw l.tree (map_last (part doc) (exprs_numbers (exprs_from doc k 4 a)) k (exprs_rows_lem 4 a o)
        (ap (λ z. 12 ∷ operand_at doc k 1 ∷ operand_at doc k 2 ∷ z ∷ (exprs_nodes (exprs_from doc k 4 a) ++ pair_words (pairs_from v (a + 4) p))) (exprs_length_lem doc k 4 a)
        ∙ ap₂ (λ y z. 12 ∷ operand_at doc k 1 ∷ operand_at doc k 2 ∷ a ∷ (y ++ z)) (exprs_nodes_lem 4 a (omega (arith, c.long)) o) (pairs_words p v (a + 4) q ∙ t)
        ∙ ap (λ z. 12 ∷ operand_at doc k 1 ∷ operand_at doc k 2 ∷ a ∷ z) (take-append-drop a (drop 4 v))
        ∙ four_words v 12 (omega (arith, c.long)) e))
      where
        swap : (a : ℕ) → a + 4 ≡ 4 + a
        swap a = omega arith

        four_words : (w : List ℕ) (q : ℕ) → 4 ≤ length w → get_or w 0 0 ≡ q → q ∷ get_or w 1 0 ∷ get_or w 2 0 ∷ get_or w 3 0 ∷ drop 4 w ≡ w
        four_words [] q l e = absurd (omega arith)
        four_words (x ∷ []) q l e = absurd (omega arith)
        four_words (x ∷ y ∷ []) q l e = absurd (omega arith)
        four_words (x ∷ y ∷ z ∷ []) q l e = absurd (omega arith)
        four_words (x ∷ y ∷ z ∷ v ∷ w) q l e = ap (λ u. u ∷ y ∷ z ∷ v ∷ w) (sym e)

    line_rows : At doc lines k → (ls : Lines) → lines_rows ls ≡ map (part doc) (lines_numbers ls) → lines_rows (line_at doc k ls) ≡ map (part doc) (lines_numbers (line_at doc k ls))
    unfolding expr_rows expr_numbers cell
    line_rows h ls z =
        let r = line_range doc k h in
        all_at (λ q. kind_at doc k ≡ q → lines_rows (line_at doc k ls) ≡ map (part doc) (lines_numbers (line_at doc k ls))) 11 2
        ((λ e.
        let l = line_declaration doc k h e _ refl in
        let x = operand_at doc k 1 in
        let m : 2 < length (part doc k) = rw e at (at_least doc lines k h) in
        rw (l.tree ls) (map_parts (part doc) (expr_numbers (expr_at doc x) ++ (k ∷ [])) (lines_numbers ls)
        (map_last (part doc) (expr_numbers (expr_at doc x)) k (below_expr l.first) (ap (λ u. 11 ∷ u ∷ drop 2 (part doc k)) (expr_node_lem doc x l.first.at) ∙ two_words (part doc k) 11 x (omega arith) e refl)) z))
        ▹ (λ e. rw (line_inclusion doc k e ls) (map_parts (part doc) (include_numbers (include_at doc k)) (lines_numbers ls) (include_rows_lem lines h e) z))
        ▹ tt)
        (kind_at doc k) r.0 (omega arith) refl

    schema_rows_lem : At doc schema_expressions k → schema_rows (schema_at doc k) ≡ map (part doc) (schema_numbers (schema_at doc k))
    unfolding schema_rows schema_numbers cell
    schema_rows_lem h =
        ⊎_elim
        (λ e. rw (schema_plain doc k e) (text_rows_lem schema_expressions h e))
        (⊎_elim
        (λ e. rw (schema_from doc k e) (include_rows_lem schema_expressions h e))
        (λ e.
        let l = schema_both doc k h e _ _ refl refl in
        let x = operand_at doc k 1 in
        let y = operand_at doc k 2 in
        rw l.tree (map_last (part doc) (schema_numbers (schema_at doc x) ++ schema_numbers (schema_at doc y)) k
        (map_parts (part doc) (schema_numbers (schema_at doc x)) (schema_numbers (schema_at doc y)) ((ih _ l.left.below).schema l.left.at) ((ih _ l.right.below).schema l.right.at))
        (word2 (part doc k) 15 (schema_node (schema_at doc x)) (schema_node (schema_at doc y)) (exactly doc schema_expressions k h 15 2 e refl refl) e (schema_node_lem x l.left.at) (schema_node_lem y l.right.at)))))
        (schema_kinds doc k h)

    -- name, parameter count, parameters, body
    defined_row : (q p v : ℕ) → kind_at doc k ≡ q → p ≡ operand_at doc k 2 → length (part doc k) ≡ p + 4 → v ≡ operand_at doc k (p + 3)
        → q ∷ operand_at doc k 1 ∷ length (take p (drop 3 (part doc k))) ∷ (take p (drop 3 (part doc k)) ++ (v ∷ [])) ≡ part doc k
    defined_row q p v e c n f =
        go (part doc k) q p v e c n f
      where
        body : (u : List ℕ) (p v : ℕ) → length u ≡ suc p → v ≡ get_or u p 0 → (length (take p u) ≡ p) × (take p u ++ (v ∷ []) ≡ u)
        body [] p v n f = absurd (omega arith)
        body (x ∷ []) zero v n f = (refl, ap (λ z. z ∷ []) f)
        body (x ∷ []) (suc p) v n f = absurd (omega arith)
        body (x ∷ y ∷ u) zero v n f = absurd (omega arith)
        body (x ∷ y ∷ u) (suc p) v n f = let r = body (y ∷ u) p v (omega arith) f in (ap suc r.0, ap (λ z. x ∷ z) r.1)

        go : (w : List ℕ) (q p v : ℕ) → get_or w 0 0 ≡ q → p ≡ get_or w 2 0 → length w ≡ p + 4 → v ≡ get_or w (p + 3) 0 → q ∷ get_or w 1 0 ∷ length (take p (drop 3 w)) ∷ (take p (drop 3 w) ++ (v ∷ [])) ≡ w
        go [] q p v e c n f = absurd (omega arith)
        go (x ∷ []) q p v e c n f = absurd (omega arith)
        go (x ∷ y ∷ []) q p v e c n f = absurd (omega arith)
        go (x ∷ y ∷ z ∷ u) q p v e c n f =
            let r = body u p v (omega arith) (f ∙ ap (λ i. get_or (x ∷ y ∷ z ∷ u) i 0) (add-three p)) in
            ap₂ (λ a b. q ∷ y ∷ a ∷ b) (r.0 ∙ c) r.1 ∙ ap (λ a. a ∷ y ∷ z ∷ u) (sym e)

    paragraph_rows_lem : At doc paragraphs k → paragraph_rows (paragraph_at doc k) ≡ map (part doc) (paragraph_numbers (paragraph_at doc k))
    unfolding paragraph_rows paragraph_numbers cell
    paragraph_rows_lem h =
        let r = paragraph_range doc k h in
        let m = at_least doc paragraphs k h in
        all_at (λ q. kind_at doc k ≡ q → paragraph_rows (paragraph_at doc k) ≡ map (part doc) (paragraph_numbers (paragraph_at doc k))) 2 5
        ((λ e. rw (paragraph_given doc k h e) (ap (λ v. v ∷ []) (first_word (part doc k) 2 (omega arith) e)))
        ▹ (λ e.
        let l = paragraph_axiomatic doc k h e _ refl in
        let x = operand_at doc k 1 in
        rw l.tree (map_last (part doc) (text_numbers (text_at doc x)) k (below_text l.first)
        (word1 (part doc k) 3 (text_node (text_at doc x)) (exactly doc paragraphs k h 3 1 e refl refl) e (text_node_lem texts x l.first.at (text_kind doc x l.first.at)))))
        ▹ (λ e.
        let l = paragraph_schema doc k h e _ _ refl refl in
        let x = operand_at doc k (operand_at doc k 2 + 3) in
        rw l.tree (map_last (part doc) (schema_numbers (schema_at doc x)) k ((ih _ l.body.below).schema l.body.at)
        (defined_row 4 (operand_at doc k 2) (schema_node (schema_at doc x)) e refl l.words (schema_node_lem x l.body.at))))
        ▹ (λ e.
        let l = paragraph_abbreviation doc k h e _ _ refl refl in
        let x = operand_at doc k (operand_at doc k 2 + 3) in
        rw l.tree (map_last (part doc) (expr_numbers (expr_at doc x)) k (below_expr l.body)
        (defined_row 5 (operand_at doc k 2) (expr_node (expr_at doc x)) e refl l.words (expr_node_lem doc x l.body.at))))
        ▹ (λ e.
        let l = paragraph_constraint doc k h e _ refl in
        let x = operand_at doc k 1 in
        rw l.tree (map_last (part doc) (pred_numbers (pred_at doc x)) k (below_pred l.first)
        (word1 (part doc k) 6 (pred_node (pred_at doc x)) (exactly doc paragraphs k h 6 1 e refl refl) e (pred_node_lem x l.first.at))))
        ▹ tt)
        (kind_at doc k) r.0 (omega arith) refl

    rows_at : RowsAt k
    rows_at =
        record {
          expr = expr_rows_lem;
          pred = pred_rows_lem;
          text = λ h. text_rows_lem texts h (text_kind doc k h);
          include = λ h. include_rows_lem includes h (include_kind doc k h);
          line = line_rows;
          schema = schema_rows_lem;
          paragraph = paragraph_rows_lem;
        }

pub all_rows : (doc : List ℕ) (n k : ℕ) → k < n → RowsAt doc k
all_rows doc zero k h = absurd (omega arith)
all_rows doc (suc n) k h = rows_at doc k (λ j l. all_rows doc n j (omega arith))

pub document_rows_lem : (doc : List ℕ) → read_of doc ≡ Readable → document_rows (tree_of doc) ≡ map (part doc) (node_numbers (tree_of doc))
unfolding document_rows node_numbers paragraphs_from paragraphs_rows paragraphs_numbers paragraphs_nodes
document_rows_lem doc r =
    let N = count doc in
    let v = part doc N in
    let n = length v - 1 in
    let l = document_law doc r in
    let d = readable doc r in
    let e = last_document doc d in
    let s = Rattle.reader_rules.proofs.Accepted.some_words doc N d.nodes.laid d.nodes.laid.some (omega arith) in
    let ps = gather (λ j. ◌∷◌ (paragraph_at doc j)) v 1 n [] in
    let a : paragraphs_rows ps ≡ map (part doc) (paragraphs_numbers ps) =
    gather_keeps (λ ps. paragraphs_rows ps ≡ map (part doc) (paragraphs_numbers ps)) (λ j. ◌∷◌ (paragraph_at doc j)) v [] refl 1 n
    (λ j p q y z.
    let o = l.each j p (omega arith) _ refl in
    map_parts (part doc) (paragraph_numbers (paragraph_at doc (get_or v j 0))) (paragraphs_numbers y) ((all_rows doc (suc N) _ (omega (arith, o.below))).paragraph o.at) z)
    in
    let b : paragraphs_nodes ps ≡ drop 1 v =
    gathers paragraphs_nodes (λ j. ◌∷◌ (paragraph_at doc j)) v [] n 1 (omega arith) (λ j p q y. let o = l.each j p (omega arith) _ refl in ap (λ u. u ∷ paragraphs_nodes y) (paragraph_node_lem doc (get_or v j 0) o.at))
    ∙ append-nil (take n (drop 1 v))
    ∙ take_all n (drop 1 v) (simp length-drop (omega arith))
    in
    rw l.tree (map_last (part doc) (paragraphs_numbers ps) N a (ap (λ u. 1 ∷ u) b ∙ first_word v 1 s e))
