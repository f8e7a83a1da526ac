-- The tree of a readable document is within the limits: `Limited`, by induction from lower nodes.
use mathlib.Core.Path.{◌≡◌, refl, sym, ◌∙◌}
use mathlib.Core.Bool.{true, false}
use mathlib.Core.Logic.{⊎_elim}
use mathlib.Core.List.{List, [], ◌∷◌, ◌++◌, append-nil}
use Prim.Native.Nat.{ℕ, zero, suc, ◌+◌, ◌-◌, ◌≤◌, ◌<◌}
use native.Mathlib.Omega.{arith}
use lib.Dec.{eqb}
use lib.ListN.{length, length-append}
use borrow.Author.Tests.{ne_eqb}
use Rattle.layout.specs.Layout.{count, part}
use Rattle.reader_rules.specs.Kinds.{expressions, schema_expressions, predicates, texts, lines, paragraphs, includes}
use Rattle.reader_rules.specs.Nodes.{kind_at, operand_at}
use Rattle.reader_rules.specs.Limits.{is_closing, nodes_left, texts_left}
use Rattle.reader_rules.specs.Reading.{read_of}
use Rattle.reader_rules.specs.Refusals.{Readable}
use Rattle.reader_rules.specs.Promise.{At, Lower}
use Rattle.reader_rules.specs.Tree.{Expr, Exprs, none, more, Lines, end}
use Rattle.reader_rules.specs.Decode.{expr_at, pred_at, text_at, include_at, line_at, schema_at, paragraph_at, exprs_from, lines_from, paragraphs_from, tree_of}
use Rattle.reader_rules.specs.Decode.{members_of, relation_of}
use Rattle.reader_rules.specs.TreeNumbers.{expr_numbers, exprs_numbers, pred_numbers, paragraph_numbers}
use Rattle.reader_rules.specs.Limited.{text_declares, FewNodes, LimitedExpr, LimitedExprs, LimitedPred, LimitedText, LimitedLines, LimitedInclude}
use Rattle.reader_rules.specs.Limited.{LimitedSchema, LimitedParagraph, LimitedParagraphs, LimitedDocument}
use Rattle.reader_rules.specs.Below.{numbers_at}
use Rattle.reader_rules.proofs.Accepted.{readable, last_document}
use Rattle.reader_rules.proofs.PathLaws.{node_left, text_left, nodes_next, texts_same, texts_next, all_left}
use Rattle.reader_rules.proofs.TreeShape.{all_at, ◌▹◌, gather_keeps}
use Rattle.reader_rules.proofs.TreeExpr.{expr_range, expr_reference, expr_number, expr_integers, expr_members, expr_power, expr_application, expr_selection}
use Rattle.reader_rules.proofs.TreeExpr.{expr_theta, expr_schema_set, expr_arithmetic, expr_comprehension}
use Rattle.reader_rules.proofs.TreePred.{pred_range, pred_truth, pred_relation, pred_not, pred_connected, pred_quantified}
use Rattle.reader_rules.proofs.TreeText.{as_include, text_kind, include_kind, line_range, text_law, line_declaration, include_law, line_inclusion}
use Rattle.reader_rules.proofs.TreeText.{schema_kinds, schema_plain, schema_from, schema_both}
use Rattle.reader_rules.proofs.TreeParagraph.{paragraph_range, paragraph_given, paragraph_axiomatic, paragraph_schema, paragraph_abbreviation}
use Rattle.reader_rules.proofs.TreeParagraph.{paragraph_constraint, document_law}
use Rattle.reader_rules.proofs.TreeNodes.{each_numbered}
use Rattle.reader_rules.proofs.Crowding.{few_below}
use Rattle.reader_rules.proofs.NameCounts.{text_few, globals_counted}

-- x are the nodes below a closing node k
few_nodes : (doc : List ℕ) (s k : ℕ) → At doc s k → is_closing (kind_at doc k) ≡ true → (x : List ℕ) → x ++ (k ∷ []) ≡ numbers_at doc k → FewNodes x
few_nodes doc s k h c x e =
    let f : length (x ++ (k ∷ [])) ≤ 25 = rw e (few_below doc (readable doc h.read) k c h.some h.most) in
    omega (arith, length-append x (k ∷ []))

-- the claim at node k, for each sort
pub record LimitedAt (doc : List ℕ) (k n m : ℕ) : Type 0 where
  pub expr : At doc expressions k → LimitedExpr n m (expr_at doc k)
  pub pred : At doc predicates k → LimitedPred n m (pred_at doc k)
  pub text : At doc texts k → LimitedText n m (text_at doc k)
  pub include : At doc includes k → LimitedInclude n m (include_at doc k)
  pub line : At doc lines k → (ls : Lines) → LimitedLines n m ls → LimitedLines n m (line_at doc k ls)
  pub schema : At doc schema_expressions k → LimitedSchema n m (schema_at doc k)
  pub paragraph : At doc paragraphs k → LimitedParagraph n m (paragraph_at doc k)

abbrev Here : List ℕ → ℕ → Type 0
Here doc k = LimitedAt doc k (nodes_left doc k) (texts_left doc k)

-- the operands of node k
module _ (doc : List ℕ) (k : ℕ) (ih : (j : ℕ) → j < k → Here doc j) (most : k ≤ count doc) where
  -- of one that is no Text
  beside : eqb (kind_at doc k) 10 ≡ false → (s v : ℕ) → Lower doc k s v → LimitedAt doc v (nodes_left doc k - 1) (texts_left doc k)
  beside e s v l = rw (← (nodes_next doc k most s v l), ← (texts_same doc k most e s v l)) (ih v l.below)

  inside : kind_at doc k ≡ 10 → (s v : ℕ) → Lower doc k s v → LimitedAt doc v (nodes_left doc k - 1) (texts_left doc k - 1)
  inside e s v l = rw (← (nodes_next doc k most s v l), ← (texts_next doc k most e s v l)) (ih v l.below)

-- expressions that are operands of node k
exprs_limited : (doc : List ℕ) (k n m : ℕ) → ((s v : ℕ) → Lower doc k s v → LimitedAt doc v n m) → (i e : ℕ)
    → ((j : ℕ) → i ≤ j → j < i + e → Lower doc k expressions (operand_at doc k j)) → LimitedExprs n m (exprs_from doc k i e)
unfolding exprs_from LimitedExpr
exprs_limited doc k n m b i e o =
    gather_keeps (LimitedExprs n m) (λ j. more (expr_at doc j)) (part doc k) none tt i e (λ j p q y z. let l = o j p q in ((b _ _ l).expr l.at, z))

module _ (doc : List ℕ) (k : ℕ) (ih : (j : ℕ) → j < k → Here doc j) where
  abbrev n : ℕ
  n = nodes_left doc k

  abbrev m : ℕ
  m = texts_left doc k

  module _ (h : At doc expressions k) where
    Claim : ℕ → Type 0
    Claim q = kind_at doc k ≡ q → LimitedExpr n m (expr_at doc k)

    left : 1 ≤ n
    left = node_left doc expressions k h

    b : (s v : ℕ) → Lower doc k s v → LimitedAt doc v (n - 1) m
    b = let r = expr_range doc k h in beside doc k ih h.most (ne_eqb (kind_at doc k) 10 (omega arith))

    below_expr : {a : ℕ} → Lower doc k expressions a → LimitedExpr (n - 1) m (expr_at doc a)
    below_expr {a} l = (b expressions a l).expr l.at

    members : (q : ℕ) → 33 ≤ q → q ≤ 35 → ((xs : Exprs) → LimitedExprs (n - 1) m xs → LimitedExpr n m (members_of q k xs)) → Claim q
    unfolding Claim
    members q c d f e =
        let l = expr_members doc k h q e c d in
        let i = length (part doc k) - 1 in
        rw l.tree (f (exprs_from doc k 1 i) (exprs_limited doc k (n - 1) m b 1 i (λ j p q. l.each j p (omega arith) _ refl)))

    arithmetics : (q : ℕ) → 41 ≤ q → q ≤ 45 → Claim q
    unfolding Claim LimitedExpr
    arithmetics q c d e =
        let l = expr_arithmetic doc k h q e c d _ _ refl refl in
        rw l.tree (left, below_expr l.left, below_expr l.right)

    expr_limited : LimitedExpr n m (expr_at doc k)
    unfolding Claim LimitedExpr
    expr_limited =
        let r = expr_range doc k h in
        all_at Claim 30 17
        ((λ e.
        let l = expr_reference doc k h e in
        rw l.tree (left, exprs_limited doc k (n - 1) m b 2 (length (part doc k) - 2) (λ j p q. l.each j p (omega arith) _ refl)))
        ▹ (λ e. rw (expr_number doc k h e) left)
        ▹ (λ e. rw (expr_integers doc k h e) left)
        ▹ members 33 (omega arith) (omega arith) (λ xs z. (left, z))
        ▹ members 34 (omega arith) (omega arith) (λ xs z. (left, z))
        ▹ members 35 (omega arith) (omega arith) (λ xs z. (left, z))
        ▹ (λ e. let l = expr_power doc k h e _ refl in rw l.tree (left, below_expr l.first))
        ▹ (λ e. let l = expr_application doc k h e _ _ refl refl in rw l.tree (left, below_expr l.left, below_expr l.right))
        ▹ (λ e. let l = expr_selection doc k h e _ refl in rw l.tree (left, below_expr l.first))
        ▹ (λ e. rw (expr_theta doc k h e) left)
        ▹ (λ e. let l = expr_schema_set doc k h e _ refl in rw l.tree (left, (b _ _ l.first).include l.first.at))
        ▹ arithmetics 41 (omega arith) (omega arith)
        ▹ arithmetics 42 (omega arith) (omega arith)
        ▹ arithmetics 43 (omega arith) (omega arith)
        ▹ arithmetics 44 (omega arith) (omega arith)
        ▹ arithmetics 45 (omega arith) (omega arith)
        ▹ (λ e. let l = expr_comprehension doc k h e _ _ refl refl in rw l.tree (left, (b _ _ l.left).text l.left.at, below_expr l.right))
        ▹ tt)
        (kind_at doc k) r.0 (omega arith) refl

  module _ (h : At doc predicates k) where
    PredClaim : ℕ → Type 0
    PredClaim q = kind_at doc k ≡ q → LimitedPred n m (pred_at doc k)

    pred_left : 1 ≤ n
    pred_left = node_left doc predicates k h

    pb : (s v : ℕ) → Lower doc k s v → LimitedAt doc v (n - 1) m
    pb = let r = pred_range doc k h in beside doc k ih h.most (ne_eqb (kind_at doc k) 10 (omega arith))

    below_pred : {a : ℕ} → Lower doc k predicates a → LimitedPred (n - 1) m (pred_at doc a)
    below_pred {a} l = (pb predicates a l).pred l.at

    -- 21 to 23: the nodes below are those of both sides
    relations : (q : ℕ) → 21 ≤ q → q ≤ 23 → is_closing q ≡ true
        → ((x y : Expr) → pred_numbers (relation_of q k x y) ≡ (expr_numbers x ++ expr_numbers y) ++ (k ∷ []))
        → ((x y : Expr) → FewNodes (expr_numbers x ++ expr_numbers y) → LimitedExpr (n - 1) m x → LimitedExpr (n - 1) m y → LimitedPred n m (relation_of q k x y))
        → PredClaim q
    unfolding PredClaim
    relations q c d z g f e =
        let l = pred_relation doc k h q e c d _ _ refl refl in
        let x = expr_at doc (operand_at doc k 1) in
        let y = expr_at doc (operand_at doc k 2) in
        let t : (expr_numbers x ++ expr_numbers y) ++ (k ∷ []) ≡ numbers_at doc k = sym (g x y) ∙ (rw l.tree at ((each_numbered doc k).pred h)) in
        rw l.tree (f x y (few_nodes doc predicates k h (rw e z) (expr_numbers x ++ expr_numbers y) t)
        ((pb _ _ l.left).expr l.left.at) ((pb _ _ l.right).expr l.right.at))

    connections : (q : ℕ) → 25 ≤ q → q ≤ 27 → PredClaim q
    unfolding PredClaim LimitedExpr
    connections q c d e =
        let l = pred_connected doc k h q e c d _ _ refl refl in rw l.tree (pred_left, below_pred l.left, below_pred l.right)

    quantifications : (q : ℕ) → 28 ≤ q → q ≤ 29 → PredClaim q
    unfolding PredClaim LimitedExpr
    quantifications q c d e =
        let l = pred_quantified doc k h q e c d _ _ refl refl in
        rw l.tree (pred_left, (pb _ _ l.left).text l.left.at, below_pred l.right)

    pred_limited : LimitedPred n m (pred_at doc k)
    unfolding PredClaim LimitedExpr is_closing expr_numbers
    pred_limited =
        let r = pred_range doc k h in
        all_at PredClaim 20 10
        ((λ e. rw (pred_truth doc k h e) pred_left)
        ▹ relations 21 (omega arith) (omega arith) refl (λ x y. refl) (λ x y f s t. (pred_left, f, s, t))
        ▹ relations 22 (omega arith) (omega arith) refl (λ x y. refl) (λ x y f s t. (pred_left, f, s, t))
        ▹ relations 23 (omega arith) (omega arith) refl (λ x y. refl) (λ x y f s t. (pred_left, f, s, t))
        ▹ (λ e. let l = pred_not doc k h e _ refl in rw l.tree (pred_left, below_pred l.first))
        ▹ connections 25 (omega arith) (omega arith)
        ▹ connections 26 (omega arith) (omega arith)
        ▹ connections 27 (omega arith) (omega arith)
        ▹ quantifications 28 (omega arith) (omega arith)
        ▹ quantifications 29 (omega arith) (omega arith)
        ▹ tt)
        (kind_at doc k) r.0 (omega arith) refl

  text_limited : (s : ℕ) → At doc s k → kind_at doc k ≡ 10 → LimitedText n m (text_at doc k)
  unfolding LimitedExpr lines_from text_declares
  text_limited s h e =
      let l = text_law doc s k h e _ refl in
      let c = inside doc k ih h.most e in
      let i = length (part doc k) - 2 in
      let f = rw l.tree at (text_few doc s k h e) in
      rw l.tree (
        node_left doc s k h,
        text_left doc s k h e,
        f,
        (c _ _ l.first).pred l.first.at,
        gather_keeps (LimitedLines (n - 1) (m - 1)) (line_at doc) (part doc k) end tt 2 i
            (λ j p q y z. let o = l.each j p (omega arith) _ refl in (c _ _ o).line o.at y z),
      )

  include_limited : (s : ℕ) → At doc s k → kind_at doc k ≡ 12 → LimitedInclude n m (include_at doc k)
  unfolding LimitedExpr is_closing expr_numbers
  include_limited s h e =
      let l = include_law doc s k h e _ refl in
      let a = operand_at doc k 3 in
      let xs = exprs_from doc k 4 a in
      let t : exprs_numbers xs ++ (k ∷ []) ≡ numbers_at doc k = rw l.tree at ((each_numbered doc k).include (as_include doc s k h e)) in
      rw l.tree (
        node_left doc s k h,
        few_nodes doc s k h (rw e refl) (exprs_numbers xs) t,
        exprs_limited doc k (n - 1) m (beside doc k ih h.most (rw e refl)) 4 a (λ j p q. l.each j p (omega arith) _ refl),
      )

  line_limited : At doc lines k → (ls : Lines) → LimitedLines n m ls → LimitedLines n m (line_at doc k ls)
  unfolding LimitedExpr is_closing expr_numbers
  line_limited h ls z =
      let r = line_range doc k h in
      all_at (λ q. kind_at doc k ≡ q → LimitedLines n m (line_at doc k ls)) 11 2
      ((λ e.
      let l = line_declaration doc k h e _ refl in
      let x = expr_numbers (expr_at doc (operand_at doc k 1)) in
      let t : (x ++ (k ∷ [])) ++ [] ≡ numbers_at doc k ++ [] = rw (l.tree end) at ((each_numbered doc k).line h end) in
      let t' = sym (append-nil (x ++ (k ∷ []))) ∙ t ∙ append-nil (numbers_at doc k) in
      rw (l.tree ls) (
        node_left doc lines k h,
        few_nodes doc lines k h (rw e refl) x t',
        (beside doc k ih h.most (rw e refl) _ _ l.first).expr l.first.at,
        z,
      ))
      ▹ (λ e. rw (line_inclusion doc k e ls) (include_limited lines h e, z))
      ▹ tt)
      (kind_at doc k) r.0 (omega arith) refl

  schema_limited : At doc schema_expressions k → LimitedSchema n m (schema_at doc k)
  unfolding LimitedSchema
  schema_limited h =
      ⊎_elim
      (λ e. rw (schema_plain doc k e) (text_limited schema_expressions h e))
      (⊎_elim
      (λ e. rw (schema_from doc k e) (include_limited schema_expressions h e))
      (λ e.
      let l = schema_both doc k h e _ _ refl refl in
      let c = beside doc k ih h.most (rw e refl) in
      rw l.tree (node_left doc schema_expressions k h, (c _ _ l.left).schema l.left.at, (c _ _ l.right).schema l.right.at)))
      (schema_kinds doc k h)

  paragraph_limited : At doc paragraphs k → LimitedParagraph n m (paragraph_at doc k)
  unfolding LimitedParagraph is_closing paragraph_numbers
  paragraph_limited h =
      let r = paragraph_range doc k h in
      let g = node_left doc paragraphs k h in
      let c = beside doc k ih h.most (ne_eqb (kind_at doc k) 10 (omega arith)) in
      all_at (λ q. kind_at doc k ≡ q → LimitedParagraph n m (paragraph_at doc k)) 2 5
      ((λ e. rw (paragraph_given doc k h e) g)
      ▹ (λ e. let l = paragraph_axiomatic doc k h e _ refl in rw l.tree (g, (c _ _ l.first).text l.first.at))
      ▹ (λ e. let l = paragraph_schema doc k h e _ _ refl refl in rw l.tree (g, (c _ _ l.body).schema l.body.at))
      ▹ (λ e.
      let l = paragraph_abbreviation doc k h e _ _ refl refl in
      let x = expr_numbers (expr_at doc (operand_at doc k (operand_at doc k 2 + 3))) in
      let t : x ++ (k ∷ []) ≡ numbers_at doc k = rw l.tree at ((each_numbered doc k).paragraph h) in
      rw l.tree (g, few_nodes doc paragraphs k h (rw e refl) x t, (c _ _ l.body).expr l.body.at))
      ▹ (λ e. let l = paragraph_constraint doc k h e _ refl in rw l.tree (g, (c _ _ l.first).pred l.first.at))
      ▹ tt)
      (kind_at doc k) r.0 (omega arith) refl

  limited : Here doc k
  limited =
      record {
        expr = expr_limited;
        pred = pred_limited;
        text = λ h. text_limited texts h (text_kind doc k h);
        include = λ h. include_limited includes h (include_kind doc k h);
        line = line_limited;
        schema = schema_limited;
        paragraph = paragraph_limited;
      }

all_limited : (doc : List ℕ) (i k : ℕ) → k < i → Here doc k
all_limited doc zero k h = absurd (omega arith)
all_limited doc (suc i) k h = limited doc k (λ j l. all_limited doc i j (omega arith))

-- the tree at any node, by what is left there
pub each_limited : (doc : List ℕ) (k : ℕ) → LimitedAt doc k (nodes_left doc k) (texts_left doc k)
each_limited doc k = all_limited doc (suc k) k (omega arith)

-- below the Document 11 nodes are left, and 4 Texts
paragraph_left : (doc : List ℕ) → read_of doc ≡ Readable → (v : ℕ) → Lower doc (count doc) paragraphs v → LimitedAt doc v 11 4
paragraph_left doc r v o =
    let a = all_left doc r in
    let e = last_document doc (readable doc r) in
    rw (a.0, a.1) at (beside doc (count doc) (λ j l. each_limited doc j) (omega arith) (rw e refl) paragraphs v o)

pub tree_limited : (doc : List ℕ) → read_of doc ≡ Readable → LimitedDocument (tree_of doc)
unfolding LimitedDocument paragraphs_from LimitedParagraphs
tree_limited doc r =
    let N = count doc in
    let w = part doc N in
    let l = document_law doc r in
    rw l.tree (record {
      each =
          gather_keeps (LimitedParagraphs 11 4) (λ j. ◌∷◌ (paragraph_at doc j)) w [] tt 1 (length w - 1)
          (λ j p q y z. let o = l.each j p (omega arith) _ refl in ((paragraph_left doc r _ o).paragraph o.at, z));
      globals = globals_counted doc r;
    })
