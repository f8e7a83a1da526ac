-- In a readable document every Tuple and Product has 2 to 6 parts, every Include 0 to 4 actuals and every paragraph 0 to 4 parameters, and every Number is at
-- most 2,147,483,647 (13).
use mathlib.Core.Path.{◌≡◌, refl}
use mathlib.Core.Logic.{⊎_elim}
use mathlib.Core.List.{List, [], ◌∷◌}
use Prim.Native.Nat.{ℕ, zero, suc, ◌+◌, ◌-◌, ◌≤◌, ◌<◌}
use native.Mathlib.Omega.{arith}
use lib.ListN.{length}
use Rattle.layout.specs.Layout.{count, part}
use Rattle.reader_rules.specs.Kinds.{cell, expressions, schema_expressions, predicates, texts, lines, paragraphs, includes}
use Rattle.reader_rules.specs.Nodes.{kind_at, operand_at}
use Rattle.reader_rules.specs.Reading.{read_of}
use Rattle.reader_rules.specs.Refusals.{Readable}
use Rattle.reader_rules.specs.Promise.{At, Lower}
use Rattle.reader_rules.specs.Tree.{Expr, Exprs, none, more, Lines, end, exprs_length}
use Rattle.reader_rules.specs.Decode.{expr_at, pred_at, text_at, include_at, line_at, schema_at, paragraph_at, exprs_from, lines_from, paragraphs_from, tree_of}
use Rattle.reader_rules.specs.Decode.{members_of, relation_of}
use Rattle.reader_rules.proofs.TreeCounts.{at_least, at_most}
use Rattle.reader_rules.proofs.TreeLists.{exprs_length_lem}
use Rattle.reader_rules.proofs.TreeShape.{all_at, ◌▹◌, gather_keeps}
use Rattle.reader_rules.proofs.TreeExpr.{expr_range, expr_reference, expr_number, expr_integers, expr_members, expr_power, expr_application, expr_selection}
use Rattle.reader_rules.proofs.TreeExpr.{expr_theta, expr_schema_set, expr_arithmetic, expr_comprehension}
use Rattle.reader_rules.proofs.TreePred.{pred_range, pred_truth, pred_relation, pred_not, pred_connected, pred_quantified}
use Rattle.reader_rules.proofs.TreeWords.{number_word}
use Rattle.reader_rules.proofs.TreeText.{text_kind, include_kind, line_range, text_law, line_declaration, include_law, line_inclusion}
use Rattle.reader_rules.proofs.TreeText.{schema_kinds, schema_plain, schema_from, schema_both}
use Rattle.reader_rules.proofs.TreeParagraph.{paragraph_range, paragraph_given, paragraph_axiomatic, paragraph_schema, paragraph_abbreviation}
use Rattle.reader_rules.proofs.TreeParagraph.{paragraph_constraint, document_law}
use Rattle.reader_rules.proofs.FewParameters.{few_parameters}
use Rattle.reader_rules.proofs.Sized.{SizedExpr, SizedExprs, SizedPred, SizedText, SizedLines, SizedInclude, SizedSchema, SizedParagraph, SizedParagraphs, SizedDocument}

pub record SizedAt (doc : List ℕ) (k : ℕ) : Type 0 where
  pub expr : At doc expressions k → SizedExpr (expr_at doc k)
  pub pred : At doc predicates k → SizedPred (pred_at doc k)
  pub text : At doc texts k → SizedText (text_at doc k)
  pub include : At doc includes k → SizedInclude (include_at doc k)
  pub line : At doc lines k → (ls : Lines) → SizedLines ls → SizedLines (line_at doc k ls)
  pub schema : At doc schema_expressions k → SizedSchema (schema_at doc k)
  pub paragraph : At doc paragraphs k → SizedParagraph (paragraph_at doc k)

module _ (doc : List ℕ) (k : ℕ) (ih : (j : ℕ) → j < k → SizedAt doc j) where
  below_expr : {a : ℕ} → Lower doc k expressions a → SizedExpr (expr_at doc a)
  below_expr {a} l = (ih a l.below).expr l.at

  below_pred : {a : ℕ} → Lower doc k predicates a → SizedPred (pred_at doc a)
  below_pred {a} l = (ih a l.below).pred l.at

  below_text : {a : ℕ} → Lower doc k texts a → SizedText (text_at doc a)
  below_text {a} l = (ih a l.below).text l.at

  exprs_sized : (i m : ℕ) → ((j : ℕ) → i ≤ j → j < i + m → Lower doc k expressions (operand_at doc k j)) → SizedExprs (exprs_from doc k i m)
  unfolding exprs_from SizedExpr
  exprs_sized i m o = gather_keeps SizedExprs (λ j. more (expr_at doc j)) (part doc k) none tt i m (λ j a b y s. (below_expr (o j a b), s))

  module _ (h : At doc expressions k) where
    Claim : ℕ → Type 0
    Claim q = kind_at doc k ≡ q → SizedExpr (expr_at doc k)

    members : (q : ℕ) → 33 ≤ q → q ≤ 35 → (kind_at doc k ≡ q → (xs : Exprs) → exprs_length xs ≡ length (part doc k) - 1 → SizedExprs xs → SizedExpr (members_of q k xs)) → Claim q
    unfolding Claim
    members q a b f e =
        let l = expr_members doc k h q e a b in
        let n = length (part doc k) - 1 in
        rw l.tree (f e (exprs_from doc k 1 n) (exprs_length_lem doc k 1 n) (exprs_sized 1 n (λ j c d. l.each j c (omega arith) _ refl)))

    -- 34, 35: the row's counts
    parts : (q : ℕ) → cell q 0 ≡ 2 → cell q 1 ≡ 7 → kind_at doc k ≡ q → (n : ℕ) → n ≡ length (part doc k) - 1 → (2 ≤ n) × (n ≤ 6)
    parts q c d e n m =
        let l : 2 < length (part doc k) = rw (e, c) at (at_least doc expressions k h) in
        let u : length (part doc k) ≤ 7 = rw (e, d) at (at_most doc expressions k h) in
        (omega arith, omega arith)

    arithmetics : (q : ℕ) → 41 ≤ q → q ≤ 45 → Claim q
    unfolding Claim SizedExpr
    arithmetics q a b e =
        let l = expr_arithmetic doc k h q e a b _ _ refl refl in
        rw l.tree (below_expr l.left, below_expr l.right)

    expr_sized : SizedExpr (expr_at doc k)
    unfolding Claim SizedExpr cell
    expr_sized =
        let r = expr_range doc k h in
        all_at Claim 30 17
        ((λ e. let l = expr_reference doc k h e in rw l.tree (exprs_sized 2 (length (part doc k) - 2) (λ j c d. l.each j c (omega arith) _ refl)))
        ▹ (λ e. rw (expr_number doc k h e) (number_word doc expressions k h e))
        ▹ (λ e. rw (expr_integers doc k h e) tt)
        ▹ members 33 (omega arith) (omega arith) (λ e xs c s. s)
        ▹ members 34 (omega arith) (omega arith) (λ e xs c s. (parts 34 refl refl e (exprs_length xs) c, s))
        ▹ members 35 (omega arith) (omega arith) (λ e xs c s. (parts 35 refl refl e (exprs_length xs) c, s))
        ▹ (λ e. let l = expr_power doc k h e _ refl in rw l.tree (below_expr l.first))
        ▹ (λ e. let l = expr_application doc k h e _ _ refl refl in rw l.tree (below_expr l.left, below_expr l.right))
        ▹ (λ e. let l = expr_selection doc k h e _ refl in rw l.tree (below_expr l.first))
        ▹ (λ e. rw (expr_theta doc k h e) tt)
        ▹ (λ e. let l = expr_schema_set doc k h e _ refl in rw l.tree ((ih _ l.first.below).include l.first.at))
        ▹ arithmetics 41 (omega arith) (omega arith)
        ▹ arithmetics 42 (omega arith) (omega arith)
        ▹ arithmetics 43 (omega arith) (omega arith)
        ▹ arithmetics 44 (omega arith) (omega arith)
        ▹ arithmetics 45 (omega arith) (omega arith)
        ▹ (λ e. let l = expr_comprehension doc k h e _ _ refl refl in rw l.tree (below_text l.left, below_expr l.right))
        ▹ tt)
        (kind_at doc k) r.0 (omega arith) refl

  module _ (h : At doc predicates k) where
    PredClaim : ℕ → Type 0
    PredClaim q = kind_at doc k ≡ q → SizedPred (pred_at doc k)

    relations : (q : ℕ) → 21 ≤ q → q ≤ 23 → ((x y : Expr) → SizedExpr x → SizedExpr y → SizedPred (relation_of q k x y)) → PredClaim q
    unfolding PredClaim
    relations q a b f e = let l = pred_relation doc k h q e a b _ _ refl refl in rw l.tree (f _ _ (below_expr l.left) (below_expr l.right))

    connections : (q : ℕ) → 25 ≤ q → q ≤ 27 → PredClaim q
    unfolding PredClaim SizedExpr
    connections q a b e = let l = pred_connected doc k h q e a b _ _ refl refl in rw l.tree (below_pred l.left, below_pred l.right)

    quantifications : (q : ℕ) → 28 ≤ q → q ≤ 29 → PredClaim q
    unfolding PredClaim SizedExpr
    quantifications q a b e = let l = pred_quantified doc k h q e a b _ _ refl refl in rw l.tree (below_text l.left, below_pred l.right)

    pred_sized : SizedPred (pred_at doc k)
    unfolding PredClaim SizedExpr
    pred_sized =
        let r = pred_range doc k h in
        all_at PredClaim 20 10
        ((λ e. rw (pred_truth doc k h e) tt)
        ▹ relations 21 (omega arith) (omega arith) (λ x y s t. (s, t))
        ▹ relations 22 (omega arith) (omega arith) (λ x y s t. (s, t))
        ▹ relations 23 (omega arith) (omega arith) (λ x y s t. (s, t))
        ▹ (λ e. let l = pred_not doc k h e _ refl in rw l.tree (below_pred l.first))
        ▹ connections 25 (omega arith) (omega arith)
        ▹ connections 26 (omega arith) (omega arith)
        ▹ connections 27 (omega arith) (omega arith)
        ▹ quantifications 28 (omega arith) (omega arith)
        ▹ quantifications 29 (omega arith) (omega arith)
        ▹ tt)
        (kind_at doc k) r.0 (omega arith) refl

  text_sized : (s : ℕ) → At doc s k → kind_at doc k ≡ 10 → SizedText (text_at doc k)
  unfolding SizedExpr lines_from
  text_sized s h e =
      let l = text_law doc s k h e _ refl in
      rw l.tree (
        below_pred l.first,
        gather_keeps SizedLines (line_at doc) (part doc k) end tt 2 (length (part doc k) - 2)
            (λ j c d y z. let o = l.each j c (omega arith) _ refl in (ih _ o.below).line o.at y z),
      )

  include_sized : (s : ℕ) → At doc s k → kind_at doc k ≡ 12 → SizedInclude (include_at doc k)
  unfolding SizedExpr
  include_sized s h e =
      let l = include_law doc s k h e _ refl in
      rw l.tree (rw (exprs_length_lem doc k 4 (operand_at doc k 3)) l.words.few, exprs_sized 4 (operand_at doc k 3) (λ j c d. l.each j c (omega arith) _ refl))

  line_sized : At doc lines k → (ls : Lines) → SizedLines ls → SizedLines (line_at doc k ls)
  unfolding SizedExpr
  line_sized h ls z =
      let r = line_range doc k h in
      all_at (λ q. kind_at doc k ≡ q → SizedLines (line_at doc k ls)) 11 2
      ((λ e. let l = line_declaration doc k h e _ refl in rw (l.tree ls) (below_expr l.first, z))
      ▹ (λ e. rw (line_inclusion doc k e ls) (include_sized lines h e, z))
      ▹ tt)
      (kind_at doc k) r.0 (omega arith) refl

  schema_sized : At doc schema_expressions k → SizedSchema (schema_at doc k)
  unfolding SizedSchema
  schema_sized h =
      ⊎_elim
      (λ e. rw (schema_plain doc k e) (text_sized schema_expressions h e))
      (⊎_elim
      (λ e. rw (schema_from doc k e) (include_sized schema_expressions h e))
      (λ e.
      let l = schema_both doc k h e _ _ refl refl in
      rw l.tree ((ih _ l.left.below).schema l.left.at, (ih _ l.right.below).schema l.right.at)))
      (schema_kinds doc k h)

  paragraph_sized : At doc paragraphs k → SizedParagraph (paragraph_at doc k)
  unfolding SizedParagraph
  paragraph_sized h =
      let r = paragraph_range doc k h in
      all_at (λ q. kind_at doc k ≡ q → SizedParagraph (paragraph_at doc k)) 2 5
      ((λ e. rw (paragraph_given doc k h e) tt)
      ▹ (λ e. let l = paragraph_axiomatic doc k h e _ refl in rw l.tree (below_text l.first))
      ▹ (λ e. let l = paragraph_schema doc k h e _ _ refl refl in rw l.tree ((ih _ l.body.below).schema l.body.at))
      ▹ (λ e. let l = paragraph_abbreviation doc k h e _ _ refl refl in rw l.tree (below_expr l.body))
      ▹ (λ e. let l = paragraph_constraint doc k h e _ refl in rw l.tree (below_pred l.first))
      ▹ tt)
      (kind_at doc k) r.0 (omega arith) refl

  sized : SizedAt doc k
  sized =
      record {
        expr = expr_sized;
        pred = pred_sized;
        text = λ h. text_sized texts h (text_kind doc k h);
        include = λ h. include_sized includes h (include_kind doc k h);
        line = line_sized;
        schema = schema_sized;
        paragraph = paragraph_sized;
      }

pub all_sized : (doc : List ℕ) (n k : ℕ) → k < n → SizedAt doc k
all_sized doc zero k h = absurd (omega arith)
all_sized doc (suc n) k h = sized doc k (λ j l. all_sized doc n j (omega arith))

pub document_sized : (doc : List ℕ) → read_of doc ≡ Readable → SizedDocument (tree_of doc)
unfolding paragraphs_from SizedParagraphs SizedDocument
document_sized doc r =
    let N = count doc in
    let w = part doc N in
    let l = document_law doc r in
    rw l.tree (gather_keeps SizedParagraphs (λ j. ◌∷◌ (paragraph_at doc j)) w [] tt 1 (length w - 1)
    (λ j p q y z. let o = l.each j p (omega arith) _ refl in ((all_sized doc (suc N) _ (omega (arith, o.below))).paragraph o.at, z, few_parameters doc _ o.at)))
