-- A tree is its shape and its list of numbers: what mapping does to the list; the tree numbered in one way, and back.
use mathlib.Core.Path.{◌≡◌, refl, ap, ap₂, ◌∙◌}
use mathlib.Core.List.{List, [], ◌∷◌, ◌++◌, map}
use Prim.Native.Nat.{ℕ, ◌+◌}
use lib.ListN.{length, length-map}
use Rattle.reader_rules.specs.Tree.{Expr, reference, number, integers, set, tuple, product, power, application, selection, theta, schema_set}
use Rattle.reader_rules.specs.Tree.{arithmetic, comprehension, Exprs, none, more, Pred, truth, equal, member, at_most, not, connected, quantified}
use Rattle.reader_rules.specs.Tree.{Text, text, Lines, end, declaration, inclusion, Include, include, Schema, plain, from, both, Paragraph, given}
use Rattle.reader_rules.specs.Tree.{axiomatic, schema, abbreviation, constraint, Document, document}
use Rattle.reader_rules.specs.TreeNumbers.{expr_numbers, exprs_numbers, pred_numbers, text_numbers, lines_numbers, include_numbers, schema_numbers, paragraph_numbers, paragraphs_numbers, node_numbers}
use Rattle.canonical_rules.specs.MapNodes.{map_expr, map_exprs, map_pred, map_text, map_lines, map_include, map_schema, map_paragraph, map_paragraphs, map_nodes}
use Rattle.canonical_rules.specs.Numbered.{number_expr, number_exprs, number_pred, number_text, number_lines, number_include, number_schema, number_paragraph, number_paragraphs, number_document}
use Rattle.canonical_rules.proofs.Lists.{map_parts, Along, along_split}

-- MAPPING A TREE MAPS ITS NUMBERS.
module _ (f : ℕ → ℕ) where
  mutual
    unfolding expr_numbers map_expr

    pub expr_numbers_lem : (x : Expr) → expr_numbers (map_expr f x) ≡ map f (expr_numbers x)
    expr_numbers_lem (reference n i xs) = map_parts f (exprs_numbers xs) (n ∷ []) (exprs_numbers_lem xs) refl
    expr_numbers_lem (number n v) = refl
    expr_numbers_lem (integers n) = refl
    expr_numbers_lem (set n xs) = map_parts f (exprs_numbers xs) (n ∷ []) (exprs_numbers_lem xs) refl
    expr_numbers_lem (tuple n xs) = map_parts f (exprs_numbers xs) (n ∷ []) (exprs_numbers_lem xs) refl
    expr_numbers_lem (product n xs) = map_parts f (exprs_numbers xs) (n ∷ []) (exprs_numbers_lem xs) refl
    expr_numbers_lem (power n a) = map_parts f (expr_numbers a) (n ∷ []) (expr_numbers_lem a) refl
    expr_numbers_lem (application n a b) = map_parts f (expr_numbers a ++ expr_numbers b) (n ∷ []) (map_parts f (expr_numbers a) (expr_numbers b) (expr_numbers_lem a) (expr_numbers_lem b)) refl
    expr_numbers_lem (selection n a i) = map_parts f (expr_numbers a) (n ∷ []) (expr_numbers_lem a) refl
    expr_numbers_lem (theta n s k) = refl
    expr_numbers_lem (schema_set n i) = map_parts f (include_numbers i) (n ∷ []) (include_numbers_lem i) refl
    expr_numbers_lem (arithmetic n k a b) = map_parts f (expr_numbers a ++ expr_numbers b) (n ∷ []) (map_parts f (expr_numbers a) (expr_numbers b) (expr_numbers_lem a) (expr_numbers_lem b)) refl
    expr_numbers_lem (comprehension n t a) = map_parts f (text_numbers t ++ expr_numbers a) (n ∷ []) (map_parts f (text_numbers t) (expr_numbers a) (text_numbers_lem t) (expr_numbers_lem a)) refl

    pub exprs_numbers_lem : (x : Exprs) → exprs_numbers (map_exprs f x) ≡ map f (exprs_numbers x)
    exprs_numbers_lem none = refl
    exprs_numbers_lem (more a xs) = map_parts f (expr_numbers a) (exprs_numbers xs) (expr_numbers_lem a) (exprs_numbers_lem xs)

    pub pred_numbers_lem : (x : Pred) → pred_numbers (map_pred f x) ≡ map f (pred_numbers x)
    pred_numbers_lem (truth n) = refl
    pred_numbers_lem (equal n a b) = map_parts f (expr_numbers a ++ expr_numbers b) (n ∷ []) (map_parts f (expr_numbers a) (expr_numbers b) (expr_numbers_lem a) (expr_numbers_lem b)) refl
    pred_numbers_lem (member n a b) = map_parts f (expr_numbers a ++ expr_numbers b) (n ∷ []) (map_parts f (expr_numbers a) (expr_numbers b) (expr_numbers_lem a) (expr_numbers_lem b)) refl
    pred_numbers_lem (at_most n a b) = map_parts f (expr_numbers a ++ expr_numbers b) (n ∷ []) (map_parts f (expr_numbers a) (expr_numbers b) (expr_numbers_lem a) (expr_numbers_lem b)) refl
    pred_numbers_lem (not n p) = map_parts f (pred_numbers p) (n ∷ []) (pred_numbers_lem p) refl
    pred_numbers_lem (connected n k p q) = map_parts f (pred_numbers p ++ pred_numbers q) (n ∷ []) (map_parts f (pred_numbers p) (pred_numbers q) (pred_numbers_lem p) (pred_numbers_lem q)) refl
    pred_numbers_lem (quantified n k t p) = map_parts f (text_numbers t ++ pred_numbers p) (n ∷ []) (map_parts f (text_numbers t) (pred_numbers p) (text_numbers_lem t) (pred_numbers_lem p)) refl

    pub text_numbers_lem : (x : Text) → text_numbers (map_text f x) ≡ map f (text_numbers x)
    text_numbers_lem (text n p ls) = map_parts f (pred_numbers p ++ lines_numbers ls) (n ∷ []) (map_parts f (pred_numbers p) (lines_numbers ls) (pred_numbers_lem p) (lines_numbers_lem ls)) refl

    pub lines_numbers_lem : (x : Lines) → lines_numbers (map_lines f x) ≡ map f (lines_numbers x)
    lines_numbers_lem end = refl
    lines_numbers_lem (declaration n a is ls) = map_parts f (expr_numbers a ++ (n ∷ [])) (lines_numbers ls) (map_parts f (expr_numbers a) (n ∷ []) (expr_numbers_lem a) refl) (lines_numbers_lem ls)
    lines_numbers_lem (inclusion i ls) = map_parts f (include_numbers i) (lines_numbers ls) (include_numbers_lem i) (lines_numbers_lem ls)

    pub include_numbers_lem : (x : Include) → include_numbers (map_include f x) ≡ map f (include_numbers x)
    include_numbers_lem (include n s k xs rs) = map_parts f (exprs_numbers xs) (n ∷ []) (exprs_numbers_lem xs) refl

  pub schema_numbers_lem : (x : Schema) → schema_numbers (map_schema f x) ≡ map f (schema_numbers x)
  unfolding schema_numbers map_schema
  schema_numbers_lem (plain t) = text_numbers_lem t
  schema_numbers_lem (from i) = include_numbers_lem i
  schema_numbers_lem (both n a b) = map_parts f (schema_numbers a ++ schema_numbers b) (n ∷ []) (map_parts f (schema_numbers a) (schema_numbers b) (schema_numbers_lem a) (schema_numbers_lem b)) refl

  pub paragraph_numbers_lem : (x : Paragraph) → paragraph_numbers (map_paragraph f x) ≡ map f (paragraph_numbers x)
  unfolding paragraph_numbers map_paragraph
  paragraph_numbers_lem (given n is) = refl
  paragraph_numbers_lem (axiomatic n t) = map_parts f (text_numbers t) (n ∷ []) (text_numbers_lem t) refl
  paragraph_numbers_lem (schema n s ps x) = map_parts f (schema_numbers x) (n ∷ []) (schema_numbers_lem x) refl
  paragraph_numbers_lem (abbreviation n i ps a) = map_parts f (expr_numbers a) (n ∷ []) (expr_numbers_lem a) refl
  paragraph_numbers_lem (constraint n p) = map_parts f (pred_numbers p) (n ∷ []) (pred_numbers_lem p) refl

  pub paragraphs_numbers_lem : (ps : List Paragraph) → paragraphs_numbers (map_paragraphs f ps) ≡ map f (paragraphs_numbers ps)
  unfolding paragraphs_numbers map_paragraphs
  paragraphs_numbers_lem [] = refl
  paragraphs_numbers_lem (p ∷ ps) = map_parts f (paragraph_numbers p) (paragraphs_numbers ps) (paragraph_numbers_lem p) (paragraphs_numbers_lem ps)

  pub node_numbers_lem : (t : Document) → node_numbers (map_nodes f t) ≡ map f (node_numbers t)
  unfolding node_numbers map_nodes
  node_numbers_lem (document n ps) = map_parts f (paragraphs_numbers ps) (n ∷ []) (paragraphs_numbers_lem ps) refl

  length_m : (a : List ℕ) {c : List ℕ} → c ≡ map f a → length c ≡ length a
  length_m a p = ap length p ∙ length-map a f

  sum_m : (a : List ℕ) (o o' : ℕ) → o ≡ o' → {c : List ℕ} → c ≡ map f a → o + length c ≡ o' + length a
  sum_m a o o' q p = ap₂ (λ x y. x + y) q (length_m a p)

  -- NUMBERING FORGETS THE NUMBERS.
  mutual
    unfolding number_expr map_expr

    pub expr_forgets : (x : Expr) (o o' : ℕ) → o ≡ o' → number_expr (map_expr f x) o ≡ number_expr x o'
    expr_forgets (reference n i xs) o o' e = let w = sum_m (exprs_numbers xs) o o' e (exprs_numbers_lem xs) in let e0 = exprs_forgets xs o o' e in λ j. reference (w j) i (e0 j)
    expr_forgets (number n v) o o' e = λ j. number (e j) v
    expr_forgets (integers n) o o' e = λ j. integers (e j)
    expr_forgets (set n xs) o o' e = let w = sum_m (exprs_numbers xs) o o' e (exprs_numbers_lem xs) in let e0 = exprs_forgets xs o o' e in λ j. set (w j) (e0 j)
    expr_forgets (tuple n xs) o o' e = let w = sum_m (exprs_numbers xs) o o' e (exprs_numbers_lem xs) in let e0 = exprs_forgets xs o o' e in λ j. tuple (w j) (e0 j)
    expr_forgets (product n xs) o o' e = let w = sum_m (exprs_numbers xs) o o' e (exprs_numbers_lem xs) in let e0 = exprs_forgets xs o o' e in λ j. product (w j) (e0 j)
    expr_forgets (power n a) o o' e = let w = sum_m (expr_numbers a) o o' e (expr_numbers_lem a) in let e0 = expr_forgets a o o' e in λ j. power (w j) (e0 j)
    expr_forgets (application n a b) o o' e = let w = sum_m (expr_numbers a ++ expr_numbers b) o o' e (map_parts f (expr_numbers a) (expr_numbers b) (expr_numbers_lem a) (expr_numbers_lem b)) in let e0 = expr_forgets a o o' e in let e1 = expr_forgets b _ _ (sum_m (expr_numbers a) o o' e (expr_numbers_lem a)) in λ j. application (w j) (e0 j) (e1 j)
    expr_forgets (selection n a i) o o' e = let w = sum_m (expr_numbers a) o o' e (expr_numbers_lem a) in let e0 = expr_forgets a o o' e in λ j. selection (w j) (e0 j) i
    expr_forgets (theta n s k) o o' e = λ j. theta (e j) s k
    expr_forgets (schema_set n i) o o' e = let w = sum_m (include_numbers i) o o' e (include_numbers_lem i) in let e0 = include_forgets i o o' e in λ j. schema_set (w j) (e0 j)
    expr_forgets (arithmetic n k a b) o o' e = let w = sum_m (expr_numbers a ++ expr_numbers b) o o' e (map_parts f (expr_numbers a) (expr_numbers b) (expr_numbers_lem a) (expr_numbers_lem b)) in let e0 = expr_forgets a o o' e in let e1 = expr_forgets b _ _ (sum_m (expr_numbers a) o o' e (expr_numbers_lem a)) in λ j. arithmetic (w j) k (e0 j) (e1 j)
    expr_forgets (comprehension n t a) o o' e = let w = sum_m (text_numbers t ++ expr_numbers a) o o' e (map_parts f (text_numbers t) (expr_numbers a) (text_numbers_lem t) (expr_numbers_lem a)) in let e0 = text_forgets t o o' e in let e1 = expr_forgets a _ _ (sum_m (text_numbers t) o o' e (text_numbers_lem t)) in λ j. comprehension (w j) (e0 j) (e1 j)

    pub exprs_forgets : (x : Exprs) (o o' : ℕ) → o ≡ o' → number_exprs (map_exprs f x) o ≡ number_exprs x o'
    exprs_forgets none o o' e = refl
    exprs_forgets (more a xs) o o' e = let e0 = expr_forgets a o o' e in let e1 = exprs_forgets xs _ _ (sum_m (expr_numbers a) o o' e (expr_numbers_lem a)) in λ j. more (e0 j) (e1 j)

    pub pred_forgets : (x : Pred) (o o' : ℕ) → o ≡ o' → number_pred (map_pred f x) o ≡ number_pred x o'
    pred_forgets (truth n) o o' e = λ j. truth (e j)
    pred_forgets (equal n a b) o o' e = let w = sum_m (expr_numbers a ++ expr_numbers b) o o' e (map_parts f (expr_numbers a) (expr_numbers b) (expr_numbers_lem a) (expr_numbers_lem b)) in let e0 = expr_forgets a o o' e in let e1 = expr_forgets b _ _ (sum_m (expr_numbers a) o o' e (expr_numbers_lem a)) in λ j. equal (w j) (e0 j) (e1 j)
    pred_forgets (member n a b) o o' e = let w = sum_m (expr_numbers a ++ expr_numbers b) o o' e (map_parts f (expr_numbers a) (expr_numbers b) (expr_numbers_lem a) (expr_numbers_lem b)) in let e0 = expr_forgets a o o' e in let e1 = expr_forgets b _ _ (sum_m (expr_numbers a) o o' e (expr_numbers_lem a)) in λ j. member (w j) (e0 j) (e1 j)
    pred_forgets (at_most n a b) o o' e = let w = sum_m (expr_numbers a ++ expr_numbers b) o o' e (map_parts f (expr_numbers a) (expr_numbers b) (expr_numbers_lem a) (expr_numbers_lem b)) in let e0 = expr_forgets a o o' e in let e1 = expr_forgets b _ _ (sum_m (expr_numbers a) o o' e (expr_numbers_lem a)) in λ j. at_most (w j) (e0 j) (e1 j)
    pred_forgets (not n p) o o' e = let w = sum_m (pred_numbers p) o o' e (pred_numbers_lem p) in let e0 = pred_forgets p o o' e in λ j. not (w j) (e0 j)
    pred_forgets (connected n k p q) o o' e = let w = sum_m (pred_numbers p ++ pred_numbers q) o o' e (map_parts f (pred_numbers p) (pred_numbers q) (pred_numbers_lem p) (pred_numbers_lem q)) in let e0 = pred_forgets p o o' e in let e1 = pred_forgets q _ _ (sum_m (pred_numbers p) o o' e (pred_numbers_lem p)) in λ j. connected (w j) k (e0 j) (e1 j)
    pred_forgets (quantified n k t p) o o' e = let w = sum_m (text_numbers t ++ pred_numbers p) o o' e (map_parts f (text_numbers t) (pred_numbers p) (text_numbers_lem t) (pred_numbers_lem p)) in let e0 = text_forgets t o o' e in let e1 = pred_forgets p _ _ (sum_m (text_numbers t) o o' e (text_numbers_lem t)) in λ j. quantified (w j) k (e0 j) (e1 j)

    pub text_forgets : (x : Text) (o o' : ℕ) → o ≡ o' → number_text (map_text f x) o ≡ number_text x o'
    text_forgets (text n p ls) o o' e = let w = sum_m (pred_numbers p ++ lines_numbers ls) o o' e (map_parts f (pred_numbers p) (lines_numbers ls) (pred_numbers_lem p) (lines_numbers_lem ls)) in let e0 = pred_forgets p o o' e in let e1 = lines_forgets ls _ _ (sum_m (pred_numbers p) o o' e (pred_numbers_lem p)) in λ j. text (w j) (e0 j) (e1 j)

    pub lines_forgets : (x : Lines) (o o' : ℕ) → o ≡ o' → number_lines (map_lines f x) o ≡ number_lines x o'
    lines_forgets end o o' e = refl
    lines_forgets (declaration n a is ls) o o' e = let w = sum_m (expr_numbers a) o o' e (expr_numbers_lem a) in let e0 = expr_forgets a o o' e in let e1 = lines_forgets ls _ _ (sum_m (expr_numbers a ++ (n ∷ [])) o o' e (map_parts f (expr_numbers a) (n ∷ []) (expr_numbers_lem a) refl)) in λ j. declaration (w j) (e0 j) is (e1 j)
    lines_forgets (inclusion i ls) o o' e = let e0 = include_forgets i o o' e in let e1 = lines_forgets ls _ _ (sum_m (include_numbers i) o o' e (include_numbers_lem i)) in λ j. inclusion (e0 j) (e1 j)

    pub include_forgets : (x : Include) (o o' : ℕ) → o ≡ o' → number_include (map_include f x) o ≡ number_include x o'
    include_forgets (include n s k xs rs) o o' e = let w = sum_m (exprs_numbers xs) o o' e (exprs_numbers_lem xs) in let e0 = exprs_forgets xs o o' e in λ j. include (w j) s k (e0 j) rs

  pub schema_forgets : (x : Schema) (o o' : ℕ) → o ≡ o' → number_schema (map_schema f x) o ≡ number_schema x o'
  unfolding number_schema map_schema
  schema_forgets (plain t) o o' e = let e0 = text_forgets t o o' e in λ j. plain (e0 j)
  schema_forgets (from i) o o' e = let e0 = include_forgets i o o' e in λ j. from (e0 j)
  schema_forgets (both n a b) o o' e = let w = sum_m (schema_numbers a ++ schema_numbers b) o o' e (map_parts f (schema_numbers a) (schema_numbers b) (schema_numbers_lem a) (schema_numbers_lem b)) in let e0 = schema_forgets a o o' e in let e1 = schema_forgets b _ _ (sum_m (schema_numbers a) o o' e (schema_numbers_lem a)) in λ j. both (w j) (e0 j) (e1 j)

  pub paragraph_forgets : (x : Paragraph) (o o' : ℕ) → o ≡ o' → number_paragraph (map_paragraph f x) o ≡ number_paragraph x o'
  unfolding number_paragraph map_paragraph
  paragraph_forgets (given n is) o o' e = λ j. given (e j) is
  paragraph_forgets (axiomatic n t) o o' e = let w = sum_m (text_numbers t) o o' e (text_numbers_lem t) in let e0 = text_forgets t o o' e in λ j. axiomatic (w j) (e0 j)
  paragraph_forgets (schema n s ps x) o o' e = let w = sum_m (schema_numbers x) o o' e (schema_numbers_lem x) in let e0 = schema_forgets x o o' e in λ j. schema (w j) s ps (e0 j)
  paragraph_forgets (abbreviation n i ps a) o o' e = let w = sum_m (expr_numbers a) o o' e (expr_numbers_lem a) in let e0 = expr_forgets a o o' e in λ j. abbreviation (w j) i ps (e0 j)
  paragraph_forgets (constraint n p) o o' e = let w = sum_m (pred_numbers p) o o' e (pred_numbers_lem p) in let e0 = pred_forgets p o o' e in λ j. constraint (w j) (e0 j)

  pub paragraphs_forget : (ps : List Paragraph) (o o' : ℕ) → o ≡ o' → number_paragraphs (map_paragraphs f ps) o ≡ number_paragraphs ps o'
  unfolding number_paragraphs map_paragraphs
  paragraphs_forget [] o o' e = refl
  paragraphs_forget (p ∷ ps) o o' e = ap₂ (λ x y. x ∷ y) (paragraph_forgets p o o' e) (paragraphs_forget ps _ _ (sum_m (paragraph_numbers p) o o' e (paragraph_numbers_lem p)))

  pub document_forgets : (t : Document) → number_document (map_nodes f t) ≡ number_document t
  unfolding number_document map_nodes
  document_forgets (document n ps) = ap₂ document (sum_m (paragraphs_numbers ps) 1 1 refl (paragraphs_numbers_lem ps)) (paragraphs_forget ps 1 1 refl)

-- THE NUMBERED TREE WITH THE TREE'S NUMBERS IS THE TREE: g gives at each place the number there.
module _ (g : ℕ → ℕ) where
  abbrev pub Gives : ℕ → ℕ → Type 0
  Gives i x = g i ≡ x

  mutual
    unfolding expr_numbers number_expr map_expr

    pub back_expr : (x : Expr) (o : ℕ) → Along Gives o (expr_numbers x) → map_expr g (number_expr x o) ≡ x
    back_expr (reference n i xs) o h = let r = along_split Gives (exprs_numbers xs) (n ∷ []) o h in let e = r.1.0 in let e0 = back_exprs xs o r.0 in λ j. reference (e j) i (e0 j)
    back_expr (number n v) o h = let e = h.0 in λ j. number (e j) v
    back_expr (integers n) o h = let e = h.0 in λ j. integers (e j)
    back_expr (set n xs) o h = let r = along_split Gives (exprs_numbers xs) (n ∷ []) o h in let e = r.1.0 in let e0 = back_exprs xs o r.0 in λ j. set (e j) (e0 j)
    back_expr (tuple n xs) o h = let r = along_split Gives (exprs_numbers xs) (n ∷ []) o h in let e = r.1.0 in let e0 = back_exprs xs o r.0 in λ j. tuple (e j) (e0 j)
    back_expr (product n xs) o h = let r = along_split Gives (exprs_numbers xs) (n ∷ []) o h in let e = r.1.0 in let e0 = back_exprs xs o r.0 in λ j. product (e j) (e0 j)
    back_expr (power n a) o h = let r = along_split Gives (expr_numbers a) (n ∷ []) o h in let e = r.1.0 in let e0 = back_expr a o r.0 in λ j. power (e j) (e0 j)
    back_expr (application n a b) o h = let r = along_split Gives (expr_numbers a ++ expr_numbers b) (n ∷ []) o h in let s = along_split Gives (expr_numbers a) (expr_numbers b) o r.0 in let e = r.1.0 in let e0 = back_expr a o s.0 in let e1 = back_expr b (o + length (expr_numbers a)) s.1 in λ j. application (e j) (e0 j) (e1 j)
    back_expr (selection n a i) o h = let r = along_split Gives (expr_numbers a) (n ∷ []) o h in let e = r.1.0 in let e0 = back_expr a o r.0 in λ j. selection (e j) (e0 j) i
    back_expr (theta n s k) o h = let e = h.0 in λ j. theta (e j) s k
    back_expr (schema_set n i) o h = let r = along_split Gives (include_numbers i) (n ∷ []) o h in let e = r.1.0 in let e0 = back_include i o r.0 in λ j. schema_set (e j) (e0 j)
    back_expr (arithmetic n k a b) o h = let r = along_split Gives (expr_numbers a ++ expr_numbers b) (n ∷ []) o h in let s = along_split Gives (expr_numbers a) (expr_numbers b) o r.0 in let e = r.1.0 in let e0 = back_expr a o s.0 in let e1 = back_expr b (o + length (expr_numbers a)) s.1 in λ j. arithmetic (e j) k (e0 j) (e1 j)
    back_expr (comprehension n t a) o h = let r = along_split Gives (text_numbers t ++ expr_numbers a) (n ∷ []) o h in let s = along_split Gives (text_numbers t) (expr_numbers a) o r.0 in let e = r.1.0 in let e0 = back_text t o s.0 in let e1 = back_expr a (o + length (text_numbers t)) s.1 in λ j. comprehension (e j) (e0 j) (e1 j)

    pub back_exprs : (x : Exprs) (o : ℕ) → Along Gives o (exprs_numbers x) → map_exprs g (number_exprs x o) ≡ x
    back_exprs none o h = refl
    back_exprs (more a xs) o h = let s = along_split Gives (expr_numbers a) (exprs_numbers xs) o h in let e0 = back_expr a o s.0 in let e1 = back_exprs xs (o + length (expr_numbers a)) s.1 in λ j. more (e0 j) (e1 j)

    pub back_pred : (x : Pred) (o : ℕ) → Along Gives o (pred_numbers x) → map_pred g (number_pred x o) ≡ x
    back_pred (truth n) o h = let e = h.0 in λ j. truth (e j)
    back_pred (equal n a b) o h = let r = along_split Gives (expr_numbers a ++ expr_numbers b) (n ∷ []) o h in let s = along_split Gives (expr_numbers a) (expr_numbers b) o r.0 in let e = r.1.0 in let e0 = back_expr a o s.0 in let e1 = back_expr b (o + length (expr_numbers a)) s.1 in λ j. equal (e j) (e0 j) (e1 j)
    back_pred (member n a b) o h = let r = along_split Gives (expr_numbers a ++ expr_numbers b) (n ∷ []) o h in let s = along_split Gives (expr_numbers a) (expr_numbers b) o r.0 in let e = r.1.0 in let e0 = back_expr a o s.0 in let e1 = back_expr b (o + length (expr_numbers a)) s.1 in λ j. member (e j) (e0 j) (e1 j)
    back_pred (at_most n a b) o h = let r = along_split Gives (expr_numbers a ++ expr_numbers b) (n ∷ []) o h in let s = along_split Gives (expr_numbers a) (expr_numbers b) o r.0 in let e = r.1.0 in let e0 = back_expr a o s.0 in let e1 = back_expr b (o + length (expr_numbers a)) s.1 in λ j. at_most (e j) (e0 j) (e1 j)
    back_pred (not n p) o h = let r = along_split Gives (pred_numbers p) (n ∷ []) o h in let e = r.1.0 in let e0 = back_pred p o r.0 in λ j. not (e j) (e0 j)
    back_pred (connected n k p q) o h = let r = along_split Gives (pred_numbers p ++ pred_numbers q) (n ∷ []) o h in let s = along_split Gives (pred_numbers p) (pred_numbers q) o r.0 in let e = r.1.0 in let e0 = back_pred p o s.0 in let e1 = back_pred q (o + length (pred_numbers p)) s.1 in λ j. connected (e j) k (e0 j) (e1 j)
    back_pred (quantified n k t p) o h = let r = along_split Gives (text_numbers t ++ pred_numbers p) (n ∷ []) o h in let s = along_split Gives (text_numbers t) (pred_numbers p) o r.0 in let e = r.1.0 in let e0 = back_text t o s.0 in let e1 = back_pred p (o + length (text_numbers t)) s.1 in λ j. quantified (e j) k (e0 j) (e1 j)

    pub back_text : (x : Text) (o : ℕ) → Along Gives o (text_numbers x) → map_text g (number_text x o) ≡ x
    back_text (text n p ls) o h = let r = along_split Gives (pred_numbers p ++ lines_numbers ls) (n ∷ []) o h in let s = along_split Gives (pred_numbers p) (lines_numbers ls) o r.0 in let e = r.1.0 in let e0 = back_pred p o s.0 in let e1 = back_lines ls (o + length (pred_numbers p)) s.1 in λ j. text (e j) (e0 j) (e1 j)

    pub back_lines : (x : Lines) (o : ℕ) → Along Gives o (lines_numbers x) → map_lines g (number_lines x o) ≡ x
    back_lines end o h = refl
    back_lines (declaration n a is ls) o h = let s = along_split Gives (expr_numbers a ++ (n ∷ [])) (lines_numbers ls) o h in let r = along_split Gives (expr_numbers a) (n ∷ []) o s.0 in let e = r.1.0 in let e0 = back_expr a o r.0 in let e1 = back_lines ls (o + length (expr_numbers a ++ (n ∷ []))) s.1 in λ j. declaration (e j) (e0 j) is (e1 j)
    back_lines (inclusion i ls) o h = let s = along_split Gives (include_numbers i) (lines_numbers ls) o h in let e0 = back_include i o s.0 in let e1 = back_lines ls (o + length (include_numbers i)) s.1 in λ j. inclusion (e0 j) (e1 j)

    pub back_include : (x : Include) (o : ℕ) → Along Gives o (include_numbers x) → map_include g (number_include x o) ≡ x
    back_include (include n s k xs rs) o h = let r = along_split Gives (exprs_numbers xs) (n ∷ []) o h in let e = r.1.0 in let e0 = back_exprs xs o r.0 in λ j. include (e j) s k (e0 j) rs

  pub back_schema : (x : Schema) (o : ℕ) → Along Gives o (schema_numbers x) → map_schema g (number_schema x o) ≡ x
  unfolding schema_numbers number_schema map_schema
  back_schema (plain t) o h = let e0 = back_text t o h in λ j. plain (e0 j)
  back_schema (from i) o h = let e0 = back_include i o h in λ j. from (e0 j)
  back_schema (both n a b) o h = let r = along_split Gives (schema_numbers a ++ schema_numbers b) (n ∷ []) o h in let s = along_split Gives (schema_numbers a) (schema_numbers b) o r.0 in let e = r.1.0 in let e0 = back_schema a o s.0 in let e1 = back_schema b (o + length (schema_numbers a)) s.1 in λ j. both (e j) (e0 j) (e1 j)

  pub back_paragraph : (x : Paragraph) (o : ℕ) → Along Gives o (paragraph_numbers x) → map_paragraph g (number_paragraph x o) ≡ x
  unfolding paragraph_numbers number_paragraph map_paragraph
  back_paragraph (given n is) o h = let e = h.0 in λ j. given (e j) is
  back_paragraph (axiomatic n t) o h = let r = along_split Gives (text_numbers t) (n ∷ []) o h in let e = r.1.0 in let e0 = back_text t o r.0 in λ j. axiomatic (e j) (e0 j)
  back_paragraph (schema n s ps x) o h = let r = along_split Gives (schema_numbers x) (n ∷ []) o h in let e = r.1.0 in let e0 = back_schema x o r.0 in λ j. schema (e j) s ps (e0 j)
  back_paragraph (abbreviation n i ps a) o h = let r = along_split Gives (expr_numbers a) (n ∷ []) o h in let e = r.1.0 in let e0 = back_expr a o r.0 in λ j. abbreviation (e j) i ps (e0 j)
  back_paragraph (constraint n p) o h = let r = along_split Gives (pred_numbers p) (n ∷ []) o h in let e = r.1.0 in let e0 = back_pred p o r.0 in λ j. constraint (e j) (e0 j)

  pub back_paragraphs : (ps : List Paragraph) (o : ℕ) → Along Gives o (paragraphs_numbers ps) → map_paragraphs g (number_paragraphs ps o) ≡ ps
  unfolding paragraphs_numbers number_paragraphs map_paragraphs
  back_paragraphs [] o h = refl
  back_paragraphs (p ∷ ps) o h = let s = along_split Gives (paragraph_numbers p) (paragraphs_numbers ps) o h in ap₂ (λ x y. x ∷ y) (back_paragraph p o s.0) (back_paragraphs ps _ s.1)

  pub back_document : (t : Document) → Along Gives 1 (node_numbers t) → map_nodes g (number_document t) ≡ t
  unfolding node_numbers number_document map_nodes
  back_document (document n ps) h = let s = along_split Gives (paragraphs_numbers ps) (n ∷ []) 1 h in ap₂ document s.1.0 (back_paragraphs ps 1 s.0)

-- THE TREE WITH ITS NUMBERS' PLACES IS THE NUMBERED TREE: h gives of each number its place.
module _ (g : ℕ → ℕ) where
  abbrev pub Places : ℕ → ℕ → Type 0
  Places i x = g x ≡ i

  mutual
    unfolding expr_numbers number_expr map_expr

    pub place_expr : (x : Expr) (o : ℕ) → Along Places o (expr_numbers x) → map_expr g x ≡ number_expr x o
    place_expr (reference n i xs) o h = let r = along_split Places (exprs_numbers xs) (n ∷ []) o h in let e = r.1.0 in let e0 = place_exprs xs o r.0 in λ j. reference (e j) i (e0 j)
    place_expr (number n v) o h = let e = h.0 in λ j. number (e j) v
    place_expr (integers n) o h = let e = h.0 in λ j. integers (e j)
    place_expr (set n xs) o h = let r = along_split Places (exprs_numbers xs) (n ∷ []) o h in let e = r.1.0 in let e0 = place_exprs xs o r.0 in λ j. set (e j) (e0 j)
    place_expr (tuple n xs) o h = let r = along_split Places (exprs_numbers xs) (n ∷ []) o h in let e = r.1.0 in let e0 = place_exprs xs o r.0 in λ j. tuple (e j) (e0 j)
    place_expr (product n xs) o h = let r = along_split Places (exprs_numbers xs) (n ∷ []) o h in let e = r.1.0 in let e0 = place_exprs xs o r.0 in λ j. product (e j) (e0 j)
    place_expr (power n a) o h = let r = along_split Places (expr_numbers a) (n ∷ []) o h in let e = r.1.0 in let e0 = place_expr a o r.0 in λ j. power (e j) (e0 j)
    place_expr (application n a b) o h = let r = along_split Places (expr_numbers a ++ expr_numbers b) (n ∷ []) o h in let s = along_split Places (expr_numbers a) (expr_numbers b) o r.0 in let e = r.1.0 in let e0 = place_expr a o s.0 in let e1 = place_expr b (o + length (expr_numbers a)) s.1 in λ j. application (e j) (e0 j) (e1 j)
    place_expr (selection n a i) o h = let r = along_split Places (expr_numbers a) (n ∷ []) o h in let e = r.1.0 in let e0 = place_expr a o r.0 in λ j. selection (e j) (e0 j) i
    place_expr (theta n s k) o h = let e = h.0 in λ j. theta (e j) s k
    place_expr (schema_set n i) o h = let r = along_split Places (include_numbers i) (n ∷ []) o h in let e = r.1.0 in let e0 = place_include i o r.0 in λ j. schema_set (e j) (e0 j)
    place_expr (arithmetic n k a b) o h = let r = along_split Places (expr_numbers a ++ expr_numbers b) (n ∷ []) o h in let s = along_split Places (expr_numbers a) (expr_numbers b) o r.0 in let e = r.1.0 in let e0 = place_expr a o s.0 in let e1 = place_expr b (o + length (expr_numbers a)) s.1 in λ j. arithmetic (e j) k (e0 j) (e1 j)
    place_expr (comprehension n t a) o h = let r = along_split Places (text_numbers t ++ expr_numbers a) (n ∷ []) o h in let s = along_split Places (text_numbers t) (expr_numbers a) o r.0 in let e = r.1.0 in let e0 = place_text t o s.0 in let e1 = place_expr a (o + length (text_numbers t)) s.1 in λ j. comprehension (e j) (e0 j) (e1 j)

    pub place_exprs : (x : Exprs) (o : ℕ) → Along Places o (exprs_numbers x) → map_exprs g x ≡ number_exprs x o
    place_exprs none o h = refl
    place_exprs (more a xs) o h = let s = along_split Places (expr_numbers a) (exprs_numbers xs) o h in let e0 = place_expr a o s.0 in let e1 = place_exprs xs (o + length (expr_numbers a)) s.1 in λ j. more (e0 j) (e1 j)

    pub place_pred : (x : Pred) (o : ℕ) → Along Places o (pred_numbers x) → map_pred g x ≡ number_pred x o
    place_pred (truth n) o h = let e = h.0 in λ j. truth (e j)
    place_pred (equal n a b) o h = let r = along_split Places (expr_numbers a ++ expr_numbers b) (n ∷ []) o h in let s = along_split Places (expr_numbers a) (expr_numbers b) o r.0 in let e = r.1.0 in let e0 = place_expr a o s.0 in let e1 = place_expr b (o + length (expr_numbers a)) s.1 in λ j. equal (e j) (e0 j) (e1 j)
    place_pred (member n a b) o h = let r = along_split Places (expr_numbers a ++ expr_numbers b) (n ∷ []) o h in let s = along_split Places (expr_numbers a) (expr_numbers b) o r.0 in let e = r.1.0 in let e0 = place_expr a o s.0 in let e1 = place_expr b (o + length (expr_numbers a)) s.1 in λ j. member (e j) (e0 j) (e1 j)
    place_pred (at_most n a b) o h = let r = along_split Places (expr_numbers a ++ expr_numbers b) (n ∷ []) o h in let s = along_split Places (expr_numbers a) (expr_numbers b) o r.0 in let e = r.1.0 in let e0 = place_expr a o s.0 in let e1 = place_expr b (o + length (expr_numbers a)) s.1 in λ j. at_most (e j) (e0 j) (e1 j)
    place_pred (not n p) o h = let r = along_split Places (pred_numbers p) (n ∷ []) o h in let e = r.1.0 in let e0 = place_pred p o r.0 in λ j. not (e j) (e0 j)
    place_pred (connected n k p q) o h = let r = along_split Places (pred_numbers p ++ pred_numbers q) (n ∷ []) o h in let s = along_split Places (pred_numbers p) (pred_numbers q) o r.0 in let e = r.1.0 in let e0 = place_pred p o s.0 in let e1 = place_pred q (o + length (pred_numbers p)) s.1 in λ j. connected (e j) k (e0 j) (e1 j)
    place_pred (quantified n k t p) o h = let r = along_split Places (text_numbers t ++ pred_numbers p) (n ∷ []) o h in let s = along_split Places (text_numbers t) (pred_numbers p) o r.0 in let e = r.1.0 in let e0 = place_text t o s.0 in let e1 = place_pred p (o + length (text_numbers t)) s.1 in λ j. quantified (e j) k (e0 j) (e1 j)

    pub place_text : (x : Text) (o : ℕ) → Along Places o (text_numbers x) → map_text g x ≡ number_text x o
    place_text (text n p ls) o h = let r = along_split Places (pred_numbers p ++ lines_numbers ls) (n ∷ []) o h in let s = along_split Places (pred_numbers p) (lines_numbers ls) o r.0 in let e = r.1.0 in let e0 = place_pred p o s.0 in let e1 = place_lines ls (o + length (pred_numbers p)) s.1 in λ j. text (e j) (e0 j) (e1 j)

    pub place_lines : (x : Lines) (o : ℕ) → Along Places o (lines_numbers x) → map_lines g x ≡ number_lines x o
    place_lines end o h = refl
    place_lines (declaration n a is ls) o h = let s = along_split Places (expr_numbers a ++ (n ∷ [])) (lines_numbers ls) o h in let r = along_split Places (expr_numbers a) (n ∷ []) o s.0 in let e = r.1.0 in let e0 = place_expr a o r.0 in let e1 = place_lines ls (o + length (expr_numbers a ++ (n ∷ []))) s.1 in λ j. declaration (e j) (e0 j) is (e1 j)
    place_lines (inclusion i ls) o h = let s = along_split Places (include_numbers i) (lines_numbers ls) o h in let e0 = place_include i o s.0 in let e1 = place_lines ls (o + length (include_numbers i)) s.1 in λ j. inclusion (e0 j) (e1 j)

    pub place_include : (x : Include) (o : ℕ) → Along Places o (include_numbers x) → map_include g x ≡ number_include x o
    place_include (include n s k xs rs) o h = let r = along_split Places (exprs_numbers xs) (n ∷ []) o h in let e = r.1.0 in let e0 = place_exprs xs o r.0 in λ j. include (e j) s k (e0 j) rs

  pub place_schema : (x : Schema) (o : ℕ) → Along Places o (schema_numbers x) → map_schema g x ≡ number_schema x o
  unfolding schema_numbers number_schema map_schema
  place_schema (plain t) o h = let e0 = place_text t o h in λ j. plain (e0 j)
  place_schema (from i) o h = let e0 = place_include i o h in λ j. from (e0 j)
  place_schema (both n a b) o h = let r = along_split Places (schema_numbers a ++ schema_numbers b) (n ∷ []) o h in let s = along_split Places (schema_numbers a) (schema_numbers b) o r.0 in let e = r.1.0 in let e0 = place_schema a o s.0 in let e1 = place_schema b (o + length (schema_numbers a)) s.1 in λ j. both (e j) (e0 j) (e1 j)

  pub place_paragraph : (x : Paragraph) (o : ℕ) → Along Places o (paragraph_numbers x) → map_paragraph g x ≡ number_paragraph x o
  unfolding paragraph_numbers number_paragraph map_paragraph
  place_paragraph (given n is) o h = let e = h.0 in λ j. given (e j) is
  place_paragraph (axiomatic n t) o h = let r = along_split Places (text_numbers t) (n ∷ []) o h in let e = r.1.0 in let e0 = place_text t o r.0 in λ j. axiomatic (e j) (e0 j)
  place_paragraph (schema n s ps x) o h = let r = along_split Places (schema_numbers x) (n ∷ []) o h in let e = r.1.0 in let e0 = place_schema x o r.0 in λ j. schema (e j) s ps (e0 j)
  place_paragraph (abbreviation n i ps a) o h = let r = along_split Places (expr_numbers a) (n ∷ []) o h in let e = r.1.0 in let e0 = place_expr a o r.0 in λ j. abbreviation (e j) i ps (e0 j)
  place_paragraph (constraint n p) o h = let r = along_split Places (pred_numbers p) (n ∷ []) o h in let e = r.1.0 in let e0 = place_pred p o r.0 in λ j. constraint (e j) (e0 j)

  pub place_paragraphs : (ps : List Paragraph) (o : ℕ) → Along Places o (paragraphs_numbers ps) → map_paragraphs g ps ≡ number_paragraphs ps o
  unfolding paragraphs_numbers number_paragraphs map_paragraphs
  place_paragraphs [] o h = refl
  place_paragraphs (p ∷ ps) o h = let s = along_split Places (paragraph_numbers p) (paragraphs_numbers ps) o h in ap₂ (λ x y. x ∷ y) (place_paragraph p o s.0) (place_paragraphs ps _ s.1)

  pub place_document : (t : Document) → Along Places 1 (node_numbers t) → map_nodes g t ≡ number_document t
  unfolding node_numbers number_document map_nodes
  place_document (document n ps) h = let s = along_split Places (paragraphs_numbers ps) (n ∷ []) 1 h in ap₂ document s.1.0 (place_paragraphs ps 1 s.0)
