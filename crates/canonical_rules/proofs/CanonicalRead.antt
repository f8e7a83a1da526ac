-- THE CANONICAL WORDS ARE READ BACK: their tree is the tree, numbered in one way.
use mathlib.Core.Path.{◌≡◌, refl, ap, ap₂, sym, ◌∙◌, subst}
use mathlib.Core.List.{List, [], ◌∷◌, ◌++◌}
use Prim.Native.Nat.{ℕ, zero, suc, ◌+◌, ◌*◌, ◌-◌, ◌/◌, ◌≤◌, ◌<◌}
use native.Mathlib.Omega.{arith}
use native.Mathlib.Numerals.{add-three}
use lib.ListN.{length, get_or, length-append}
use lib.Seq.{take-append_seam, get_or-append_seam}
use Rattle.layout.specs.Layout.{count, part}
use Rattle.reader_rules.specs.Tree.{Operator, plus, minus, times, quotient, remainder, Connective, and, or, implies, Quantifier, forall, exists}
use Rattle.reader_rules.specs.Tree.{Expr, reference, number, integers, set, tuple, product, power, application, selection, theta, schema_set}
use Rattle.reader_rules.specs.Tree.{arithmetic, comprehension, Exprs, none, more, Pred, truth, equal, member, at_most, not, connected, quantified}
use Rattle.reader_rules.specs.Tree.{Text, text, Lines, end, declaration, inclusion, Include, include, Schema, plain, from, both, Paragraph, given}
use Rattle.reader_rules.specs.Tree.{axiomatic, schema, abbreviation, constraint, Document, document, expr_node, pred_node, text_node, include_node, schema_node, paragraph_node, exprs_length}
use Rattle.reader_rules.specs.TreeNumbers.{expr_numbers, exprs_numbers, pred_numbers, text_numbers, lines_numbers, include_numbers, schema_numbers, paragraph_numbers, paragraphs_numbers}
use Rattle.reader_rules.specs.LowerNodes.{lower}
use Rattle.reader_rules.specs.Decode.{Node, no_node, gather, pairs_from, unlisted, makers, make_at, node_at, tree_of}
use Rattle.reader_rules.proofs.LowerNodes.{lower_lt, meaning_eq}
use Rattle.canonical_rules.specs.Numbered.{number_expr, number_exprs, number_pred, number_text, number_lines, number_include, number_schema, number_paragraph, number_paragraphs, number_document}
use Rattle.canonical_rules.specs.Canonical.{exprs_nodes, lines_nodes, paragraphs_nodes, operator_kind, connective_kind, quantifier_kind}
use Rattle.layout.specs.Rows.{Rows}
use Rattle.canonical_rules.specs.Canonical.{pair_words, expr_rows, exprs_rows, pred_rows, text_rows, lines_rows, include_rows, schema_rows, paragraph_rows}
use Rattle.layout.specs.Rows.{lay_out}
use Rattle.canonical_rules.specs.Canonical.{paragraphs_rows, document_rows, canonical_of}
use Rattle.canonical_rules.proofs.RowParts.{Holds, holds_split, holds_all}
use Rattle.canonical_rules.proofs.NodeMaps.{nodes_length}

-- AS MANY ROWS AS NODES.
len_a : (a b : Rows) (c d : List ℕ) → length a ≡ length c → length b ≡ length d → length (a ++ b) ≡ length (c ++ d)
len_a a b c d p q = length-append a b ∙ ap₂ (λ x y. x + y) p q ∙ sym (length-append c d)

mutual
  unfolding expr_rows number_expr expr_numbers

  pub expr_len : (x : Expr) (o : ℕ) → length (expr_rows (number_expr x o)) ≡ length (expr_numbers x)
  expr_len (reference n i xs) o = len_a (exprs_rows (number_exprs xs o)) _ (exprs_numbers xs) (n ∷ []) (exprs_len xs o) refl
  expr_len (number n v) o = refl
  expr_len (integers n) o = refl
  expr_len (set n xs) o = len_a (exprs_rows (number_exprs xs o)) _ (exprs_numbers xs) (n ∷ []) (exprs_len xs o) refl
  expr_len (tuple n xs) o = len_a (exprs_rows (number_exprs xs o)) _ (exprs_numbers xs) (n ∷ []) (exprs_len xs o) refl
  expr_len (product n xs) o = len_a (exprs_rows (number_exprs xs o)) _ (exprs_numbers xs) (n ∷ []) (exprs_len xs o) refl
  expr_len (power n a) o = len_a (expr_rows (number_expr a o)) _ (expr_numbers a) (n ∷ []) (expr_len a o) refl
  expr_len (application n a b) o = len_a (expr_rows (number_expr a o) ++ expr_rows (number_expr b (o + length (expr_numbers a)))) _ (expr_numbers a ++ expr_numbers b) (n ∷ []) (len_a (expr_rows (number_expr a o)) (expr_rows (number_expr b (o + length (expr_numbers a)))) (expr_numbers a) (expr_numbers b) (expr_len a o) (expr_len b _)) refl
  expr_len (selection n a i) o = len_a (expr_rows (number_expr a o)) _ (expr_numbers a) (n ∷ []) (expr_len a o) refl
  expr_len (theta n s k) o = refl
  expr_len (schema_set n i) o = len_a (include_rows (number_include i o)) _ (include_numbers i) (n ∷ []) (include_len i o) refl
  expr_len (arithmetic n k a b) o = len_a (expr_rows (number_expr a o) ++ expr_rows (number_expr b (o + length (expr_numbers a)))) _ (expr_numbers a ++ expr_numbers b) (n ∷ []) (len_a (expr_rows (number_expr a o)) (expr_rows (number_expr b (o + length (expr_numbers a)))) (expr_numbers a) (expr_numbers b) (expr_len a o) (expr_len b _)) refl
  expr_len (comprehension n t a) o = len_a (text_rows (number_text t o) ++ expr_rows (number_expr a (o + length (text_numbers t)))) _ (text_numbers t ++ expr_numbers a) (n ∷ []) (len_a (text_rows (number_text t o)) (expr_rows (number_expr a (o + length (text_numbers t)))) (text_numbers t) (expr_numbers a) (text_len t o) (expr_len a _)) refl

  pub exprs_len : (x : Exprs) (o : ℕ) → length (exprs_rows (number_exprs x o)) ≡ length (exprs_numbers x)
  exprs_len none o = refl
  exprs_len (more a xs) o = len_a (expr_rows (number_expr a o)) (exprs_rows (number_exprs xs (o + length (expr_numbers a)))) (expr_numbers a) (exprs_numbers xs) (expr_len a o) (exprs_len xs _)

  pub pred_len : (x : Pred) (o : ℕ) → length (pred_rows (number_pred x o)) ≡ length (pred_numbers x)
  pred_len (truth n) o = refl
  pred_len (equal n a b) o = len_a (expr_rows (number_expr a o) ++ expr_rows (number_expr b (o + length (expr_numbers a)))) _ (expr_numbers a ++ expr_numbers b) (n ∷ []) (len_a (expr_rows (number_expr a o)) (expr_rows (number_expr b (o + length (expr_numbers a)))) (expr_numbers a) (expr_numbers b) (expr_len a o) (expr_len b _)) refl
  pred_len (member n a b) o = len_a (expr_rows (number_expr a o) ++ expr_rows (number_expr b (o + length (expr_numbers a)))) _ (expr_numbers a ++ expr_numbers b) (n ∷ []) (len_a (expr_rows (number_expr a o)) (expr_rows (number_expr b (o + length (expr_numbers a)))) (expr_numbers a) (expr_numbers b) (expr_len a o) (expr_len b _)) refl
  pred_len (at_most n a b) o = len_a (expr_rows (number_expr a o) ++ expr_rows (number_expr b (o + length (expr_numbers a)))) _ (expr_numbers a ++ expr_numbers b) (n ∷ []) (len_a (expr_rows (number_expr a o)) (expr_rows (number_expr b (o + length (expr_numbers a)))) (expr_numbers a) (expr_numbers b) (expr_len a o) (expr_len b _)) refl
  pred_len (not n p) o = len_a (pred_rows (number_pred p o)) _ (pred_numbers p) (n ∷ []) (pred_len p o) refl
  pred_len (connected n k p q) o = len_a (pred_rows (number_pred p o) ++ pred_rows (number_pred q (o + length (pred_numbers p)))) _ (pred_numbers p ++ pred_numbers q) (n ∷ []) (len_a (pred_rows (number_pred p o)) (pred_rows (number_pred q (o + length (pred_numbers p)))) (pred_numbers p) (pred_numbers q) (pred_len p o) (pred_len q _)) refl
  pred_len (quantified n k t p) o = len_a (text_rows (number_text t o) ++ pred_rows (number_pred p (o + length (text_numbers t)))) _ (text_numbers t ++ pred_numbers p) (n ∷ []) (len_a (text_rows (number_text t o)) (pred_rows (number_pred p (o + length (text_numbers t)))) (text_numbers t) (pred_numbers p) (text_len t o) (pred_len p _)) refl

  pub text_len : (x : Text) (o : ℕ) → length (text_rows (number_text x o)) ≡ length (text_numbers x)
  text_len (text n p ls) o = len_a (pred_rows (number_pred p o) ++ lines_rows (number_lines ls (o + length (pred_numbers p)))) _ (pred_numbers p ++ lines_numbers ls) (n ∷ []) (len_a (pred_rows (number_pred p o)) (lines_rows (number_lines ls (o + length (pred_numbers p)))) (pred_numbers p) (lines_numbers ls) (pred_len p o) (lines_len ls _)) refl

  pub lines_len : (x : Lines) (o : ℕ) → length (lines_rows (number_lines x o)) ≡ length (lines_numbers x)
  lines_len end o = refl
  lines_len (declaration n a is ls) o = len_a (expr_rows (number_expr a o) ++ ((11 ∷ expr_node (number_expr a o) ∷ is) ∷ [])) (lines_rows (number_lines ls (o + length (expr_numbers a ++ (n ∷ []))))) (expr_numbers a ++ (n ∷ [])) (lines_numbers ls) (len_a (expr_rows (number_expr a o)) ((11 ∷ expr_node (number_expr a o) ∷ is) ∷ []) (expr_numbers a) (n ∷ []) (expr_len a o) refl) (lines_len ls _)
  lines_len (inclusion i ls) o = len_a (include_rows (number_include i o)) (lines_rows (number_lines ls (o + length (include_numbers i)))) (include_numbers i) (lines_numbers ls) (include_len i o) (lines_len ls _)

  pub include_len : (x : Include) (o : ℕ) → length (include_rows (number_include x o)) ≡ length (include_numbers x)
  include_len (include n s k xs rs) o = len_a (exprs_rows (number_exprs xs o)) _ (exprs_numbers xs) (n ∷ []) (exprs_len xs o) refl

pub schema_len : (x : Schema) (o : ℕ) → length (schema_rows (number_schema x o)) ≡ length (schema_numbers x)
unfolding schema_rows number_schema schema_numbers
schema_len (plain t) o = text_len t o
schema_len (from i) o = include_len i o
schema_len (both n a b) o = len_a (schema_rows (number_schema a o) ++ schema_rows (number_schema b (o + length (schema_numbers a)))) _ (schema_numbers a ++ schema_numbers b) (n ∷ []) (len_a (schema_rows (number_schema a o)) (schema_rows (number_schema b (o + length (schema_numbers a)))) (schema_numbers a) (schema_numbers b) (schema_len a o) (schema_len b _)) refl

pub paragraph_len : (x : Paragraph) (o : ℕ) → length (paragraph_rows (number_paragraph x o)) ≡ length (paragraph_numbers x)
unfolding paragraph_rows number_paragraph paragraph_numbers
paragraph_len (given n is) o = refl
paragraph_len (axiomatic n t) o = len_a (text_rows (number_text t o)) _ (text_numbers t) (n ∷ []) (text_len t o) refl
paragraph_len (schema n s ps x) o = len_a (schema_rows (number_schema x o)) _ (schema_numbers x) (n ∷ []) (schema_len x o) refl
paragraph_len (abbreviation n i ps a) o = len_a (expr_rows (number_expr a o)) _ (expr_numbers a) (n ∷ []) (expr_len a o) refl
paragraph_len (constraint n p) o = len_a (pred_rows (number_pred p o)) _ (pred_numbers p) (n ∷ []) (pred_len p o) refl

pub paragraphs_len : (ps : List Paragraph) (o : ℕ) → length (paragraphs_rows (number_paragraphs ps o)) ≡ length (paragraphs_numbers ps)
unfolding paragraphs_rows number_paragraphs paragraphs_numbers
paragraphs_len [] o = refl
paragraphs_len (p ∷ ps) o = len_a (paragraph_rows (number_paragraph p o)) (paragraphs_rows (number_paragraphs ps (o + length (paragraph_numbers p)))) (paragraph_numbers p) (paragraphs_numbers ps) (paragraph_len p o) (paragraphs_len ps _)

-- A TREE'S ROOT HAS THE LAST OF ITS NUMBERS.
root_a : (l : List ℕ) (n o : ℕ) → suc (o + length l) ≡ o + length (l ++ (n ∷ []))
root_a l n o = let e = length-append l (n ∷ []) in omega (arith, e)

root0 : (o : ℕ) → suc o ≡ o + 1
root0 o = omega arith

expr_root : (x : Expr) (o : ℕ) → suc (expr_node (number_expr x o)) ≡ o + length (expr_numbers x)
unfolding expr_node number_expr expr_numbers
expr_root (reference n i xs) o = root_a (exprs_numbers xs) n o
expr_root (number n v) o = root0 o
expr_root (integers n) o = root0 o
expr_root (set n xs) o = root_a (exprs_numbers xs) n o
expr_root (tuple n xs) o = root_a (exprs_numbers xs) n o
expr_root (product n xs) o = root_a (exprs_numbers xs) n o
expr_root (power n a) o = root_a (expr_numbers a) n o
expr_root (application n a b) o = root_a (expr_numbers a ++ expr_numbers b) n o
expr_root (selection n a i) o = root_a (expr_numbers a) n o
expr_root (theta n s k) o = root0 o
expr_root (schema_set n i) o = root_a (include_numbers i) n o
expr_root (arithmetic n k a b) o = root_a (expr_numbers a ++ expr_numbers b) n o
expr_root (comprehension n t a) o = root_a (text_numbers t ++ expr_numbers a) n o

pred_root : (x : Pred) (o : ℕ) → suc (pred_node (number_pred x o)) ≡ o + length (pred_numbers x)
unfolding pred_node number_pred pred_numbers
pred_root (truth n) o = root0 o
pred_root (equal n a b) o = root_a (expr_numbers a ++ expr_numbers b) n o
pred_root (member n a b) o = root_a (expr_numbers a ++ expr_numbers b) n o
pred_root (at_most n a b) o = root_a (expr_numbers a ++ expr_numbers b) n o
pred_root (not n p) o = root_a (pred_numbers p) n o
pred_root (connected n k p q) o = root_a (pred_numbers p ++ pred_numbers q) n o
pred_root (quantified n k t p) o = root_a (text_numbers t ++ pred_numbers p) n o

text_root : (x : Text) (o : ℕ) → suc (text_node (number_text x o)) ≡ o + length (text_numbers x)
unfolding text_node number_text text_numbers
text_root (text n p ls) o = root_a (pred_numbers p ++ lines_numbers ls) n o

include_root : (x : Include) (o : ℕ) → suc (include_node (number_include x o)) ≡ o + length (include_numbers x)
unfolding include_node number_include include_numbers
include_root (include n s k xs rs) o = root_a (exprs_numbers xs) n o

schema_root : (x : Schema) (o : ℕ) → suc (schema_node (number_schema x o)) ≡ o + length (schema_numbers x)
unfolding schema_node number_schema schema_numbers
schema_root (plain t) o = text_root t o
schema_root (from i) o = include_root i o
schema_root (both n a b) o = root_a (schema_numbers a ++ schema_numbers b) n o

paragraph_root : (x : Paragraph) (o : ℕ) → suc (paragraph_node (number_paragraph x o)) ≡ o + length (paragraph_numbers x)
unfolding paragraph_node number_paragraph paragraph_numbers
paragraph_root (given n is) o = root0 o
paragraph_root (axiomatic n t) o = root_a (text_numbers t) n o
paragraph_root (schema n s ps x) o = root_a (schema_numbers x) n o
paragraph_root (abbreviation n i ps a) o = root_a (expr_numbers a) n o
paragraph_root (constraint n p) o = root_a (pred_numbers p) n o

-- WORDS AT A ROW'S END.
fold : {A : Type 0} → (ℕ → A → A) → List ℕ → A → A
fold f [] z = z
fold f (x ∷ l) z = f x (fold f l z)

module _ {A : Type 0} (f : ℕ → A → A) (z : A) where
  gather_shift : (m : ℕ) (x : ℕ) (w : List ℕ) (i : ℕ) → gather f (x ∷ w) (suc i) m z ≡ gather f w i m z
  unfolding gather
  gather_shift zero x w i = refl
  gather_shift (suc m) x w i = ap (f (get_or w i 0)) (gather_shift m x w (suc i))

  gather_front : (ns s : List ℕ) → gather f (ns ++ s) 0 (length ns) z ≡ fold f ns z
  unfolding gather fold
  gather_front [] s = refl
  gather_front (x ∷ ns) s = ap (f x) (gather_shift (length ns) x (ns ++ s) 0 ∙ gather_front ns s)

  gather_all : (ns : List ℕ) → gather f ns 0 (length ns) z ≡ fold f ns z
  unfolding gather fold
  gather_all [] = refl
  gather_all (x ∷ ns) = ap (f x) (gather_shift (length ns) x ns 0 ∙ gather_all ns)

  gather_one : (q : ℕ) (ns : List ℕ) → gather f (q ∷ ns) 1 (length (q ∷ ns) - 1) z ≡ fold f ns z
  gather_one q ns =
      let e : suc (length ns) - 1 ≡ length ns = omega arith in
      ap (λ m. gather f (q ∷ ns) 1 m z) e ∙ gather_shift (length ns) q ns 0 ∙ gather_all ns

  gather_two : (q p : ℕ) (ns : List ℕ) → gather f (q ∷ p ∷ ns) 2 (length (q ∷ p ∷ ns) - 2) z ≡ fold f ns z
  gather_two q p ns =
      let e : suc (suc (length ns)) - 2 ≡ length ns = omega arith in
      ap (λ m. gather f (q ∷ p ∷ ns) 2 m z) e ∙ gather_shift (length ns) q (p ∷ ns) 1 ∙ gather_shift (length ns) p ns 0 ∙ gather_all ns

  gather_four : (a b c d : ℕ) (ns s : List ℕ) → gather f (a ∷ b ∷ c ∷ d ∷ (ns ++ s)) 4 (length ns) z ≡ fold f ns z
  gather_four a b c d ns s =
      gather_shift (length ns) a (b ∷ c ∷ d ∷ (ns ++ s)) 3
      ∙ gather_shift (length ns) b (c ∷ d ∷ (ns ++ s)) 2
      ∙ gather_shift (length ns) c (d ∷ (ns ++ s)) 1
      ∙ gather_shift (length ns) d (ns ++ s) 0
      ∙ gather_front ns s

pairs_shift : (m x : ℕ) (w : List ℕ) (i : ℕ) → pairs_from (x ∷ w) (suc i) m ≡ pairs_from w i m
unfolding pairs_from
pairs_shift zero x w i = refl
pairs_shift (suc m) x w i = ap (λ l. (get_or w i 0, get_or w (suc i) 0) ∷ l) (pairs_shift m x w (suc (suc i)))

pairs_past : (ns w : List ℕ) (m : ℕ) → pairs_from (ns ++ w) (length ns) m ≡ pairs_from w 0 m
pairs_past [] w m = refl
pairs_past (x ∷ ns) w m = pairs_shift m x (ns ++ w) (length ns) ∙ pairs_past ns w m

pairs_back : (rs : List (ℕ × ℕ)) → pairs_from (pair_words rs) 0 (length rs) ≡ rs
unfolding pairs_from pair_words
pairs_back [] = refl
pairs_back (r ∷ rs) =
    ap (λ l. (r.0, r.1) ∷ l) (pairs_shift (length rs) r.0 (r.1 ∷ pair_words rs) 1 ∙ pairs_shift (length rs) r.1 (pair_words rs) 0 ∙ pairs_back rs)

pairs_long : (rs : List (ℕ × ℕ)) → length (pair_words rs) ≡ 2 * length rs
unfolding pair_words
pairs_long [] = refl
pairs_long (r ∷ rs) = let e = pairs_long rs in omega (arith, e)

pairs_row : (a b c d : ℕ) (ns : List ℕ) (rs : List (ℕ × ℕ)) → d ≡ length ns → (let w = a ∷ b ∷ c ∷ d ∷ (ns ++ pair_words rs) in pairs_from w (d + 4) ((length w - (d + 4)) / 2) ≡ rs)
pairs_row a b c d ns rs q =
    let w = a ∷ b ∷ c ∷ d ∷ (ns ++ pair_words rs) in
    let l = length-append ns (pair_words rs) in
    let k = pairs_long rs in
    let m : (length w - (d + 4)) / 2 ≡ length rs = omega (arith, l, k, q) in
    let i : d + 4 ≡ suc (suc (suc (suc (length ns)))) = omega (arith, q) in
    ap₂ (pairs_from w) i m
    ∙ pairs_shift (length rs) a (b ∷ c ∷ d ∷ (ns ++ pair_words rs)) (suc (suc (suc (length ns))))
    ∙ pairs_shift (length rs) b (c ∷ d ∷ (ns ++ pair_words rs)) (suc (suc (length ns)))
    ∙ pairs_shift (length rs) c (d ∷ (ns ++ pair_words rs)) (suc (length ns))
    ∙ pairs_shift (length rs) d (ns ++ pair_words rs) (length ns)
    ∙ pairs_past ns (pair_words rs) (length rs)
    ∙ pairs_back rs

body_word : (a b : ℕ) (ps : List ℕ) (x : ℕ) → get_or (a ∷ b ∷ length ps ∷ (ps ++ (x ∷ []))) (length ps + 3) 0 ≡ x
body_word a b ps x = ap (λ i. get_or (a ∷ b ∷ length ps ∷ (ps ++ (x ∷ []))) i 0) (add-three (length ps)) ∙ get_or-append_seam ps x [] 0

-- THE NODES OF WORDS THAT HOLD THE ROWS.
module _ (W : List ℕ) where
  take1 : (ra : Rows) (w : List ℕ) (a : List ℕ) (o : ℕ) → length ra ≡ length a → Holds W o (ra ++ (w ∷ [])) → Holds W o ra × (part W (o + length a) ≡ w)
  take1 ra w a o p h = let s = holds_split W ra (w ∷ []) o h in (s.0, subst (λ n. part W (o + n) ≡ w) p s.1.0)

  take_l : (ra rb : Rows) (a : List ℕ) (o : ℕ) → length ra ≡ length a → Holds W o (ra ++ rb) → Holds W o ra × Holds W (o + length a) rb
  take_l ra rb a o p h = let s = holds_split W ra rb o h in (s.0, subst (λ n. Holds W (o + n) rb) p s.1)

  take2 : (ra rb : Rows) (w : List ℕ) (a b : List ℕ) (o : ℕ) → length ra ≡ length a → length rb ≡ length b → Holds W o ((ra ++ rb) ++ (w ∷ []))
      → Holds W o ra × Holds W (o + length a) rb × (part W (o + length (a ++ b)) ≡ w)
  take2 ra rb w a b o p q h =
      let s = take1 (ra ++ rb) w (a ++ b) o (len_a ra rb a b p q) h in
      let t = take_l ra rb a o p s.0 in
      (t.0, t.1, s.1)

  abbrev sub : ℕ → ℕ → Node
  sub k = lower no_node k (node_at W)

  abbrev made : ℕ → List ℕ → Node
  made k w = get_or makers (get_or w 0 0) unlisted (sub k) k w

  node_made : (k : ℕ) (w : List ℕ) → part W k ≡ w → node_at W k ≡ made k w
  unfolding node_at
  node_made k w e = meaning_eq no_node (make_at W) k ∙ ap (λ v. made k v) e

  operands_in : (a b : List ℕ) (o : ℕ) → (o + length a ≤ o + length (a ++ b)) × ((o + length a) + length b ≤ o + length (a ++ b))
  operands_in a b o = let e = length-append a b in (omega (arith, e), omega (arith, e))

  itself : (n : ℕ) → n ≤ n
  itself n = omega arith

  expr_below : (x : Expr) (o k : ℕ) → o + length (expr_numbers x) ≤ k → sub k (expr_node (number_expr x o)) ≡ node_at W (expr_node (number_expr x o))
  expr_below x o k h = let r = expr_root x o in lower_lt no_node k (node_at W) (expr_node (number_expr x o)) (omega (arith, r))

  pred_below : (x : Pred) (o k : ℕ) → o + length (pred_numbers x) ≤ k → sub k (pred_node (number_pred x o)) ≡ node_at W (pred_node (number_pred x o))
  pred_below x o k h = let r = pred_root x o in lower_lt no_node k (node_at W) (pred_node (number_pred x o)) (omega (arith, r))

  text_below : (x : Text) (o k : ℕ) → o + length (text_numbers x) ≤ k → sub k (text_node (number_text x o)) ≡ node_at W (text_node (number_text x o))
  text_below x o k h = let r = text_root x o in lower_lt no_node k (node_at W) (text_node (number_text x o)) (omega (arith, r))

  include_below : (x : Include) (o k : ℕ) → o + length (include_numbers x) ≤ k → sub k (include_node (number_include x o)) ≡ node_at W (include_node (number_include x o))
  include_below x o k h = let r = include_root x o in lower_lt no_node k (node_at W) (include_node (number_include x o)) (omega (arith, r))

  schema_below : (x : Schema) (o k : ℕ) → o + length (schema_numbers x) ≤ k → sub k (schema_node (number_schema x o)) ≡ node_at W (schema_node (number_schema x o))
  schema_below x o k h = let r = schema_root x o in lower_lt no_node k (node_at W) (schema_node (number_schema x o)) (omega (arith, r))

  paragraph_below : (x : Paragraph) (o k : ℕ) → o + length (paragraph_numbers x) ≤ k → sub k (paragraph_node (number_paragraph x o)) ≡ node_at W (paragraph_node (number_paragraph x o))
  paragraph_below x o k h = let r = paragraph_root x o in lower_lt no_node k (node_at W) (paragraph_node (number_paragraph x o)) (omega (arith, r))

  -- what a row of these kinds makes
  arithmetic_made : (k : Operator) (n x y : ℕ) → (made n (operator_kind k ∷ x ∷ y ∷ [])).expr ≡ arithmetic n k (sub n x).expr (sub n y).expr
  unfolding makers operator_kind
  arithmetic_made plus n x y = refl
  arithmetic_made minus n x y = refl
  arithmetic_made times n x y = refl
  arithmetic_made quotient n x y = refl
  arithmetic_made remainder n x y = refl

  connected_made : (k : Connective) (n x y : ℕ) → (made n (connective_kind k ∷ x ∷ y ∷ [])).pred ≡ connected n k (sub n x).pred (sub n y).pred
  unfolding makers connective_kind
  connected_made and n x y = refl
  connected_made or n x y = refl
  connected_made implies n x y = refl

  quantified_made : (k : Quantifier) (n x y : ℕ) → (made n (quantifier_kind k ∷ x ∷ y ∷ [])).pred ≡ quantified n k (sub n x).text (sub n y).pred
  unfolding makers quantifier_kind
  quantified_made forall n x y = refl
  quantified_made exists n x y = refl

  le : {a b c : ℕ} → a ≤ b → b ≤ c → a ≤ c
  le p q = omega arith

  lt : {a b c d : ℕ} → suc a ≡ b → b ≤ c → c ≤ d → a < d
  lt e p q = omega arith

  mutual
    unfolding expr_rows number_expr expr_numbers expr_node pred_node text_node include_node exprs_nodes lines_nodes makers fold

    pub expr_d : (x : Expr) (o : ℕ) → Holds W o (expr_rows (number_expr x o)) → (node_at W (expr_node (number_expr x o))).expr ≡ number_expr x o
    expr_d (reference n i xs) o h = let t = take1 (exprs_rows (number_exprs xs o)) _ (exprs_numbers xs) o (exprs_len xs o) h in let k = o + length (exprs_numbers xs) in ap (λ x. x.expr) (node_made k _ t.1) ∙ ap (reference k i) (gather_two (λ j. more (sub k j).expr) none 30 i (exprs_nodes (number_exprs xs o)) ∙ exprs_d xs o k (itself k) t.0)
    expr_d (number n v) o h = ap (λ x. x.expr) (node_made o _ h.0)
    expr_d (integers n) o h = ap (λ x. x.expr) (node_made o _ h.0)
    expr_d (set n xs) o h = let t = take1 (exprs_rows (number_exprs xs o)) _ (exprs_numbers xs) o (exprs_len xs o) h in let k = o + length (exprs_numbers xs) in ap (λ x. x.expr) (node_made k _ t.1) ∙ ap (set k) (gather_one (λ j. more (sub k j).expr) none 33 (exprs_nodes (number_exprs xs o)) ∙ exprs_d xs o k (itself k) t.0)
    expr_d (tuple n xs) o h = let t = take1 (exprs_rows (number_exprs xs o)) _ (exprs_numbers xs) o (exprs_len xs o) h in let k = o + length (exprs_numbers xs) in ap (λ x. x.expr) (node_made k _ t.1) ∙ ap (tuple k) (gather_one (λ j. more (sub k j).expr) none 34 (exprs_nodes (number_exprs xs o)) ∙ exprs_d xs o k (itself k) t.0)
    expr_d (product n xs) o h = let t = take1 (exprs_rows (number_exprs xs o)) _ (exprs_numbers xs) o (exprs_len xs o) h in let k = o + length (exprs_numbers xs) in ap (λ x. x.expr) (node_made k _ t.1) ∙ ap (product k) (gather_one (λ j. more (sub k j).expr) none 35 (exprs_nodes (number_exprs xs o)) ∙ exprs_d xs o k (itself k) t.0)
    expr_d (power n a) o h = let tk = take1 (expr_rows (number_expr a o)) _ (expr_numbers a) o (expr_len a o) h in let m = o + length (expr_numbers a) in let ep = ap (λ x. x.expr) (expr_below a o m (itself m)) ∙ expr_d a o tk.0 in ap (λ x. x.expr) (node_made m _ tk.1) ∙ (λ j. power m (ep j))
    expr_d (application n a b) o h = let tk = take2 (expr_rows (number_expr a o)) (expr_rows (number_expr b (o + length (expr_numbers a)))) _ (expr_numbers a) (expr_numbers b) o (expr_len a o) (expr_len b _) h in let m = o + length (expr_numbers a ++ expr_numbers b) in let ix = operands_in (expr_numbers a) (expr_numbers b) o in let el = ap (λ x. x.expr) (expr_below a o m ix.0) ∙ expr_d a o tk.0 in let er = ap (λ x. x.expr) (expr_below b (o + length (expr_numbers a)) m ix.1) ∙ expr_d b (o + length (expr_numbers a)) tk.1 in ap (λ x. x.expr) (node_made m _ tk.2) ∙ (λ j. application m (el j) (er j))
    expr_d (selection n a i) o h = let tk = take1 (expr_rows (number_expr a o)) _ (expr_numbers a) o (expr_len a o) h in let m = o + length (expr_numbers a) in let ep = ap (λ x. x.expr) (expr_below a o m (itself m)) ∙ expr_d a o tk.0 in ap (λ x. x.expr) (node_made m _ tk.1) ∙ (λ j. selection m (ep j) i)
    expr_d (theta n s k) o h = ap (λ x. x.expr) (node_made o _ h.0)
    expr_d (schema_set n i) o h = let tk = take1 (include_rows (number_include i o)) _ (include_numbers i) o (include_len i o) h in let m = o + length (include_numbers i) in let ep = ap (λ x. x.include) (include_below i o m (itself m)) ∙ (include_d i o tk.0).0 in ap (λ x. x.expr) (node_made m _ tk.1) ∙ (λ j. schema_set m (ep j))
    expr_d (arithmetic n k a b) o h = let tk = take2 (expr_rows (number_expr a o)) (expr_rows (number_expr b (o + length (expr_numbers a)))) _ (expr_numbers a) (expr_numbers b) o (expr_len a o) (expr_len b _) h in let m = o + length (expr_numbers a ++ expr_numbers b) in let ix = operands_in (expr_numbers a) (expr_numbers b) o in let el = ap (λ x. x.expr) (expr_below a o m ix.0) ∙ expr_d a o tk.0 in let er = ap (λ x. x.expr) (expr_below b (o + length (expr_numbers a)) m ix.1) ∙ expr_d b (o + length (expr_numbers a)) tk.1 in ap (λ x. x.expr) (node_made m _ tk.2) ∙ arithmetic_made k m _ _ ∙ (λ j. arithmetic m k (el j) (er j))
    expr_d (comprehension n t a) o h = let tk = take2 (text_rows (number_text t o)) (expr_rows (number_expr a (o + length (text_numbers t)))) _ (text_numbers t) (expr_numbers a) o (text_len t o) (expr_len a _) h in let m = o + length (text_numbers t ++ expr_numbers a) in let ix = operands_in (text_numbers t) (expr_numbers a) o in let el = ap (λ x. x.text) (text_below t o m ix.0) ∙ (text_d t o tk.0).0 in let er = ap (λ x. x.expr) (expr_below a (o + length (text_numbers t)) m ix.1) ∙ expr_d a (o + length (text_numbers t)) tk.1 in ap (λ x. x.expr) (node_made m _ tk.2) ∙ (λ j. comprehension m (el j) (er j))

    exprs_d : (xs : Exprs) (o k : ℕ) → o + length (exprs_numbers xs) ≤ k → Holds W o (exprs_rows (number_exprs xs o)) → fold (λ j. more (sub k j).expr) (exprs_nodes (number_exprs xs o)) none ≡ number_exprs xs o
    exprs_d none o k b h = refl
    exprs_d (more a xs) o k b h = let t = take_l (expr_rows (number_expr a o)) (exprs_rows (number_exprs xs (o + length (expr_numbers a)))) (expr_numbers a) o (expr_len a o) h in let i = operands_in (expr_numbers a) (exprs_numbers xs) o in ap₂ more (ap (λ x. x.expr) (expr_below a o k (le i.0 b)) ∙ expr_d a o t.0) (exprs_d xs (o + length (expr_numbers a)) k (le i.1 b) t.1)

    pub pred_d : (x : Pred) (o : ℕ) → Holds W o (pred_rows (number_pred x o)) → (node_at W (pred_node (number_pred x o))).pred ≡ number_pred x o
    pred_d (truth n) o h = ap (λ x. x.pred) (node_made o _ h.0)
    pred_d (equal n a b) o h = let tk = take2 (expr_rows (number_expr a o)) (expr_rows (number_expr b (o + length (expr_numbers a)))) _ (expr_numbers a) (expr_numbers b) o (expr_len a o) (expr_len b _) h in let m = o + length (expr_numbers a ++ expr_numbers b) in let ix = operands_in (expr_numbers a) (expr_numbers b) o in let el = ap (λ x. x.expr) (expr_below a o m ix.0) ∙ expr_d a o tk.0 in let er = ap (λ x. x.expr) (expr_below b (o + length (expr_numbers a)) m ix.1) ∙ expr_d b (o + length (expr_numbers a)) tk.1 in ap (λ x. x.pred) (node_made m _ tk.2) ∙ (λ j. equal m (el j) (er j))
    pred_d (member n a b) o h = let tk = take2 (expr_rows (number_expr a o)) (expr_rows (number_expr b (o + length (expr_numbers a)))) _ (expr_numbers a) (expr_numbers b) o (expr_len a o) (expr_len b _) h in let m = o + length (expr_numbers a ++ expr_numbers b) in let ix = operands_in (expr_numbers a) (expr_numbers b) o in let el = ap (λ x. x.expr) (expr_below a o m ix.0) ∙ expr_d a o tk.0 in let er = ap (λ x. x.expr) (expr_below b (o + length (expr_numbers a)) m ix.1) ∙ expr_d b (o + length (expr_numbers a)) tk.1 in ap (λ x. x.pred) (node_made m _ tk.2) ∙ (λ j. member m (el j) (er j))
    pred_d (at_most n a b) o h = let tk = take2 (expr_rows (number_expr a o)) (expr_rows (number_expr b (o + length (expr_numbers a)))) _ (expr_numbers a) (expr_numbers b) o (expr_len a o) (expr_len b _) h in let m = o + length (expr_numbers a ++ expr_numbers b) in let ix = operands_in (expr_numbers a) (expr_numbers b) o in let el = ap (λ x. x.expr) (expr_below a o m ix.0) ∙ expr_d a o tk.0 in let er = ap (λ x. x.expr) (expr_below b (o + length (expr_numbers a)) m ix.1) ∙ expr_d b (o + length (expr_numbers a)) tk.1 in ap (λ x. x.pred) (node_made m _ tk.2) ∙ (λ j. at_most m (el j) (er j))
    pred_d (not n p) o h = let tk = take1 (pred_rows (number_pred p o)) _ (pred_numbers p) o (pred_len p o) h in let m = o + length (pred_numbers p) in let ep = ap (λ x. x.pred) (pred_below p o m (itself m)) ∙ pred_d p o tk.0 in ap (λ x. x.pred) (node_made m _ tk.1) ∙ (λ j. not m (ep j))
    pred_d (connected n k p q) o h = let tk = take2 (pred_rows (number_pred p o)) (pred_rows (number_pred q (o + length (pred_numbers p)))) _ (pred_numbers p) (pred_numbers q) o (pred_len p o) (pred_len q _) h in let m = o + length (pred_numbers p ++ pred_numbers q) in let ix = operands_in (pred_numbers p) (pred_numbers q) o in let el = ap (λ x. x.pred) (pred_below p o m ix.0) ∙ pred_d p o tk.0 in let er = ap (λ x. x.pred) (pred_below q (o + length (pred_numbers p)) m ix.1) ∙ pred_d q (o + length (pred_numbers p)) tk.1 in ap (λ x. x.pred) (node_made m _ tk.2) ∙ connected_made k m _ _ ∙ (λ j. connected m k (el j) (er j))
    pred_d (quantified n k t p) o h = let tk = take2 (text_rows (number_text t o)) (pred_rows (number_pred p (o + length (text_numbers t)))) _ (text_numbers t) (pred_numbers p) o (text_len t o) (pred_len p _) h in let m = o + length (text_numbers t ++ pred_numbers p) in let ix = operands_in (text_numbers t) (pred_numbers p) o in let el = ap (λ x. x.text) (text_below t o m ix.0) ∙ (text_d t o tk.0).0 in let er = ap (λ x. x.pred) (pred_below p (o + length (text_numbers t)) m ix.1) ∙ pred_d p (o + length (text_numbers t)) tk.1 in ap (λ x. x.pred) (node_made m _ tk.2) ∙ quantified_made k m _ _ ∙ (λ j. quantified m k (el j) (er j))

    pub text_d : (x : Text) (o : ℕ) → Holds W o (text_rows (number_text x o)) → ((node_at W (text_node (number_text x o))).text ≡ number_text x o) × ((node_at W (text_node (number_text x o))).schema ≡ plain (number_text x o))
    text_d (text n p ls) o h = let t = take2 (pred_rows (number_pred p o)) (lines_rows (number_lines ls (o + length (pred_numbers p)))) _ (pred_numbers p) (lines_numbers ls) o (pred_len p o) (lines_len ls _) h in let m = o + length (pred_numbers p ++ lines_numbers ls) in let i = operands_in (pred_numbers p) (lines_numbers ls) o in let l = ap (λ x. x.pred) (pred_below p o m i.0) ∙ pred_d p o t.0 in let r = gather_two (λ j. (sub m j).line) end 10 (pred_node (number_pred p o)) (lines_nodes (number_lines ls (o + length (pred_numbers p)))) ∙ lines_d ls (o + length (pred_numbers p)) m i.1 t.1 in let e = node_made m _ t.2 in (ap (λ x. x.text) e ∙ (λ j. text m (l j) (r j)), ap (λ x. x.schema) e ∙ (λ j. plain (text m (l j) (r j))))

    lines_d : (ls : Lines) (o k : ℕ) → o + length (lines_numbers ls) ≤ k → Holds W o (lines_rows (number_lines ls o)) → fold (λ j. (sub k j).line) (lines_nodes (number_lines ls o)) end ≡ number_lines ls o
    lines_d end o k b h = refl
    lines_d (declaration n a is ls) o k b h = let t = take_l (expr_rows (number_expr a o) ++ ((11 ∷ expr_node (number_expr a o) ∷ is) ∷ [])) (lines_rows (number_lines ls (o + length (expr_numbers a ++ (n ∷ []))))) (expr_numbers a ++ (n ∷ [])) o (len_a (expr_rows (number_expr a o)) ((11 ∷ expr_node (number_expr a o) ∷ is) ∷ []) (expr_numbers a) (n ∷ []) (expr_len a o) refl) h in let s = take1 (expr_rows (number_expr a o)) (11 ∷ expr_node (number_expr a o) ∷ is) (expr_numbers a) o (expr_len a o) t.0 in let m = o + length (expr_numbers a) in let i = operands_in (expr_numbers a ++ (n ∷ [])) (lines_numbers ls) o in let q = root_a (expr_numbers a) n o in let l = ap (λ x. x.expr) (expr_below a o m (itself m)) ∙ expr_d a o s.0 in let e = lower_lt no_node k (node_at W) m (lt q i.0 b) ∙ node_made m _ s.1 in let r = lines_d ls (o + length (expr_numbers a ++ (n ∷ []))) k (le i.1 b) t.1 in ap₂ (λ f z. f z) (ap (λ x. x.line) e) r ∙ (λ j. declaration m (l j) is (number_lines ls (o + length (expr_numbers a ++ (n ∷ [])))))
    lines_d (inclusion i ls) o k b h = let t = take_l (include_rows (number_include i o)) (lines_rows (number_lines ls (o + length (include_numbers i)))) (include_numbers i) o (include_len i o) h in let j = operands_in (include_numbers i) (lines_numbers ls) o in ap₂ (λ f z. f z) (ap (λ x. x.line) (include_below i o k (le j.0 b)) ∙ (include_d i o t.0).1) (lines_d ls (o + length (include_numbers i)) k (le j.1 b) t.1)

    pub include_d : (x : Include) (o : ℕ) → Holds W o (include_rows (number_include x o)) → ((node_at W (include_node (number_include x o))).include ≡ number_include x o) × ((node_at W (include_node (number_include x o))).line ≡ inclusion (number_include x o)) × ((node_at W (include_node (number_include x o))).schema ≡ from (number_include x o))
    include_d (include n s k xs rs) o h = let t = take1 (exprs_rows (number_exprs xs o)) _ (exprs_numbers xs) o (exprs_len xs o) h in let m = o + length (exprs_numbers xs) in let ys = number_exprs xs o in let ns = exprs_nodes ys in let c = exprs_length ys in let e = node_made m _ t.1 in let q = nodes_length ys in let l = ap (λ z. gather (λ j. more (sub m j).expr) (12 ∷ s ∷ k ∷ c ∷ (ns ++ pair_words rs)) 4 z none) (sym q) ∙ gather_four (λ j. more (sub m j).expr) none 12 s k c ns (pair_words rs) ∙ exprs_d xs o m (itself m) t.0 in let r = pairs_row 12 s k c ns rs (sym q) in (ap (λ x. x.include) e ∙ (λ j. include m s k (l j) (r j)), ap (λ x. x.line) e ∙ (λ j. inclusion (include m s k (l j) (r j))), ap (λ x. x.schema) e ∙ (λ j. from (include m s k (l j) (r j))))

  pub schema_d : (x : Schema) (o : ℕ) → Holds W o (schema_rows (number_schema x o)) → (node_at W (schema_node (number_schema x o))).schema ≡ number_schema x o
  unfolding schema_rows number_schema schema_numbers schema_node makers
  schema_d (plain t) o h = (text_d t o h).1
  schema_d (from i) o h = (include_d i o h).2
  schema_d (both n a b) o h =
      let k = o + length (schema_numbers a) in
      let t = take2 (schema_rows (number_schema a o)) (schema_rows (number_schema b k)) _ (schema_numbers a) (schema_numbers b) o (schema_len a o) (schema_len b _) h in
      let m = o + length (schema_numbers a ++ schema_numbers b) in
      let i = operands_in (schema_numbers a) (schema_numbers b) o in
      let l = ap (λ x. x.schema) (schema_below a o m i.0) ∙ schema_d a o t.0 in
      let r = ap (λ x. x.schema) (schema_below b k m i.1) ∙ schema_d b k t.1 in
      ap (λ x. x.schema) (node_made m _ t.2) ∙ (λ j. both m (l j) (r j))

  pub paragraph_d : (x : Paragraph) (o : ℕ) → Holds W o (paragraph_rows (number_paragraph x o)) → (node_at W (paragraph_node (number_paragraph x o))).paragraph ≡ number_paragraph x o
  unfolding paragraph_rows number_paragraph paragraph_numbers paragraph_node makers
  paragraph_d (given n is) o h = ap (λ x. x.paragraph) (node_made o _ h.0)
  paragraph_d (axiomatic n t) o h =
      let s = take1 (text_rows (number_text t o)) _ (text_numbers t) o (text_len t o) h in
      let m = o + length (text_numbers t) in
      ap (λ x. x.paragraph) (node_made m _ s.1) ∙ ap (axiomatic m) (ap (λ x. x.text) (text_below t o m (itself m)) ∙ (text_d t o s.0).0)
  paragraph_d (schema n s ps x) o h =
      let t = take1 (schema_rows (number_schema x o)) _ (schema_numbers x) o (schema_len x o) h in
      let m = o + length (schema_numbers x) in
      let w = schema_node (number_schema x o) in
      let p = ap (λ v. (sub m v).schema) (body_word 4 s ps w) ∙ ap (λ y. y.schema) (schema_below x o m (itself m)) ∙ schema_d x o t.0 in
      let q = take-append_seam ps (w ∷ []) in
      ap (λ y. y.paragraph) (node_made m _ t.1) ∙ (λ j. schema m s (q j) (p j))
  paragraph_d (abbreviation n i ps a) o h =
      let t = take1 (expr_rows (number_expr a o)) _ (expr_numbers a) o (expr_len a o) h in
      let m = o + length (expr_numbers a) in
      let w = expr_node (number_expr a o) in
      let p = ap (λ v. (sub m v).expr) (body_word 5 i ps w) ∙ ap (λ y. y.expr) (expr_below a o m (itself m)) ∙ expr_d a o t.0 in
      let q = take-append_seam ps (w ∷ []) in
      ap (λ y. y.paragraph) (node_made m _ t.1) ∙ (λ j. abbreviation m i (q j) (p j))
  paragraph_d (constraint n p) o h =
      let s = take1 (pred_rows (number_pred p o)) _ (pred_numbers p) o (pred_len p o) h in
      let m = o + length (pred_numbers p) in
      ap (λ x. x.paragraph) (node_made m _ s.1) ∙ ap (constraint m) (ap (λ x. x.pred) (pred_below p o m (itself m)) ∙ pred_d p o s.0)

  paragraphs_d : (ps : List Paragraph) (o k : ℕ) → o + length (paragraphs_numbers ps) ≤ k → Holds W o (paragraphs_rows (number_paragraphs ps o)) → fold (λ j. ◌∷◌ (sub k j).paragraph) (paragraphs_nodes (number_paragraphs ps o)) [] ≡ number_paragraphs ps o
  unfolding paragraphs_rows number_paragraphs paragraphs_numbers paragraphs_nodes fold
  paragraphs_d [] o k b h = refl
  paragraphs_d (p ∷ ps) o k b h =
      let m = o + length (paragraph_numbers p) in
      let t = take_l (paragraph_rows (number_paragraph p o)) (paragraphs_rows (number_paragraphs ps m)) (paragraph_numbers p) o (paragraph_len p o) h in
      let i = operands_in (paragraph_numbers p) (paragraphs_numbers ps) o in
      ap₂ (λ x y. x ∷ y) (ap (λ x. x.paragraph) (paragraph_below p o k (le i.0 b)) ∙ paragraph_d p o t.0) (paragraphs_d ps m k (le i.1 b) t.1)

  document_d : (t : Document) → Holds W 1 (document_rows (number_document t)) → (node_at W (length (document_rows (number_document t)))).document ≡ number_document t
  unfolding document_rows number_document makers
  document_d (document n ps) h =
      let s = take1 (paragraphs_rows (number_paragraphs ps 1)) _ (paragraphs_numbers ps) 1 (paragraphs_len ps 1) h in
      let m = 1 + length (paragraphs_numbers ps) in
      let z = length-append (paragraphs_rows (number_paragraphs ps 1)) ((1 ∷ paragraphs_nodes (number_paragraphs ps 1)) ∷ []) in
      let y = paragraphs_len ps 1 in
      let e : length (paragraphs_rows (number_paragraphs ps 1) ++ ((1 ∷ paragraphs_nodes (number_paragraphs ps 1)) ∷ [])) ≡ m = omega (arith, z, y) in
      ap (λ v. (node_at W v).document) e
      ∙ ap (λ x. x.document) (node_made m _ s.1)
      ∙ ap (document m) (gather_one (λ j. ◌∷◌ (sub m j).paragraph) [] 1 (paragraphs_nodes (number_paragraphs ps 1)) ∙ paragraphs_d ps 1 m (itself m) s.0)

-- The tree of the canonical words.
pub canonical_read : (t : Document) → tree_of (canonical_of t) ≡ number_document t
unfolding tree_of canonical_of
canonical_read t = ap (λ n. (node_at (lay_out (document_rows (number_document t))) n).document) (counted (document_rows (number_document t))) ∙ document_d (lay_out (document_rows (number_document t))) t (holds_all (document_rows (number_document t)))
  where
    counted : (ws : Rows) → count (lay_out ws) ≡ length ws
    counted ws = unfold lay_out in refl
