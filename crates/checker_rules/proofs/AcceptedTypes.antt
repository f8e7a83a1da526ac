-- EACH EXPRESSION OF AN ACCEPTED DOCUMENT HAS ONE TYPE AND NO OTHER, node by node.
use mathlib.Core.Path.{◌≡◌, refl, sym, ap, subst, ◌∙◌}
use mathlib.Core.Bool.{Bool, true, false, ◌||◌, false≢true}
use mathlib.Core.List.{List, [], ◌∷◌, ◌++◌}
use mathlib.Core.Logic.{inl, inr}
use Prim.Native.Nat.{ℕ, ◌≤◌}
use native.Mathlib.Omega.{arith}
use borrow.Author.Tests.{eq-eqb}
use Rattle.words.specs.Loops.{has, occurrences}
use Rattle.words.proofs.Lists.{has_append, occurrences_append, has_once}
use Rattle.types_rules.specs.Types.{Ty}
use Rattle.reader_rules.specs.Decode.{tree_of}
use Rattle.reader_rules.specs.TreeNumbers.{expr_numbers, exprs_numbers, pred_numbers, text_numbers, lines_numbers, include_numbers, schema_numbers}
use Rattle.reader_rules.specs.TreeNumbers.{paragraph_numbers, paragraphs_numbers}
use Rattle.reader_rules.specs.Tree.{Expr, reference, number, integers, set, tuple, product, power, application, selection, theta, schema_set, arithmetic}
use Rattle.reader_rules.specs.Tree.{comprehension, Exprs, none, more, Pred, truth, equal, member, at_most, not, connected, quantified, Text, text, Lines}
use Rattle.reader_rules.specs.Tree.{end, declaration, inclusion, Include, include, Schema, plain, from, both, Paragraph, given, axiomatic, schema}
use Rattle.reader_rules.specs.Tree.{abbreviation, constraint}
use Rattle.checker_rules.specs.Unknowns.{slot}
use Rattle.checker_rules.specs.Items.{Any}
use Rattle.checker_rules.specs.Dictionary.{Dictionary, blank}
use Rattle.checker_rules.specs.Entries.{extend}
use Rattle.checker_rules.specs.ExpressionNodes.{InExpr, InExprs, InPred, InText, InLines, InInclude, InSchema, InParagraph, InParagraphs}
use Rattle.checker_rules.specs.AcceptedTypes.{HasType, TheType}
use Rattle.checker_rules.specs.Check.{accepted, check_of, paragraphs_of}
use Rattle.checker_rules.specs.Verdicts.{Accepts}
use Rattle.checker_rules.proofs.OneType.{one_type, extend_same}
use Rattle.checker_rules.proofs.CheckRight.{accepted_says}
use Rattle.checker_rules.proofs.WrittenOnce.{paragraphs_once}
use Rattle.checker_rules.proofs.FormedVerdicts.{accepts_same, type_formed}

-- Expression nodes are nodes.
left : (m : ℕ) (a b : List ℕ) → has m a ≡ true → has m (a ++ b) ≡ true
left m a b h = has_append m a b ∙ go (has m a) h
  where
    go : (x : Bool) → x ≡ true → (x || has m b) ≡ true
    go true e = refl
    go false e = absurd (false≢true e)

right : (m : ℕ) (a b : List ℕ) → has m b ≡ true → has m (a ++ b) ≡ true
right m a b h = has_append m a b ∙ go (has m a)
  where
    go : (x : Bool) → (x || has m b) ≡ true
    go true = refl
    go false = h

single : (m n : ℕ) → n ≡ m → has m (n ∷ []) ≡ true
unfolding has
single m n q = ap (λ (b : Bool). b || false) (eq-eqb n m q)

last : (m n : ℕ) (a : List ℕ) → n ≡ m → has m (a ++ (n ∷ [])) ≡ true
last m n a q = right m a (n ∷ []) (single m n q)

mutual
  unfolding InExpr expr_numbers

  in_expr : (m : ℕ) (a : Expr) → InExpr m a → has m (expr_numbers a) ≡ true
  in_expr m (reference n i xs) (inl q) = last m n (exprs_numbers xs) q
  in_expr m (reference n i xs) (inr q) = left m (exprs_numbers xs) (n ∷ []) (in_exprs m xs q)
  in_expr m (number n v) q = single m n q
  in_expr m (integers n) q = single m n q
  in_expr m (set n xs) (inl q) = last m n (exprs_numbers xs) q
  in_expr m (set n xs) (inr q) = left m (exprs_numbers xs) (n ∷ []) (in_exprs m xs q)
  in_expr m (tuple n xs) (inl q) = last m n (exprs_numbers xs) q
  in_expr m (tuple n xs) (inr q) = left m (exprs_numbers xs) (n ∷ []) (in_exprs m xs q)
  in_expr m (product n xs) (inl q) = last m n (exprs_numbers xs) q
  in_expr m (product n xs) (inr q) = left m (exprs_numbers xs) (n ∷ []) (in_exprs m xs q)
  in_expr m (power n a) (inl q) = last m n (expr_numbers a) q
  in_expr m (power n a) (inr q) = left m (expr_numbers a) (n ∷ []) (in_expr m a q)
  in_expr m (application n a b) (inl q) = last m n (expr_numbers a ++ expr_numbers b) q
  in_expr m (application n a b) (inr (inl q)) = left m (expr_numbers a ++ expr_numbers b) (n ∷ []) (left m (expr_numbers a) (expr_numbers b) (in_expr m a q))
  in_expr m (application n a b) (inr (inr q)) = left m (expr_numbers a ++ expr_numbers b) (n ∷ []) (right m (expr_numbers a) (expr_numbers b) (in_expr m b q))
  in_expr m (selection n a i) (inl q) = last m n (expr_numbers a) q
  in_expr m (selection n a i) (inr q) = left m (expr_numbers a) (n ∷ []) (in_expr m a q)
  in_expr m (theta n s k) q = single m n q
  in_expr m (schema_set n i) (inl q) = last m n (include_numbers i) q
  in_expr m (schema_set n i) (inr q) = left m (include_numbers i) (n ∷ []) (in_include m i q)
  in_expr m (arithmetic n o a b) (inl q) = last m n (expr_numbers a ++ expr_numbers b) q
  in_expr m (arithmetic n o a b) (inr (inl q)) = left m (expr_numbers a ++ expr_numbers b) (n ∷ []) (left m (expr_numbers a) (expr_numbers b) (in_expr m a q))
  in_expr m (arithmetic n o a b) (inr (inr q)) = left m (expr_numbers a ++ expr_numbers b) (n ∷ []) (right m (expr_numbers a) (expr_numbers b) (in_expr m b q))
  in_expr m (comprehension n t a) (inl q) = last m n (text_numbers t ++ expr_numbers a) q
  in_expr m (comprehension n t a) (inr (inl q)) = left m (text_numbers t ++ expr_numbers a) (n ∷ []) (left m (text_numbers t) (expr_numbers a) (in_text m t q))
  in_expr m (comprehension n t a) (inr (inr q)) = left m (text_numbers t ++ expr_numbers a) (n ∷ []) (right m (text_numbers t) (expr_numbers a) (in_expr m a q))

  in_exprs : (m : ℕ) (xs : Exprs) → InExprs m xs → has m (exprs_numbers xs) ≡ true
  in_exprs m none q = absurd q
  in_exprs m (more a xs) (inl q) = left m (expr_numbers a) (exprs_numbers xs) (in_expr m a q)
  in_exprs m (more a xs) (inr q) = right m (expr_numbers a) (exprs_numbers xs) (in_exprs m xs q)

  in_pred : (m : ℕ) (p : Pred) → InPred m p → has m (pred_numbers p) ≡ true
  in_pred m (truth n) q = absurd q
  in_pred m (equal n a b) (inl q) = left m (expr_numbers a ++ expr_numbers b) (n ∷ []) (left m (expr_numbers a) (expr_numbers b) (in_expr m a q))
  in_pred m (equal n a b) (inr q) = left m (expr_numbers a ++ expr_numbers b) (n ∷ []) (right m (expr_numbers a) (expr_numbers b) (in_expr m b q))
  in_pred m (member n a b) (inl q) = left m (expr_numbers a ++ expr_numbers b) (n ∷ []) (left m (expr_numbers a) (expr_numbers b) (in_expr m a q))
  in_pred m (member n a b) (inr q) = left m (expr_numbers a ++ expr_numbers b) (n ∷ []) (right m (expr_numbers a) (expr_numbers b) (in_expr m b q))
  in_pred m (at_most n a b) (inl q) = left m (expr_numbers a ++ expr_numbers b) (n ∷ []) (left m (expr_numbers a) (expr_numbers b) (in_expr m a q))
  in_pred m (at_most n a b) (inr q) = left m (expr_numbers a ++ expr_numbers b) (n ∷ []) (right m (expr_numbers a) (expr_numbers b) (in_expr m b q))
  in_pred m (not n p) q = left m (pred_numbers p) (n ∷ []) (in_pred m p q)
  in_pred m (connected n o p r) (inl q) = left m (pred_numbers p ++ pred_numbers r) (n ∷ []) (left m (pred_numbers p) (pred_numbers r) (in_pred m p q))
  in_pred m (connected n o p r) (inr q) = left m (pred_numbers p ++ pred_numbers r) (n ∷ []) (right m (pred_numbers p) (pred_numbers r) (in_pred m r q))
  in_pred m (quantified n o t p) (inl q) = left m (text_numbers t ++ pred_numbers p) (n ∷ []) (left m (text_numbers t) (pred_numbers p) (in_text m t q))
  in_pred m (quantified n o t p) (inr q) = left m (text_numbers t ++ pred_numbers p) (n ∷ []) (right m (text_numbers t) (pred_numbers p) (in_pred m p q))

  in_text : (m : ℕ) (t : Text) → InText m t → has m (text_numbers t) ≡ true
  in_text m (text n p ls) (inl q) = left m (pred_numbers p ++ lines_numbers ls) (n ∷ []) (right m (pred_numbers p) (lines_numbers ls) (in_lines m ls q))
  in_text m (text n p ls) (inr q) = left m (pred_numbers p ++ lines_numbers ls) (n ∷ []) (left m (pred_numbers p) (lines_numbers ls) (in_pred m p q))

  in_lines : (m : ℕ) (ls : Lines) → InLines m ls → has m (lines_numbers ls) ≡ true
  in_lines m end q = absurd q
  in_lines m (declaration n a is ls) (inl q) = left m (expr_numbers a ++ (n ∷ [])) (lines_numbers ls) (left m (expr_numbers a) (n ∷ []) (in_expr m a q))
  in_lines m (declaration n a is ls) (inr q) = right m (expr_numbers a ++ (n ∷ [])) (lines_numbers ls) (in_lines m ls q)
  in_lines m (inclusion i ls) (inl q) = left m (include_numbers i) (lines_numbers ls) (in_include m i q)
  in_lines m (inclusion i ls) (inr q) = right m (include_numbers i) (lines_numbers ls) (in_lines m ls q)

  in_include : (m : ℕ) (i : Include) → InInclude m i → has m (include_numbers i) ≡ true
  in_include m (include n s k xs rs) q = left m (exprs_numbers xs) (n ∷ []) (in_exprs m xs q)

in_schema : (m : ℕ) (x : Schema) → InSchema m x → has m (schema_numbers x) ≡ true
unfolding InSchema schema_numbers
in_schema m (plain t) q = in_text m t q
in_schema m (from i) q = in_include m i q
in_schema m (both n a b) (inl q) = left m (schema_numbers a ++ schema_numbers b) (n ∷ []) (left m (schema_numbers a) (schema_numbers b) (in_schema m a q))
in_schema m (both n a b) (inr q) = left m (schema_numbers a ++ schema_numbers b) (n ∷ []) (right m (schema_numbers a) (schema_numbers b) (in_schema m b q))

in_paragraph : (m : ℕ) (p : Paragraph) → InParagraph m p → has m (paragraph_numbers p) ≡ true
unfolding InParagraph paragraph_numbers
in_paragraph m (given n is) q = absurd q
in_paragraph m (axiomatic n t) q = left m (text_numbers t) (n ∷ []) (in_text m t q)
in_paragraph m (schema n s ps x) q = left m (schema_numbers x) (n ∷ []) (in_schema m x q)
in_paragraph m (abbreviation n i ps a) q = left m (expr_numbers a) (n ∷ []) (in_expr m a q)
in_paragraph m (constraint n p) q = left m (pred_numbers p) (n ∷ []) (in_pred m p q)

in_paragraphs : (m : ℕ) (ps : List Paragraph) → InParagraphs m ps → has m (paragraphs_numbers ps) ≡ true
unfolding InParagraphs paragraphs_numbers
in_paragraphs m [] q = absurd q
in_paragraphs m (p ∷ ps) (inl q) = left m (paragraph_numbers p) (paragraphs_numbers ps) (in_paragraph m p q)
in_paragraphs m (p ∷ ps) (inr q) = right m (paragraph_numbers p) (paragraphs_numbers ps) (in_paragraphs m ps q)

-- There is a type.
some_type : (ps : List Paragraph) (D : Dictionary) (d : ℕ) (E : Dictionary) → Accepts Any ps D d E → (m : ℕ) → InParagraphs m ps → (g : Ty) × HasType ps D m g
unfolding Accepts HasType InParagraphs
some_type [] D d E h m q = absurd q
some_type (p ∷ ps) D d E h m (inl q) =
    (h.1.0 (slot m 0), ((h.1.0, h.1.1.1), inl (q, λ τ s. one_type p D h.0 τ h.1.0 s h.1.1.1 m q)))
some_type (p ∷ ps) D d E h m (inr q) =
    let k = some_type ps (extend p D h.1.0) d E h.1.3 m q in
    (k.0, ((h.1.0, h.1.1.1), inr (λ τ s. subst (λ X. HasType ps X m k.0) (extend_same p D h.0 h.1.0 τ h.1.1.1 s) k.1)))

-- Only nodes of the document have one.
type_node : (ps : List Paragraph) (D : Dictionary) (m : ℕ) (g : Ty) → HasType ps D m g → InParagraphs m ps
unfolding HasType InParagraphs
type_node [] D m g t = absurd t
type_node (p ∷ ps) D m g ((τ, s), inl t) = inl t.0
type_node (p ∷ ps) D m g ((τ, s), inr t) = inr (type_node ps (extend p D τ) m g (t τ s))

-- A node that stands once is in one paragraph.
not_twice : (p : Paragraph) (ps : List Paragraph) (m : ℕ) → occurrences m (paragraphs_numbers (p ∷ ps)) ≤ 1 → InParagraph m p → InParagraphs m ps → ⊥
unfolding paragraphs_numbers
not_twice p ps m l a b =
    omega (arith, l, occurrences_append m (paragraph_numbers p) (paragraphs_numbers ps), has_once m (paragraph_numbers p) (in_paragraph m p a), has_once m (paragraphs_numbers ps) (in_paragraphs m ps b))

fewer_after : (p : Paragraph) (ps : List Paragraph) (m : ℕ) → occurrences m (paragraphs_numbers (p ∷ ps)) ≤ 1 → occurrences m (paragraphs_numbers ps) ≤ 1
unfolding paragraphs_numbers
fewer_after p ps m l = omega (arith, l, occurrences_append m (paragraph_numbers p) (paragraphs_numbers ps))

no_other : (ps : List Paragraph) (D : Dictionary) (m : ℕ) → occurrences m (paragraphs_numbers ps) ≤ 1 → (g k : Ty) → HasType ps D m g → HasType ps D m k → g ≡ k
unfolding HasType
no_other [] D m l g k a b = absurd a
no_other (p ∷ ps) D m l g k ((τ, s), inl a) (_, inl b) = sym (a.1 τ s) ∙ b.1 τ s
no_other (p ∷ ps) D m l g k ((τ, s), inl a) (_, inr b) = absurd (not_twice p ps m l a.0 (type_node ps (extend p D τ) m k (b τ s)))
no_other (p ∷ ps) D m l g k ((τ, s), inr a) (_, inl b) = absurd (not_twice p ps m l b.0 (type_node ps (extend p D τ) m g (a τ s)))
no_other (p ∷ ps) D m l g k ((τ, s), inr a) (_, inr b) = no_other ps (extend p D τ) m (fewer_after p ps m l) g k (a τ s) (b τ s)

-- In an accepted document a type that a node has is the only one, and well formed.
pub the_type : (doc : List ℕ) (d w : ℕ) (E : Dictionary) → check_of doc d w ≡ accepted E → (m : ℕ) (g : Ty) → HasType (paragraphs_of (tree_of doc)) blank m g → TheType doc m g
the_type doc d w E e m g t =
    let a = accepted_says doc d w E e in
    let ps = paragraphs_of (tree_of doc) in
    record {
      has = t;
      only = λ k s. no_other ps blank m (paragraphs_once doc a.read m) g k t s;
      formed = type_formed ps blank d E ((accepts_same doc a.read d E).0 a.passes) m g t;
    }

pub accepted_type : (doc : List ℕ) (d w : ℕ) (E : Dictionary) → check_of doc d w ≡ accepted E → (m : ℕ) → InParagraphs m (paragraphs_of (tree_of doc))
    → (g : Ty) × TheType doc m g
accepted_type doc d w E e m q =
    let s = some_type (paragraphs_of (tree_of doc)) blank d E (accepted_says doc d w E e).passes m q in
    (s.0, the_type doc d w E e m s.0 s.1)
