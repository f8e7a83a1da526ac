-- A renumbered tree is sized as the tree is.
use mathlib.Core.Path.{sym, subst}
use mathlib.Core.List.{List, [], ◌∷◌}
use Prim.Native.Nat.{ℕ, ◌≤◌}
use Rattle.reader_rules.specs.Tree.{Expr, reference, number, integers, set, tuple, product, power, application, selection, theta, schema_set}
use Rattle.reader_rules.specs.Tree.{arithmetic, comprehension, Exprs, none, more, Pred, truth, equal, member, at_most, not, connected, quantified}
use Rattle.reader_rules.specs.Tree.{Text, text, Lines, end, declaration, inclusion, Include, include, Schema, plain, from, both, Paragraph, given}
use Rattle.reader_rules.specs.Tree.{axiomatic, schema, abbreviation, constraint}
use Rattle.reader_rules.specs.Limited.{FewParameters}
use Rattle.canonical_rules.specs.MapNodes.{map_expr, map_exprs, map_pred, map_text, map_lines, map_include, map_schema, map_paragraph, map_paragraphs}
use Rattle.reader_rules.proofs.Sized.{SizedExpr, SizedExprs, SizedPred, SizedText, SizedLines, SizedInclude, SizedSchema, SizedParagraph, SizedParagraphs, TwoToSix}
use Rattle.canonical_rules.proofs.NodeMaps.{length_maps}

module _ (f : ℕ → ℕ) where
  parts_kept : (xs : Exprs) → TwoToSix xs → TwoToSix (map_exprs f xs)
  parts_kept xs h = subst (λ n. (2 ≤ n) × (n ≤ 6)) (sym (length_maps f xs)) h

  mutual
    unfolding map_expr SizedExpr

    pub expr_sized : (x : Expr) → SizedExpr x → SizedExpr (map_expr f x)
    expr_sized (reference n i xs) h = exprs_sized xs h
    expr_sized (number n v) h = h
    expr_sized (integers n) h = tt
    expr_sized (set n xs) h = exprs_sized xs h
    expr_sized (tuple n xs) h = (parts_kept xs h.0, exprs_sized xs h.1)
    expr_sized (product n xs) h = (parts_kept xs h.0, exprs_sized xs h.1)
    expr_sized (power n a) h = expr_sized a h
    expr_sized (application n a b) h = (expr_sized a h.0, expr_sized b h.1)
    expr_sized (selection n a i) h = expr_sized a h
    expr_sized (theta n s k) h = tt
    expr_sized (schema_set n i) h = include_sized i h
    expr_sized (arithmetic n k a b) h = (expr_sized a h.0, expr_sized b h.1)
    expr_sized (comprehension n t a) h = (text_sized t h.0, expr_sized a h.1)

    pub exprs_sized : (x : Exprs) → SizedExprs x → SizedExprs (map_exprs f x)
    exprs_sized none h = tt
    exprs_sized (more a xs) h = (expr_sized a h.0, exprs_sized xs h.1)

    pub pred_sized : (x : Pred) → SizedPred x → SizedPred (map_pred f x)
    pred_sized (truth n) h = tt
    pred_sized (equal n a b) h = (expr_sized a h.0, expr_sized b h.1)
    pred_sized (member n a b) h = (expr_sized a h.0, expr_sized b h.1)
    pred_sized (at_most n a b) h = (expr_sized a h.0, expr_sized b h.1)
    pred_sized (not n p) h = pred_sized p h
    pred_sized (connected n k p q) h = (pred_sized p h.0, pred_sized q h.1)
    pred_sized (quantified n k t p) h = (text_sized t h.0, pred_sized p h.1)

    pub text_sized : (x : Text) → SizedText x → SizedText (map_text f x)
    text_sized (text n p ls) h = (pred_sized p h.0, lines_sized ls h.1)

    pub lines_sized : (x : Lines) → SizedLines x → SizedLines (map_lines f x)
    lines_sized end h = tt
    lines_sized (declaration n a is ls) h = (expr_sized a h.0, lines_sized ls h.1)
    lines_sized (inclusion i ls) h = (include_sized i h.0, lines_sized ls h.1)

    pub include_sized : (x : Include) → SizedInclude x → SizedInclude (map_include f x)
    include_sized (include n s k xs rs) h = (subst (λ n. n ≤ 4) (sym (length_maps f xs)) h.0, exprs_sized xs h.1)

  pub schema_sized : (x : Schema) → SizedSchema x → SizedSchema (map_schema f x)
  unfolding map_schema SizedSchema
  schema_sized (plain t) h = text_sized t h
  schema_sized (from i) h = include_sized i h
  schema_sized (both n a b) h = (schema_sized a h.0, schema_sized b h.1)

  pub paragraph_sized : (x : Paragraph) → SizedParagraph x → SizedParagraph (map_paragraph f x)
  unfolding map_paragraph SizedParagraph
  paragraph_sized (given n is) h = tt
  paragraph_sized (axiomatic n t) h = text_sized t h
  paragraph_sized (schema n s ps x) h = schema_sized x h
  paragraph_sized (abbreviation n i ps a) h = expr_sized a h
  paragraph_sized (constraint n p) h = pred_sized p h

  parameters_kept : (p : Paragraph) → FewParameters p → FewParameters (map_paragraph f p)
  unfolding map_paragraph
  parameters_kept (given n is) h = h
  parameters_kept (axiomatic n t) h = h
  parameters_kept (schema n s ps x) h = h
  parameters_kept (abbreviation n i ps a) h = h
  parameters_kept (constraint n p) h = h

  pub paragraphs_sized : (ps : List Paragraph) → SizedParagraphs ps → SizedParagraphs (map_paragraphs f ps)
  unfolding map_paragraphs SizedParagraphs
  paragraphs_sized [] h = tt
  paragraphs_sized (p ∷ ps) h = (paragraph_sized p h.0, paragraphs_sized ps h.1, parameters_kept p h.2)
