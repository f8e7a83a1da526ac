-- The root's number in a renumbered tree, for each sort; as many expressions as before.
use mathlib.Core.Path.{◌≡◌, refl, ap}
use Prim.Native.Nat.{ℕ, suc}
use lib.ListN.{length}
use Rattle.reader_rules.specs.Tree.{Expr, reference, number, integers, set, tuple, product, power, application, selection, theta, schema_set}
use Rattle.reader_rules.specs.Tree.{arithmetic, comprehension, Exprs, none, more, Pred, truth, equal, member, at_most, not, connected, quantified, Text, text}
use Rattle.reader_rules.specs.Tree.{Include, include, Schema, plain, from, both, Paragraph, given, axiomatic, schema, abbreviation, constraint}
use Rattle.reader_rules.specs.Tree.{expr_node, pred_node, text_node, include_node, schema_node, paragraph_node, exprs_length}
use Rattle.canonical_rules.specs.MapNodes.{map_expr, map_exprs, map_pred, map_text, map_include, map_schema, map_paragraph}
use Rattle.canonical_rules.specs.Canonical.{exprs_nodes}

pub nodes_length : (xs : Exprs) → length (exprs_nodes xs) ≡ exprs_length xs
unfolding exprs_length exprs_nodes
nodes_length none = refl
nodes_length (more a xs) = ap suc (nodes_length xs)

module _ (f : ℕ → ℕ) where
  pub expr_node_lem : (a : Expr) → expr_node (map_expr f a) ≡ f (expr_node a)
  unfolding expr_node map_expr
  expr_node_lem (reference n i xs) = refl
  expr_node_lem (number n v) = refl
  expr_node_lem (integers n) = refl
  expr_node_lem (set n xs) = refl
  expr_node_lem (tuple n xs) = refl
  expr_node_lem (product n xs) = refl
  expr_node_lem (power n a) = refl
  expr_node_lem (application n a b) = refl
  expr_node_lem (selection n a i) = refl
  expr_node_lem (theta n s k) = refl
  expr_node_lem (schema_set n i) = refl
  expr_node_lem (arithmetic n o a b) = refl
  expr_node_lem (comprehension n t a) = refl

  pub include_node_lem : (i : Include) → include_node (map_include f i) ≡ f (include_node i)
  unfolding include_node map_include
  include_node_lem (include n s k xs rs) = refl

  pub pred_node_lem : (p : Pred) → pred_node (map_pred f p) ≡ f (pred_node p)
  unfolding pred_node map_pred
  pred_node_lem (truth n) = refl
  pred_node_lem (equal n a b) = refl
  pred_node_lem (member n a b) = refl
  pred_node_lem (at_most n a b) = refl
  pred_node_lem (not n p) = refl
  pred_node_lem (connected n k p q) = refl
  pred_node_lem (quantified n k t p) = refl

  pub text_node_lem : (t : Text) → text_node (map_text f t) ≡ f (text_node t)
  unfolding text_node map_text
  text_node_lem (text n p ls) = refl

  pub schema_node_lem : (x : Schema) → schema_node (map_schema f x) ≡ f (schema_node x)
  unfolding schema_node map_schema
  schema_node_lem (plain t) = text_node_lem t
  schema_node_lem (from i) = include_node_lem i
  schema_node_lem (both n a b) = refl

  pub paragraph_node_lem : (p : Paragraph) → paragraph_node (map_paragraph f p) ≡ f (paragraph_node p)
  unfolding paragraph_node map_paragraph
  paragraph_node_lem (given n is) = refl
  paragraph_node_lem (axiomatic n t) = refl
  paragraph_node_lem (schema n s ps x) = refl
  paragraph_node_lem (abbreviation n i ps a) = refl
  paragraph_node_lem (constraint n p) = refl

  pub length_maps : (xs : Exprs) → exprs_length (map_exprs f xs) ≡ exprs_length xs
  unfolding exprs_length map_exprs
  length_maps none = refl
  length_maps (more a xs) = ap suc (length_maps xs)
