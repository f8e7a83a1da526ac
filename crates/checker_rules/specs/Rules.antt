-- The typing rules: the items of each paragraph in visiting order, over the dictionary of the paragraphs before it (document 01, "Typing rules" and the
-- table of findings, 31 to 39). At one node the lowest number goes first; R9 to R17 and R19 settle the order where the page leaves it open.
use Rattle.std.specs.Prelude.{Bool, true, false, cond, [], ◌∷◌, ℕ, zero, suc, ltb, eqb}
use Rattle.reader_rules.specs.Tree.{Expr, reference, number, integers, set, tuple, product, power, application, selection, theta, schema_set, arithmetic}
use Rattle.reader_rules.specs.Tree.{comprehension, Exprs, none, more, Pred, truth, equal, member, at_most, not, connected, quantified, Text, text, Lines}
use Rattle.reader_rules.specs.Tree.{end, declaration, inclusion, Include, include, Schema, plain, from, both, Paragraph, given, axiomatic, schema}
use Rattle.reader_rules.specs.Tree.{abbreviation, constraint, exprs_length, include_node}
use Rattle.types_rules.specs.Types.{Term, nil}
use Rattle.types_rules.specs.Instance.{instance}
use Rattle.checker_rules.specs.Strokes.{decorate, takes}
use Rattle.checker_rules.specs.Unknowns.{slot, unknown_at, row, integer, power_of, product_of, pair_of}
use Rattle.checker_rules.specs.Items.{Items, skip, ◌⨾◌, fresh, select, small, refusal, piece}
use Rattle.checker_rules.specs.Dictionary.{Dictionary, blank, Named, unnamed, of_local, of_global, NamedSchema, no_schema, a_schema}
use Rattle.checker_rules.specs.Signatures.{Signature, no_names, naming, names_of, binding_of, components_of, merge, declare, some_stroked, wrong_names}
use Rattle.checker_rules.specs.Scopes.{Scope, globals, name_at, schema_named, with_parameters, include_signature, inside, schema_signature}
use Rattle.checker_rules.specs.Conditions.{refuse_if, merge_declared, merge_names, new_names, small_types, few_names, type_of, types_of, typed, is_power}
use Rattle.checker_rules.specs.Conditions.{equation, are_powers, are_members, are_numbers, fresh_row}

-- Ref: its name's type; 31 unknown, 32 actuals neither 0 nor the parameter count. Without actuals each parameter is an unknown, even one that the type does
-- not mention (R13); with actuals the k-th is a power of unknown k.
unfoldable pub reference_items : ℕ → Exprs → Named → Items
reference_items n xs unnamed = refusal 31 n
reference_items n none (of_local t) = typed n t
reference_items n (more a xs) (of_local t) = refusal 32 n
reference_items n none (of_global p g) = fresh_row n 1 p ⨾ typed n (instance (row n 1 p) g)
reference_items n (more a xs) (of_global p g) =
    cond (eqb (exprs_length (more a xs)) p) (are_powers n (more a xs) 1 ⨾ typed n (instance (row n 1 p) g)) (refusal 32 n)

-- Theta: 31 for an identifier absent or generic; a component that cannot take the stroke gives only 37 (R10). It looks its identifiers up as a Ref does;
-- only an Abbreviation with parameters is generic (R19).
unfoldable pub theta_name : Bool → ℕ → Named → Items
theta_name false n m = skip
theta_name true n unnamed = refusal 31 n
theta_name true n (of_local t) = skip
theta_name true n (of_global zero g) = skip
theta_name true n (of_global (suc p) g) = refusal 31 n

unfoldable pub theta_names : ℕ → ℕ → Signature → Scope → Items
theta_names n k no_names Γ = skip
theta_names n k (naming i t s) Γ = theta_name (takes k i) n (name_at (decorate k i) Γ) ⨾ theta_names n k s Γ

-- the type of a name that is no generic; a stand-in where 31 refuses
unfoldable pub type_in_scope : Named → Term
type_in_scope unnamed = integer
type_in_scope (of_local t) = t
type_in_scope (of_global p g) = instance nil g

-- The undecorated components, with the types that the decorated identifiers have in scope.
unfoldable pub theta_signature : ℕ → Signature → Scope → Signature
theta_signature k no_names Γ = no_names
theta_signature k (naming i t s) Γ = naming i (type_in_scope (name_at (decorate k i) Γ)) (theta_signature k s Γ)

-- 31, 32, 37 strictly by number (R10); a Theta has 0 actuals.
unfoldable pub theta_items : ℕ → ℕ → NamedSchema → Scope → Items
theta_items n k no_schema Γ = refusal 31 n
theta_items n k (a_schema p g) Γ =
    theta_names n k (components_of (instance nil g)) Γ
    ⨾ refuse_if (ltb 0 p) 32 n
    ⨾ refuse_if (some_stroked k (components_of (instance nil g))) 37 n
    ⨾ typed n (binding_of (theta_signature k (components_of (instance nil g)) Γ))

-- Include looks up the name (31), compares the count (32), visits and closes each actual in turn, then looks at strokes and renames (37; R10, R11).
unfoldable pub include_rule : NamedSchema → Include → Items → Items
include_rule no_schema (include n s k xs rs) actuals = refusal 31 n
include_rule (a_schema p g) (include n s k xs rs) actuals =
    cond (eqb (exprs_length xs) p) (actuals ⨾ refuse_if (wrong_names k rs (components_of (instance nil g))) 37 n) (refusal 32 n)

unfoldable mutual
  -- Operands first, left to right; then the node's unknowns, its equations and its type.
  pub expr_items : Expr → Scope → Items
  -- Ref: actuals before its own 31 and 32 (R9)
  expr_items (reference n i xs) Γ = exprs_items xs Γ ⨾ reference_items n xs (name_at i Γ)
  expr_items (number n v) Γ = typed n integer
  expr_items (integers n) Γ = typed n (power_of integer)
  -- Set: members have its element type; the power of it
  expr_items (set n xs) Γ = exprs_items xs Γ ⨾ fresh (slot n 1) ⨾ are_members n xs ⨾ typed n (power_of (unknown_at n 1))
  expr_items (tuple n xs) Γ = exprs_items xs Γ ⨾ typed n (product_of (types_of xs))
  -- Product, Power: operands are powers; power of product, power of power
  expr_items (product n xs) Γ = exprs_items xs Γ ⨾ are_powers n xs 1 ⨾ typed n (power_of (product_of (row n 1 (exprs_length xs))))
  expr_items (power n a) Γ = expr_items a Γ ⨾ is_power n 1 a ⨾ typed n (power_of (power_of (unknown_at n 1)))
  -- Apply: function = power of (argument × result); "here the argument meets the first part only"
  expr_items (application n a b) Γ =
      expr_items a Γ ⨾ expr_items b Γ ⨾ fresh (slot n 0) ⨾ equation n (type_of a) (power_of (pair_of (type_of b) (unknown_at n 0)))
  -- Select: its component's type, 35 also where only a later node would settle it (R14)
  expr_items (selection n a i) Γ = expr_items a Γ ⨾ fresh (slot n 0) ⨾ select n i (type_of a) (slot n 0)
  expr_items (theta n s k) Γ = theta_items n k (schema_named s Γ) Γ
  -- SchemaSet: power of the binding; 38 at its Include
  expr_items (schema_set n i) Γ = include_items i Γ ⨾ small_types (include_node i) (include_signature i Γ) ⨾ typed n (power_of (binding_of (include_signature i Γ)))
  -- arithmetic: ℤ
  expr_items (arithmetic n o a b) Γ =
      expr_items a Γ ⨾ expr_items b Γ ⨾ are_numbers n (type_of a) (type_of b) ⨾ typed n integer
  -- Comprehension: power of the body's type; the body is of the piece around it (R15)
  expr_items (comprehension n t a) Γ = text_items t Γ blank ⨾ expr_items a (inside t Γ) ⨾ typed n (power_of (type_of a))

  pub exprs_items : Exprs → Scope → Items
  exprs_items none Γ = skip
  exprs_items (more a xs) Γ = expr_items a Γ ⨾ exprs_items xs Γ

  -- The two E of a relation are a closed piece. =: equal sides; member: power of left = right; ≤: ℤ.
  pub pred_items : Pred → Scope → Items
  pred_items (truth n) Γ = skip
  pred_items (equal n a b) Γ = piece n (expr_items a Γ ⨾ expr_items b Γ ⨾ equation n (type_of a) (type_of b))
  pred_items (member n a b) Γ = piece n (expr_items a Γ ⨾ expr_items b Γ ⨾ equation n (power_of (type_of a)) (type_of b))
  pred_items (at_most n a b) Γ = piece n (expr_items a Γ ⨾ expr_items b Γ ⨾ are_numbers n (type_of a) (type_of b))
  pred_items (not n p) Γ = pred_items p Γ
  pred_items (connected n o p q) Γ = pred_items p Γ ⨾ pred_items q Γ
  pred_items (quantified n o t p) Γ = text_items t Γ blank ⨾ pred_items p (inside t Γ)

  -- A Text's lines before its predicate. The dictionary: the names that are global already, where the Text is an Axiom's, otherwise none.
  pub text_items : Text → Scope → Dictionary → Items
  text_items (text n p ls) Γ G = lines_items ls Γ G no_names ⨾ pred_items p (inside (text n p ls) Γ)

  -- The signature: that of the lines before. A Decl's E is a closed piece of type power t, and its identifiers get t. A Decl: 33, 34, 36, 38; an Include
  -- line: its own, then 36, 38 (R10, R16, R17).
  pub lines_items : Lines → Scope → Dictionary → Signature → Items
  lines_items end Γ G r = skip
  lines_items (declaration n a is ls) Γ G r =
      piece n (expr_items a Γ ⨾ is_power n 0 a)
      ⨾ (merge_declared n is (unknown_at n 0) r ⨾ new_names n is G)
      ⨾ (small n (unknown_at n 0) ⨾ few_names n (declare is (unknown_at n 0) r))
      ⨾ lines_items ls Γ G (declare is (unknown_at n 0) r)
  lines_items (inclusion i ls) Γ G r =
      include_items i Γ
      ⨾ (merge_names (include_node i) (include_signature i Γ) r ⨾ new_names (include_node i) (names_of (include_signature i Γ)) G)
      ⨾ (small_types (include_node i) (include_signature i Γ) ⨾ few_names (include_node i) (merge (include_signature i Γ) r))
      ⨾ lines_items ls Γ G (merge (include_signature i Γ) r)

  pub include_items : Include → Scope → Items
  include_items (include n s k xs rs) Γ = include_rule (schema_named s Γ) (include n s k xs rs) (actual_items xs n 1 Γ)

  -- Each actual of an Include is a closed piece, and a power: its nodes, 33 and 34 at the Include, in turn (R10).
  pub actual_items : Exprs → ℕ → ℕ → Scope → Items
  actual_items none n k Γ = skip
  actual_items (more a xs) n k Γ = piece n (expr_items a Γ ⨾ is_power n k a) ⨾ actual_items xs n (suc k) Γ

-- Schema expressions: a Text; an Include, 38; a Conjunction, 36 then 38.
unfoldable pub schema_items : Schema → Scope → Items
schema_items (plain t) Γ = text_items t Γ blank
schema_items (from i) Γ = include_items i Γ ⨾ small_types (include_node i) (include_signature i Γ)
schema_items (both n a b) Γ =
    schema_items a Γ
    ⨾ schema_items b Γ
    ⨾ merge_names n (schema_signature b Γ) (schema_signature a Γ)
    ⨾ few_names n (merge (schema_signature b Γ) (schema_signature a Γ))

-- Paragraphs. Given: 36. Abbreviation: 34, 36, 38 (R10, R16, R17); its E is a closed piece.
unfoldable pub paragraph_items : Paragraph → Dictionary → Items
paragraph_items (given n is) D = new_names n is D
paragraph_items (axiomatic n t) D = text_items t (globals D) D
paragraph_items (schema n s ps x) D = schema_items x (with_parameters ps 1 (globals D))
paragraph_items (abbreviation n i ps a) D =
    piece n (expr_items a (with_parameters ps 1 (globals D))) ⨾ new_names n (i ∷ []) D ⨾ small n (type_of a)
paragraph_items (constraint n p) D = pred_items p (globals D)
