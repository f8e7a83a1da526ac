-- Expressions by their operands: the items, nodes and limits of an expression whose node is k, after those of its operands.
use Rattle.std.specs.Prelude.{◌≡◌, [], ◌∷◌, ◌++◌, ℕ, ◌-◌, ◌≤◌}
use Rattle.reader_rules.specs.Limited.{LimitedExpr, LimitedExprs}
use Rattle.reader_rules.specs.Tree.{Expr, Exprs, expr_node}
use Rattle.reader_rules.specs.TreeNumbers.{expr_numbers, exprs_numbers}
use Rattle.types_rules.specs.Types.{Term}
use Rattle.checker_rules.specs.Conditions.{type_of}
use Rattle.checker_rules.specs.Items.{Items, ◌⨾◌}
use Rattle.checker_rules.specs.Rules.{expr_items, exprs_items}
use Rattle.checker_rules.specs.Scopes.{Scope}

-- no operand
pub record Alone (e : Expr) (k : ℕ) (own : Scope → Items) : Type 0 where
  pub items : (Γ : Scope) → expr_items e Γ ≡ own Γ
  pub numbers : expr_numbers e ≡ k ∷ []
  pub node : expr_node e ≡ k

-- one operand
pub record Over (e a : Expr) (k : ℕ) (own : Term → Items) : Type 0 where
  pub items : (Γ : Scope) → expr_items e Γ ≡ expr_items a Γ ⨾ own (type_of a)
  pub numbers : expr_numbers e ≡ expr_numbers a ++ (k ∷ [])
  pub node : expr_node e ≡ k
  pub limited : (h m : ℕ) → LimitedExpr h m e → (1 ≤ h) × LimitedExpr (h - 1) m a

-- two operands
pub record Joining (e a b : Expr) (k : ℕ) (own : Term → Term → Items) : Type 0 where
  pub items : (Γ : Scope) → expr_items e Γ ≡ expr_items a Γ ⨾ expr_items b Γ ⨾ own (type_of a) (type_of b)
  pub numbers : expr_numbers e ≡ expr_numbers a ++ (expr_numbers b ++ (k ∷ []))
  pub node : expr_node e ≡ k
  pub limited : (h m : ℕ) → LimitedExpr h m e → (1 ≤ h) × LimitedExpr (h - 1) m a × LimitedExpr (h - 1) m b

-- a list of operands
pub record Listing (e : Expr) (xs : Exprs) (k : ℕ) (own : Scope → Items) : Type 0 where
  pub items : (Γ : Scope) → expr_items e Γ ≡ exprs_items xs Γ ⨾ own Γ
  pub numbers : expr_numbers e ≡ exprs_numbers xs ++ (k ∷ [])
  pub node : expr_node e ≡ k
  pub limited : (h m : ℕ) → LimitedExpr h m e → (1 ≤ h) × LimitedExprs (h - 1) m xs
