-- The shape of each kind of expression.
use mathlib.Core.Path.{refl}
use mathlib.Core.List.{[], ◌∷◌, append_assoc}
use Prim.Native.Nat.{ℕ}
use Rattle.reader_rules.specs.Limited.{LimitedExpr}
use Rattle.reader_rules.specs.Tree.{Expr, Exprs, none, number, integers, set, tuple, product, power, application, selection, theta, arithmetic, reference, Operator, expr_node}
use Rattle.reader_rules.specs.TreeNumbers.{expr_numbers}
use Rattle.checker_rules.specs.Rules.{expr_items, reference_items, theta_items}
use Rattle.checker_rules.specs.Scopes.{name_at, schema_named}
use Rattle.checker_kinds.specs.Equations.{apply_items, arithmetic_items, select_items}
use Rattle.checker_kinds.specs.Formers.{number_items, integers_items, tuple_items, product_items, set_items, power_rule_items}
use Rattle.checker_contracts.specs.Shapes.{Alone, Over, Joining, Listing}

module _ (k : ℕ) where
  pub number_alone : (v : ℕ) → Alone (number k v) k (λ Γ. number_items k none)
  unfolding expr_items expr_numbers expr_node
  number_alone v = record { items = λ Γ. refl; numbers = refl; node = refl }

  pub integers_alone : Alone (integers k) k (λ Γ. integers_items k none)
  unfolding expr_items expr_numbers expr_node
  integers_alone = record { items = λ Γ. refl; numbers = refl; node = refl }

  pub theta_alone : (s t : ℕ) → Alone (theta k s t) k (λ Γ. theta_items k t (schema_named s Γ) Γ)
  unfolding expr_items expr_numbers expr_node
  theta_alone s t = record { items = λ Γ. refl; numbers = refl; node = refl }

  pub power_over : (a : Expr) → Over (power k a) a k (power_rule_items k)
  unfolding expr_items expr_numbers expr_node LimitedExpr
  power_over a = record { items = λ Γ. refl; numbers = refl; node = refl; limited = λ h m z. z }

  pub select_over : (a : Expr) (id : ℕ) → Over (selection k a id) a k (select_items id k)
  unfolding expr_items expr_numbers expr_node LimitedExpr
  select_over a id = record { items = λ Γ. refl; numbers = refl; node = refl; limited = λ h m z. z }

  pub apply_joining : (a b : Expr) → Joining (application k a b) a b k (apply_items k)
  unfolding expr_items expr_numbers expr_node LimitedExpr
  apply_joining a b = record { items = λ Γ. refl; numbers = append_assoc (expr_numbers a) (expr_numbers b) (k ∷ []); node = refl; limited = λ h m z. z }

  pub arithmetic_joining : (o : Operator) (a b : Expr) → Joining (arithmetic k o a b) a b k (arithmetic_items k)
  unfolding expr_items expr_numbers expr_node LimitedExpr
  arithmetic_joining o a b = record { items = λ Γ. refl; numbers = append_assoc (expr_numbers a) (expr_numbers b) (k ∷ []); node = refl; limited = λ h m z. z }

  pub set_listing : (xs : Exprs) → Listing (set k xs) xs k (λ Γ. set_items k xs)
  unfolding expr_items expr_numbers expr_node LimitedExpr
  set_listing xs = record { items = λ Γ. refl; numbers = refl; node = refl; limited = λ h m z. z }

  pub tuple_listing : (xs : Exprs) → Listing (tuple k xs) xs k (λ Γ. tuple_items k xs)
  unfolding expr_items expr_numbers expr_node LimitedExpr
  tuple_listing xs = record { items = λ Γ. refl; numbers = refl; node = refl; limited = λ h m z. z }

  pub product_listing : (xs : Exprs) → Listing (product k xs) xs k (λ Γ. product_items k xs)
  unfolding expr_items expr_numbers expr_node LimitedExpr
  product_listing xs = record { items = λ Γ. refl; numbers = refl; node = refl; limited = λ h m z. z }

  pub reference_listing : (i : ℕ) (xs : Exprs) → Listing (reference k i xs) xs k (λ Γ. reference_items k xs (name_at i Γ))
  unfolding expr_items expr_numbers expr_node LimitedExpr
  reference_listing i xs = record { items = λ Γ. refl; numbers = refl; node = refl; limited = λ h m z. z }
