-- The rules ask of a valuation exactly that it is a typing, as specs/Typing words it: neither less nor more.
use Rattle.std.specs.Prelude.{◌↔◌}
use Rattle.reader_rules.specs.Tree.{Expr, Pred, Text, Lines, Include, Schema, Paragraph}
use Rattle.checker_rules.specs.Unknowns.{Valuation}
use Rattle.checker_rules.specs.Items.{Meets}
use Rattle.checker_rules.specs.Dictionary.{Dictionary}
use Rattle.checker_rules.specs.Signatures.{Signature}
use Rattle.checker_rules.specs.Scopes.{Scope}
use Rattle.checker_rules.specs.Rules.{expr_items, pred_items, text_items, lines_items, include_items, schema_items, paragraph_items}
use Rattle.checker_rules.specs.Typing.{TypedExpr, TypedPred, TypedText, TypedLines, TypedInclude, TypedSchema, TypedParagraph}

pub record RuleTypings : Type 0 where
  pub expr : (τ : Valuation) (a : Expr) (Γ : Scope) → Meets (expr_items a Γ) τ ↔ TypedExpr τ a Γ
  pub pred : (τ : Valuation) (p : Pred) (Γ : Scope) → Meets (pred_items p Γ) τ ↔ TypedPred τ p Γ
  pub text : (τ : Valuation) (t : Text) (Γ : Scope) (G : Dictionary) → Meets (text_items t Γ G) τ ↔ TypedText τ t Γ G
  pub lines : (τ : Valuation) (ls : Lines) (Γ : Scope) (G : Dictionary) (r : Signature) → Meets (lines_items ls Γ G r) τ ↔ TypedLines τ ls Γ G r
  pub included : (τ : Valuation) (i : Include) (Γ : Scope) → Meets (include_items i Γ) τ ↔ TypedInclude τ i Γ
  pub schema : (τ : Valuation) (x : Schema) (Γ : Scope) → Meets (schema_items x Γ) τ ↔ TypedSchema τ x Γ
  pub paragraph : (τ : Valuation) (p : Paragraph) (D : Dictionary) → Meets (paragraph_items p D) τ ↔ TypedParagraph τ p D
