-- Predicates, Texts, lines, Includes and schema expressions have no unknown outside a closed piece of theirs: any two valuations agree on their own unknowns.
use mathlib.Core.Bool.{Bool, true, false, cond}
use Prim.Native.Nat.{ℕ, suc}
use lib.Dec.{eqb}
use Rattle.reader_rules.specs.Tree.{Exprs, none, more, Pred, truth, equal, member, at_most, not, connected, quantified, Text, text, Lines, end, declaration, inclusion}
use Rattle.reader_rules.specs.Tree.{Include, include, Schema, plain, from, both, exprs_length, include_node}
use Rattle.types_rules.specs.Types.{nil}
use Rattle.types_rules.specs.Instance.{instance}
use Rattle.checker_rules.specs.Unknowns.{Valuation, unknown_at}
use Rattle.checker_rules.specs.Items.{Items, ◌⨾◌, refusal, Agree}
use Rattle.checker_rules.specs.Dictionary.{Dictionary, blank, NamedSchema, no_schema, a_schema}
use Rattle.checker_rules.specs.Signatures.{Signature, no_names, names_of, components_of, merge, declare, wrong_names}
use Rattle.checker_rules.specs.Scopes.{Scope, schema_named, include_signature, inside, schema_signature}
use Rattle.checker_rules.specs.Conditions.{refuse_if}
use Rattle.checker_rules.proofs.ItemForms.{bare_agrees, refuse_if_bare, smalls_bare, declared_new, names_new, small_few, smalls_few, names_few}
use Rattle.checker_rules.specs.Rules.{include_rule, pred_items, text_items, lines_items, include_items, actual_items, schema_items}

module _ (σ τ : Valuation) where
  rule_agrees : (f : NamedSchema) (i : Include) (actuals : Items) → Agree actuals σ τ → Agree (include_rule f i actuals) σ τ
  unfolding include_rule Agree
  rule_agrees no_schema (include n s k xs rs) actuals h = tt
  rule_agrees (a_schema p g) (include n s k xs rs) actuals h =
      go (eqb (exprs_length xs) p)
    where
      go : (b : Bool) → Agree (cond b (actuals ⨾ refuse_if (wrong_names k rs (components_of (instance nil g))) 37 n) (refusal 32 n)) σ τ
      go true = (h, bare_agrees σ τ _ (refuse_if_bare (wrong_names k rs (components_of (instance nil g))) 37 n))
      go false = tt

-- The actuals of an Include, and the Include.
pub actuals_agree : (xs : Exprs) (n k : ℕ) (Γ : Scope) (σ τ : Valuation) → Agree (actual_items xs n k Γ) σ τ
unfolding actual_items Agree
actuals_agree none n k Γ σ τ = tt
actuals_agree (more a xs) n k Γ σ τ = (tt, actuals_agree xs n (suc k) Γ σ τ)

pub include_agrees : (i : Include) (Γ : Scope) (σ τ : Valuation) → Agree (include_items i Γ) σ τ
unfolding include_items
include_agrees (include n s k xs rs) Γ σ τ = rule_agrees σ τ (schema_named s Γ) (include n s k xs rs) (actual_items xs n 1 Γ) (actuals_agree xs n 1 Γ σ τ)

pub lines_agrees : (ls : Lines) (Γ : Scope) (G : Dictionary) (r : Signature) (σ τ : Valuation) → Agree (lines_items ls Γ G r) σ τ
unfolding lines_items Agree
lines_agrees end Γ G r σ τ = tt
lines_agrees (declaration n a is ls) Γ G r σ τ = (
  tt,
  (
    bare_agrees σ τ _ (declared_new n is (unknown_at n 0) r G),
    (
      bare_agrees σ τ _ (small_few n (unknown_at n 0) (declare is (unknown_at n 0) r)),
      lines_agrees ls Γ G (declare is (unknown_at n 0) r) σ τ,
    ),
  ),
)
lines_agrees (inclusion i ls) Γ G r σ τ =
    let s = include_signature i Γ in (
      include_agrees i Γ σ τ,
      (
        bare_agrees σ τ _ (names_new (include_node i) s r (names_of s) G),
        (
          bare_agrees σ τ _ (smalls_few (include_node i) s (merge s r)),
          lines_agrees ls Γ G (merge s r) σ τ,
        ),
      ),
    )

-- A relation is a closed piece.
mutual
  unfolding pred_items Agree

  pub pred_agrees : (p : Pred) (Γ : Scope) (σ τ : Valuation) → Agree (pred_items p Γ) σ τ
  pred_agrees (truth n) Γ σ τ = tt
  pred_agrees (equal n a b) Γ σ τ = tt
  pred_agrees (member n a b) Γ σ τ = tt
  pred_agrees (at_most n a b) Γ σ τ = tt
  pred_agrees (not n p) Γ σ τ = pred_agrees p Γ σ τ
  pred_agrees (connected n o p q) Γ σ τ = (pred_agrees p Γ σ τ, pred_agrees q Γ σ τ)
  pred_agrees (quantified n o t p) Γ σ τ = (text_agrees t Γ blank σ τ, pred_agrees p (inside t Γ) σ τ)

  pub text_agrees : (t : Text) (Γ : Scope) (G : Dictionary) (σ τ : Valuation) → Agree (text_items t Γ G) σ τ
  text_agrees (text n p ls) Γ G σ τ = (lines_agrees ls Γ G no_names σ τ, pred_agrees p (inside (text n p ls) Γ) σ τ)

pub schema_agrees : (x : Schema) (Γ : Scope) (σ τ : Valuation) → Agree (schema_items x Γ) σ τ
unfolding schema_items Agree
schema_agrees (plain t) Γ σ τ = text_agrees t Γ blank σ τ
schema_agrees (from i) Γ σ τ = (include_agrees i Γ σ τ, bare_agrees σ τ _ (smalls_bare (include_node i) (include_signature i Γ)))
schema_agrees (both n a b) Γ σ τ = (
  schema_agrees a Γ σ τ,
  (
    schema_agrees b Γ σ τ,
    bare_agrees σ τ _ (names_few n (schema_signature b Γ) (schema_signature a Γ) (merge (schema_signature b Γ) (schema_signature a Γ))),
  ),
)
