-- A settled type is well formed: the type of the unknown that the power of a closed piece has. The scope's types are (they are read), so that the items may be taken after others,
-- which say of the scope's terms what their types are and no more.
use mathlib.Core.Path.{◌≡◌, refl, sym, ap, subst, ◌∙◌}
use mathlib.Core.List.{List, [], ◌∷◌}
use Prim.Native.Nat.{ℕ}
use Rattle.reader_rules.specs.Tree.{Expr}
use Rattle.types_rules.specs.Equations.{In}
use Rattle.types_rules.specs.Formed.{Formed, Arity, WellFormed}
use Rattle.types_rules.specs.Instance.{instance}
use Rattle.types_rules.specs.Types.{Term, nil, under}
use Rattle.types_rules.specs.Trees.{finite}
use Rattle.types_rules.proofs.Instance.{instance_none}
use Rattle.checker_rules.specs.Conditions.{is_power}
use Rattle.checker_rules.specs.Dictionary.{Dictionary}
use Rattle.checker_rules.specs.Items.{Items, skip, ◌⨾◌, equate, piece, Meets, MeetsIn, Typings, Any, And, Agree, Passes}
use Rattle.checker_rules.specs.Rules.{expr_items}
use Rattle.checker_rules.specs.Scopes.{Scope, globals, local}
use Rattle.checker_rules.specs.Unknowns.{Valuation, slot}
use Rattle.checker_rules.specs.WellFormed.{FormedDictionary}
use Rattle.checker_rules.proofs.FormedItems.{FormedItems, is_power_formed, formed_expr}
use Rattle.checker_rules.proofs.FormedScopes.{FormedScope}
use Rattle.reader_rules.proofs.Sized.{SizedExpr}
use Rattle.checker_signatures.specs.Carried.{Stacked}
use Rattle.checker_signatures.specs.Rows.{stack}
use Rattle.checker_pieces.specs.Piece.{SameOn, Steady}
use Rattle.checker_pieces.proofs.Terms.{under_same}
use Rattle.checker_lookup.specs.Scoped.{SettledAt, Scoped}
use Rattle.checker_contracts.specs.Visits.{idle}
use Rattle.checker_contracts.proofs.Normal.{normal, normal_table, Normal, normal_formed, normal_same, normal_under, term_formed, normal_items}

-- The scope's terms have the types that τ gives them.
unfoldable pins : Valuation → Scope → Items
pins τ (globals D) = skip
pins τ (local i t Γ) = equate 36 0 t (instance nil (under τ t)) ⨾ pins τ Γ

-- As τ meets.
pins_met : (τ : Valuation) (Γ : Scope) → Meets (pins τ Γ) τ
unfolding pins MeetsIn
pins_met τ (globals D) = tt
pins_met τ (local i t Γ) = (sym (instance_none τ (under τ t)), pins_met τ Γ)

pins_pass : (τ : Valuation) (Γ : Scope) (P : Typings) → P finite τ → Passes (pins τ Γ) P
unfolding pins Passes MeetsIn
pins_pass τ (globals D) P p = tt
pins_pass τ (local i t Γ) P p =
    let e = sym (instance_none τ (under τ t)) in
    ((τ, p, e), pins_pass τ Γ (And P (equate 36 0 t (instance nil (under τ t)))) (p, e))

module _ (s d : List ℕ) (H : Items) (U : List ℕ) (D : Dictionary) (τ : Valuation) (m : Meets H τ) where
  abbrev Row : Term → ℕ → Type 0
  Row = SettledAt s d (idle H U)

  -- A term of the scope is well formed, and so is its type.
  type_formed : (t : Term) (p : ℕ) → Row t p → WellFormed (under τ t)
  unfolding MeetsIn
  type_formed t p R = subst WellFormed (sym (R.means τ (m, tt))) R.reads.formed

  pub scope_formed : (Γ : Scope) (st : List (ℕ × ℕ)) → Stacked Row Γ st D → FormedDictionary D → FormedScope Γ
  unfolding Stacked FormedScope
  scope_formed (globals E) [] k f = subst FormedDictionary (sym k) f
  scope_formed (globals E) (r ∷ st) k f = absurd k
  scope_formed (local i t Γ) [] k f = absurd k
  scope_formed (local i t Γ) (r ∷ st) k f = (term_formed τ t (type_formed t r.1 k.1), scope_formed Γ st k.2 f)

  -- What is said of the terms depends on the unknowns U alone, ..
  pins_local : (Γ : Scope) (st : List (ℕ × ℕ)) → Stacked Row Γ st D → (σ σ' : Valuation) → SameOn U σ σ' → Meets (pins τ Γ) σ → Meets (pins τ Γ) σ'
  unfolding Stacked pins MeetsIn
  pins_local (globals E) st k σ σ' h n = tt
  pins_local (local i t Γ) [] k σ σ' h n = absurd k
  pins_local (local i t Γ) (r ∷ st) k σ σ' h n = (
    sym (under_same U σ σ' h t k.1.over) ∙ n.0 ∙ instance_none σ (under τ t) ∙ sym (instance_none σ' (under τ t)),
    pins_local Γ st k.2 σ σ' h n.1,
  )

  -- .. and holds of normal types.
  pins_normal : (Γ : Scope) (st : List (ℕ × ℕ)) → Stacked Row Γ st D → Normal (MeetsIn (pins τ Γ))
  unfolding Stacked pins MeetsIn
  pins_normal (globals E) st k σ n = tt
  pins_normal (local i t Γ) [] k σ n = absurd k
  pins_normal (local i t Γ) (r ∷ st) k σ n =
      let f = type_formed t r.1 k.1 in (
        normal_under σ t (term_formed τ t f) ∙ ap normal (n.0 ∙ instance_none σ (under τ t)) ∙ normal_same (under τ t) f ∙ sym (instance_none (normal_table σ) (under τ t)),
        pins_normal Γ st k.2 σ n.1,
      )

  -- After these items the scope is what it was.
  pinned : (H' : Items) (Γ : Scope) (st : List (ℕ × ℕ)) → ((σ : Valuation) → Meets H' σ → Meets (pins τ Γ) σ) → Stacked Row Γ st D → Stacked (SettledAt s d (idle H' U)) Γ st D
  unfolding Stacked pins MeetsIn
  pinned H' (globals E) [] says k = k
  pinned H' (globals E) (r ∷ st) says k = absurd k
  pinned H' (local i t Γ) [] says k = absurd k
  pinned H' (local i t Γ) (r ∷ st) says k = (
    k.0,
    record {
      over = k.1.over;
      type = k.1.type;
      reads = k.1.reads;
      means = λ σ n. (says σ n.0).0 ∙ instance_none σ (under τ t) ∙ k.1.means τ (m, tt);
    },
    pinned H' Γ st (λ σ n. (says σ n).1) k.2,
  )

-- THE POWER'S UNKNOWN of the closed piece with the expression a, where its items pass after whatever comes before that has the scope and New unknowns.
module _ (s d w : List ℕ) (rows : ℕ) (a : Expr) (New : List ℕ → Type 0) (Γ : Scope) (D : Dictionary) (n k : ℕ) where
  abbrev pub closed_items : Items
  closed_items = expr_items a Γ ⨾ is_power n k a

  abbrev pub Closes : Type 0
  Closes = (H : Items) (U : List ℕ) → Steady H U → Scoped s d w rows (idle H U) Γ D → New U → Passes (piece n closed_items) (MeetsIn H)

  pub settled_formed : Closes → SizedExpr a → (H : Items) (U : List ℕ) → Scoped s d w rows (idle H U) Γ D → New U → (τ : Valuation) → Meets (H ⨾ piece n closed_items) τ →
      WellFormed (τ (slot n k))
  unfolding MeetsIn Passes FormedItems Agree
  settled_formed C z H U S f τ h =
      let st = stack w 0 rows in
      let H' = pins τ Γ in
      let K = S.stacked in
      let S' : Scoped s d w rows (idle H' U) Γ D = record { stacked = pinned s d H U D τ h.0 H' Γ st (λ σ q. q) K; recorded = S.recorded } in
      let p = C H' U (record { passes = pins_pass τ Γ Any tt; local = pins_local s d H U D τ h.0 Γ st K; some = (τ, pins_met τ Γ) }) S' f in
      let g = scope_formed s d H U D τ h.0 Γ st K S.recorded.formed in
      let F : FormedItems closed_items = (formed_expr a Γ z g, is_power_formed n k a) in
      let v = normal_items closed_items (MeetsIn H') (pins_normal s d H U D τ h.0 Γ st K) F p.0 τ (pins_met τ Γ) h.1 in
      let e = p.1 (normal_table τ) τ (pins_normal s d H U D τ h.0 Γ st K τ (pins_met τ Γ), v) (pins_met τ Γ, h.1) in
      subst WellFormed e.1.0 (normal_formed (τ (slot n k)))
