-- The terms of a piece's own equations: each is made of the piece's own unknowns, or of settled types in scope. So an expression's own node asks for equations
-- between fixed types (`OwnNode`).
use mathlib.Core.Path.{◌≡◌, refl, ap, subst}
use mathlib.Core.Bool.{Bool, true, false, cond}
use mathlib.Core.List.{List, [], ◌∷◌}
use mathlib.Core.Logic.{inl, inr}
use Prim.Native.Nat.{ℕ, zero, suc}
use lib.Dec.{ltb, eqb}
use borrow.Author.Tests.{eqb-true}
use Rattle.reader_rules.specs.Tree.{Expr, Exprs, none, more, Pred, Text, text, Lines, expr_node, exprs_length}
use Rattle.types_rules.specs.Former.{binding}
use Rattle.types_rules.specs.Types.{node, Tys, Term, nil, under, Each, Eachs}
use Rattle.types_rules.specs.Instance.{instance}
use Rattle.types_rules.proofs.Instance.{instance_same}
use Rattle.types_rules.specs.Trees.{finite}
use Rattle.checker_rules.specs.Strokes.{decorate, takes}
use Rattle.checker_rules.specs.Unknowns.{Valuation, slot, unknown_at, row, power_of}
use Rattle.checker_rules.specs.Items.{Items, ◌⨾◌, refusal, Typings}
use Rattle.checker_rules.specs.Dictionary.{name_entry, schema_entry, Dictionary, blank, ◌▸◌, Named, unnamed, of_local, of_global, name_in, NamedSchema, no_schema, a_schema}
use Rattle.checker_rules.specs.Signatures.{Signature, no_names, naming, names_of, binding_of, components_of, some_stroked}
use Rattle.checker_rules.specs.Scopes.{Scope, globals, local, name_at, with_parameters, enter, inside, text_signature}
use Rattle.checker_rules.specs.Conditions.{refuse_if, type_of, types_of, typed, is_power, powers, are_powers, members, are_members, fresh_row}
use Rattle.checker_rules.specs.Rules.{reference_items, theta_name, theta_names, type_in_scope, theta_signature, theta_items, text_items, lines_items}
use Rattle.checker_rules.specs.Pieces.{Owns}
use Rattle.checker_rules.proofs.ItemLaws.{Agrees}
use Rattle.checker_rules.proofs.OneType.{SameNames, lines_same, text_same, types_same}
use Rattle.checker_rules.proofs.ScopeUnknowns.{ScopeOver, NamedOver, instance_over, binding_over}
use Rattle.checker_rules.proofs.RuleUnknowns.{theta_sig_over}
use Rattle.checker_rules.proofs.PieceOwners.{RootsOwned}
use Rattle.checker_rules.proofs.PieceEquations.{Off, Fixed, FixedPairs, fixed_own, fixed_off, OwnNode}

-- ---- a scope whose names have the same types in two valuations
module _ (σ τ : Valuation) where
  unfoldable pub ScopeSame : Scope → Type 0
  ScopeSame (globals D) = Unit {0}
  ScopeSame (local i t Γ) = (under σ t ≡ under τ t) × ScopeSame Γ

  abbrev NamedSame : Named → Type 0
  NamedSame unnamed = Unit {0}
  NamedSame (of_local t) = under σ t ≡ under τ t
  NamedSame (of_global p g) = Unit {0}

  either_named : (b : Bool) (m n : Named) → NamedSame m → NamedSame n → NamedSame (cond b m n)
  either_named true m n h k = h
  either_named false m n h k = k

  name_in_same : (i : ℕ) (D : Dictionary) → NamedSame (name_in i D)
  unfolding name_in
  name_in_same i blank = tt
  name_in_same i (D ▸ name_entry j p g) = either_named (eqb i j) (of_global p g) (name_in i D) tt (name_in_same i D)
  name_in_same i (D ▸ schema_entry s p g) = name_in_same i D

  pub name_same : (i : ℕ) (Γ : Scope) → ScopeSame Γ → NamedSame (name_at i Γ)
  unfolding name_at ScopeSame
  name_same i (globals D) h = name_in_same i D
  name_same i (local j t Γ) h = either_named (eqb i j) (of_local t) (name_at i Γ) h.0 (name_same i Γ h.1)

  enter_same : (s : Signature) (Γ : Scope) → SameNames σ τ s → ScopeSame Γ → ScopeSame (enter s Γ)
  unfolding enter ScopeSame
  enter_same no_names Γ h k = k
  enter_same (naming i t s) Γ h k = enter_same s (local i t Γ) h.1 (h.0, k)

  pub parameters_same : (is : List ℕ) (k : ℕ) (Γ : Scope) → ScopeSame Γ → ScopeSame (with_parameters is k Γ)
  unfolding with_parameters ScopeSame under
  parameters_same [] k Γ h = h
  parameters_same (i ∷ is) k Γ h = parameters_same is (suc k) _ (refl, h)

  pub inside_same : (t : Text) (Γ : Scope) (D : Dictionary) → Agrees (text_items t Γ D) σ τ → ScopeSame Γ → ScopeSame (inside t Γ)
  unfolding inside
  inside_same t Γ D a h = enter_same (text_signature t Γ) Γ (text_same σ τ t Γ D a) h

  pub inside_lines : (n : ℕ) (p : Pred) (ls : Lines) (Γ : Scope) (D : Dictionary) → Agrees (lines_items ls Γ D no_names) σ τ → ScopeSame Γ → ScopeSame (inside (text n p ls) Γ)
  unfolding inside text_signature
  inside_lines n p ls Γ D a h = enter_same _ Γ (lines_same σ τ ls Γ D no_names a tt) h

  pub binding_same : (s : Signature) → SameNames σ τ s → under σ (binding_of s) ≡ under τ (binding_of s)
  unfolding binding_of under
  binding_same s h = ap (λ (gs : Tys). node (binding (names_of s)) gs) (types_same σ τ s h)

  scoped_same : (m : Named) → NamedSame m → under σ (type_in_scope m) ≡ under τ (type_in_scope m)
  unfolding type_in_scope under
  scoped_same unnamed h = refl
  scoped_same (of_local t) h = h
  scoped_same (of_global p g) h = instance_same σ τ nil g refl

  theta_sig_same : (k : ℕ) (s : Signature) (Γ : Scope) → ScopeSame Γ → SameNames σ τ (theta_signature k s Γ)
  unfolding theta_signature
  theta_sig_same k no_names Γ h = tt
  theta_sig_same k (naming i t s) Γ h = (scoped_same (name_at (decorate k i) Γ) (name_same (decorate k i) Γ h), theta_sig_same k s Γ h)

-- ---- the own node of each kind, in the piece w
module _ (w : Items) (P : Typings) where
  pub root_fixed : (a : Expr) → Owns w (slot (expr_node a) 0) → Fixed w P (type_of a)
  root_fixed a h = fixed_own w P (type_of a) (unfold Each in h)

  pub typed_own : (n : ℕ) (t : Term) → Owns w (slot n 0) → Fixed w P t → OwnNode (typed n t) w P
  unfolding OwnNode
  typed_own n t h f = (tt, ((fixed_own w P (unknown_at n 0) (unfold Each in h), f), tt))

  pub power_own : (n k : ℕ) (a : Expr) → Owns w (slot n k) → Owns w (slot (expr_node a) 0) → OwnNode (is_power n k a) w P
  unfolding OwnNode
  power_own n k a h q = (tt, ((root_fixed a q, fixed_own w P (power_of (unknown_at n k)) (unfold Each in (h, tt))), tt))

  members_fixed : (n : ℕ) (xs : Exprs) → RootsOwned w xs → Owns w (slot n 1) → FixedPairs w P (members n xs)
  unfolding members RootsOwned
  members_fixed n none r h = tt
  members_fixed n (more a xs) r h = ((root_fixed a r.0, fixed_own w P (unknown_at n 1) (unfold Each in h)), members_fixed n xs r.1 h)

  pub members_own : (n : ℕ) (xs : Exprs) → RootsOwned w xs → Owns w (slot n 1) → OwnNode (are_members n xs) w P
  unfolding are_members OwnNode
  members_own n xs r h = members_fixed n xs r h

  pub types_own : (xs : Exprs) → RootsOwned w xs → Eachs (Owns w) (types_of xs)
  unfolding types_of RootsOwned Each
  types_own none r = tt
  types_own (more a xs) r = (r.0, types_own xs r.1)

  row_own : (n k p : ℕ) → ((x : ℕ) → Owns (fresh_row n k p) x → Owns w x) → Eachs (Owns w) (row n k p)
  unfolding fresh_row row Owns Each
  row_own n k zero f = tt
  row_own n k (suc p) f = (f (slot n k) (inl refl), row_own n (suc k) p (λ x q. f x (inr q)))

  fresh_own : (n k p : ℕ) → OwnNode (fresh_row n k p) w P
  unfolding fresh_row OwnNode
  fresh_own n k zero = tt
  fresh_own n k (suc p) = (tt, fresh_own n (suc k) p)

  pub powers_row : (n : ℕ) (xs : Exprs) (k : ℕ) → ((x : ℕ) → Owns (are_powers n xs k) x → Owns w x) → Eachs (Owns w) (row n k (exprs_length xs))
  unfolding are_powers Owns
  powers_row n xs k f = row_own n k (exprs_length xs) (λ x q. f x (inl q))

  powers_fixed : (n : ℕ) (xs : Exprs) (k : ℕ) → RootsOwned w xs → Eachs (Owns w) (row n k (exprs_length xs)) → FixedPairs w P (powers n xs k)
  unfolding powers RootsOwned row exprs_length Each
  powers_fixed n none k r f = tt
  powers_fixed n (more a xs) k r f = ((root_fixed a r.0, fixed_own w P (power_of (unknown_at n k)) (f.0, tt)), powers_fixed n xs (suc k) r.1 f.1)

  pub powers_own : (n : ℕ) (xs : Exprs) (k : ℕ) → RootsOwned w xs → ((x : ℕ) → Owns (are_powers n xs k) x → Owns w x) → OwnNode (are_powers n xs k) w P
  unfolding are_powers OwnNode
  powers_own n xs k r f = (fresh_own n k (exprs_length xs), powers_fixed n xs k r (powers_row n xs k f))

  pub reference_own : (n : ℕ) (xs : Exprs) (m : Named) → RootsOwned w xs → ((x : ℕ) → Owns (reference_items n xs m) x → Owns w x) → NamedOver (Off w) m → ((σ τ : Valuation) → P finite σ → P finite τ → NamedSame σ τ m)
      → OwnNode (reference_items n xs m) w P
  unfolding reference_items OwnNode Owns NamedOver
  reference_own n none unnamed r f o s = tt
  reference_own n (more a xs) unnamed r f o s = tt
  reference_own n none (of_local t) r f o s = typed_own n t (f (slot n 0) (inl refl)) (fixed_off w P t o s)
  reference_own n (more a xs) (of_local t) r f o s = tt
  reference_own n none (of_global p g) r f o s =
      (fresh_own n 1 p, typed_own n _ (f (slot n 0) (inr (inl refl))) (fixed_own w P (instance (row n 1 p) g) (instance_over (Owns w) (row n 1 p) g (row_own n 1 p (λ x q. f x (inl q))))))
  reference_own n (more a xs) (of_global p g) r f o s = go (eqb (exprs_length (more a xs)) p) refl f
    where
      go : (b : Bool) → eqb (exprs_length (more a xs)) p ≡ b → ((x : ℕ) → Owns (cond b (are_powers n (more a xs) 1 ⨾ typed n (instance (row n 1 p) g)) (refusal 32 n)) x → Owns w x)
          → OwnNode (cond b (are_powers n (more a xs) 1 ⨾ typed n (instance (row n 1 p) g)) (refusal 32 n)) w P
      go true e h = (
        powers_own n (more a xs) 1 r (λ x q. h x (inl q)),
        typed_own n _ (h (slot n 0) (inr (inl refl))) (fixed_own w P (instance (row n 1 p) g) (instance_over (Owns w) (row n 1 p) g
            (subst (λ (j : ℕ). Eachs (Owns w) (row n 1 j)) (eqb-true (exprs_length (more a xs)) p e) (powers_row n (more a xs) 1 (λ x q. h x (inl q)))))),
      )
      go false e h = tt

  refuse_if_own : (b : Bool) (f n : ℕ) → OwnNode (refuse_if b f n) w P
  unfolding refuse_if OwnNode
  refuse_if_own true f n = tt
  refuse_if_own false f n = tt

  theta_name_own : (b : Bool) (n : ℕ) (m : Named) → OwnNode (theta_name b n m) w P
  unfolding theta_name OwnNode
  theta_name_own false n m = tt
  theta_name_own true n unnamed = tt
  theta_name_own true n (of_local t) = tt
  theta_name_own true n (of_global zero g) = tt
  theta_name_own true n (of_global (suc p) g) = tt

  theta_names_own : (n k : ℕ) (s : Signature) (Γ : Scope) → OwnNode (theta_names n k s Γ) w P
  unfolding theta_names OwnNode
  theta_names_own n k no_names Γ = tt
  theta_names_own n k (naming i t s) Γ = (theta_name_own (takes k i) n (name_at (decorate k i) Γ), theta_names_own n k s Γ)

  pub theta_own : (n k : ℕ) (f : NamedSchema) (Γ : Scope) → ((x : ℕ) → Owns (theta_items n k f Γ) x → Owns w x) → ScopeOver (Off w) Γ → ((σ τ : Valuation) → P finite σ → P finite τ → ScopeSame σ τ Γ) → OwnNode (theta_items n k f Γ) w P
  unfolding theta_items OwnNode Owns
  theta_own n k no_schema Γ h o s = tt
  theta_own n k (a_schema p g) Γ h o s =
      let c = components_of (instance nil g) in (
        theta_names_own n k c Γ,
        (
          refuse_if_own (ltb 0 p) 32 n,
          (
            refuse_if_own (some_stroked k c) 37 n,
            typed_own n _ (h (slot n 0) (inr (inr (inr (inl refl))))) (fixed_off w P _ (binding_over (Off w) (theta_signature k c Γ) (theta_sig_over (Off w) k c Γ o))
                (λ σ τ x y. binding_same σ τ (theta_signature k c Γ) (theta_sig_same σ τ k c Γ (s σ τ x y)))),
          ),
        ),
      )
