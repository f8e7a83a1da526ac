-- Two forms of items: those that rules share, 36, sizes and refusals (`Bare`), and those of an expression's own node, unknowns, equations
-- and refusals (`OfNode`).
use mathlib.Core.Bool.{Bool, true, false, cond}
use mathlib.Core.List.{List, [], ◌∷◌}
use mathlib.Core.Option.{Option, some, none as nothing}
use Prim.Native.Nat.{ℕ, zero, suc}
use lib.Dec.{ltb, eqb}
use Rattle.reader_rules.specs.Tree.{Exprs, none, more, exprs_length}
use Rattle.types_rules.specs.Types.{Term, nil}
use Rattle.types_rules.specs.Instance.{instance}
use Rattle.checker_rules.specs.Strokes.{decorate, takes}
use Rattle.checker_rules.specs.Unknowns.{Valuation, row}
use Rattle.checker_rules.specs.Items.{Items, skip, ◌⨾◌, fresh, equations, equate, select, small, refusal, piece, Agree, And, Typings}
use Rattle.checker_rules.specs.Dictionary.{Dictionary, Named, unnamed, of_local, of_global, name_in, NamedSchema, no_schema, a_schema}
use Rattle.checker_rules.specs.Signatures.{Signature, no_names, naming, components_of, term_in, count_names, some_stroked}
use Rattle.checker_rules.specs.Scopes.{Scope, name_at}
use Rattle.checker_rules.specs.Conditions.{refuse_if, same_type, merge_declared, merge_names, new_name, new_names, small_types, few_names, are_powers, are_members, fresh_row, typed}
use Rattle.checker_rules.specs.Rules.{reference_items, theta_name, theta_names, theta_items}
use Rattle.checker_rules.specs.Findings.{NoSelect33}

unfoldable pub Bare : Items → Type 0
Bare skip = Unit {0}
Bare (a ⨾ b) = Bare a × Bare b
Bare (fresh x) = ⊥
Bare (equations n es) = ⊥
Bare (equate f n a b) = Unit {0}
Bare (select n i a x) = ⊥
Bare (small n a) = Unit {0}
Bare (refusal f n) = Unit {0}
Bare (piece n t) = ⊥

unfoldable pub OfNode : Items → Type 0
OfNode skip = Unit {0}
OfNode (a ⨾ b) = OfNode a × OfNode b
OfNode (fresh x) = Unit {0}
OfNode (equations n es) = Unit {0}
OfNode (equate f n a b) = ⊥
OfNode (select n i a x) = ⊥
OfNode (small n a) = ⊥
OfNode (refusal f n) = Unit {0}
OfNode (piece n t) = ⊥

-- ---- 33 at a Select: neither has one
pub bare_selects : (t : Items) (P : Typings) → Bare t → NoSelect33 t P
unfolding Bare NoSelect33
bare_selects skip P h = tt
bare_selects (a ⨾ b) P h = (bare_selects a P h.0, λ p. bare_selects b (And P a) h.1)
bare_selects (fresh x) P h = tt
bare_selects (equations n es) P h = tt
bare_selects (equate f n a b) P h = tt
bare_selects (select n i a x) P h = absurd h
bare_selects (small n a) P h = tt
bare_selects (refusal f n) P h = tt
bare_selects (piece n t) P h = absurd h

pub node_selects : (t : Items) (P : Typings) → OfNode t → NoSelect33 t P
unfolding OfNode NoSelect33
node_selects skip P h = tt
node_selects (a ⨾ b) P h = (node_selects a P h.0, λ p. node_selects b (And P a) h.1)
node_selects (fresh x) P h = tt
node_selects (equations n es) P h = tt
node_selects (equate f n a b) P h = tt
node_selects (select n i a x) P h = absurd h
node_selects (small n a) P h = tt
node_selects (refusal f n) P h = tt
node_selects (piece n t) P h = absurd h

-- ---- own unknowns: bare items have none
pub bare_agrees : (σ τ : Valuation) (t : Items) → Bare t → Agree t σ τ
unfolding Bare Agree
bare_agrees σ τ skip h = tt
bare_agrees σ τ (a ⨾ b) h = (bare_agrees σ τ a h.0, bare_agrees σ τ b h.1)
bare_agrees σ τ (fresh x) h = absurd h
bare_agrees σ τ (equations n es) h = tt
bare_agrees σ τ (equate f n a b) h = tt
bare_agrees σ τ (select n i a x) h = tt
bare_agrees σ τ (small n a) h = tt
bare_agrees σ τ (refusal f n) h = tt
bare_agrees σ τ (piece n t) h = tt

-- ---- what rules share
pub refuse_if_bare : (b : Bool) (f n : ℕ) → Bare (refuse_if b f n)
unfolding refuse_if Bare
refuse_if_bare true f n = tt
refuse_if_bare false f n = tt

same_type_bare : (n : ℕ) (t : Term) (o : Option Term) → Bare (same_type n t o)
unfolding same_type Bare
same_type_bare n t (some u) = tt
same_type_bare n t nothing = tt

pub declared_bare : (n : ℕ) (is : List ℕ) (t : Term) (r : Signature) → Bare (merge_declared n is t r)
unfolding merge_declared Bare
declared_bare n [] t r = tt
declared_bare n (i ∷ is) t r = (same_type_bare n t (term_in i r), declared_bare n is t r)

pub names_bare : (n : ℕ) (s r : Signature) → Bare (merge_names n s r)
unfolding merge_names Bare
names_bare n no_names r = tt
names_bare n (naming i t s) r = (same_type_bare n t (term_in i r), names_bare n s r)

new_name_bare : (n : ℕ) (m : Named) → Bare (new_name n m)
unfolding new_name Bare
new_name_bare n unnamed = tt
new_name_bare n (of_local t) = tt
new_name_bare n (of_global p g) = tt

pub new_names_bare : (n : ℕ) (is : List ℕ) (G : Dictionary) → Bare (new_names n is G)
unfolding new_names Bare
new_names_bare n [] G = tt
new_names_bare n (i ∷ is) G = (new_name_bare n (name_in i G), new_names_bare n is G)

pub smalls_bare : (n : ℕ) (s : Signature) → Bare (small_types n s)
unfolding small_types Bare
smalls_bare n no_names = tt
smalls_bare n (naming i t s) = (tt, smalls_bare n s)

pub few_bare : (n : ℕ) (s : Signature) → Bare (few_names n s)
unfolding few_names
few_bare n s = refuse_if_bare (ltb 16 (count_names s)) 38 n

theta_name_bare : (b : Bool) (n : ℕ) (m : Named) → Bare (theta_name b n m)
unfolding theta_name Bare
theta_name_bare false n m = tt
theta_name_bare true n unnamed = tt
theta_name_bare true n (of_local t) = tt
theta_name_bare true n (of_global zero g) = tt
theta_name_bare true n (of_global (suc p) g) = tt

pub theta_names_bare : (n k : ℕ) (s : Signature) (Γ : Scope) → Bare (theta_names n k s Γ)
unfolding theta_names Bare
theta_names_bare n k no_names Γ = tt
theta_names_bare n k (naming i t s) Γ = (theta_name_bare (takes k i) n (name_at (decorate k i) Γ), theta_names_bare n k s Γ)

pub declared_new : (n : ℕ) (is : List ℕ) (t : Term) (r : Signature) (G : Dictionary) → Bare (merge_declared n is t r ⨾ new_names n is G)
unfolding Bare
declared_new n is t r G = (declared_bare n is t r, new_names_bare n is G)

pub names_new : (n : ℕ) (s r : Signature) (is : List ℕ) (G : Dictionary) → Bare (merge_names n s r ⨾ new_names n is G)
unfolding Bare
names_new n s r is G = (names_bare n s r, new_names_bare n is G)

pub small_few : (n : ℕ) (t : Term) (s : Signature) → Bare (small n t ⨾ few_names n s)
unfolding Bare
small_few n t s = (tt, few_bare n s)

pub smalls_few : (n : ℕ) (s r : Signature) → Bare (small_types n s ⨾ few_names n r)
unfolding Bare
smalls_few n s r = (smalls_bare n s, few_bare n r)

pub names_few : (n : ℕ) (s r u : Signature) → Bare (merge_names n s r ⨾ few_names n u)
unfolding Bare
names_few n s r u = (names_bare n s r, few_bare n u)

-- ---- an expression's own node
refuse_if_node : (b : Bool) (f n : ℕ) → OfNode (refuse_if b f n)
unfolding refuse_if OfNode
refuse_if_node true f n = tt
refuse_if_node false f n = tt

row_node : (n k p : ℕ) → OfNode (fresh_row n k p)
unfolding fresh_row OfNode
row_node n k zero = tt
row_node n k (suc p) = (tt, row_node n (suc k) p)

pub powers_node : (n : ℕ) (xs : Exprs) (k : ℕ) → OfNode (are_powers n xs k)
unfolding are_powers OfNode
powers_node n xs k = (row_node n k (exprs_length xs), tt)

pub members_node : (n : ℕ) (xs : Exprs) → OfNode (are_members n xs)
unfolding are_members OfNode
members_node n xs = tt

pub reference_node : (n : ℕ) (xs : Exprs) (m : Named) → OfNode (reference_items n xs m)
unfolding reference_items OfNode
reference_node n none unnamed = tt
reference_node n (more a xs) unnamed = tt
reference_node n none (of_local t) = (tt, tt)
reference_node n (more a xs) (of_local t) = tt
reference_node n none (of_global p g) = (row_node n 1 p, (tt, tt))
reference_node n (more a xs) (of_global p g) = go (eqb (exprs_length (more a xs)) p)
  where
    go : (b : Bool) → OfNode (cond b (are_powers n (more a xs) 1 ⨾ typed n (instance (row n 1 p) g)) (refusal 32 n))
    go true = (powers_node n (more a xs) 1, (tt, tt))
    go false = tt

theta_name_node : (b : Bool) (n : ℕ) (m : Named) → OfNode (theta_name b n m)
unfolding theta_name OfNode
theta_name_node false n m = tt
theta_name_node true n unnamed = tt
theta_name_node true n (of_local t) = tt
theta_name_node true n (of_global zero g) = tt
theta_name_node true n (of_global (suc p) g) = tt

theta_names_node : (n k : ℕ) (s : Signature) (Γ : Scope) → OfNode (theta_names n k s Γ)
unfolding theta_names OfNode
theta_names_node n k no_names Γ = tt
theta_names_node n k (naming i t s) Γ = (theta_name_node (takes k i) n (name_at (decorate k i) Γ), theta_names_node n k s Γ)

pub theta_node : (n k : ℕ) (f : NamedSchema) (Γ : Scope) → OfNode (theta_items n k f Γ)
unfolding theta_items OfNode
theta_node n k no_schema Γ = tt
theta_node n k (a_schema p g) Γ =
    (theta_names_node n k (components_of (instance nil g)) Γ, (refuse_if_node (ltb 0 p) 32 n, (refuse_if_node (some_stroked k (components_of (instance nil g))) 37 n, (tt, tt))))
