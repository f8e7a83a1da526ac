-- Types made well formed: where a former has a wrong number of parts, ℤ stands instead. Items of well-formed terms that pass are met by the table so made, too; so a type that is
-- settled is well formed.
use mathlib.Core.Path.{◌≡◌, refl, sym, ap, ap₂, subst, ◌∙◌}
use mathlib.Core.Bool.{Bool, true, false}
use mathlib.Core.List.{List, [], ◌∷◌}
use mathlib.Core.Logic.{◌⊎◌, inl, inr, ⊎_elim}
use mathlib.Core.Option.{Option, some, none as nothing}
use Prim.Native.Nat.{ℕ, zero, suc, ◌+◌, ◌≤◌, ◌<◌}
use native.Mathlib.Omega.{arith}
use lib.Dec.{eqb}
use lib.ListN.{length}
use Rattle.types_rules.specs.Former.{Former, int, given, parameter, power, product, binding, identifiers}
use Rattle.types_rules.specs.Types.{Ty, Tys, node, tnil, tcons, Term, Terms, unknown, con, nil, cons, under, unders, size, sizes, integer_type}
use Rattle.types_rules.specs.Component.{pick_type, component_type}
use Rattle.types_rules.specs.Equations.{Pairs, end, pair, Solves, AllP}
use Rattle.types_rules.specs.Formed.{part_count, part_count_type, Formed, Formeds, FormedType, FormedTypes, Ascending, Arity, WellFormed}
use Rattle.types_rules.specs.Trees.{finite}
use Rattle.checker_rules.specs.Unknowns.{Valuation}
use Rattle.checker_rules.specs.Items.{Items, skip, ◌⨾◌, fresh, equations, equate, select, small, refusal, piece, Known, Meets, MeetsIn, Typings, And, Passes}
use Rattle.checker_rules.proofs.FormedItems.{FormedItems}
use Rattle.types_cells.proofs.Growing.{lt_or_ge}

abbrev pub Decided : Type 0 → Type 0
Decided A = A ⊎ (A → ⊥)

decide_equal : (n k : ℕ) → Decided (n ≡ k)
decide_equal n k =
    ⊎_elim (λ (l : n < k). inr (λ e. omega arith))
    (λ (l : k ≤ n). ⊎_elim (λ (m : k < n). inr (λ e. omega arith)) (λ (m : n ≤ k). inl (omega arith)) (lt_or_ge k n))
    (lt_or_ge n k)

decide_both : {A B : Type 0} → Decided A → Decided B → Decided (A × B)
decide_both (inl a) (inl b) = inl (a, b)
decide_both (inl a) (inr b) = inr (λ h. b h.1)
decide_both (inr a) b = inr (λ h. a h.0)

decide_least : (n k : ℕ) → Decided (n ≤ k)
decide_least n k = ⊎_elim (λ (l : k < n). inr (λ e. omega arith)) inl (lt_or_ge k n)

decide_less : (n k : ℕ) → Decided (n < k)
decide_less n k = ⊎_elim inl (λ (l : k ≤ n). inr (λ e. omega arith)) (lt_or_ge n k)

decide_after : (x : ℕ) (l : List ℕ) → Decided (Ascending (x ∷ l))
decide_after x [] = inl tt
decide_after x (y ∷ l) = decide_both (decide_less x y) (decide_after y l)

decide_ascending : (l : List ℕ) → Decided (Ascending l)
decide_ascending [] = inl tt
decide_ascending (x ∷ l) = decide_after x l

pub decide_arity : (h : Former) (n : ℕ) → Decided (Arity h n)
unfolding Arity
decide_arity int n = decide_equal n 0
decide_arity (given g) n = decide_equal n 0
decide_arity (parameter i) n = decide_equal n 0
decide_arity power n = decide_equal n 1
decide_arity product n = decide_both (decide_least 2 n) (decide_least n 6)
decide_arity (binding l) n = decide_both (decide_equal (length l) n) (decide_ascending l)

-- THE NORMAL FORM of a type.
unfoldable pub normal_node : {A : Type 0} → Decided A → Former → Tys → Ty
normal_node (inl a) h gs = node h gs
normal_node (inr a) h gs = integer_type

unfoldable mutual
  pub normal : Ty → Ty
  normal (node h gs) = normal_node (decide_arity h (part_count_type gs)) h (normals gs)

  pub normals : Tys → Tys
  normals tnil = tnil
  normals (tcons g gs) = tcons (normal g) (normals gs)

abbrev pub normal_table : Valuation → Valuation
normal_table τ x = normal (τ x)

normals_count : (gs : Tys) → part_count_type (normals gs) ≡ part_count_type gs
unfolding normals
normals_count tnil = refl
normals_count (tcons g gs) = ap suc (normals_count gs)

-- It is well formed, ..
node_formed : (h : Former) (n : ℕ) (o : Decided (Arity h n)) (gs : Tys) → n ≡ part_count_type gs → FormedTypes Arity gs → WellFormed (normal_node o h gs)
unfolding normal_node FormedType Arity
node_formed h n (inl a) gs e f = (subst (Arity h) e a, f)
node_formed h n (inr a) gs e f = (refl, tt)

mutual
  unfolding normal FormedType

  pub normal_formed : (g : Ty) → WellFormed (normal g)
  normal_formed (node h gs) = node_formed h (part_count_type gs) (decide_arity h (part_count_type gs)) (normals gs) (sym (normals_count gs)) (normals_formed gs)

  normals_formed : (gs : Tys) → FormedTypes Arity (normals gs)
  normals_formed tnil = tt
  normals_formed (tcons g gs) = (normal_formed g, normals_formed gs)

-- .. the type itself where that is well formed, ..
node_kept : {A : Type 0} (o : Decided A) (h : Former) (gs : Tys) → A → normal_node o h gs ≡ node h gs
unfolding normal_node
node_kept (inl b) h gs a = refl
node_kept (inr b) h gs a = absurd (b a)

mutual
  unfolding normal FormedType

  pub normal_same : (g : Ty) → WellFormed g → normal g ≡ g
  normal_same (node h gs) f = node_kept (decide_arity h (part_count_type gs)) h (normals gs) f.0 ∙ ap (node h) (normals_same gs f.1)

  normals_same : (gs : Tys) → FormedTypes Arity gs → normals gs ≡ gs
  normals_same tnil f = refl
  normals_same (tcons g gs) f = ap₂ tcons (normal_same g f.0) (normals_same gs f.1)

-- .. and no larger.
node_size : {A : Type 0} (o : Decided A) (h : Former) (gs : Tys) → size (normal_node o h gs) ≤ suc (sizes gs)
unfolding normal_node size
node_size (inl a) h gs = omega arith
node_size (inr a) h gs = omega arith

mutual
  unfolding normal size

  normal_size : (g : Ty) → size (normal g) ≤ size g
  normal_size (node h gs) = let a = node_size (decide_arity h (part_count_type gs)) h (normals gs) in let b = normals_size gs in omega arith

  normals_size : (gs : Tys) → sizes (normals gs) ≤ sizes gs
  normals_size tnil = omega arith
  normals_size (tcons g gs) = let a = normal_size g in let b = normals_size gs in omega arith

-- Components that are there.
pick_normal : (i : ℕ) (l : List ℕ) (gs : Tys) (k : Ty) → pick_type i l gs ≡ some k → pick_type i l (normals gs) ≡ some (normal k)
unfolding pick_type normals
pick_normal i [] gs k e = absurd (let z : ◌≡◌ {A = ℕ} 0 1 = cc in omega arith)
pick_normal i (j ∷ l) tnil k e = absurd (let z : ◌≡◌ {A = ℕ} 0 1 = cc in omega arith)
pick_normal i (j ∷ l) (tcons g gs) k e = go (eqb j i) e (pick_normal i l gs k)
  where
    go : (b : Bool) → elim b as (λ x. Option Ty) [ true ↦ some g | false ↦ pick_type i l gs ] ≡ some k → (pick_type i l gs ≡ some k → pick_type i l (normals gs) ≡ some (normal k)) →
        ◌≡◌ {A = Option Ty} (elim b as (λ x. Option Ty) [ true ↦ some (normal g) | false ↦ pick_type i l (normals gs) ]) (some (normal k))
    go true q f = let z : g ≡ k = cc in ap (λ y. some (normal y)) z
    go false q f = f q

node_component : {A : Type 0} (o : Decided A) (i : ℕ) (h : Former) (gs : Tys) (k : Ty) → Known (component_type i (normal_node o h (normals gs))) → pick_type i (identifiers h) gs ≡ some k →
    component_type i (normal_node o h (normals gs)) ≡ some (normal k)
unfolding normal_node component_type Known pick_type identifiers
node_component (inl a) i h gs k n e = pick_normal i (identifiers h) gs k e
node_component (inr a) i h gs k n e = absurd n

normal_component : (i : ℕ) (g k : Ty) → Known (component_type i (normal g)) → component_type i g ≡ some k → component_type i (normal g) ≡ some (normal k)
unfolding normal component_type
normal_component i (node h gs) k n e = node_component (decide_arity h (part_count_type gs)) i h gs k n e

-- TERMS that are well formed.
unders_count : (τ : Valuation) (ts : Terms) → part_count_type (unders τ ts) ≡ part_count ts
unfolding unders
unders_count τ nil = refl
unders_count τ (cons t ts) = ap suc (unders_count τ ts)

mutual
  unfolding normal under Formed

  pub normal_under : (τ : Valuation) (t : Term) → Formed Arity t → under (normal_table τ) t ≡ normal (under τ t)
  normal_under τ (unknown x) f = refl
  normal_under τ (con h ts) f =
      ap (node h) (normals_under τ ts f.1)
      ∙ sym (node_kept (decide_arity h (part_count_type (unders τ ts))) h (normals (unders τ ts)) (subst (Arity h) (sym (unders_count τ ts)) f.0))

  normals_under : (τ : Valuation) (ts : Terms) → Formeds Arity ts → unders (normal_table τ) ts ≡ normals (unders τ ts)
  normals_under τ nil f = refl
  normals_under τ (cons t ts) f = ap₂ tcons (normal_under τ t f.0) (normals_under τ ts f.1)

-- A term is well formed where its type is.
mutual
  unfolding under Formed FormedType

  pub term_formed : (τ : Valuation) (t : Term) → WellFormed (under τ t) → Formed Arity t
  term_formed τ (unknown x) f = tt
  term_formed τ (con h ts) f = (subst (Arity h) (unders_count τ ts) f.0, terms_formed τ ts f.1)

  terms_formed : (τ : Valuation) (ts : Terms) → FormedTypes Arity (unders τ ts) → Formeds Arity ts
  terms_formed τ nil f = tt
  terms_formed τ (cons t ts) f = (term_formed τ t f.0, terms_formed τ ts f.1)

-- EQUATIONS of such terms.
normal_equations : (τ : Valuation) (es : Pairs Term) → AllP (λ a b. Formed Arity a × Formed Arity b) es → Solves (under τ) es → Solves (under (normal_table τ)) es
normal_equations τ end f h = tt
normal_equations τ (pair a b es) f h = (normal_under τ a f.0.0 ∙ ap normal h.0 ∙ sym (normal_under τ b f.0.1), normal_equations τ es f.1 h.1)

-- ITEMS of such terms that pass.
abbrev pub Normal : Typings → Type 0
Normal P = (τ : Valuation) → P finite τ → P finite (normal_table τ)

pub normal_items : (c : Items) (P : Typings) → Normal P → FormedItems c → Passes c P → (τ : Valuation) → P finite τ → Meets c τ → Meets c (normal_table τ)
unfolding FormedItems Passes MeetsIn
normal_items skip P N f p τ m h = tt
normal_items (a ⨾ b) P N f p τ m h = (
  normal_items a P N f.0 p.0 τ m h.0,
  normal_items b (And P a) (λ σ k. (N σ k.0, normal_items a P N f.0 p.0 σ k.0 k.1)) f.1 p.1 τ (m, h.0) h.1,
)
normal_items (fresh x) P N f p τ m h = tt
normal_items (equations n es) P N f p τ m h = normal_equations τ es f h
normal_items (equate g n a b) P N f p τ m h = normal_under τ a f.0 ∙ ap normal h ∙ sym (normal_under τ b f.1)
normal_items (select n i a x) P N f p τ m h =
    let e = normal_under τ a f in
    ap (component_type i) e ∙ normal_component i (under τ a) (τ x) (subst (λ g. Known (component_type i g)) e (p.0 (normal_table τ) (N τ m))) h
normal_items (small n a) P N f p τ m h = p (normal_table τ) (N τ m)
normal_items (refusal g n) P N f p τ m h = absurd h
normal_items (piece n t) P N f p τ m h = normal_items t P N f p.0 τ m h
