-- The nodes of an expression whose unknowns its own piece has, and those of the Texts and Includes inside it, whose unknowns other pieces have: each node is
-- of one of the two.
use mathlib.Core.Path.{◌≡◌, refl, sym}
use mathlib.Core.Bool.{Bool, true, false, cond}
use mathlib.Core.List.{List, [], ◌∷◌, ◌++◌}
use mathlib.Core.Logic.{inl, inr}
use Prim.Native.Nat.{ℕ, zero, suc, ◌+◌, ◌≤◌}
use native.Mathlib.Omega.{arith}
use lib.Dec.{ltb, eqb}
use borrow.Author.Tests.{eqb-true}
use Rattle.words.specs.Loops.{has, occurrences}
use Rattle.words.proofs.Lists.{occurrences_append}
use Rattle.reader_rules.specs.Tree.{Expr, reference, number, integers, set, tuple, product, power, application, selection, theta, schema_set, arithmetic}
use Rattle.reader_rules.specs.Tree.{comprehension, Exprs, none, more, expr_node, exprs_length, include_node}
use Rattle.reader_rules.specs.TreeNumbers.{expr_numbers, exprs_numbers, text_numbers, include_numbers}
use Rattle.types_rules.specs.Types.{Term, nil, integer_type, ℙℤ}
use Rattle.types_rules.specs.Instance.{instance}
use Rattle.checker_rules.specs.Unknowns.{Valuation, slot, unknown_at, row, integer, power_of, product_of}
use Rattle.checker_rules.specs.Items.{Items, ◌⨾◌, refusal, Agree, And, Passes, Typings}
use Rattle.checker_rules.specs.Dictionary.{blank, Named, unnamed, of_local, of_global, NamedSchema, no_schema, a_schema}
use Rattle.checker_rules.specs.Signatures.{binding_of, components_of, some_stroked}
use Rattle.checker_rules.specs.Scopes.{Scope, name_at, schema_named, include_signature, inside}
use Rattle.checker_rules.specs.Conditions.{type_of, types_of, typed, is_power, are_powers, are_members, fresh_row}
use Rattle.checker_rules.specs.Rules.{reference_items, theta_signature, theta_items, expr_items, exprs_items, text_items, include_items}
use Rattle.checker_rules.specs.Pieces.{Owns}
use Rattle.checker_rules.proofs.ItemForms.{Bare, bare_agrees, refuse_if_bare, smalls_bare, theta_names_bare}
use Rattle.checker_rules.proofs.OwnUnknowns.{include_agrees, text_agrees}
use Rattle.checker_rules.proofs.PieceTypes.{owned}
use Rattle.reader_rules.proofs.Sized.{SizedExpr, SizedExprs}
use Rattle.checker_rules.proofs.ScopeUnknowns.{AllIn, Own, ScopeOver, NamedOver, name_over, inside_over}
use Rattle.checker_rules.proofs.NewUnknowns.{has_left, has_right}
use Rattle.checker_rules.proofs.TypingLaws.{first_has}

unfoldable mutual
  pub own_numbers : Expr → List ℕ
  own_numbers (reference n i xs) = owns_numbers xs ++ (n ∷ [])
  own_numbers (number n v) = n ∷ []
  own_numbers (integers n) = n ∷ []
  own_numbers (set n xs) = owns_numbers xs ++ (n ∷ [])
  own_numbers (tuple n xs) = owns_numbers xs ++ (n ∷ [])
  own_numbers (product n xs) = owns_numbers xs ++ (n ∷ [])
  own_numbers (power n a) = own_numbers a ++ (n ∷ [])
  own_numbers (application n a b) = (own_numbers a ++ own_numbers b) ++ (n ∷ [])
  own_numbers (selection n a i) = own_numbers a ++ (n ∷ [])
  own_numbers (theta n s k) = n ∷ []
  own_numbers (schema_set n i) = n ∷ []
  own_numbers (arithmetic n o a b) = (own_numbers a ++ own_numbers b) ++ (n ∷ [])
  own_numbers (comprehension n t a) = own_numbers a ++ (n ∷ [])

  pub owns_numbers : Exprs → List ℕ
  owns_numbers none = []
  owns_numbers (more a xs) = own_numbers a ++ owns_numbers xs

unfoldable mutual
  pub inner_numbers : Expr → List ℕ
  inner_numbers (reference n i xs) = inners_numbers xs
  inner_numbers (number n v) = []
  inner_numbers (integers n) = []
  inner_numbers (set n xs) = inners_numbers xs
  inner_numbers (tuple n xs) = inners_numbers xs
  inner_numbers (product n xs) = inners_numbers xs
  inner_numbers (power n a) = inner_numbers a
  inner_numbers (application n a b) = inner_numbers a ++ inner_numbers b
  inner_numbers (selection n a i) = inner_numbers a
  inner_numbers (theta n s k) = []
  inner_numbers (schema_set n i) = include_numbers i
  inner_numbers (arithmetic n o a b) = inner_numbers a ++ inner_numbers b
  inner_numbers (comprehension n t a) = text_numbers t ++ inner_numbers a

  pub inners_numbers : Exprs → List ℕ
  inners_numbers none = []
  inners_numbers (more a xs) = inner_numbers a ++ inners_numbers xs

-- each node of an expression is of one of the two
module _ (m : ℕ) where
  one_more : (a b l : List ℕ) (n : ℕ) → occurrences m a + occurrences m b ≡ occurrences m l → occurrences m (a ++ (n ∷ [])) + occurrences m b ≡ occurrences m (l ++ (n ∷ []))
  one_more a b l n e = let p = occurrences_append m a (n ∷ []) in let q = occurrences_append m l (n ∷ []) in omega (arith, p, q, e)

  joined : (a b l a' b' l' : List ℕ) → occurrences m a + occurrences m b ≡ occurrences m l → occurrences m a' + occurrences m b' ≡ occurrences m l' → occurrences m (a ++ a') + occurrences m (b ++ b') ≡ occurrences m (l ++ l')
  joined a b l a' b' l' e f = let p = occurrences_append m a a' in let q = occurrences_append m b b' in let r = occurrences_append m l l' in omega (arith, p, q, r, e, f)

  none_left_lem : (l : List ℕ) → occurrences m l + occurrences m [] ≡ occurrences m l
  unfolding occurrences
  none_left_lem l = omega arith

  no_own : (l : List ℕ) → occurrences m [] + occurrences m l ≡ occurrences m l
  unfolding occurrences
  no_own l = omega arith

  mutual
    unfolding own_numbers inner_numbers expr_numbers

    pub parted : (a : Expr) → occurrences m (own_numbers a) + occurrences m (inner_numbers a) ≡ occurrences m (expr_numbers a)
    parted (reference n i xs) = one_more (owns_numbers xs) (inners_numbers xs) (exprs_numbers xs) n (parteds xs)
    parted (number n v) = none_left_lem (n ∷ [])
    parted (integers n) = none_left_lem (n ∷ [])
    parted (set n xs) = one_more (owns_numbers xs) (inners_numbers xs) (exprs_numbers xs) n (parteds xs)
    parted (tuple n xs) = one_more (owns_numbers xs) (inners_numbers xs) (exprs_numbers xs) n (parteds xs)
    parted (product n xs) = one_more (owns_numbers xs) (inners_numbers xs) (exprs_numbers xs) n (parteds xs)
    parted (power n a) = one_more (own_numbers a) (inner_numbers a) (expr_numbers a) n (parted a)
    parted (application n a b) =
        one_more (own_numbers a ++ own_numbers b) (inner_numbers a ++ inner_numbers b) (expr_numbers a ++ expr_numbers b) n (joined (own_numbers a) (inner_numbers a) (expr_numbers a) (own_numbers b) (inner_numbers b) (expr_numbers b) (parted a) (parted b))
    parted (selection n a i) = one_more (own_numbers a) (inner_numbers a) (expr_numbers a) n (parted a)
    parted (theta n s k) = none_left_lem (n ∷ [])
    parted (schema_set n i) = one_more [] (include_numbers i) (include_numbers i) n (no_own (include_numbers i))
    parted (arithmetic n o a b) =
        one_more (own_numbers a ++ own_numbers b) (inner_numbers a ++ inner_numbers b) (expr_numbers a ++ expr_numbers b) n (joined (own_numbers a) (inner_numbers a) (expr_numbers a) (own_numbers b) (inner_numbers b) (expr_numbers b) (parted a) (parted b))
    parted (comprehension n t a) =
        one_more (own_numbers a) (text_numbers t ++ inner_numbers a) (text_numbers t ++ expr_numbers a) n (joined [] (text_numbers t) (text_numbers t) (own_numbers a) (inner_numbers a) (expr_numbers a) (no_own (text_numbers t)) (parted a))

    parteds : (xs : Exprs) → occurrences m (owns_numbers xs) + occurrences m (inners_numbers xs) ≡ occurrences m (exprs_numbers xs)
    parteds none = none_left_lem []
    parteds (more a xs) = joined (own_numbers a) (inner_numbers a) (expr_numbers a) (owns_numbers xs) (inners_numbers xs) (exprs_numbers xs) (parted a) (parteds xs)

-- ---- what the own unknowns of items are: x is unknown k of node m, at most the sixth; and m is one of the list
abbrev pub OwnSlot : ℕ → ℕ → Type 0
OwnSlot m x = (k : ℕ) × (k ≤ 6) × (x ≡ slot m k)

abbrev pub SlotIn : List ℕ → ℕ → Type 0
SlotIn l x = (m : ℕ) × (has m l ≡ true) × OwnSlot m x

pub in_left : (a b : List ℕ) (x : ℕ) → SlotIn a x → SlotIn (a ++ b) x
in_left a b x s = (s.0, has_left s.0 a b s.1, s.2)

pub in_right : (a b : List ℕ) (x : ℕ) → SlotIn b x → SlotIn (a ++ b) x
in_right a b x s = (s.0, has_right s.0 a b s.1, s.2)

pub in_one : (n x : ℕ) → OwnSlot n x → SlotIn (n ∷ []) x
in_one n x o = (n, first_has n [], o)

in_last : (a : List ℕ) (n x : ℕ) → OwnSlot n x → SlotIn (a ++ (n ∷ [])) x
in_last a n x o = in_right a (n ∷ []) x (in_one n x o)

-- items on whose own unknowns any two valuations agree have none
pub owns_none : (t : Items) → ((σ τ : Valuation) → Agree t σ τ) → (x : ℕ) → Owns t x → ⊥
owns_none t h x q = let e = owned t (λ y. integer_type) (λ y. ℙℤ) (h (λ y. integer_type) (λ y. ℙℤ)) x q in let z : ◌≡◌ {A = ℕ} 0 1 = cc in omega arith

bare_owns : (t : Items) → Bare t → (x : ℕ) → Owns t x → ⊥
bare_owns t b = owns_none t (λ σ τ. bare_agrees σ τ t b)

-- every unknown
abbrev pub Every : ℕ → Type 0
Every y = Unit {0}

pub every_in : (l : List ℕ) → AllIn (Own Every) l
every_in [] = tt
every_in (m ∷ l) = (λ k u. tt, every_in l)

module _ (x : ℕ) where
  typed_owns : (n : ℕ) (t : Term) → Owns (typed n t) x → OwnSlot n x
  unfolding Owns
  typed_owns n t (inl e) = (0, omega arith, sym e)
  typed_owns n t (inr q) = absurd q

  row_owns : (n k p : ℕ) → k + p ≤ 7 → Owns (fresh_row n k p) x → OwnSlot n x
  unfolding fresh_row Owns
  row_owns n k zero l q = absurd q
  row_owns n k (suc p) l (inl e) = (k, omega (arith, l), sym e)
  row_owns n k (suc p) l (inr q) = row_owns n (suc k) p (omega (arith, l)) q

  pub power_owns : (n k : ℕ) (a : Expr) → Owns (is_power n k a) x → x ≡ slot n k
  unfolding Owns
  power_owns n k a (inl e) = sym e
  power_owns n k a (inr q) = absurd q

  powers_own : (n : ℕ) (xs : Exprs) (k : ℕ) → k + exprs_length xs ≤ 7 → Owns (are_powers n xs k) x → OwnSlot n x
  unfolding are_powers Owns
  powers_own n xs k l (inl q) = row_owns n k (exprs_length xs) l q
  powers_own n xs k l (inr q) = absurd q

  members_own : (n : ℕ) (xs : Exprs) → Owns (are_members n xs) x → ⊥
  unfolding are_members Owns
  members_own n xs q = q

  reference_owns : (n : ℕ) (xs : Exprs) (m : Named) → NamedOver Every m → Owns (reference_items n xs m) x → OwnSlot n x
  unfolding reference_items Owns NamedOver
  reference_owns n none unnamed h q = absurd q
  reference_owns n (more a xs) unnamed h q = absurd q
  reference_owns n none (of_local t) h q = typed_owns n t q
  reference_owns n (more a xs) (of_local t) h q = absurd q
  reference_owns n none (of_global p g) h (inl q) = row_owns n 1 p (omega (arith, h)) q
  reference_owns n none (of_global p g) h (inr q) = typed_owns n (instance (row n 1 p) g) q
  reference_owns n (more a xs) (of_global p g) h q = go (eqb (exprs_length (more a xs)) p) refl q
    where
      go : (b : Bool) → eqb (exprs_length (more a xs)) p ≡ b → Owns (cond b (are_powers n (more a xs) 1 ⨾ typed n (instance (row n 1 p) g)) (refusal 32 n)) x → OwnSlot n x
      go true e (inl z) = powers_own n (more a xs) 1 (omega (arith, h, eqb-true (exprs_length (more a xs)) p e)) z
      go true e (inr z) = typed_owns n (instance (row n 1 p) g) z
      go false e z = absurd z

  theta_owns : (n k : ℕ) (f : NamedSchema) (Γ : Scope) → Owns (theta_items n k f Γ) x → OwnSlot n x
  unfolding theta_items Owns
  theta_owns n k no_schema Γ q = absurd q
  theta_owns n k (a_schema p g) Γ (inl q) = absurd (bare_owns _ (theta_names_bare n k (components_of (instance nil g)) Γ) x q)
  theta_owns n k (a_schema p g) Γ (inr (inl q)) = absurd (bare_owns _ (refuse_if_bare (ltb 0 p) 32 n) x q)
  theta_owns n k (a_schema p g) Γ (inr (inr (inl q))) = absurd (bare_owns _ (refuse_if_bare (some_stroked k (components_of (instance nil g))) 37 n) x q)
  theta_owns n k (a_schema p g) Γ (inr (inr (inr q))) = typed_owns n (binding_of (theta_signature k (components_of (instance nil g)) Γ)) q

  -- an expression's own unknowns are of its own nodes
  mutual
    unfolding expr_items own_numbers SizedExpr Owns

    pub expr_owns : (a : Expr) (Γ : Scope) → SizedExpr a → ScopeOver Every Γ → Owns (expr_items a Γ) x → SlotIn (own_numbers a) x
    expr_owns (reference n i xs) Γ f s (inl q) = in_left (owns_numbers xs) (n ∷ []) x (exprs_own xs Γ f s q)
    expr_owns (reference n i xs) Γ f s (inr q) = in_last (owns_numbers xs) n x (reference_owns n xs (name_at i Γ) (name_over Every i Γ s) q)
    expr_owns (number n v) Γ f s q = in_one n x (typed_owns n integer q)
    expr_owns (integers n) Γ f s q = in_one n x (typed_owns n (power_of integer) q)
    expr_owns (set n xs) Γ f s (inl q) = in_left (owns_numbers xs) (n ∷ []) x (exprs_own xs Γ f s q)
    expr_owns (set n xs) Γ f s (inr (inl e)) = in_last (owns_numbers xs) n x (1, omega arith, sym e)
    expr_owns (set n xs) Γ f s (inr (inr (inl q))) = absurd (members_own n xs q)
    expr_owns (set n xs) Γ f s (inr (inr (inr q))) = in_last (owns_numbers xs) n x (typed_owns n (power_of (unknown_at n 1)) q)
    expr_owns (tuple n xs) Γ f s (inl q) = in_left (owns_numbers xs) (n ∷ []) x (exprs_own xs Γ f.1 s q)
    expr_owns (tuple n xs) Γ f s (inr q) = in_last (owns_numbers xs) n x (typed_owns n (product_of (types_of xs)) q)
    expr_owns (product n xs) Γ f s (inl q) = in_left (owns_numbers xs) (n ∷ []) x (exprs_own xs Γ f.1 s q)
    expr_owns (product n xs) Γ f s (inr (inl q)) = in_last (owns_numbers xs) n x (powers_own n xs 1 (omega (arith, f.0.1)) q)
    expr_owns (product n xs) Γ f s (inr (inr q)) = in_last (owns_numbers xs) n x (typed_owns n (power_of (product_of (row n 1 (exprs_length xs)))) q)
    expr_owns (power n a) Γ f s (inl q) = in_left (own_numbers a) (n ∷ []) x (expr_owns a Γ f s q)
    expr_owns (power n a) Γ f s (inr (inl q)) = in_last (own_numbers a) n x (1, omega arith, power_owns n 1 a q)
    expr_owns (power n a) Γ f s (inr (inr q)) = in_last (own_numbers a) n x (typed_owns n (power_of (power_of (unknown_at n 1))) q)
    expr_owns (application n a b) Γ f s (inl q) = in_left (own_numbers a ++ own_numbers b) (n ∷ []) x (in_left (own_numbers a) (own_numbers b) x (expr_owns a Γ f.0 s q))
    expr_owns (application n a b) Γ f s (inr (inl q)) = in_left (own_numbers a ++ own_numbers b) (n ∷ []) x (in_right (own_numbers a) (own_numbers b) x (expr_owns b Γ f.1 s q))
    expr_owns (application n a b) Γ f s (inr (inr (inl e))) = in_last (own_numbers a ++ own_numbers b) n x (0, omega arith, sym e)
    expr_owns (application n a b) Γ f s (inr (inr (inr q))) = absurd q
    expr_owns (selection n a i) Γ f s (inl q) = in_left (own_numbers a) (n ∷ []) x (expr_owns a Γ f s q)
    expr_owns (selection n a i) Γ f s (inr (inl e)) = in_last (own_numbers a) n x (0, omega arith, sym e)
    expr_owns (selection n a i) Γ f s (inr (inr q)) = absurd q
    expr_owns (theta n c k) Γ f s q = in_one n x (theta_owns n k (schema_named c Γ) Γ q)
    expr_owns (schema_set n i) Γ f s (inl q) = absurd (owns_none (include_items i Γ) (λ σ τ. include_agrees i Γ σ τ) x q)
    expr_owns (schema_set n i) Γ f s (inr (inl q)) = absurd (bare_owns _ (smalls_bare (include_node i) (include_signature i Γ)) x q)
    expr_owns (schema_set n i) Γ f s (inr (inr q)) = in_one n x (typed_owns n (power_of (binding_of (include_signature i Γ))) q)
    expr_owns (arithmetic n c a b) Γ f s (inl q) = in_left (own_numbers a ++ own_numbers b) (n ∷ []) x (in_left (own_numbers a) (own_numbers b) x (expr_owns a Γ f.0 s q))
    expr_owns (arithmetic n c a b) Γ f s (inr (inl q)) = in_left (own_numbers a ++ own_numbers b) (n ∷ []) x (in_right (own_numbers a) (own_numbers b) x (expr_owns b Γ f.1 s q))
    expr_owns (arithmetic n c a b) Γ f s (inr (inr (inl q))) = absurd q
    expr_owns (arithmetic n c a b) Γ f s (inr (inr (inr q))) = in_last (own_numbers a ++ own_numbers b) n x (typed_owns n integer q)
    expr_owns (comprehension n t a) Γ f s (inl q) = absurd (owns_none (text_items t Γ blank) (λ σ τ. text_agrees t Γ blank σ τ) x q)
    expr_owns (comprehension n t a) Γ f s (inr (inl q)) =
        in_left (own_numbers a) (n ∷ []) x (expr_owns a (inside t Γ) f.1 (inside_over Every t Γ (every_in (text_numbers t)) f.0 s) q)
    expr_owns (comprehension n t a) Γ f s (inr (inr q)) = in_last (own_numbers a) n x (typed_owns n (power_of (type_of a)) q)

    exprs_own : (xs : Exprs) (Γ : Scope) → SizedExprs xs → ScopeOver Every Γ → Owns (exprs_items xs Γ) x → SlotIn (owns_numbers xs) x
    exprs_own none Γ f s q = absurd q
    exprs_own (more a xs) Γ f s (inl q) = in_left (own_numbers a) (owns_numbers xs) x (expr_owns a Γ f.0 s q)
    exprs_own (more a xs) Γ f s (inr q) = in_right (own_numbers a) (owns_numbers xs) x (exprs_own xs Γ f.1 s q)

-- ---- the unknown of an expression's type is its piece's own, where no rule refuses the name
reference_root : (n : ℕ) (xs : Exprs) (m : Named) (P : Typings) → Passes (reference_items n xs m) P → Owns (reference_items n xs m) (slot n 0)
unfolding reference_items Owns Passes
reference_root n none unnamed P p = absurd p
reference_root n (more a xs) unnamed P p = absurd p
reference_root n none (of_local t) P p = inl refl
reference_root n (more a xs) (of_local t) P p = absurd p
reference_root n none (of_global q g) P p = inr (inl refl)
reference_root n (more a xs) (of_global q g) P p = go (eqb (exprs_length (more a xs)) q) p
  where
    go : (b : Bool) → Passes (cond b (are_powers n (more a xs) 1 ⨾ typed n (instance (row n 1 q) g)) (refusal 32 n)) P → Owns (cond b (are_powers n (more a xs) 1 ⨾ typed n (instance (row n 1 q) g)) (refusal 32 n)) (slot n 0)
    go true z = inr (inl refl)
    go false z = absurd z

theta_root : (n k : ℕ) (f : NamedSchema) (Γ : Scope) (P : Typings) → Passes (theta_items n k f Γ) P → Owns (theta_items n k f Γ) (slot n 0)
unfolding theta_items Owns Passes
theta_root n k no_schema Γ P p = absurd p
theta_root n k (a_schema q g) Γ P p = inr (inr (inr (inl refl)))

pub root_owned : (a : Expr) (Γ : Scope) (P : Typings) → Passes (expr_items a Γ) P → Owns (expr_items a Γ) (slot (expr_node a) 0)
unfolding expr_items expr_node Owns Passes
root_owned (reference n i xs) Γ P p = inr (reference_root n xs (name_at i Γ) (And P (exprs_items xs Γ)) p.1)
root_owned (number n v) Γ P p = inl refl
root_owned (integers n) Γ P p = inl refl
root_owned (set n xs) Γ P p = inr (inr (inr (inl refl)))
root_owned (tuple n xs) Γ P p = inr (inl refl)
root_owned (product n xs) Γ P p = inr (inr (inl refl))
root_owned (power n a) Γ P p = inr (inr (inl refl))
root_owned (application n a b) Γ P p = inr (inr (inl refl))
root_owned (selection n a i) Γ P p = inr (inl refl)
root_owned (theta n s k) Γ P p = theta_root n k (schema_named s Γ) Γ P p
root_owned (schema_set n i) Γ P p = inr (inr (inl refl))
root_owned (arithmetic n o a b) Γ P p = inr (inr (inr (inl refl)))
root_owned (comprehension n t a) Γ P p = inr (inr (inl refl))

-- the roots of several
unfoldable pub RootsOwned : Items → Exprs → Type 0
RootsOwned w none = Unit {0}
RootsOwned w (more a xs) = Owns w (slot (expr_node a) 0) × RootsOwned w xs

pub roots_owned : (xs : Exprs) (Γ : Scope) (P : Typings) (w : Items) → Passes (exprs_items xs Γ) P → ((x : ℕ) → Owns (exprs_items xs Γ) x → Owns w x) → RootsOwned w xs
unfolding exprs_items RootsOwned Owns Passes
roots_owned none Γ P w p f = tt
roots_owned (more a xs) Γ P w p f = (f (slot (expr_node a) 0) (inl (root_owned a Γ P p.0)), roots_owned xs Γ (And P (expr_items a Γ)) w p.1 (λ x q. f x (inr q)))
