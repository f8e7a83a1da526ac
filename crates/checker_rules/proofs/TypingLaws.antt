-- A TABLE MEETS THE ITEMS OF A PARAGRAPH EXACTLY WHERE IT IS A TYPING OF IT (specs/Typing), kind by kind: the rules ask neither less than document 01's
-- sentences nor more.
use mathlib.Core.Path.{◌≡◌, refl, ap, ap₂, sym, subst, ◌∙◌}
use mathlib.Core.Bool.{Bool, true, false, ◌||◌, cond, not as negation, false≢true}
use mathlib.Core.List.{List, [], ◌∷◌}
use mathlib.Core.Option.{Option, some, none as nothing}
use mathlib.Core.Logic.{◌↔◌, ◌⊎◌, inl, inr}
use Prim.Native.Nat.{ℕ, zero, suc, ◌≤◌}
use native.Mathlib.Omega.{arith}
use lib.Dec.{ltb, eqb}
use borrow.Author.Tests.{eq-eqb, eqb-true, ltb-false, le-ltb}
use Rattle.words.specs.Loops.{has}
use Rattle.reader_rules.specs.Tree.{Expr, reference, number, integers, set, tuple, product, power, application, selection, theta, schema_set, arithmetic}
use Rattle.reader_rules.specs.Tree.{comprehension, Exprs, none, more, Pred, truth, equal, member, at_most, not, connected, quantified, Text, text, Lines}
use Rattle.reader_rules.specs.Tree.{end, declaration, inclusion, Include, include, Schema, plain, from, both, Paragraph, given, axiomatic, schema}
use Rattle.reader_rules.specs.Tree.{abbreviation, constraint, expr_node, exprs_length, include_node}
use Rattle.types_rules.specs.Former.{Former, int, given as givenFormer, parameter, power as powerFormer, product as productFormer, binding}
use Rattle.types_rules.specs.Types.{Ty, node, Tys, tnil, tcons, Term, Terms, nil, cons, under, unders}
use Rattle.types_rules.specs.Equations.{Solves}
use Rattle.types_rules.specs.Instance.{nth, actual, instance_former, instance, instances}
use Rattle.types_rules.proofs.Instance.{instance_none}
use Rattle.types_rules.proofs.Terms.{bool_no}
use Rattle.checker_rules.specs.Strokes.{decorate, takes}
use Rattle.checker_rules.specs.Unknowns.{Valuation, slot, unknown_at, row}
use Rattle.checker_rules.specs.Items.{Items, ◌⨾◌, refusal, Meets, MeetsIn}
use Rattle.checker_rules.specs.Dictionary.{Dictionary, blank, Named, unnamed, of_local, of_global, name_in, NamedSchema, no_schema, a_schema}
use Rattle.checker_rules.specs.Signatures.{Signature, no_names, naming, count_names, names_of, terms_of, binding_of, term_in, has_name, merge, declare}
use Rattle.checker_rules.specs.Signatures.{stroke_all, some_stroked, has_old, wrong_old, wrong_names}
use Rattle.checker_rules.specs.Scopes.{Scope, globals, name_at, schema_named, with_parameters, include_signature, inside, schema_signature}
use Rattle.checker_rules.specs.Conditions.{refuse_if, same_type, merge_declared, merge_names, new_name, new_names, small_types, few_names, types_of, are_powers}
use Rattle.checker_rules.specs.Conditions.{powers, members, are_members, fresh_row, typed}
use Rattle.checker_rules.specs.Rules.{reference_items, theta_name, theta_names, type_in_scope, theta_signature, theta_items, include_rule, expr_items, exprs_items}
use Rattle.checker_rules.specs.Rules.{pred_items, text_items, lines_items, include_items, actual_items, schema_items, paragraph_items}
use Rattle.checker_rules.specs.Globals.{is_named, is_global}
use Rattle.checker_rules.specs.Typing.{ℙ, nth_type, or_parameter, put_former, put, puts, schema_of, schema_names, Stroked, old_names, BadOld, Collision}
use Rattle.checker_rules.specs.Typing.{BadNames, NewNames, type_at, type_in, types_in, chosen, AllOf, Powers, NameTyped, HasInScope, HaveInScope, ThetaTyped}
use Rattle.checker_rules.specs.Typing.{SchemaTyped, Merged, MergedAs, SmallTypes, binding_in, TypedExpr, TypedExprs, TypedPred, TypedText, TypedLines}
use Rattle.checker_rules.specs.Typing.{TypedInclude, TypedActuals, TypedSchema, TypedParagraph}
use Rattle.checker_rules.proofs.GlobalNames.{eqb_swap, or_side}
use Rattle.checker_rules.proofs.RenamedNames.{wrong_names_lem}

-- ---- lists of identifiers
pub first_has : (i : ℕ) (is : List ℕ) → has i (i ∷ is) ≡ true
unfolding has
first_has i is = ap (λ (b : Bool). b || has i is) (eq-eqb i i refl)

pub rest_has : (j i : ℕ) (is : List ℕ) → has i is ≡ true → has i (j ∷ is) ≡ true
unfolding has
rest_has j i is q = go (eqb j i)
  where
    go : (b : Bool) → (b || has i is) ≡ true
    go true = refl
    go false = q

pub none_has : (i : ℕ) → has i [] ≡ true → ⊥
unfolding has
none_has i q = bool_no false q refl

pub which_has : (j i : ℕ) (is : List ℕ) → has i (j ∷ is) ≡ true → (j ≡ i) ⊎ (has i is ≡ true)
unfolding has
which_has j i is q = go (or_side (eqb j i) (has i is) q)
  where
    go : (eqb j i ≡ true) ⊎ (has i is ≡ true) → (j ≡ i) ⊎ (has i is ≡ true)
    go (inl e) = inl (eqb-true j i e)
    go (inr e) = inr e

-- ---- 37: the names of an Include and of a Theta
pub stroked_law : (k : ℕ) (s : Signature) → (some_stroked k s ≡ true) ↔ Stroked k (names_of s)
unfolding some_stroked names_of
stroked_law k no_names = (λ e. absurd (false≢true e), λ h. absurd (none_has h.0 h.1))
stroked_law k (naming i t s) = (
  λ e. to (takes k i) refl e (stroked_law k s).0,
  λ h. from h.0 (which_has i h.0 (names_of s) h.1) h.2 (λ q. (stroked_law k s).1 (h.0, q, h.2)),
)
  where
    to : (b : Bool) → takes k i ≡ b → (negation b || some_stroked k s) ≡ true → (some_stroked k s ≡ true → Stroked k (names_of s)) → Stroked k (i ∷ names_of s)
    to true q e r = let x = r e in (x.0, rest_has i x.0 (names_of s) x.1, x.2)
    to false q e r = (i, first_has i (names_of s), q)

    from : (j : ℕ) → (i ≡ j) ⊎ (has j (names_of s) ≡ true) → takes k j ≡ false → (has j (names_of s) ≡ true → some_stroked k s ≡ true) → (negation (takes k i) || some_stroked k s) ≡ true
    from j (inl e) q r = rw (e, q)
    from j (inr e) q r = go (negation (takes k i)) (r e)
      where
        go : (b : Bool) → some_stroked k s ≡ true → (b || some_stroked k s) ≡ true
        go true z = refl
        go false z = z

has_name_lem : (i : ℕ) (s : Signature) → has_name i s ≡ has i (names_of s)
unfolding has_name names_of has
has_name_lem i no_names = refl
has_name_lem i (naming j t s) = ap₂ (λ (a b : Bool). a || b) (eqb_swap i j) (has_name_lem i s)

has_old_lem : (i : ℕ) (rs : List (ℕ × ℕ)) → has_old i rs ≡ has i (old_names rs)
unfolding has_old old_names has
has_old_lem i [] = refl
has_old_lem i (r ∷ rs) = ap₂ (λ (a b : Bool). a || b) (eqb_swap i r.0) (has_old_lem i rs)

pub old_law : (rs : List (ℕ × ℕ)) (s : Signature) → (wrong_old rs s ≡ true) ↔ BadOld rs (names_of s)
unfolding wrong_old BadOld
old_law [] s = (λ e. absurd (false≢true e), λ h. absurd h)
old_law (r ∷ rs) s = (
  λ e. to (has_name r.0 s) (has_name_lem r.0 s) (has_old r.0 rs) (has_old_lem r.0 rs) (old_law rs s).0 e,
  λ h. from (has_name r.0 s) (has_name_lem r.0 s) (has_old r.0 rs) (has_old_lem r.0 rs) (old_law rs s).1 h,
)
  where
    to : (a : Bool) → a ≡ has r.0 (names_of s) → (b : Bool) → b ≡ has r.0 (old_names rs) → (wrong_old rs s ≡ true → BadOld rs (names_of s)) → (negation a || (b || wrong_old rs s)) ≡ true
        → (has r.0 (names_of s) ≡ false) ⊎ ((has r.0 (old_names rs) ≡ true) ⊎ BadOld rs (names_of s))
    to false p b q f e = inl (sym p)
    to true p true q f e = inr (inl (sym q))
    to true p false q f e = inr (inr (f e))

    from : (a : Bool) → a ≡ has r.0 (names_of s) → (b : Bool) → b ≡ has r.0 (old_names rs) → (BadOld rs (names_of s) → wrong_old rs s ≡ true)
        → (has r.0 (names_of s) ≡ false) ⊎ ((has r.0 (old_names rs) ≡ true) ⊎ BadOld rs (names_of s)) → (negation a || (b || wrong_old rs s)) ≡ true
    from false p b q f h = refl
    from true p true q f h = refl
    from true p false q f (inl h) = absurd (bool_no (has r.0 (names_of s)) (sym p) h)
    from true p false q f (inr (inl h)) = absurd (bool_no (has r.0 (old_names rs)) h (sym q))
    from true p false q f (inr (inr h)) = f h

pub names_law : (k : ℕ) (rs : List (ℕ × ℕ)) (s : Signature) → (wrong_names k rs s ≡ true) ↔ BadNames k rs s
names_law k rs s = (λ e. to ((wrong_names_lem k rs s).0 e), λ h. (wrong_names_lem k rs s).1 (from h))
  where
    to : (some_stroked k s ≡ true) ⊎ ((wrong_old rs (stroke_all k s) ≡ true) ⊎ Collision k rs s) → BadNames k rs s
    to (inl e) = inl ((stroked_law k s).0 e)
    to (inr (inl e)) = inr (inl ((old_law rs (stroke_all k s)).0 e))
    to (inr (inr c)) = inr (inr c)

    from : BadNames k rs s → (some_stroked k s ≡ true) ⊎ ((wrong_old rs (stroke_all k s) ≡ true) ⊎ Collision k rs s)
    from (inl e) = inl ((stroked_law k s).1 e)
    from (inr (inl e)) = inr (inl ((old_law rs (stroke_all k s)).1 e))
    from (inr (inr c)) = inr (inr c)

-- ---- a recorded type with types for its parameters
module _ (τ : Valuation) where
  nth_put : (ts : Terms) (i j : ℕ) (us : Terms) → under τ (actual (nth ts i) j us) ≡ or_parameter (nth_type (unders τ ts) i) j (unders τ us)
  unfolding nth actual under nth_type or_parameter
  nth_put nil i j us = refl
  nth_put (cons t ts) zero j us = refl
  nth_put (cons t ts) (suc zero) j us = refl
  nth_put (cons t ts) (suc (suc i)) j us = nth_put ts (suc i) j us

  former_put : (h : Former) (ts us : Terms) → under τ (instance_former h ts us) ≡ put_former h (unders τ ts) (unders τ us)
  unfolding instance_former put_former under
  former_put int ts us = refl
  former_put (givenFormer g) ts us = refl
  former_put (parameter i) ts us = nth_put ts i i us
  former_put powerFormer ts us = refl
  former_put productFormer ts us = refl
  former_put (binding l) ts us = refl

  mutual
    unfolding instance under put

    pub instance_put : (ts : Terms) (g : Ty) → under τ (instance ts g) ≡ put (unders τ ts) g
    instance_put ts (node h gs) = former_put h ts (instances ts gs) ∙ ap (put_former h (unders τ ts)) (instances_put ts gs)

    instances_put : (ts : Terms) (gs : Tys) → unders τ (instances ts gs) ≡ puts (unders τ ts) gs
    instances_put ts tnil = refl
    instances_put ts (tcons g gs) = ap₂ tcons (instance_put ts g) (instances_put ts gs)

  row_chosen : (n k p : ℕ) → unders τ (row n k p) ≡ chosen τ n k p
  unfolding row chosen under
  row_chosen n k zero = refl
  row_chosen n k (suc p) = ap (tcons (τ (slot n k))) (row_chosen n (suc k) p)

  pub row_put : (n p : ℕ) (g : Ty) → under τ (instance (row n 1 p) g) ≡ put (chosen τ n 1 p) g
  row_put n p g = instance_put (row n 1 p) g ∙ ap (λ gs. put gs g) (row_chosen n 1 p)

  -- ---- members, operands and actuals
  members_law : (n : ℕ) (xs : Exprs) → Meets (are_members n xs) τ ↔ AllOf τ (τ (slot n 1)) xs
  unfolding are_members members MeetsIn under AllOf
  members_law n none = (λ h. tt, λ h. tt)
  members_law n (more a xs) = (λ h. (h.0, (members_law n xs).0 h.1), λ h. (h.0, (members_law n xs).1 h.1))

  types_in_lem : (xs : Exprs) → unders τ (types_of xs) ≡ types_in τ xs
  unfolding types_of types_in under
  types_in_lem none = refl
  types_in_lem (more a xs) = ap (tcons (type_in τ a)) (types_in_lem xs)

  powers_each : (n : ℕ) (xs : Exprs) (k : ℕ) → Solves (under τ) (powers n xs k) ↔ Powers τ xs (chosen τ n k (exprs_length xs))
  unfolding powers under chosen exprs_length Powers
  powers_each n none k = (λ h. tt, λ h. tt)
  powers_each n (more a xs) k = (λ h. (h.0, (powers_each n xs (suc k)).0 h.1), λ h. (h.0, (powers_each n xs (suc k)).1 h.1))

  pub powers_count : (n : ℕ) (xs : Exprs) (k p : ℕ) → Powers τ xs (chosen τ n k p) → exprs_length xs ≡ p
  unfolding chosen exprs_length Powers
  powers_count n none k zero h = refl
  powers_count n none k (suc p) h = absurd h
  powers_count n (more a xs) k zero h = absurd h
  powers_count n (more a xs) k (suc p) h = ap suc (powers_count n xs (suc k) p h.1)

  row_met : (n k p : ℕ) → Meets (fresh_row n k p) τ
  unfolding fresh_row MeetsIn
  row_met n k zero = tt
  row_met n k (suc p) = (tt, row_met n (suc k) p)

  powers_law : (n : ℕ) (xs : Exprs) (k : ℕ) → Meets (are_powers n xs k) τ ↔ Powers τ xs (chosen τ n k (exprs_length xs))
  unfolding are_powers MeetsIn
  powers_law n xs k = (λ h. (powers_each n xs k).0 h.1, λ h. (row_met n k (exprs_length xs), (powers_each n xs k).1 h))

  -- ---- Ref
  pub name_law : (n : ℕ) (xs : Exprs) (m : Named) → Meets (reference_items n xs m) τ ↔ NameTyped τ n xs m
  unfolding reference_items MeetsIn under NameTyped
  name_law n none unnamed = (λ h. h, λ h. h)
  name_law n (more a xs) unnamed = (λ h. h, λ h. h)
  name_law n none (of_local t) = (λ h. (unfold exprs_length in refl, h.1.0), λ h. (tt, (h.1, tt)))
  name_law n (more a xs) (of_local t) = (λ h. absurd h, λ h. absurd (unfold exprs_length in omega (arith, h.0)))
  name_law n none (of_global p g) =
      (λ h. (inl (unfold exprs_length in refl), h.1.1.0 ∙ row_put n p g), λ h. (row_met n 1 p, (tt, (h.1 ∙ sym (row_put n p g), tt))))
  name_law n (more a xs) (of_global p g) = go (eqb (exprs_length (more a xs)) p) refl
    where
      some_actual : (exprs_length (more a xs) ≡ 0) ⊎ Powers τ (more a xs) (chosen τ n 1 p) → Powers τ (more a xs) (chosen τ n 1 p)
      some_actual (inl e) = absurd (unfold exprs_length in omega (arith, e))
      some_actual (inr h) = h

      go : (b : Bool) → eqb (exprs_length (more a xs)) p ≡ b
          → Meets (cond b (are_powers n (more a xs) 1 ⨾ typed n (instance (row n 1 p) g)) (refusal 32 n)) τ
          ↔ (((exprs_length (more a xs) ≡ 0) ⊎ Powers τ (more a xs) (chosen τ n 1 p)) × (type_at τ n ≡ put (chosen τ n 1 p) g))
      go true e =
          let q = eqb-true (exprs_length (more a xs)) p e in (
            λ h. (inr (subst (λ z. Powers τ (more a xs) (chosen τ n 1 z)) q ((powers_law n (more a xs) 1).0 h.0)), h.1.1.0 ∙ row_put n p g),
            λ h. ((powers_law n (more a xs) 1).1 (subst (λ z. Powers τ (more a xs) (chosen τ n 1 z)) (sym q) (some_actual h.0)), (tt, (h.1 ∙ sym (row_put n p g), tt))),
          )
      go false e = (λ h. absurd h, λ h. absurd (bool_no (eqb (exprs_length (more a xs)) p) (eq-eqb _ _ (powers_count n (more a xs) 1 p (some_actual h.0))) e))

  -- ---- tests
  pub refuse_if_law : (b : Bool) (f n : ℕ) → Meets (refuse_if b f n) τ ↔ (b ≡ false)
  unfolding refuse_if MeetsIn
  refuse_if_law true f n = (λ h. absurd h, λ e. absurd (false≢true (sym e)))
  refuse_if_law false f n = (λ h. refl, λ e. tt)

  pub few_law : (n : ℕ) (s : Signature) → Meets (few_names n s) τ ↔ (count_names s ≤ 16)
  unfolding few_names
  few_law n s = (λ h. ltb-false 16 (count_names s) ((refuse_if_law _ 38 n).0 h), λ h. (refuse_if_law _ 38 n).1 (le-ltb 16 (count_names s) h))

  pub small_law : (n : ℕ) (s : Signature) → Meets (small_types n s) τ ↔ SmallTypes τ s
  unfolding small_types MeetsIn SmallTypes
  small_law n no_names = (λ h. tt, λ h. tt)
  small_law n (naming i t s) = (λ h. (h.0, (small_law n s).0 h.1), λ h. (h.0, (small_law n s).1 h.1))

  -- ---- merging
  pub same_law : (n : ℕ) (t : Term) (o : Option Term) → Meets (same_type n t o) τ ↔ ((u : Term) → o ≡ some u → under τ t ≡ under τ u)
  unfolding same_type MeetsIn
  same_law n t (some v) = (λ h u e. let q : v ≡ u = cc in h ∙ ap (under τ) q, λ h. h v refl)
  same_law n t nothing = (λ h u e. let z : ◌≡◌ {A = ℕ} 0 1 = cc in absurd (omega arith), λ h. tt)

  pub merged_law : (n : ℕ) (s r : Signature) → Meets (merge_names n s r) τ ↔ Merged τ s r
  unfolding merge_names MeetsIn Merged
  merged_law n no_names r = (λ h. tt, λ h. tt)
  merged_law n (naming i t s) r =
      (λ h. ((same_law n t (term_in i r)).0 h.0, (merged_law n s r).0 h.1), λ h. ((same_law n t (term_in i r)).1 h.0, (merged_law n s r).1 h.1))

  pub merged_as_law : (n : ℕ) (is : List ℕ) (t : Term) (r : Signature) → Meets (merge_declared n is t r) τ ↔ MergedAs τ (under τ t) is r
  unfolding merge_declared MeetsIn
  merged_as_law n [] t r = (λ h i q. absurd (none_has i q), λ h. tt)
  merged_as_law n (j ∷ is) t r = (
    λ h i q. to i ((same_law n t (term_in j r)).0 h.0) (λ k. (merged_as_law n is t r).0 h.1 i k) (which_has j i is q),
    λ h. ((same_law n t (term_in j r)).1 (h j (first_has j is)), (merged_as_law n is t r).1 (λ i q. h i (rest_has j i is q))),
  )
    where
      to : (i : ℕ) → ((u : Term) → term_in j r ≡ some u → under τ t ≡ under τ u) → (has i is ≡ true → (u : Term) → term_in i r ≡ some u → under τ t ≡ under τ u)
          → (j ≡ i) ⊎ (has i is ≡ true) → (u : Term) → term_in i r ≡ some u → under τ t ≡ under τ u
      to i f g (inl e) u q = f u (ap (λ x. term_in x r) e ∙ q)
      to i f g (inr e) u q = g e u q

  -- ---- names that are global already
  pub new_law : (n : ℕ) (m : Named) → Meets (new_name n m) τ ↔ (is_named m ≡ false)
  unfolding new_name MeetsIn is_named
  new_law n unnamed = (λ h. refl, λ h. tt)
  new_law n (of_local t) = (λ h. absurd h, λ e. absurd (false≢true (sym e)))
  new_law n (of_global p g) = (λ h. absurd h, λ e. absurd (false≢true (sym e)))

  pub news_law : (n : ℕ) (is : List ℕ) (G : Dictionary) → Meets (new_names n is G) τ ↔ NewNames is G
  unfolding new_names MeetsIn
  news_law n [] G = (λ h i q. absurd (none_has i q), λ h. tt)
  news_law n (j ∷ is) G = (
    λ h i q. to i ((new_law n (name_in j G)).0 h.0) (λ k. (news_law n is G).0 h.1 i k) (which_has j i is q),
    λ h. ((new_law n (name_in j G)).1 (h j (first_has j is)), (news_law n is G).1 (λ i q. h i (rest_has j i is q))),
  )
    where
      to : (i : ℕ) → is_global j G ≡ false → (has i is ≡ true → is_global i G ≡ false) → (j ≡ i) ⊎ (has i is ≡ true) → is_global i G ≡ false
      to i f g (inl e) = ap (λ x. is_global x G) (sym e) ∙ f
      to i f g (inr e) = g e

  -- ---- Theta
  name_scope : (b : Bool) (n : ℕ) (m : Named) → b ≡ true → Meets (theta_name b n m) τ → HasInScope τ m (under τ (type_in_scope m))
  unfolding theta_name MeetsIn HasInScope type_in_scope
  name_scope false n m e h = absurd (false≢true e)
  name_scope true n unnamed e h = absurd h
  name_scope true n (of_local t) e h = refl
  name_scope true n (of_global zero g) e h = instance_none τ g
  name_scope true n (of_global (suc p) g) e h = absurd h

  name_back : (b : Bool) (n : ℕ) (m : Named) (h : Ty) → HasInScope τ m h → Meets (theta_name b n m) τ × (h ≡ under τ (type_in_scope m))
  unfolding theta_name MeetsIn HasInScope type_in_scope
  name_back b n unnamed h q = absurd q
  name_back false n (of_local t) h q = (tt, q)
  name_back true n (of_local t) h q = (tt, q)
  name_back false n (of_global zero g) h q = (tt, q ∙ sym (instance_none τ g))
  name_back true n (of_global zero g) h q = (tt, q ∙ sym (instance_none τ g))
  name_back b n (of_global (suc p) g) h q = absurd q

  names_scope : (n k : ℕ) (s : Signature) (Γ : Scope) → (Stroked k (names_of s) → ⊥) → Meets (theta_names n k s Γ) τ
      → HaveInScope τ k (names_of s) Γ (unders τ (terms_of (theta_signature k s Γ)))
  unfolding theta_names MeetsIn HaveInScope theta_signature names_of terms_of under
  names_scope n k no_names Γ f h = tt
  names_scope n k (naming i t s) Γ f h = (
    name_scope (takes k i) n (name_at (decorate k i) Γ) (taken (takes k i) refl) h.0,
    names_scope n k s Γ (λ x. f (x.0, rest_has i x.0 (names_of s) x.1, x.2)) h.1,
  )
    where
      taken : (b : Bool) → takes k i ≡ b → b ≡ true
      taken true e = refl
      taken false e = absurd (f (i, first_has i (names_of s), e))

  names_back : (n k : ℕ) (s : Signature) (Γ : Scope) (hs : Tys) → HaveInScope τ k (names_of s) Γ hs
      → Meets (theta_names n k s Γ) τ × (hs ≡ unders τ (terms_of (theta_signature k s Γ)))
  unfolding theta_names MeetsIn HaveInScope theta_signature names_of terms_of under
  names_back n k no_names Γ tnil q = (tt, refl)
  names_back n k no_names Γ (tcons h hs) q = absurd q
  names_back n k (naming i t s) Γ tnil q = absurd q
  names_back n k (naming i t s) Γ (tcons h hs) q =
      let a = name_back (takes k i) n (name_at (decorate k i) Γ) h q.0 in
      let b = names_back n k s Γ hs q.1 in
      ((a.0, b.0), ap₂ tcons a.1 b.1)

  theta_names_lem : (k : ℕ) (s : Signature) (Γ : Scope) → names_of (theta_signature k s Γ) ≡ names_of s
  unfolding theta_signature names_of
  theta_names_lem k no_names Γ = refl
  theta_names_lem k (naming i t s) Γ = ap (λ l. i ∷ l) (theta_names_lem k s Γ)

  pub theta_law : (n k : ℕ) (f : NamedSchema) (Γ : Scope) → Meets (theta_items n k f Γ) τ ↔ ThetaTyped τ n k f Γ
  unfolding theta_items MeetsIn ThetaTyped under
  theta_law n k no_schema Γ = (λ h. h, λ h. h)
  theta_law n k (a_schema p g) Γ = (
    λ h.
        let f = unstroked ((refuse_if_law (some_stroked k (schema_of g)) 37 n).0 h.1.1.0) in (
          none_left_lem p ((refuse_if_law (ltb 0 p) 32 n).0 h.1.0),
          f,
          (unders τ (terms_of (theta_signature k (schema_of g) Γ)), names_scope n k (schema_of g) Γ f h.0, h.1.1.1.1.0 ∙ shape),
        ),
    λ h.
        let b = names_back n k (schema_of g) Γ h.2.0 h.2.1 in (
          b.0,
          (
            (refuse_if_law (ltb 0 p) 32 n).1 (le-ltb 0 p (omega (arith, h.0))),
            ((refuse_if_law (some_stroked k (schema_of g)) 37 n).1 (unmarked h.1), (tt, (h.2.2 ∙ ap (node (binding (schema_names g))) b.1 ∙ sym shape, tt))),
          ),
        ),
  )
    where
      none_left_lem : (p : ℕ) → ltb 0 p ≡ false → p ≡ 0
      none_left_lem p e = omega (arith, ltb-false 0 p e)

      unstroked : some_stroked k (schema_of g) ≡ false → Stroked k (schema_names g) → ⊥
      unstroked e x = bool_no (some_stroked k (schema_of g)) ((stroked_law k (schema_of g)).1 x) e

      unmarked : (Stroked k (schema_names g) → ⊥) → some_stroked k (schema_of g) ≡ false
      unmarked f = go (some_stroked k (schema_of g)) refl
        where
          go : (b : Bool) → some_stroked k (schema_of g) ≡ b → b ≡ false
          go true e = absurd (f ((stroked_law k (schema_of g)).0 e))
          go false e = refl

      shape : under τ (binding_of (theta_signature k (schema_of g) Γ)) ≡ node (binding (schema_names g)) (unders τ (terms_of (theta_signature k (schema_of g) Γ)))
      shape = unfold binding_of under in ap (λ l. node (binding l) (unders τ (terms_of (theta_signature k (schema_of g) Γ)))) (theta_names_lem k (schema_of g) Γ)

  -- ---- Include
  pub include_law : (f : NamedSchema) (i : Include) (actuals : Items) (A : Type 0) → Meets actuals τ ↔ A → Meets (include_rule f i actuals) τ ↔ SchemaTyped τ f i A
  unfolding include_rule MeetsIn SchemaTyped
  include_law no_schema (include n s k xs rs) actuals A e = (λ h. h, λ h. h)
  include_law (a_schema p g) (include n s k xs rs) actuals A e = go (eqb (exprs_length xs) p) refl
    where
      right : wrong_names k rs (schema_of g) ≡ false → BadNames k rs (schema_of g) → ⊥
      right q x = bool_no (wrong_names k rs (schema_of g)) ((names_law k rs (schema_of g)).1 x) q

      unmarked : (BadNames k rs (schema_of g) → ⊥) → wrong_names k rs (schema_of g) ≡ false
      unmarked f = mark (wrong_names k rs (schema_of g)) refl
        where
          mark : (b : Bool) → wrong_names k rs (schema_of g) ≡ b → b ≡ false
          mark true q = absurd (f ((names_law k rs (schema_of g)).0 q))
          mark false q = refl

      go : (b : Bool) → eqb (exprs_length xs) p ≡ b
          → Meets (cond b (actuals ⨾ refuse_if (wrong_names k rs (schema_of g)) 37 n) (refusal 32 n)) τ ↔ ((exprs_length xs ≡ p) × A × (BadNames k rs (schema_of g) → ⊥))
      go true q = (
        λ h. (eqb-true (exprs_length xs) p q, e.0 h.0, right ((refuse_if_law _ 37 n).0 h.1)),
        λ h. (e.1 h.1, (refuse_if_law _ 37 n).1 (unmarked h.2)),
      )
      go false q = (λ h. absurd h, λ h. absurd (bool_no (eqb (exprs_length xs) p) (eq-eqb _ _ h.0) q))

  binding_in_lem : (s : Signature) → under τ (binding_of s) ≡ binding_in τ s
  unfolding binding_of under
  binding_in_lem s = refl

  -- ---- a node of each kind
  mutual
    unfolding expr_items MeetsIn TypedExpr under expr_node

    pub expr_law : (a : Expr) (Γ : Scope) → Meets (expr_items a Γ) τ ↔ TypedExpr τ a Γ
    expr_law (reference n i xs) Γ =
        (λ h. ((exprs_law xs Γ).0 h.0, (name_law n xs (name_at i Γ)).0 h.1), λ h. ((exprs_law xs Γ).1 h.0, (name_law n xs (name_at i Γ)).1 h.1))
    expr_law (number n v) Γ = (λ h. h.1.0, λ h. (tt, (h, tt)))
    expr_law (integers n) Γ = (λ h. h.1.0, λ h. (tt, (h, tt)))
    expr_law (set n xs) Γ = (
      λ h. ((exprs_law xs Γ).0 h.0, (members_law n xs).0 h.1.1.0, h.1.1.1.1.0),
      λ h. ((exprs_law xs Γ).1 h.0, (tt, ((members_law n xs).1 h.1, (tt, (h.2, tt))))),
    )
    expr_law (tuple n xs) Γ = (
      λ h. ((exprs_law xs Γ).0 h.0, h.1.1.0 ∙ ap (node productFormer) (types_in_lem xs)),
      λ h. ((exprs_law xs Γ).1 h.0, (tt, (h.1 ∙ sym (ap (node productFormer) (types_in_lem xs)), tt))),
    )
    expr_law (product n xs) Γ =
        let e = ap (λ gs. ℙ (node productFormer gs)) (row_chosen n 1 (exprs_length xs)) in (
          λ h. ((exprs_law xs Γ).0 h.0, (powers_law n xs 1).0 h.1.0, h.1.1.1.0 ∙ e),
          λ h. ((exprs_law xs Γ).1 h.0, ((powers_law n xs 1).1 h.1, (tt, (h.2 ∙ sym e, tt)))),
        )
    expr_law (power n a) Γ = (λ h. ((expr_law a Γ).0 h.0, h.1.0.1.0, h.1.1.1.0), λ h. ((expr_law a Γ).1 h.0, ((tt, (h.1, tt)), (tt, (h.2, tt)))))
    expr_law (application n a b) Γ = (
      λ h. ((expr_law a Γ).0 h.0, (expr_law b Γ).0 h.1.0, h.1.1.1.0),
      λ h. ((expr_law a Γ).1 h.0, ((expr_law b Γ).1 h.1, (tt, (h.2, tt)))),
    )
    expr_law (selection n a i) Γ = (λ h. ((expr_law a Γ).0 h.0, h.1.1), λ h. ((expr_law a Γ).1 h.0, (tt, h.1)))
    expr_law (theta n s k) Γ = theta_law n k (schema_named s Γ) Γ
    expr_law (schema_set n i) Γ =
        let e = binding_in_lem (include_signature i Γ) in
        let s = small_law (include_node i) (include_signature i Γ) in (
          λ h. ((included_law i Γ).0 h.0, s.0 h.1.0, h.1.1.1.0 ∙ ap ℙ e),
          λ h. ((included_law i Γ).1 h.0, (s.1 h.1, (tt, (h.2 ∙ sym (ap ℙ e), tt)))),
        )
    expr_law (arithmetic n o a b) Γ = (
      λ h. ((expr_law a Γ).0 h.0, (expr_law b Γ).0 h.1.0, h.1.1.0.0, h.1.1.0.1.0, h.1.1.1.1.0),
      λ h. ((expr_law a Γ).1 h.0, ((expr_law b Γ).1 h.1, ((h.2, (h.3, tt)), (tt, (h.4, tt))))),
    )
    expr_law (comprehension n t a) Γ = (
      λ h. ((text_law t Γ blank).0 h.0, (expr_law a (inside t Γ)).0 h.1.0, h.1.1.1.0),
      λ h. ((text_law t Γ blank).1 h.0, ((expr_law a (inside t Γ)).1 h.1, (tt, (h.2, tt)))),
    )

    pub exprs_law : (xs : Exprs) (Γ : Scope) → Meets (exprs_items xs Γ) τ ↔ TypedExprs τ xs Γ
    exprs_law none Γ = (λ h. tt, λ h. tt)
    exprs_law (more a xs) Γ = (λ h. ((expr_law a Γ).0 h.0, (exprs_law xs Γ).0 h.1), λ h. ((expr_law a Γ).1 h.0, (exprs_law xs Γ).1 h.1))

    pub pred_law : (p : Pred) (Γ : Scope) → Meets (pred_items p Γ) τ ↔ TypedPred τ p Γ
    pred_law (truth n) Γ = (λ h. tt, λ h. tt)
    pred_law (equal n a b) Γ = (
      λ h. ((expr_law a Γ).0 h.0, (expr_law b Γ).0 h.1.0, h.1.1.0),
      λ h. ((expr_law a Γ).1 h.0, ((expr_law b Γ).1 h.1, (h.2, tt))),
    )
    pred_law (member n a b) Γ = (
      λ h. ((expr_law a Γ).0 h.0, (expr_law b Γ).0 h.1.0, h.1.1.0),
      λ h. ((expr_law a Γ).1 h.0, ((expr_law b Γ).1 h.1, (h.2, tt))),
    )
    pred_law (at_most n a b) Γ = (
      λ h. ((expr_law a Γ).0 h.0, (expr_law b Γ).0 h.1.0, h.1.1.0, h.1.1.1.0),
      λ h. ((expr_law a Γ).1 h.0, ((expr_law b Γ).1 h.1, (h.2, (h.3, tt)))),
    )
    pred_law (not n p) Γ = pred_law p Γ
    pred_law (connected n o p q) Γ = (λ h. ((pred_law p Γ).0 h.0, (pred_law q Γ).0 h.1), λ h. ((pred_law p Γ).1 h.0, (pred_law q Γ).1 h.1))
    pred_law (quantified n o t p) Γ = (
      λ h. ((text_law t Γ blank).0 h.0, (pred_law p (inside t Γ)).0 h.1),
      λ h. ((text_law t Γ blank).1 h.0, (pred_law p (inside t Γ)).1 h.1),
    )

    pub text_law : (t : Text) (Γ : Scope) (G : Dictionary) → Meets (text_items t Γ G) τ ↔ TypedText τ t Γ G
    text_law (text n p ls) Γ G = (
      λ h. ((lines_law ls Γ G no_names).0 h.0, (pred_law p (inside (text n p ls) Γ)).0 h.1),
      λ h. ((lines_law ls Γ G no_names).1 h.0, (pred_law p (inside (text n p ls) Γ)).1 h.1),
    )

    pub lines_law : (ls : Lines) (Γ : Scope) (G : Dictionary) (r : Signature) → Meets (lines_items ls Γ G r) τ ↔ TypedLines τ ls Γ G r
    lines_law end Γ G r = (λ h. tt, λ h. tt)
    lines_law (declaration n a is ls) Γ G r =
        let m = merged_as_law n is (unknown_at n 0) r in
        let w = news_law n is G in
        let f = few_law n (declare is (unknown_at n 0) r) in (
          λ h. ((expr_law a Γ).0 h.0.0, h.0.1.1.0, m.0 h.1.0.0, w.0 h.1.0.1, h.1.1.0.0, f.0 h.1.1.0.1, (lines_law ls Γ G (declare is (unknown_at n 0) r)).0 h.1.1.1),
          λ h. (((expr_law a Γ).1 h.0, (tt, (h.1, tt))), ((m.1 h.2, w.1 h.3), ((h.4, f.1 h.5), (lines_law ls Γ G (declare is (unknown_at n 0) r)).1 h.6))),
        )
    lines_law (inclusion i ls) Γ G r =
        let s = include_signature i Γ in
        let m = merged_law (include_node i) s r in
        let w = news_law (include_node i) (names_of s) G in
        let z = small_law (include_node i) s in
        let f = few_law (include_node i) (merge s r) in (
          λ h. ((included_law i Γ).0 h.0, m.0 h.1.0.0, w.0 h.1.0.1, z.0 h.1.1.0.0, f.0 h.1.1.0.1, (lines_law ls Γ G (merge s r)).0 h.1.1.1),
          λ h. ((included_law i Γ).1 h.0, ((m.1 h.1, w.1 h.2), ((z.1 h.3, f.1 h.4), (lines_law ls Γ G (merge s r)).1 h.5))),
        )

    pub included_law : (i : Include) (Γ : Scope) → Meets (include_items i Γ) τ ↔ TypedInclude τ i Γ
    included_law (include n s k xs rs) Γ =
        include_law (schema_named s Γ) (include n s k xs rs) (actual_items xs n 1 Γ) (TypedActuals τ xs n 1 Γ) (actuals_law xs n 1 Γ)

    pub actuals_law : (xs : Exprs) (n k : ℕ) (Γ : Scope) → Meets (actual_items xs n k Γ) τ ↔ TypedActuals τ xs n k Γ
    actuals_law none n k Γ = (λ h. tt, λ h. tt)
    actuals_law (more a xs) n k Γ = (
      λ h. ((expr_law a Γ).0 h.0.0, h.0.1.1.0, (actuals_law xs n (suc k) Γ).0 h.1),
      λ h. (((expr_law a Γ).1 h.0, (tt, (h.1, tt))), (actuals_law xs n (suc k) Γ).1 h.2),
    )

  pub schema_law : (x : Schema) (Γ : Scope) → Meets (schema_items x Γ) τ ↔ TypedSchema τ x Γ
  unfolding schema_items MeetsIn TypedSchema
  schema_law (plain t) Γ = text_law t Γ blank
  schema_law (from i) Γ =
      let z = small_law (include_node i) (include_signature i Γ) in
      (λ h. ((included_law i Γ).0 h.0, z.0 h.1), λ h. ((included_law i Γ).1 h.0, z.1 h.1))
  schema_law (both n a b) Γ =
      let m = merged_law n (schema_signature b Γ) (schema_signature a Γ) in
      let f = few_law n (merge (schema_signature b Γ) (schema_signature a Γ)) in (
        λ h. ((schema_law a Γ).0 h.0, (schema_law b Γ).0 h.1.0, m.0 h.1.1.0, f.0 h.1.1.1),
        λ h. ((schema_law a Γ).1 h.0, ((schema_law b Γ).1 h.1, (m.1 h.2, f.1 h.3))),
      )

  -- A TABLE MEETS A PARAGRAPH'S ITEMS EXACTLY WHERE IT IS A TYPING OF THE PARAGRAPH.
  pub paragraph_law : (p : Paragraph) (D : Dictionary) → Meets (paragraph_items p D) τ ↔ TypedParagraph τ p D
  unfolding paragraph_items new_names MeetsIn TypedParagraph under
  paragraph_law (given n is) D = news_law n is D
  paragraph_law (axiomatic n t) D = text_law t (globals D) D
  paragraph_law (schema n s ps x) D = schema_law x (with_parameters ps 1 (globals D))
  paragraph_law (abbreviation n i ps a) D =
      let e = expr_law a (with_parameters ps 1 (globals D)) in
      let w = new_law n (name_in i D) in
      (λ h. (e.0 h.0, w.0 h.1.0.0, h.1.1), λ h. (e.1 h.0, ((w.1 h.1, tt), h.2)))
  paragraph_law (constraint n p) D = pred_law p (globals D)
