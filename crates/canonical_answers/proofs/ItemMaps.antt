-- THE ITEMS OF A RENUMBERED PARAGRAPH are the paragraph's, mapped: unknowns by slots, nodes by f.
use mathlib.Core.Path.{◌≡◌, refl, ap, ap₂, sym, ◌∙◌}
use mathlib.Core.Bool.{Bool, true, false, cond}
use mathlib.Core.List.{List, [], ◌∷◌}
use mathlib.Core.Option.{Option, some, none as nothing}
use Prim.Native.Nat.{ℕ, zero, suc, ◌+◌, ◌≤◌, ◌<◌}
use native.Mathlib.Omega.{arith}
use lib.Dec.{ltb, eqb}
use borrow.Author.Tests.{eqb-true}
use Rattle.reader_rules.specs.Tree.{Expr, reference, number, integers, set, tuple, product, power, application, selection, theta, schema_set, arithmetic}
use Rattle.reader_rules.specs.Tree.{comprehension, Exprs, none, more, Pred, truth, equal, member, at_most, not, connected, quantified, Text, text, Lines}
use Rattle.reader_rules.specs.Tree.{end, declaration, inclusion, Include, include, Schema, plain, from, both, Paragraph, given, axiomatic, schema}
use Rattle.reader_rules.specs.Tree.{abbreviation, constraint, exprs_length, expr_node, include_node}
use Rattle.types_rules.specs.Equations.{Pairs, pair}
use Rattle.types_rules.specs.Types.{Term, unknown, Terms, nil, cons}
use Rattle.types_rules.specs.Instance.{instance}
use Rattle.checker_rules.specs.Strokes.{decorate, takes}
use Rattle.checker_rules.specs.Unknowns.{slot, unknown_at, row, power_of, product_of, pair_of}
use Rattle.checker_rules.specs.Items.{Items, ◌⨾◌, fresh, equations, select, small, refusal, piece}
use Rattle.checker_rules.specs.Dictionary.{Dictionary, blank, Named, unnamed, of_local, of_global, name_in, NamedSchema, no_schema, a_schema}
use Rattle.checker_rules.specs.Signatures.{Signature, no_names, naming, count_names, names_of, term_in, binding_of, components_of, merge, declare, some_stroked, wrong_names}
use Rattle.checker_rules.specs.Scopes.{Scope, globals, name_at, schema_named, with_parameters, include_signature, inside, schema_signature}
use Rattle.checker_rules.specs.Conditions.{refuse_if, same_type, merge_declared, merge_names, new_name, new_names, small_types, few_names, type_of, types_of, typed, is_power}
use Rattle.checker_rules.specs.Conditions.{powers, are_powers, members, are_members, equation, are_numbers, fresh_row}
use Rattle.checker_rules.specs.Rules.{reference_items, theta_name, theta_names, type_in_scope, theta_signature, theta_items, include_rule, expr_items, exprs_items}
use Rattle.checker_rules.specs.Rules.{pred_items, text_items, lines_items, include_items, actual_items, schema_items, paragraph_items}
use Rattle.checker_rules.proofs.ScopeUnknowns.{FewRecorded}
use Rattle.canonical_rules.specs.MapNodes.{map_expr, map_exprs, map_pred, map_text, map_lines, map_include, map_schema, map_paragraph}
use Rattle.canonical_rules.proofs.NodeMaps.{expr_node_lem, include_node_lem, length_maps}
use Rattle.canonical_answers.proofs.MapItems.{move_slot, map_term, map_terms, map_pairs, map_items, map_signature, map_named, map_scope, map_option}
use Rattle.reader_rules.proofs.Sized.{SizedExpr, SizedExprs, SizedPred, SizedText, SizedLines, SizedInclude, SizedSchema, SizedParagraph}
use Rattle.canonical_answers.proofs.TermMaps.{move_slot_lem, unknown_maps, row_maps, closed_maps, row_instance, names_map, count_maps, binding_maps}
use Rattle.canonical_answers.proofs.TermMaps.{term_maps, merge_maps, declare_maps, name_at_maps, schema_stays, parameters_map}
use Rattle.canonical_answers.proofs.TermMaps.{include_signature_lem, inside_maps, schema_signature_lem}
use Rattle.canonical_answers.proofs.TermMaps.{FewNamed, FewAt, few_name, few_inside, few_parameters}

module _ (f : ℕ → ℕ) where
  -- conditions
  refuse_maps : (b : Bool) (e n : ℕ) → refuse_if b e (f n) ≡ map_items f (refuse_if b e n)
  unfolding refuse_if map_items
  refuse_maps true e n = refl
  refuse_maps false e n = refl

  same_type_maps : (n : ℕ) (t : Term) (o : Option Term) → same_type (f n) (map_term f t) (map_option f o) ≡ map_items f (same_type n t o)
  unfolding same_type map_option map_items
  same_type_maps n t (some u) = refl
  same_type_maps n t nothing = refl

  declared_maps : (n : ℕ) (is : List ℕ) (t : Term) (r : Signature) → merge_declared (f n) is (map_term f t) (map_signature f r) ≡ map_items f (merge_declared n is t r)
  unfolding merge_declared map_items
  declared_maps n [] t r = refl
  declared_maps n (i ∷ is) t r =
      ap₂ (λ a b. a ⨾ b) (ap (same_type (f n) (map_term f t)) (term_maps f i r) ∙ same_type_maps n t (term_in i r)) (declared_maps n is t r)

  names_maps : (n : ℕ) (s r : Signature) → merge_names (f n) (map_signature f s) (map_signature f r) ≡ map_items f (merge_names n s r)
  unfolding merge_names map_items map_signature
  names_maps n no_names r = refl
  names_maps n (naming i t s) r =
      ap₂ (λ a b. a ⨾ b) (ap (same_type (f n) (map_term f t)) (term_maps f i r) ∙ same_type_maps n t (term_in i r)) (names_maps n s r)

  new_name_maps : (n : ℕ) (m : Named) → new_name (f n) m ≡ map_items f (new_name n m)
  unfolding new_name map_items
  new_name_maps n unnamed = refl
  new_name_maps n (of_local t) = refl
  new_name_maps n (of_global p g) = refl

  new_names_maps : (n : ℕ) (is : List ℕ) (G : Dictionary) → new_names (f n) is G ≡ map_items f (new_names n is G)
  unfolding new_names map_items
  new_names_maps n [] G = refl
  new_names_maps n (i ∷ is) G = ap₂ (λ a b. a ⨾ b) (new_name_maps n (name_in i G)) (new_names_maps n is G)

  small_maps : (n : ℕ) (s : Signature) → small_types (f n) (map_signature f s) ≡ map_items f (small_types n s)
  unfolding small_types map_items map_signature
  small_maps n no_names = refl
  small_maps n (naming i t s) = ap (λ b. small (f n) (map_term f t) ⨾ b) (small_maps n s)

  few_maps : (n : ℕ) (s : Signature) → few_names (f n) (map_signature f s) ≡ map_items f (few_names n s)
  unfolding few_names
  few_maps n s = ap (λ c. refuse_if (ltb 16 c) 38 (f n)) (count_maps f s) ∙ refuse_maps (ltb 16 (count_names s)) 38 n

  pub type_maps : (a : Expr) → type_of (map_expr f a) ≡ map_term f (type_of a)
  type_maps a = ap (λ n. unknown_at n 0) (expr_node_lem f a) ∙ unknown_maps f (expr_node a) 0 (omega arith)

  types_map : (xs : Exprs) → types_of (map_exprs f xs) ≡ map_terms f (types_of xs)
  unfolding types_of map_exprs map_terms
  types_map none = refl
  types_map (more a xs) = ap₂ cons (type_maps a) (types_map xs)

  fresh_maps : (n k : ℕ) → k < 8 → fresh (slot (f n) k) ≡ map_items f (fresh (slot n k))
  unfolding map_items
  fresh_maps n k h = ap fresh (sym (move_slot_lem f n k h))

  -- congruences: mapping goes into every part of items and terms
  equation_maps : (n : ℕ) {a b c d : Term} → c ≡ a → d ≡ b → equation n c d ≡ equation n a b
  equation_maps n p q = ap₂ (equation n) p q

  numbers_maps : (n : ℕ) {a b c d : Term} → c ≡ a → d ≡ b → are_numbers n c d ≡ are_numbers n a b
  numbers_maps n p q = ap₂ (are_numbers n) p q

  power_maps : {a c : Term} → c ≡ a → power_of c ≡ power_of a
  power_maps p = ap power_of p

  product_maps : {ts us : Terms} → us ≡ ts → product_of us ≡ product_of ts
  product_maps p = ap product_of p

  pair_maps : {a b c d : Term} → c ≡ a → d ≡ b → pair_of c d ≡ pair_of a b
  pair_maps p q = ap₂ pair_of p q

  then_maps : {a b c d : Items} → c ≡ a → d ≡ b → (c ⨾ d) ≡ (a ⨾ b)
  then_maps p q = ap₂ (λ x y. x ⨾ y) p q

  piece_maps : (n : ℕ) {t u : Items} → u ≡ t → piece n u ≡ piece n t
  piece_maps n p = ap (piece n) p

  typed_maps : (n : ℕ) {t u : Term} → u ≡ t → typed (f n) u ≡ (fresh (move_slot f (slot n 0)) ⨾ equation (f n) (unknown (move_slot f (slot n 0))) t)
  unfolding map_items map_term
  typed_maps n p = then_maps (fresh_maps n 0 (omega arith)) (equation_maps (f n) (unknown_maps f n 0 (omega arith)) p)

  is_power_maps : (n k : ℕ) (a : Expr) → k < 8 → is_power (f n) k (map_expr f a) ≡ map_items f (is_power n k a)
  unfolding map_items map_pairs map_term
  is_power_maps n k a h = then_maps (fresh_maps n k h) (equation_maps (f n) (type_maps a) (power_maps (unknown_maps f n k h)))

  fresh_row_maps : (p n k : ℕ) → k + p ≤ 8 → fresh_row (f n) k p ≡ map_items f (fresh_row n k p)
  unfolding fresh_row map_items
  fresh_row_maps zero n k h = refl
  fresh_row_maps (suc p) n k h = ap₂ (λ x y. x ⨾ y) (fresh_maps n k (omega arith)) (fresh_row_maps p n (suc k) (omega arith))

  pair_of_maps : {a b c d : Term} {es us : Pairs Term} → c ≡ a → d ≡ b → us ≡ es → pair c d us ≡ pair a b es
  pair_of_maps {a = a} {b = b} {us = us} p q r = ap₂ (λ x y. pair x y us) p q ∙ ap (pair a b) r

  powers_maps : (xs : Exprs) (n k : ℕ) → k + exprs_length xs ≤ 8 → powers (f n) (map_exprs f xs) k ≡ map_pairs f (powers n xs k)
  unfolding powers map_exprs exprs_length map_pairs map_term
  powers_maps none n k h = refl
  powers_maps (more a xs) n k h = pair_of_maps (type_maps a) (power_maps (unknown_maps f n k (omega arith))) (powers_maps xs n (suc k) (omega arith))

  are_powers_maps : (xs : Exprs) (n k : ℕ) → k + exprs_length xs ≤ 8 → are_powers (f n) (map_exprs f xs) k ≡ map_items f (are_powers n xs k)
  unfolding are_powers map_items
  are_powers_maps xs n k h = then_maps (ap (fresh_row (f n) k) (length_maps f xs) ∙ fresh_row_maps (exprs_length xs) n k h) (ap (equations (f n)) (powers_maps xs n k h))

  each_member_maps : (xs : Exprs) (n : ℕ) → members (f n) (map_exprs f xs) ≡ map_pairs f (members n xs)
  unfolding members map_exprs map_pairs map_term
  each_member_maps none n = refl
  each_member_maps (more a xs) n = pair_of_maps (type_maps a) (unknown_maps f n 1 (omega arith)) (each_member_maps xs n)

  members_maps : (xs : Exprs) (n : ℕ) → are_members (f n) (map_exprs f xs) ≡ map_items f (are_members n xs)
  unfolding are_members map_items
  members_maps xs n = ap (equations (f n)) (each_member_maps xs n)

  cond_maps : (b : Bool) (x y : Items) {u v : Items} → (b ≡ true → u ≡ map_items f x) → v ≡ map_items f y → cond b u v ≡ map_items f (cond b x y)
  cond_maps true x y p q = p refl
  cond_maps false x y p q = q

  -- rules
  reference_maps : (n : ℕ) (xs : Exprs) (m : Named) → FewNamed m → reference_items (f n) (map_exprs f xs) (map_named f m) ≡ map_items f (reference_items n xs m)
  unfolding reference_items map_exprs map_named FewNamed map_items map_pairs map_term
  reference_maps n none unnamed h = refl
  reference_maps n (more a xs) unnamed h = refl
  reference_maps n none (of_local t) h = typed_maps n refl
  reference_maps n (more a xs) (of_local t) h = refl
  reference_maps n none (of_global p g) h = then_maps (fresh_row_maps p n 1 (omega arith)) (typed_maps n (row_instance f n p g h))
  reference_maps n (more a xs) (of_global p g) h =
      ap (λ l. cond (eqb l p) (are_powers (f n) (map_exprs f (more a xs)) 1 ⨾ typed (f n) (instance (row (f n) 1 p) g)) (refusal 32 (f n))) (length_maps f (more a xs))
      ∙ cond_maps (eqb (exprs_length (more a xs)) p) (are_powers n (more a xs) 1 ⨾ typed n (instance (row n 1 p) g)) (refusal 32 n)
      (λ e. then_maps (are_powers_maps (more a xs) n 1 (omega (arith, eqb-true (exprs_length (more a xs)) p e))) (typed_maps n (row_instance f n p g h)))
      (refl)

  theta_name_maps : (b : Bool) (n : ℕ) (m : Named) → theta_name b (f n) (map_named f m) ≡ map_items f (theta_name b n m)
  unfolding theta_name map_named map_items
  theta_name_maps false n m = refl
  theta_name_maps true n unnamed = refl
  theta_name_maps true n (of_local t) = refl
  theta_name_maps true n (of_global zero g) = refl
  theta_name_maps true n (of_global (suc p) g) = refl

  theta_names_maps : (n k : ℕ) (s : Signature) (Γ : Scope) → theta_names (f n) k s (map_scope f Γ) ≡ map_items f (theta_names n k s Γ)
  unfolding theta_names map_items
  theta_names_maps n k no_names Γ = refl
  theta_names_maps n k (naming i t s) Γ =
      ap₂ (λ x y. x ⨾ y)
      (ap (theta_name (takes k i) (f n)) (name_at_maps f (decorate k i) Γ) ∙ theta_name_maps (takes k i) n (name_at (decorate k i) Γ))
      (theta_names_maps n k s Γ)

  in_scope_maps : (m : Named) → type_in_scope (map_named f m) ≡ map_term f (type_in_scope m)
  unfolding type_in_scope map_named map_term
  in_scope_maps unnamed = refl
  in_scope_maps (of_local t) = refl
  in_scope_maps (of_global p g) = closed_maps f g

  theta_signature_maps : (k : ℕ) (s : Signature) (Γ : Scope) → theta_signature k s (map_scope f Γ) ≡ map_signature f (theta_signature k s Γ)
  unfolding theta_signature map_signature
  theta_signature_maps k no_names Γ = refl
  theta_signature_maps k (naming i t s) Γ =
      ap₂ (naming i) (ap type_in_scope (name_at_maps f (decorate k i) Γ) ∙ in_scope_maps (name_at (decorate k i) Γ)) (theta_signature_maps k s Γ)

  theta_maps : (n k : ℕ) (d : NamedSchema) (Γ : Scope) → theta_items (f n) k d (map_scope f Γ) ≡ map_items f (theta_items n k d Γ)
  unfolding theta_items map_items map_pairs map_term
  theta_maps n k no_schema Γ = refl
  theta_maps n k (a_schema p g) Γ =
      let s = components_of (instance nil g) in
      then_maps (theta_names_maps n k s Γ)
      (then_maps (refuse_maps (ltb 0 p) 32 n)
      (then_maps (refuse_maps (some_stroked k s) 37 n) (typed_maps n (ap binding_of (theta_signature_maps k s Γ) ∙ binding_maps f (theta_signature k s Γ)))))

  rule_maps : (d : NamedSchema) (i : Include) (x y : Items) → y ≡ map_items f x → include_rule d (map_include f i) y ≡ map_items f (include_rule d i x)
  unfolding include_rule map_include map_items
  rule_maps no_schema (include n s k xs rs) x y e = refl
  rule_maps (a_schema p g) (include n s k xs rs) x y e =
      ap (λ l. cond (eqb l p) (y ⨾ refuse_if (wrong_names k rs (components_of (instance nil g))) 37 (f n)) (refusal 32 (f n))) (length_maps f xs)
      ∙ cond_maps (eqb (exprs_length xs) p) (x ⨾ refuse_if (wrong_names k rs (components_of (instance nil g))) 37 n) (refusal 32 n) (λ q. then_maps e (refuse_maps (wrong_names k rs (components_of (instance nil g))) 37 n)) (refl)

  select_maps : (n i : ℕ) (a : Expr) → select (f n) i (type_of (map_expr f a)) (slot (f n) 0) ≡ map_items f (select n i (type_of a) (slot n 0))
  unfolding map_items
  select_maps n i a = ap₂ (select (f n) i) (type_maps a) (sym (move_slot_lem f n 0 (omega arith)))

  no_names_lem : no_names ≡ map_signature f no_names
  unfolding map_signature
  no_names_lem = refl

  small_one : (n : ℕ) → small (f n) (unknown_at (f n) 0) ≡ map_items f (small n (unknown_at n 0))
  unfolding map_items
  small_one n = ap (small (f n)) (unknown_maps f n 0 (omega arith))

  declare_both : (n : ℕ) (is : List ℕ) (r r' : Signature) → r' ≡ map_signature f r → declare is (unknown_at (f n) 0) r' ≡ map_signature f (declare is (unknown_at n 0) r)
  declare_both n is r r' e = ap₂ (declare is) (unknown_maps f n 0 (omega arith)) e ∙ declare_maps f is (unknown_at n 0) r

  module _ (i : Include) (Γ : Scope) (h : SizedInclude i) where
    include_small : small_types (include_node (map_include f i)) (include_signature (map_include f i) (map_scope f Γ)) ≡ map_items f (small_types (include_node i) (include_signature i Γ))
    include_small = ap₂ small_types (include_node_lem f i) (include_signature_lem f i Γ h) ∙ small_maps (include_node i) (include_signature i Γ)

    include_new : (G : Dictionary) → new_names (include_node (map_include f i)) (names_of (include_signature (map_include f i) (map_scope f Γ))) G ≡ map_items f (new_names (include_node i) (names_of (include_signature i Γ)) G)
    include_new G =
        ap₂ (λ n l. new_names n l G) (include_node_lem f i) (ap names_of (include_signature_lem f i Γ h) ∙ names_map f (include_signature i Γ))
        ∙ new_names_maps (include_node i) (names_of (include_signature i Γ)) G

    module _ (r r' : Signature) (e : r' ≡ map_signature f r) where
      include_both : merge (include_signature (map_include f i) (map_scope f Γ)) r' ≡ map_signature f (merge (include_signature i Γ) r)
      include_both = ap₂ merge (include_signature_lem f i Γ h) e ∙ merge_maps f (include_signature i Γ) r

      include_merge : merge_names (include_node (map_include f i)) (include_signature (map_include f i) (map_scope f Γ)) r' ≡ map_items f (merge_names (include_node i) (include_signature i Γ) r)
      include_merge =
          ap₂ (λ n s. merge_names n s r') (include_node_lem f i) (include_signature_lem f i Γ h)
          ∙ ap (merge_names (f (include_node i)) (map_signature f (include_signature i Γ))) e
          ∙ names_maps (include_node i) (include_signature i Γ) r

      include_few : few_names (include_node (map_include f i)) (merge (include_signature (map_include f i) (map_scope f Γ)) r') ≡ map_items f (few_names (include_node i) (merge (include_signature i Γ) r))
      include_few = ap₂ few_names (include_node_lem f i) include_both ∙ few_maps (include_node i) (merge (include_signature i Γ) r)

  at_first : (a : Expr) (xs : Exprs) (j : ℕ) → j + exprs_length (more a xs) ≤ 8 → j < 8
  unfolding exprs_length
  at_first a xs j l = omega arith

  at_rest : (a : Expr) (xs : Exprs) (j : ℕ) → j + exprs_length (more a xs) ≤ 8 → suc j + exprs_length xs ≤ 8
  unfolding exprs_length
  at_rest a xs j l = omega arith

  mutual
    unfolding expr_items map_expr SizedExpr map_items map_pairs map_term

    pub expr_items_lem : (a : Expr) (Γ : Scope) → SizedExpr a → FewAt Γ → expr_items (map_expr f a) (map_scope f Γ) ≡ map_items f (expr_items a Γ)
    expr_items_lem (reference n i xs) Γ h k =
        then_maps (exprs_items_lem xs Γ h k)
        (ap (reference_items (f n) (map_exprs f xs)) (name_at_maps f i Γ) ∙ reference_maps n xs (name_at i Γ) (few_name i Γ k))
    expr_items_lem (number n v) Γ h k = typed_maps n refl
    expr_items_lem (integers n) Γ h k = typed_maps n (power_maps refl)
    expr_items_lem (set n xs) Γ h k =
        then_maps (exprs_items_lem xs Γ h k)
        (then_maps (fresh_maps n 1 (omega arith)) (then_maps (members_maps xs n) (typed_maps n (power_maps (unknown_maps f n 1 (omega arith))))))
    expr_items_lem (tuple n xs) Γ h k = then_maps (exprs_items_lem xs Γ h.1 k) (typed_maps n (product_maps (types_map xs)))
    expr_items_lem (product n xs) Γ h k =
        then_maps (exprs_items_lem xs Γ h.1 k)
        (then_maps (are_powers_maps xs n 1 (omega (arith, h.0)))
        (typed_maps n (power_maps (product_maps (ap (row (f n) 1) (length_maps f xs) ∙ row_maps f (exprs_length xs) n 1 (omega (arith, h.0)))))))
    expr_items_lem (power n a) Γ h k =
        then_maps (expr_items_lem a Γ h k)
        (then_maps (is_power_maps n 1 a (omega arith)) (typed_maps n (power_maps (power_maps (unknown_maps f n 1 (omega arith))))))
    expr_items_lem (application n a b) Γ h k =
        then_maps (expr_items_lem a Γ h.0 k)
        (then_maps (expr_items_lem b Γ h.1 k)
        (then_maps (fresh_maps n 0 (omega arith))
        (equation_maps (f n) (type_maps a) (power_maps (pair_maps (type_maps b) (unknown_maps f n 0 (omega arith)))))))
    expr_items_lem (selection n a i) Γ h k =
        then_maps (expr_items_lem a Γ h k) (then_maps (fresh_maps n 0 (omega arith)) (select_maps n i a))
    expr_items_lem (theta n s k') Γ h k = ap (λ d. theta_items (f n) k' d (map_scope f Γ)) (schema_stays f s Γ) ∙ theta_maps n k' (schema_named s Γ) Γ
    expr_items_lem (schema_set n i) Γ h k =
        then_maps (include_items_lem i Γ h k)
        (then_maps (include_small i Γ h) (typed_maps n (power_maps (ap binding_of (include_signature_lem f i Γ h) ∙ binding_maps f (include_signature i Γ)))))
    expr_items_lem (arithmetic n o a b) Γ h k =
        then_maps (expr_items_lem a Γ h.0 k)
        (then_maps (expr_items_lem b Γ h.1 k)
        (then_maps (numbers_maps (f n) (type_maps a) (type_maps b)) (typed_maps n refl)))
    expr_items_lem (comprehension n t a) Γ h k =
        then_maps (text_items_lem t Γ blank h.0 k)
        (then_maps (ap (expr_items (map_expr f a)) (inside_maps f t Γ h.0) ∙ expr_items_lem a (inside t Γ) h.1 (few_inside t Γ k)) (typed_maps n (power_maps (type_maps a))))

    pub exprs_items_lem : (xs : Exprs) (Γ : Scope) → SizedExprs xs → FewAt Γ → exprs_items (map_exprs f xs) (map_scope f Γ) ≡ map_items f (exprs_items xs Γ)
    exprs_items_lem none Γ h k = refl
    exprs_items_lem (more a xs) Γ h k = then_maps (expr_items_lem a Γ h.0 k) (exprs_items_lem xs Γ h.1 k)

    pub pred_items_lem : (p : Pred) (Γ : Scope) → SizedPred p → FewAt Γ → pred_items (map_pred f p) (map_scope f Γ) ≡ map_items f (pred_items p Γ)
    pred_items_lem (truth n) Γ h k = refl
    pred_items_lem (equal n a b) Γ h k =
        piece_maps (f n) (then_maps (expr_items_lem a Γ h.0 k) (then_maps (expr_items_lem b Γ h.1 k) (equation_maps (f n) (type_maps a) (type_maps b))))
    pred_items_lem (member n a b) Γ h k =
        piece_maps (f n) (then_maps (expr_items_lem a Γ h.0 k) (then_maps (expr_items_lem b Γ h.1 k) (equation_maps (f n) (power_maps (type_maps a)) (type_maps b))))
    pred_items_lem (at_most n a b) Γ h k =
        piece_maps (f n)
        (then_maps (expr_items_lem a Γ h.0 k)
        (then_maps (expr_items_lem b Γ h.1 k) (numbers_maps (f n) (type_maps a) (type_maps b))))
    pred_items_lem (not n p) Γ h k = pred_items_lem p Γ h k
    pred_items_lem (connected n o p q) Γ h k = then_maps (pred_items_lem p Γ h.0 k) (pred_items_lem q Γ h.1 k)
    pred_items_lem (quantified n o t p) Γ h k =
        then_maps (text_items_lem t Γ blank h.0 k)
        (ap (pred_items (map_pred f p)) (inside_maps f t Γ h.0) ∙ pred_items_lem p (inside t Γ) h.1 (few_inside t Γ k))

    pub text_items_lem : (t : Text) (Γ : Scope) (G : Dictionary) → SizedText t → FewAt Γ → text_items (map_text f t) (map_scope f Γ) G ≡ map_items f (text_items t Γ G)
    text_items_lem (text n p ls) Γ G h k =
        then_maps (lines_items_lem ls Γ G no_names no_names no_names_lem h.1 k)
        (ap (pred_items (map_pred f p)) (inside_maps f (text n p ls) Γ h) ∙ pred_items_lem p (inside (text n p ls) Γ) h.0 (few_inside (text n p ls) Γ k))

    pub lines_items_lem : (ls : Lines) (Γ : Scope) (G : Dictionary) (r r' : Signature) → r' ≡ map_signature f r → SizedLines ls → FewAt Γ → lines_items (map_lines f ls) (map_scope f Γ) G r' ≡ map_items f (lines_items ls Γ G r)
    lines_items_lem end Γ G r r' e h k = refl
    lines_items_lem (declaration n a is ls) Γ G r r' e h k =
        then_maps (piece_maps (f n) (then_maps (expr_items_lem a Γ h.0 k) (is_power_maps n 0 a (omega arith))))
        (then_maps (then_maps (ap₂ (merge_declared (f n) is) (unknown_maps f n 0 (omega arith)) e ∙ declared_maps n is (unknown_at n 0) r) (new_names_maps n is G))
        (then_maps (then_maps (small_one n) (ap (few_names (f n)) (declare_both n is r r' e) ∙ few_maps n (declare is (unknown_at n 0) r)))
        (lines_items_lem ls Γ G (declare is (unknown_at n 0) r) (declare is (unknown_at (f n) 0) r') (declare_both n is r r' e) h.1 k)))
    lines_items_lem (inclusion i ls) Γ G r r' e h k =
        then_maps (include_items_lem i Γ h.0 k)
        (then_maps (then_maps (include_merge i Γ h.0 r r' e) (include_new i Γ h.0 G))
        (then_maps (then_maps (include_small i Γ h.0) (include_few i Γ h.0 r r' e))
        (lines_items_lem ls Γ G (merge (include_signature i Γ) r) (merge (include_signature (map_include f i) (map_scope f Γ)) r') (include_both i Γ h.0 r r' e) h.1 k)))

    pub include_items_lem : (i : Include) (Γ : Scope) → SizedInclude i → FewAt Γ → include_items (map_include f i) (map_scope f Γ) ≡ map_items f (include_items i Γ)
    include_items_lem (include n s k' xs rs) Γ h k =
        ap (λ d. include_rule d (include (f n) s k' (map_exprs f xs) rs) (actual_items (map_exprs f xs) (f n) 1 (map_scope f Γ))) (schema_stays f s Γ)
        ∙ rule_maps (schema_named s Γ) (include n s k' xs rs) (actual_items xs n 1 Γ) (actual_items (map_exprs f xs) (f n) 1 (map_scope f Γ))
        (actual_items_lem xs n 1 Γ (omega (arith, h.0)) h.1 k)

    pub actual_items_lem : (xs : Exprs) (n j : ℕ) (Γ : Scope) → j + exprs_length xs ≤ 8 → SizedExprs xs → FewAt Γ → actual_items (map_exprs f xs) (f n) j (map_scope f Γ) ≡ map_items f (actual_items xs n j Γ)
    actual_items_lem none n j Γ l h k = refl
    actual_items_lem (more a xs) n j Γ l h k =
        then_maps (piece_maps (f n) (then_maps (expr_items_lem a Γ h.0 k) (is_power_maps n j a (at_first a xs j l)))) (actual_items_lem xs n (suc j) Γ (at_rest a xs j l) h.1 k)

  pub schema_items_lem : (x : Schema) (Γ : Scope) → SizedSchema x → FewAt Γ → schema_items (map_schema f x) (map_scope f Γ) ≡ map_items f (schema_items x Γ)
  unfolding schema_items map_schema SizedSchema map_items
  schema_items_lem (plain t) Γ h k = text_items_lem t Γ blank h k
  schema_items_lem (from i) Γ h k = then_maps (include_items_lem i Γ h k) (include_small i Γ h)
  schema_items_lem (both n a b) Γ h k =
      let p = schema_signature_lem f a Γ h.0 in
      let q = schema_signature_lem f b Γ h.1 in
      then_maps (schema_items_lem a Γ h.0 k)
      (then_maps (schema_items_lem b Γ h.1 k)
      (then_maps (ap₂ (merge_names (f n)) q p ∙ names_maps n (schema_signature b Γ) (schema_signature a Γ))
      (ap (few_names (f n)) (ap₂ merge q p ∙ merge_maps f (schema_signature b Γ) (schema_signature a Γ)) ∙ few_maps n (merge (schema_signature b Γ) (schema_signature a Γ)))))

  small_maps_one : (n : ℕ) (a : Expr) → small (f n) (type_of (map_expr f a)) ≡ map_items f (small n (type_of a))
  unfolding map_items
  small_maps_one n a = ap (small (f n)) (type_maps a)

  pub globals_scope : (D : Dictionary) → globals D ≡ map_scope f (globals D)
  unfolding map_scope
  globals_scope D = refl

  few_globals : (D : Dictionary) → FewRecorded D → FewAt (globals D)
  unfolding FewAt
  few_globals D k = k

  pub with_scope : (ps : List ℕ) (D : Dictionary) → with_parameters ps 1 (globals D) ≡ map_scope f (with_parameters ps 1 (globals D))
  with_scope ps D = ap (with_parameters ps 1) (globals_scope D) ∙ parameters_map f ps 1 (globals D)

  pub paragraph_items_lem : (p : Paragraph) (D : Dictionary) → SizedParagraph p → FewRecorded D → paragraph_items (map_paragraph f p) D ≡ map_items f (paragraph_items p D)
  unfolding paragraph_items map_paragraph SizedParagraph map_items
  paragraph_items_lem (given n is) D h k = new_names_maps n is D
  paragraph_items_lem (axiomatic n t) D h k = ap (λ Γ. text_items (map_text f t) Γ D) (globals_scope D) ∙ text_items_lem t (globals D) D h (few_globals D k)
  paragraph_items_lem (schema n s ps x) D h k =
      ap (schema_items (map_schema f x)) (with_scope ps D) ∙ schema_items_lem x (with_parameters ps 1 (globals D)) h (few_parameters ps 1 (globals D) (few_globals D k))
  paragraph_items_lem (abbreviation n i ps a) D h k =
      then_maps
      (piece_maps (f n) (ap (expr_items (map_expr f a)) (with_scope ps D) ∙ expr_items_lem a (with_parameters ps 1 (globals D)) h (few_parameters ps 1 (globals D) (few_globals D k))))
      (then_maps (new_names_maps n (i ∷ []) D) (small_maps_one n a))
  paragraph_items_lem (constraint n p) D h k = ap (pred_items (map_pred f p)) (globals_scope D) ∙ pred_items_lem p (globals D) h (few_globals D k)
