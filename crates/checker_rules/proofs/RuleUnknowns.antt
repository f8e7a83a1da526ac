-- The unknowns of the rules' items are those of the nodes that the items are of, and those in scope: what N has of these, it has of all (`Over`).
use mathlib.Core.Path.{◌≡◌, refl}
use mathlib.Core.Bool.{Bool, true, false, cond}
use mathlib.Core.List.{List, [], ◌∷◌, ◌++◌}
use mathlib.Core.Option.{Option, some, none as nothing}
use Prim.Native.Nat.{ℕ, zero, suc, ◌+◌, ◌≤◌}
use native.Mathlib.Omega.{arith}
use lib.Dec.{ltb, eqb}
use borrow.Author.Tests.{eqb-true}
use Rattle.reader_rules.specs.Tree.{Expr, reference, number, integers, set, tuple, product, power, application, selection, theta, schema_set, arithmetic}
use Rattle.reader_rules.specs.Tree.{comprehension, Exprs, none, more, Pred, truth, equal, member, at_most, not, connected, quantified, Text, text, Lines}
use Rattle.reader_rules.specs.Tree.{end, declaration, inclusion, Include, include, Schema, plain, from, both, expr_node, exprs_length, include_node}
use Rattle.reader_rules.specs.TreeNumbers.{expr_numbers, exprs_numbers, pred_numbers, text_numbers, lines_numbers, include_numbers, schema_numbers}
use Rattle.types_rules.specs.Equations.{Pairs, AllP}
use Rattle.types_rules.specs.Types.{Term, nil, Each, Eachs}
use Rattle.types_rules.specs.Instance.{instance}
use Rattle.checker_rules.specs.Strokes.{decorate, takes}
use Rattle.checker_rules.specs.Unknowns.{unknown_at, row, integer, power_of, product_of}
use Rattle.checker_rules.specs.Items.{Items, ◌⨾◌, refusal}
use Rattle.checker_rules.specs.Dictionary.{Dictionary, blank, Named, unnamed, of_local, of_global, name_in, NamedSchema, no_schema, a_schema}
use Rattle.checker_rules.specs.Signatures.{Signature, no_names, naming, names_of, binding_of, components_of, term_in, count_names}
use Rattle.checker_rules.specs.Signatures.{merge, declare, some_stroked, wrong_names}
use Rattle.checker_rules.specs.Scopes.{Scope, name_at, schema_named, include_signature}
use Rattle.checker_rules.specs.Scopes.{inside, schema_signature}
use Rattle.checker_rules.specs.Conditions.{refuse_if, same_type, merge_declared, merge_names, new_name, new_names, small_types, few_names, type_of, types_of, typed}
use Rattle.checker_rules.specs.Conditions.{powers, are_powers, members, are_members}
use Rattle.checker_rules.specs.Rules.{reference_items, theta_name, theta_names, type_in_scope, theta_signature, theta_items, include_rule, expr_items}
use Rattle.checker_rules.specs.Rules.{exprs_items, pred_items, text_items, lines_items, include_items, actual_items, schema_items}
use Rattle.checker_rules.proofs.SignatureTerms.{HavingOption, none_having, merge_having, declare_having, term_in_having}
use Rattle.checker_rules.proofs.ItemUnknowns.{Over}
use Rattle.reader_rules.proofs.Sized.{SizedExpr, SizedExprs, SizedPred, SizedText, SizedLines, SizedInclude, SizedSchema}
use Rattle.checker_rules.proofs.ScopeUnknowns.{AllIn, all_left, all_right, longer, Own, ScopeOver, NamedOver, SigOver, name_over, binding_over}
use Rattle.checker_rules.proofs.ScopeUnknowns.{nil_over, row_over, fresh_over, included_over, lines_inside, inside_over, schema_sig_over}
use Rattle.checker_rules.proofs.ScopeUnknowns.{instance_over}

module _ (N : ℕ → Type 0) where
  -- ---- items that rules share
  pub refuse_if_over : (b : Bool) (f n : ℕ) → Over N (refuse_if b f n)
  unfolding refuse_if Over
  refuse_if_over true f n = tt
  refuse_if_over false f n = tt

  cond_over : (b : Bool) (x y : Items) → Over N x → Over N y → Over N (cond b x y)
  cond_over true x y h k = h
  cond_over false x y h k = k

  same_type_over : (n : ℕ) (t : Term) (o : Option Term) → Each N t → HavingOption (Each N) o → Over N (same_type n t o)
  unfolding same_type Over
  same_type_over n t (some u) h k = (h, k)
  same_type_over n t nothing h k = tt

  declared_over : (n : ℕ) (is : List ℕ) (t : Term) (r : Signature) → Each N t → SigOver N r → Over N (merge_declared n is t r)
  unfolding merge_declared Over
  declared_over n [] t r h k = tt
  declared_over n (i ∷ is) t r h k = (same_type_over n t (term_in i r) h (term_in_having (Each N) i r k), declared_over n is t r h k)

  names_over : (n : ℕ) (s r : Signature) → SigOver N s → SigOver N r → Over N (merge_names n s r)
  unfolding merge_names Over
  names_over n no_names r h k = tt
  names_over n (naming i t s) r h k = (same_type_over n t (term_in i r) h.0 (term_in_having (Each N) i r k), names_over n s r h.1 k)

  new_name_over : (n : ℕ) (m : Named) → Over N (new_name n m)
  unfolding new_name Over
  new_name_over n unnamed = tt
  new_name_over n (of_local t) = tt
  new_name_over n (of_global p g) = tt

  pub new_names_over : (n : ℕ) (is : List ℕ) (G : Dictionary) → Over N (new_names n is G)
  unfolding new_names Over
  new_names_over n [] G = tt
  new_names_over n (i ∷ is) G = (new_name_over n (name_in i G), new_names_over n is G)

  pub smalls_over : (n : ℕ) (s : Signature) → SigOver N s → Over N (small_types n s)
  unfolding small_types Over
  smalls_over n no_names h = tt
  smalls_over n (naming i t s) h = (h.0, smalls_over n s h.1)

  few_over : (n : ℕ) (s : Signature) → Over N (few_names n s)
  unfolding few_names
  few_over n s = refuse_if_over (ltb 16 (count_names s)) 38 n

  -- the type of an expression is an unknown of one of its nodes
  pub root_own : (a : Expr) → AllIn (Own N) (expr_numbers a) → Own N (expr_node a)
  unfolding expr_numbers expr_node
  root_own (reference n i xs) h = (all_right (Own N) (exprs_numbers xs) (n ∷ []) h).0
  root_own (number n v) h = h.0
  root_own (integers n) h = h.0
  root_own (set n xs) h = (all_right (Own N) (exprs_numbers xs) (n ∷ []) h).0
  root_own (tuple n xs) h = (all_right (Own N) (exprs_numbers xs) (n ∷ []) h).0
  root_own (product n xs) h = (all_right (Own N) (exprs_numbers xs) (n ∷ []) h).0
  root_own (power n a) h = (all_right (Own N) (expr_numbers a) (n ∷ []) h).0
  root_own (application n a b) h = (all_right (Own N) (expr_numbers a ++ expr_numbers b) (n ∷ []) h).0
  root_own (selection n a i) h = (all_right (Own N) (expr_numbers a) (n ∷ []) h).0
  root_own (theta n s k) h = h.0
  root_own (schema_set n i) h = (all_right (Own N) (include_numbers i) (n ∷ []) h).0
  root_own (arithmetic n o a b) h = (all_right (Own N) (expr_numbers a ++ expr_numbers b) (n ∷ []) h).0
  root_own (comprehension n t a) h = (all_right (Own N) (text_numbers t ++ expr_numbers a) (n ∷ []) h).0

  pub type_over : (a : Expr) → AllIn (Own N) (expr_numbers a) → Each N (type_of a)
  unfolding Each
  type_over a h = root_own a h 0 (omega arith)

  types_over : (xs : Exprs) → AllIn (Own N) (exprs_numbers xs) → Eachs N (types_of xs)
  unfolding types_of exprs_numbers Each
  types_over none h = tt
  types_over (more a xs) h = (root_own a (all_left (Own N) (expr_numbers a) (exprs_numbers xs) h) 0 (omega arith), types_over xs (all_right (Own N) (expr_numbers a) (exprs_numbers xs) h))

  abbrev PairsOver : Pairs Term → Type 0
  PairsOver es = AllP (λ a b. Each N a × Each N b) es

  equations_powers : (n : ℕ) (xs : Exprs) (k : ℕ) → Own N n → AllIn (Own N) (exprs_numbers xs) → k + exprs_length xs ≤ 7 → PairsOver (powers n xs k)
  unfolding powers Each exprs_numbers exprs_length
  equations_powers n none k o h l = tt
  equations_powers n (more a xs) k o h l = (
    (root_own a (all_left (Own N) (expr_numbers a) (exprs_numbers xs) h) 0 (omega arith), (o k (omega arith), tt)),
    equations_powers n xs (suc k) o (all_right (Own N) (expr_numbers a) (exprs_numbers xs) h) (omega arith),
  )

  powers_over : (n : ℕ) (xs : Exprs) (k : ℕ) → Own N n → AllIn (Own N) (exprs_numbers xs) → k + exprs_length xs ≤ 7 → Over N (are_powers n xs k)
  unfolding are_powers Over
  powers_over n xs k o h l = (fresh_over N n k (exprs_length xs) o l, equations_powers n xs k o h l)

  equations_members : (n : ℕ) (xs : Exprs) → Own N n → AllIn (Own N) (exprs_numbers xs) → PairsOver (members n xs)
  unfolding members Each exprs_numbers
  equations_members n none o h = tt
  equations_members n (more a xs) o h = (
    (root_own a (all_left (Own N) (expr_numbers a) (exprs_numbers xs) h) 0 (omega arith), o 1 (omega arith)),
    equations_members n xs o (all_right (Own N) (expr_numbers a) (exprs_numbers xs) h),
  )

  members_over : (n : ℕ) (xs : Exprs) → Own N n → AllIn (Own N) (exprs_numbers xs) → Over N (are_members n xs)
  unfolding are_members Over
  members_over n xs o h = equations_members n xs o h

  typed_over : (n : ℕ) (t : Term) → Own N n → Each N t → Over N (typed n t)
  unfolding Over Each
  typed_over n t o h = (o 0 (omega arith), ((o 0 (omega arith), h), tt))

  -- ---- Ref, Theta, Include
  reference_over : (n : ℕ) (xs : Exprs) (m : Named) → Own N n → AllIn (Own N) (exprs_numbers xs) → NamedOver N m → Over N (reference_items n xs m)
  unfolding reference_items Over NamedOver
  reference_over n none unnamed o h k = tt
  reference_over n (more a xs) unnamed o h k = tt
  reference_over n none (of_local t) o h k = typed_over n t o k
  reference_over n (more a xs) (of_local t) o h k = tt
  reference_over n none (of_global p g) o h k =
      (fresh_over N n 1 p o (omega (arith, k)), typed_over n (instance (row n 1 p) g) o (instance_over N (row n 1 p) g (row_over N n 1 p o (omega (arith, k)))))
  reference_over n (more a xs) (of_global p g) o h k = go (eqb (exprs_length (more a xs)) p) refl
    where
      go : (b : Bool) → eqb (exprs_length (more a xs)) p ≡ b → Over N (cond b (are_powers n (more a xs) 1 ⨾ typed n (instance (row n 1 p) g)) (refusal 32 n))
      go true e = (
        powers_over n (more a xs) 1 o h (omega (arith, k, eqb-true (exprs_length (more a xs)) p e)),
        typed_over n (instance (row n 1 p) g) o (instance_over N (row n 1 p) g (row_over N n 1 p o (omega (arith, k)))),
      )
      go false e = tt

  theta_name_over : (b : Bool) (n : ℕ) (m : Named) → Over N (theta_name b n m)
  unfolding theta_name Over
  theta_name_over false n m = tt
  theta_name_over true n unnamed = tt
  theta_name_over true n (of_local t) = tt
  theta_name_over true n (of_global zero g) = tt
  theta_name_over true n (of_global (suc p) g) = tt

  theta_names_over : (n k : ℕ) (s : Signature) (Γ : Scope) → Over N (theta_names n k s Γ)
  unfolding theta_names Over
  theta_names_over n k no_names Γ = tt
  theta_names_over n k (naming i t s) Γ = (theta_name_over (takes k i) n (name_at (decorate k i) Γ), theta_names_over n k s Γ)

  scoped_over : (m : Named) → NamedOver N m → Each N (type_in_scope m)
  unfolding type_in_scope NamedOver Each
  scoped_over unnamed h = tt
  scoped_over (of_local t) h = h
  scoped_over (of_global p g) h = instance_over N nil g (nil_over N)

  pub theta_sig_over : (k : ℕ) (s : Signature) (Γ : Scope) → ScopeOver N Γ → SigOver N (theta_signature k s Γ)
  unfolding theta_signature
  theta_sig_over k no_names Γ h = tt
  theta_sig_over k (naming i t s) Γ h = (scoped_over (name_at (decorate k i) Γ) (name_over N (decorate k i) Γ h), theta_sig_over k s Γ h)

  theta_over : (n k : ℕ) (f : NamedSchema) (Γ : Scope) → Own N n → ScopeOver N Γ → Over N (theta_items n k f Γ)
  unfolding theta_items Over
  theta_over n k no_schema Γ o h = tt
  theta_over n k (a_schema p g) Γ o h = (
    theta_names_over n k (components_of (instance nil g)) Γ,
    (
      refuse_if_over (ltb 0 p) 32 n,
      (refuse_if_over (some_stroked k (components_of (instance nil g))) 37 n, typed_over n _ o (binding_over N _ (theta_sig_over k (components_of (instance nil g)) Γ h))),
    ),
  )

  rule_over : (f : NamedSchema) (i : Include) (actuals : Items) → Over N actuals → Over N (include_rule f i actuals)
  unfolding include_rule Over
  rule_over no_schema (include n s k xs rs) actuals h = tt
  rule_over (a_schema p g) (include n s k xs rs) actuals h =
      cond_over (eqb (exprs_length xs) p) _ (refusal 32 n) (h, refuse_if_over (wrong_names k rs (components_of (instance nil g))) 37 n) tt

  -- ---- the rules
  mutual
    unfolding expr_items expr_numbers SizedExpr Over Each

    pub expr_over : (a : Expr) (Γ : Scope) → AllIn (Own N) (expr_numbers a) → SizedExpr a → ScopeOver N Γ → Over N (expr_items a Γ)
    expr_over (reference n i xs) Γ h f s =
        let l = all_left (Own N) (exprs_numbers xs) (n ∷ []) h in
        (exprs_over xs Γ l f s, reference_over n xs (name_at i Γ) (all_right (Own N) (exprs_numbers xs) (n ∷ []) h).0 l (name_over N i Γ s))
    expr_over (number n v) Γ h f s = typed_over n integer h.0 tt
    expr_over (integers n) Γ h f s = typed_over n (power_of integer) h.0 (tt, tt)
    expr_over (set n xs) Γ h f s =
        let l = all_left (Own N) (exprs_numbers xs) (n ∷ []) h in
        let o = (all_right (Own N) (exprs_numbers xs) (n ∷ []) h).0 in
        (exprs_over xs Γ l f s, (o 1 (omega arith), (members_over n xs o l, typed_over n (power_of (unknown_at n 1)) o (o 1 (omega arith), tt))))
    expr_over (tuple n xs) Γ h f s =
        let l = all_left (Own N) (exprs_numbers xs) (n ∷ []) h in
        (exprs_over xs Γ l f.1 s, typed_over n (product_of (types_of xs)) (all_right (Own N) (exprs_numbers xs) (n ∷ []) h).0 (types_over xs l))
    expr_over (product n xs) Γ h f s =
        let l = all_left (Own N) (exprs_numbers xs) (n ∷ []) h in
        let o = (all_right (Own N) (exprs_numbers xs) (n ∷ []) h).0 in
        (exprs_over xs Γ l f.1 s, (powers_over n xs 1 o l (omega (arith, f.0.1)), typed_over n (power_of (product_of (row n 1 (exprs_length xs)))) o (row_over N n 1 (exprs_length xs) o (omega (arith, f.0.1)), tt)))
    expr_over (power n a) Γ h f s =
        let l = all_left (Own N) (expr_numbers a) (n ∷ []) h in
        let o = (all_right (Own N) (expr_numbers a) (n ∷ []) h).0 in
        (expr_over a Γ l f s, ((o 1 (omega arith), ((root_own a l 0 (omega arith), (o 1 (omega arith), tt)), tt)), typed_over n (power_of (power_of (unknown_at n 1))) o ((o 1 (omega arith), tt), tt)))
    expr_over (application n a b) Γ h f s =
        let z = all_left (Own N) (expr_numbers a ++ expr_numbers b) (n ∷ []) h in
        let l = all_left (Own N) (expr_numbers a) (expr_numbers b) z in
        let r = all_right (Own N) (expr_numbers a) (expr_numbers b) z in
        let o = (all_right (Own N) (expr_numbers a ++ expr_numbers b) (n ∷ []) h).0 in
        (expr_over a Γ l f.0 s, (expr_over b Γ r f.1 s, (o 0 (omega arith), ((root_own a l 0 (omega arith), ((root_own b r 0 (omega arith), (o 0 (omega arith), tt)), tt)), tt))))
    expr_over (selection n a i) Γ h f s =
        let l = all_left (Own N) (expr_numbers a) (n ∷ []) h in
        let o = (all_right (Own N) (expr_numbers a) (n ∷ []) h).0 in
        (expr_over a Γ l f s, (o 0 (omega arith), (root_own a l 0 (omega arith), o 0 (omega arith))))
    expr_over (theta n s k) Γ h f q = theta_over n k (schema_named s Γ) Γ h.0 q
    expr_over (schema_set n i) Γ h f s =
        let l = all_left (Own N) (include_numbers i) (n ∷ []) h in
        let o = (all_right (Own N) (include_numbers i) (n ∷ []) h).0 in
        let b = included_over N i Γ l f in
        (include_over i Γ l f s, (smalls_over (include_node i) (include_signature i Γ) b, typed_over n (power_of (binding_of (include_signature i Γ))) o (binding_over N (include_signature i Γ) b, tt)))
    expr_over (arithmetic n p a b) Γ h f s =
        let z = all_left (Own N) (expr_numbers a ++ expr_numbers b) (n ∷ []) h in
        let l = all_left (Own N) (expr_numbers a) (expr_numbers b) z in
        let r = all_right (Own N) (expr_numbers a) (expr_numbers b) z in
        let o = (all_right (Own N) (expr_numbers a ++ expr_numbers b) (n ∷ []) h).0 in
        (expr_over a Γ l f.0 s, (expr_over b Γ r f.1 s, (((root_own a l 0 (omega arith), tt), ((root_own b r 0 (omega arith), tt), tt)), typed_over n integer o tt)))
    expr_over (comprehension n t a) Γ h f s =
        let z = all_left (Own N) (text_numbers t ++ expr_numbers a) (n ∷ []) h in
        let l = all_left (Own N) (text_numbers t) (expr_numbers a) z in
        let r = all_right (Own N) (text_numbers t) (expr_numbers a) z in
        let o = (all_right (Own N) (text_numbers t ++ expr_numbers a) (n ∷ []) h).0 in
        (text_over t Γ blank l f.0 s, (expr_over a (inside t Γ) r f.1 (inside_over N t Γ l f.0 s), typed_over n (power_of (type_of a)) o (root_own a r 0 (omega arith), tt)))

    pub exprs_over : (xs : Exprs) (Γ : Scope) → AllIn (Own N) (exprs_numbers xs) → SizedExprs xs → ScopeOver N Γ → Over N (exprs_items xs Γ)
    exprs_over none Γ h f s = tt
    exprs_over (more a xs) Γ h f s =
        (expr_over a Γ (all_left (Own N) (expr_numbers a) (exprs_numbers xs) h) f.0 s, exprs_over xs Γ (all_right (Own N) (expr_numbers a) (exprs_numbers xs) h) f.1 s)

    pub pred_over : (p : Pred) (Γ : Scope) → AllIn (Own N) (pred_numbers p) → SizedPred p → ScopeOver N Γ → Over N (pred_items p Γ)
    pred_over (truth n) Γ h f s = tt
    pred_over (equal n a b) Γ h f s =
        let z = all_left (Own N) (expr_numbers a ++ expr_numbers b) (n ∷ []) h in
        let l = all_left (Own N) (expr_numbers a) (expr_numbers b) z in
        let r = all_right (Own N) (expr_numbers a) (expr_numbers b) z in
        (expr_over a Γ l f.0 s, (expr_over b Γ r f.1 s, ((root_own a l 0 (omega arith), root_own b r 0 (omega arith)), tt)))
    pred_over (member n a b) Γ h f s =
        let z = all_left (Own N) (expr_numbers a ++ expr_numbers b) (n ∷ []) h in
        let l = all_left (Own N) (expr_numbers a) (expr_numbers b) z in
        let r = all_right (Own N) (expr_numbers a) (expr_numbers b) z in
        (expr_over a Γ l f.0 s, (expr_over b Γ r f.1 s, (((root_own a l 0 (omega arith), tt), root_own b r 0 (omega arith)), tt)))
    pred_over (at_most n a b) Γ h f s =
        let z = all_left (Own N) (expr_numbers a ++ expr_numbers b) (n ∷ []) h in
        let l = all_left (Own N) (expr_numbers a) (expr_numbers b) z in
        let r = all_right (Own N) (expr_numbers a) (expr_numbers b) z in
        (expr_over a Γ l f.0 s, (expr_over b Γ r f.1 s, ((root_own a l 0 (omega arith), tt), ((root_own b r 0 (omega arith), tt), tt))))
    pred_over (not n p) Γ h f s = pred_over p Γ (all_left (Own N) (pred_numbers p) (n ∷ []) h) f s
    pred_over (connected n o p q) Γ h f s =
        let z = all_left (Own N) (pred_numbers p ++ pred_numbers q) (n ∷ []) h in
        (pred_over p Γ (all_left (Own N) (pred_numbers p) (pred_numbers q) z) f.0 s, pred_over q Γ (all_right (Own N) (pred_numbers p) (pred_numbers q) z) f.1 s)
    pred_over (quantified n o t p) Γ h f s =
        let z = all_left (Own N) (text_numbers t ++ pred_numbers p) (n ∷ []) h in
        let l = all_left (Own N) (text_numbers t) (pred_numbers p) z in
        (text_over t Γ blank l f.0 s, pred_over p (inside t Γ) (all_right (Own N) (text_numbers t) (pred_numbers p) z) f.1 (inside_over N t Γ l f.0 s))

    pub text_over : (t : Text) (Γ : Scope) (G : Dictionary) → AllIn (Own N) (text_numbers t) → SizedText t → ScopeOver N Γ → Over N (text_items t Γ G)
    text_over (text n p ls) Γ G h f s =
        let z = all_left (Own N) (pred_numbers p ++ lines_numbers ls) (n ∷ []) h in
        let l = all_right (Own N) (pred_numbers p) (lines_numbers ls) z in
        (lines_over ls Γ G no_names l f.1 s (none_having (Each N)), pred_over p (inside (text n p ls) Γ) (all_left (Own N) (pred_numbers p) (lines_numbers ls) z) f.0 (lines_inside N n p ls Γ l f.1 s))

    pub lines_over : (ls : Lines) (Γ : Scope) (G : Dictionary) (r : Signature) → AllIn (Own N) (lines_numbers ls) → SizedLines ls → ScopeOver N Γ → SigOver N r → Over N (lines_items ls Γ G r)
    lines_over end Γ G r h f s k = tt
    lines_over (declaration n a is ls) Γ G r h f s k =
        let z = all_left (Own N) (expr_numbers a ++ (n ∷ [])) (lines_numbers ls) h in
        let l = all_left (Own N) (expr_numbers a) (n ∷ []) z in
        let o = (all_right (Own N) (expr_numbers a) (n ∷ []) z).0 in
        let t = o 0 (omega arith) in (
          (expr_over a Γ l f.0 s, (t, ((root_own a l 0 (omega arith), (t, tt)), tt))),
          (
            (declared_over n is (unknown_at n 0) r t k, new_names_over n is G),
            ((t, few_over n (declare is (unknown_at n 0) r)), lines_over ls Γ G (declare is (unknown_at n 0) r) (all_right (Own N) (expr_numbers a ++ (n ∷ [])) (lines_numbers ls) h) f.1 s (declare_having (Each N) is (unknown_at n 0) r t k)),
          ),
        )
    lines_over (inclusion i ls) Γ G r h f s k =
        let l = all_left (Own N) (include_numbers i) (lines_numbers ls) h in
        let b = included_over N i Γ l f.0 in (
          include_over i Γ l f.0 s,
          (
            (names_over (include_node i) (include_signature i Γ) r b k, new_names_over (include_node i) (names_of (include_signature i Γ)) G),
            (
              (smalls_over (include_node i) (include_signature i Γ) b, few_over (include_node i) (merge (include_signature i Γ) r)),
              lines_over ls Γ G (merge (include_signature i Γ) r) (all_right (Own N) (include_numbers i) (lines_numbers ls) h) f.1 s (merge_having (Each N) (include_signature i Γ) r b k),
            ),
          ),
        )

    pub include_over : (i : Include) (Γ : Scope) → AllIn (Own N) (include_numbers i) → SizedInclude i → ScopeOver N Γ → Over N (include_items i Γ)
    include_over (include n s k xs rs) Γ h f q =
        rule_over (schema_named s Γ) (include n s k xs rs) (actual_items xs n 1 Γ)
        (actuals_over xs n 1 Γ (all_right (Own N) (exprs_numbers xs) (n ∷ []) h).0 (all_left (Own N) (exprs_numbers xs) (n ∷ []) h) (omega (arith, f.0)) f.1 q)

    pub actuals_over : (xs : Exprs) (n k : ℕ) (Γ : Scope) → Own N n → AllIn (Own N) (exprs_numbers xs) → k + exprs_length xs ≤ 7 → SizedExprs xs → ScopeOver N Γ → Over N (actual_items xs n k Γ)
    actuals_over none n k Γ o h l f s = tt
    actuals_over (more a xs) n k Γ o h l f s =
        let m = longer k a xs l in
        let e = all_left (Own N) (expr_numbers a) (exprs_numbers xs) h in
        ((expr_over a Γ e f.0 s, (o k m.0, ((root_own a e 0 (omega arith), (o k m.0, tt)), tt))), actuals_over xs n (suc k) Γ o (all_right (Own N) (expr_numbers a) (exprs_numbers xs) h) m.1 f.1 s)

  pub schema_over : (x : Schema) (Γ : Scope) → AllIn (Own N) (schema_numbers x) → SizedSchema x → ScopeOver N Γ → Over N (schema_items x Γ)
  unfolding schema_items schema_numbers SizedSchema Over
  schema_over (plain t) Γ h f s = text_over t Γ blank h f s
  schema_over (from i) Γ h f s = (include_over i Γ h f s, smalls_over (include_node i) (include_signature i Γ) (included_over N i Γ h f))
  schema_over (both n a b) Γ h f s =
      let z = all_left (Own N) (schema_numbers a ++ schema_numbers b) (n ∷ []) h in
      let l = all_left (Own N) (schema_numbers a) (schema_numbers b) z in
      let r = all_right (Own N) (schema_numbers a) (schema_numbers b) z in (
        schema_over a Γ l f.0 s,
        (
          schema_over b Γ r f.1 s,
          (names_over n (schema_signature b Γ) (schema_signature a Γ) (schema_sig_over N b Γ r f.1) (schema_sig_over N a Γ l f.0), few_over n (merge (schema_signature b Γ) (schema_signature a Γ))),
        ),
      )
