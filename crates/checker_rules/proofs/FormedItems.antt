-- The rules write well-formed terms, where every Tuple and Product has 2 to 6 parts.
use mathlib.Core.Path.{◌≡◌, refl, ap, sym, subst}
use mathlib.Core.Bool.{Bool, true, false, cond}
use mathlib.Core.List.{List, [], ◌∷◌}
use mathlib.Core.Option.{Option, some, none as nothing}
use Prim.Native.Nat.{ℕ, zero, suc, ◌≤◌}
use native.Mathlib.Omega.{arith}
use lib.Dec.{ltb, eqb}
use Rattle.reader_rules.specs.Tree.{Expr, reference, number, integers, set, tuple, product, power, application, selection, theta, schema_set, arithmetic}
use Rattle.reader_rules.specs.Tree.{comprehension, Exprs, none, more, Pred, truth, equal, member, at_most, not, connected, quantified, Text, text, Lines}
use Rattle.reader_rules.specs.Tree.{end, declaration, inclusion, Include, include, Schema, plain, from, both, Paragraph, given, axiomatic, schema}
use Rattle.reader_rules.specs.Tree.{abbreviation, constraint, exprs_length, include_node}
use Rattle.types_rules.specs.Equations.{Pairs, AllP}
use Rattle.types_rules.specs.Types.{Term, nil}
use Rattle.types_rules.specs.Instance.{instance}
use Rattle.types_rules.specs.Formed.{part_count, Formed, Formeds, Ascending, Arity}
use Rattle.checker_rules.specs.Strokes.{decorate, takes}
use Rattle.checker_rules.specs.Unknowns.{unknown_at, row}
use Rattle.checker_rules.specs.Items.{Items, skip, ◌⨾◌, fresh, equations, equate, select, small, refusal, piece}
use Rattle.checker_rules.specs.Dictionary.{Dictionary, blank, Named, unnamed, of_local, of_global, name_in, NamedSchema, no_schema, a_schema}
use Rattle.checker_rules.specs.Signatures.{Signature, no_names, naming, count_names, names_of, components_of, term_in, merge, declare, some_stroked}
use Rattle.checker_rules.specs.Signatures.{wrong_names}
use Rattle.checker_rules.specs.Scopes.{Scope, globals, name_at, schema_named, with_parameters, include_signature, inside, schema_signature}
use Rattle.checker_rules.specs.Conditions.{refuse_if, same_type, merge_declared, merge_names, new_name, new_names, small_types, few_names, types_of, typed}
use Rattle.checker_rules.specs.Conditions.{is_power, powers, are_powers, members, are_members, fresh_row}
use Rattle.checker_rules.specs.Rules.{reference_items, theta_name, theta_names, type_in_scope, theta_signature, theta_items, include_rule, expr_items}
use Rattle.checker_rules.specs.Rules.{exprs_items, pred_items, text_items, lines_items, include_items, actual_items, schema_items, paragraph_items}
use Rattle.checker_rules.specs.WellFormed.{FormedDictionary}
use Rattle.checker_rules.proofs.FormedInstances.{FormedOption, instance_formed, row_formed, nil_formed}
use Rattle.checker_rules.proofs.SignatureTerms.{merge_having, term_in_having, none_having}
use Rattle.checker_rules.proofs.FormedSignatures.{FormedTerms, declare_formed, components_rising}
use Rattle.checker_rules.proofs.FormedSignatures.{binding_formed}
use Rattle.checker_rules.proofs.FormedScopes.{FormedScope, FormedNamed, FormedFound, name_at_formed, schema_named_formed, included_formed}
use Rattle.checker_rules.proofs.FormedScopes.{schema_formed, inside_formed, parameters_formed, included_rising}
use Rattle.reader_rules.proofs.Sized.{SizedExpr, SizedExprs, SizedPred, SizedText, SizedLines, SizedInclude, SizedSchema, SizedParagraph}

unfoldable pub FormedItems : Items → Type 0
FormedItems skip = Unit {0}
FormedItems (a ⨾ b) = FormedItems a × FormedItems b
FormedItems (fresh x) = Unit {0}
FormedItems (equations n es) = AllP (λ a b. Formed Arity a × Formed Arity b) es
FormedItems (equate g n a b) = Formed Arity a × Formed Arity b
FormedItems (select n i a x) = Formed Arity a
FormedItems (small n a) = Unit {0}
FormedItems (refusal g n) = Unit {0}
FormedItems (piece n t) = FormedItems t

-- Items.
pub refuse_if_formed : (b : Bool) (f n : ℕ) → FormedItems (refuse_if b f n)
unfolding refuse_if FormedItems
refuse_if_formed true f n = tt
refuse_if_formed false f n = tt

pub cond_formed : (b : Bool) (x y : Items) → FormedItems x → FormedItems y → FormedItems (cond b x y)
cond_formed true x y h k = h
cond_formed false x y h k = k

pub same_type_formed : (n : ℕ) (t : Term) (o : Option Term) → Formed Arity t → FormedOption o → FormedItems (same_type n t o)
unfolding same_type FormedItems
same_type_formed n t (some u) h k = (h, k)
same_type_formed n t nothing h k = tt

pub merge_declared_formed : (n : ℕ) (xs : List ℕ) (t : Term) (r : Signature) → Formed Arity t → FormedTerms r → FormedItems (merge_declared n xs t r)
unfolding merge_declared FormedItems
merge_declared_formed n [] t r h k = tt
merge_declared_formed n (i ∷ xs) t r h k = (same_type_formed n t (term_in i r) h (term_in_having (Formed Arity) i r k), merge_declared_formed n xs t r h k)

pub merge_names_formed : (n : ℕ) (s r : Signature) → FormedTerms s → FormedTerms r → FormedItems (merge_names n s r)
unfolding merge_names FormedItems
merge_names_formed n no_names r h k = tt
merge_names_formed n (naming i t s) r h k = (same_type_formed n t (term_in i r) h.0 (term_in_having (Formed Arity) i r k), merge_names_formed n s r h.1 k)

pub new_name_formed : (n : ℕ) (m : Named) → FormedItems (new_name n m)
unfolding new_name FormedItems
new_name_formed n unnamed = tt
new_name_formed n (of_local t) = tt
new_name_formed n (of_global p g) = tt

pub new_names_formed : (n : ℕ) (xs : List ℕ) (D : Dictionary) → FormedItems (new_names n xs D)
unfolding new_names FormedItems
new_names_formed n [] D = tt
new_names_formed n (i ∷ xs) D = (new_name_formed n (name_in i D), new_names_formed n xs D)

pub small_types_formed : (n : ℕ) (s : Signature) → FormedItems (small_types n s)
unfolding small_types FormedItems
small_types_formed n no_names = tt
small_types_formed n (naming i t s) = (tt, small_types_formed n s)

pub few_names_formed : (n : ℕ) (s : Signature) → FormedItems (few_names n s)
unfolding few_names
few_names_formed n s = refuse_if_formed (ltb 16 (count_names s)) 38 n

pub typed_formed : (n : ℕ) (t : Term) → Formed Arity t → FormedItems (typed n t)
unfolding FormedItems Formed
typed_formed n t h = (tt, ((tt, h), tt))

pub is_power_formed : (n k : ℕ) (e : Expr) → FormedItems (is_power n k e)
unfolding FormedItems Formed Arity
is_power_formed n k e = (tt, ((tt, (refl, (tt, tt))), tt))

pub fresh_row_formed : (n k p : ℕ) → FormedItems (fresh_row n k p)
unfolding fresh_row FormedItems
fresh_row_formed n k zero = tt
fresh_row_formed n k (suc p) = (tt, fresh_row_formed n (suc k) p)

abbrev FormedPairs : Pairs Term → Type 0
FormedPairs P = AllP (λ a b. Formed Arity a × Formed Arity b) P

members_formed : (n : ℕ) (es : Exprs) → FormedPairs (members n es)
unfolding members Formed
members_formed n none = tt
members_formed n (more e es) = ((tt, tt), members_formed n es)

pub are_members_formed : (n : ℕ) (es : Exprs) → FormedItems (are_members n es)
unfolding are_members FormedItems
are_members_formed n es = members_formed n es

powers_formed : (n : ℕ) (es : Exprs) (k : ℕ) → FormedPairs (powers n es k)
unfolding powers Formed Arity
powers_formed n none k = tt
powers_formed n (more e es) k = ((tt, (refl, (tt, tt))), powers_formed n es (suc k))

pub are_powers_formed : (n : ℕ) (es : Exprs) (k : ℕ) → FormedItems (are_powers n es k)
unfolding are_powers FormedItems
are_powers_formed n es k = (fresh_row_formed n k (exprs_length es), powers_formed n es k)

pub reference_formed : (n : ℕ) (xs : Exprs) (m : Named) → FormedNamed m → FormedItems (reference_items n xs m)
unfolding reference_items FormedItems FormedNamed
reference_formed n none unnamed h = tt
reference_formed n none (of_local t) h = typed_formed n t h
reference_formed n none (of_global p g) h = (fresh_row_formed n 1 p, typed_formed n _ (instance_formed (row n 1 p) g (row_formed n 1 p) h))
reference_formed n (more e es) unnamed h = tt
reference_formed n (more e es) (of_local t) h = tt
reference_formed n (more e es) (of_global p g) h = cond_formed (eqb (exprs_length (more e es)) p) (are_powers n (more e es) 1 ⨾ typed n (instance (row n 1 p) g)) (refusal 32 n) (are_powers_formed n (more e es) 1, typed_formed n (instance (row n 1 p) g) (instance_formed (row n 1 p) g (row_formed n 1 p) h)) tt

pub theta_name_formed : (b : Bool) (n : ℕ) (m : Named) → FormedItems (theta_name b n m)
unfolding theta_name FormedItems
theta_name_formed false n m = tt
theta_name_formed true n unnamed = tt
theta_name_formed true n (of_local t) = tt
theta_name_formed true n (of_global zero g) = tt
theta_name_formed true n (of_global (suc p) g) = tt

pub theta_names_formed : (n k : ℕ) (s : Signature) (Γ : Scope) → FormedItems (theta_names n k s Γ)
unfolding theta_names FormedItems
theta_names_formed n k no_names Γ = tt
theta_names_formed n k (naming i t s) Γ = (theta_name_formed (takes k i) n (name_at (decorate k i) Γ), theta_names_formed n k s Γ)

pub type_in_scope_formed : (m : Named) → FormedNamed m → Formed Arity (type_in_scope m)
unfolding type_in_scope FormedNamed Formed Arity
type_in_scope_formed unnamed h = (refl, tt)
type_in_scope_formed (of_local t) h = h
type_in_scope_formed (of_global p g) h = instance_formed nil g nil_formed h

pub theta_signature_formed : (k : ℕ) (s : Signature) (Γ : Scope) → FormedScope Γ → FormedTerms (theta_signature k s Γ)
unfolding theta_signature
theta_signature_formed k no_names Γ h = tt
theta_signature_formed k (naming i t s) Γ h = (type_in_scope_formed (name_at (decorate k i) Γ) (name_at_formed (decorate k i) Γ h), theta_signature_formed k s Γ h)

theta_names_lem : (k : ℕ) (s : Signature) (Γ : Scope) → names_of (theta_signature k s Γ) ≡ names_of s
unfolding theta_signature names_of
theta_names_lem k no_names Γ = refl
theta_names_lem k (naming i t s) Γ = ap (◌∷◌ i) (theta_names_lem k s Γ)

pub theta_items_formed : (n k : ℕ) (f : NamedSchema) (Γ : Scope) → FormedFound f → FormedScope Γ → FormedItems (theta_items n k f Γ)
unfolding theta_items FormedItems FormedFound
theta_items_formed n k no_schema Γ w h = tt
theta_items_formed n k (a_schema p g) Γ w h = (
  theta_names_formed n k (components_of (instance nil g)) Γ,
  (
    refuse_if_formed (ltb 0 p) 32 n,
    (
      refuse_if_formed (some_stroked k (components_of (instance nil g))) 37 n,
      typed_formed n _ (binding_formed (theta_signature k (components_of (instance nil g)) Γ) (theta_signature_formed k (components_of (instance nil g)) Γ h)
          (subst Ascending (sym (theta_names_lem k (components_of (instance nil g)) Γ)) (components_rising (instance nil g) (instance_formed nil g nil_formed w)))),
    ),
  ),
)

pub include_rule_formed : (f : NamedSchema) (i : Include) (acts : Items) → FormedItems acts → FormedItems (include_rule f i acts)
unfolding include_rule FormedItems
include_rule_formed no_schema (include n s k xs rs) acts h = tt
include_rule_formed (a_schema p g) (include n s k xs rs) acts h = cond_formed (eqb (exprs_length xs) p) (acts ⨾ refuse_if (wrong_names k rs (components_of (instance nil g))) 37 n) (refusal 32 n) (h, refuse_if_formed (wrong_names k rs (components_of (instance nil g))) 37 n) tt

types_count : (xs : Exprs) → part_count (types_of xs) ≡ exprs_length xs
unfolding types_of exprs_length
types_count none = refl
types_count (more a xs) = ap suc (types_count xs)

row_count_lem : (n k p : ℕ) → part_count (row n k p) ≡ p
unfolding row
row_count_lem n k zero = refl
row_count_lem n k (suc p) = ap suc (row_count_lem n (suc k) p)

pub types_of_formed : (es : Exprs) → Formeds Arity (types_of es)
unfolding types_of Formed
types_of_formed none = tt
types_of_formed (more e es) = (tt, types_of_formed es)

two_to_six : {m n : ℕ} → m ≡ n → (2 ≤ n) × (n ≤ 6) → (2 ≤ m) × (m ≤ 6)
two_to_six e h = (omega (arith, e, h.0), omega (arith, e, h.1))

mutual
  unfolding expr_items FormedItems Formed Arity SizedExpr

  pub formed_expr : (e : Expr) (Γ : Scope) → SizedExpr e → FormedScope Γ → FormedItems (expr_items e Γ)
  formed_expr (reference n i xs) Γ z h = (formed_exprs xs Γ z h, reference_formed n xs (name_at i Γ) (name_at_formed i Γ h))
  formed_expr (number n k) Γ z h = (tt, ((tt, (refl, tt)), tt))
  formed_expr (integers n) Γ z h = (tt, ((tt, (refl, ((refl, tt), tt))), tt))
  formed_expr (set n es) Γ z h = (formed_exprs es Γ z h, (tt, (are_members_formed n es, (tt, ((tt, (refl, (tt, tt))), tt)))))
  formed_expr (tuple n es) Γ z h = (formed_exprs es Γ z.1 h, (tt, ((tt, (two_to_six (types_count es) z.0, types_of_formed es)), tt)))
  formed_expr (product n es) Γ z h = (
    formed_exprs es Γ z.1 h,
    (are_powers_formed n es 1, (tt, ((tt, (refl, ((two_to_six (row_count_lem n 1 (exprs_length es)) z.0, row_formed n 1 (exprs_length es)), tt))), tt))),
  )
  formed_expr (power n e) Γ z h = (formed_expr e Γ z h, (is_power_formed n 1 e, (tt, ((tt, (refl, ((refl, (tt, tt)), tt))), tt))))
  formed_expr (application n f a) Γ z h =
      (formed_expr f Γ z.0 h, (formed_expr a Γ z.1 h, (tt, ((tt, (refl, (((omega arith, omega arith), (tt, (tt, tt))), tt))), tt))))
  formed_expr (selection n e i) Γ z h = (formed_expr e Γ z h, (tt, tt))
  formed_expr (theta n s k) Γ z h = theta_items_formed n k (schema_named s Γ) Γ (schema_named_formed s Γ h) h
  formed_expr (schema_set n i) Γ z h = (
    formed_include i Γ z h,
    (small_types_formed (include_node i) (include_signature i Γ), (tt, ((tt, (refl, (binding_formed (include_signature i Γ) (included_formed i Γ h) (included_rising i Γ), tt))), tt))),
  )
  formed_expr (arithmetic n o a b) Γ z h =
      (formed_expr a Γ z.0 h, (formed_expr b Γ z.1 h, (((tt, (refl, tt)), ((tt, (refl, tt)), tt)), (tt, ((tt, (refl, tt)), tt)))))
  formed_expr (comprehension n t e) Γ z h =
      (formed_text t Γ blank z.0 h, (formed_expr e (inside t Γ) z.1 (inside_formed t Γ h), (tt, ((tt, (refl, (tt, tt))), tt))))

  pub formed_exprs : (es : Exprs) (Γ : Scope) → SizedExprs es → FormedScope Γ → FormedItems (exprs_items es Γ)
  formed_exprs none Γ z h = tt
  formed_exprs (more e es) Γ z h = (formed_expr e Γ z.0 h, formed_exprs es Γ z.1 h)

  pub formed_pred : (p : Pred) (Γ : Scope) → SizedPred p → FormedScope Γ → FormedItems (pred_items p Γ)
  formed_pred (truth n) Γ z h = tt
  formed_pred (equal n a b) Γ z h = (formed_expr a Γ z.0 h, (formed_expr b Γ z.1 h, ((tt, tt), tt)))
  formed_pred (member n a b) Γ z h = (formed_expr a Γ z.0 h, (formed_expr b Γ z.1 h, (((refl, (tt, tt)), tt), tt)))
  formed_pred (at_most n a b) Γ z h = (formed_expr a Γ z.0 h, (formed_expr b Γ z.1 h, ((tt, (refl, tt)), ((tt, (refl, tt)), tt))))
  formed_pred (not n p) Γ z h = formed_pred p Γ z h
  formed_pred (connected n o p q) Γ z h = (formed_pred p Γ z.0 h, formed_pred q Γ z.1 h)
  formed_pred (quantified n q t p) Γ z h = (formed_text t Γ blank z.0 h, formed_pred p (inside t Γ) z.1 (inside_formed t Γ h))

  pub formed_text : (t : Text) (Γ : Scope) (D : Dictionary) → SizedText t → FormedScope Γ → FormedItems (text_items t Γ D)
  formed_text (text n p ls) Γ D z h =
      (formed_lines ls Γ D no_names z.1 h (none_having (Formed Arity)), formed_pred p (inside (text n p ls) Γ) z.0 (inside_formed (text n p ls) Γ h))

  pub formed_lines : (ls : Lines) (Γ : Scope) (D : Dictionary) (r : Signature) → SizedLines ls → FormedScope Γ → FormedTerms r → FormedItems (lines_items ls Γ D r)
  formed_lines end Γ D r z h k = tt
  formed_lines (declaration n e xs ls) Γ D r z h k = (
    (formed_expr e Γ z.0 h, is_power_formed n 0 e),
    (
      (merge_declared_formed n xs (unknown_at n 0) r tt k, new_names_formed n xs D),
      ((tt, few_names_formed n (declare xs (unknown_at n 0) r)), formed_lines ls Γ D (declare xs (unknown_at n 0) r) z.1 h (declare_formed xs n r k)),
    ),
  )
  formed_lines (inclusion i ls) Γ D r z h k = (
    formed_include i Γ z.0 h,
    (
      (merge_names_formed (include_node i) (include_signature i Γ) r (included_formed i Γ h) k, new_names_formed (include_node i) (names_of (include_signature i Γ)) D),
      (
        (small_types_formed (include_node i) (include_signature i Γ), few_names_formed (include_node i) (merge (include_signature i Γ) r)),
        formed_lines ls Γ D (merge (include_signature i Γ) r) z.1 h (merge_having (Formed Arity) (include_signature i Γ) r (included_formed i Γ h) k),
      ),
    ),
  )

  pub formed_include : (i : Include) (Γ : Scope) → SizedInclude i → FormedScope Γ → FormedItems (include_items i Γ)
  formed_include (include n s k xs rs) Γ z h = include_rule_formed (schema_named s Γ) (include n s k xs rs) (actual_items xs n 1 Γ) (formed_actuals xs n 1 Γ z.1 h)

  pub formed_actuals : (xs : Exprs) (n k : ℕ) (Γ : Scope) → SizedExprs xs → FormedScope Γ → FormedItems (actual_items xs n k Γ)
  formed_actuals none n k Γ z h = tt
  formed_actuals (more e es) n k Γ z h = ((formed_expr e Γ z.0 h, is_power_formed n k e), formed_actuals es n (suc k) Γ z.1 h)

pub formed_schema : (x : Schema) (Γ : Scope) → SizedSchema x → FormedScope Γ → FormedItems (schema_items x Γ)
unfolding schema_items FormedItems SizedSchema
formed_schema (plain t) Γ z h = formed_text t Γ blank z h
formed_schema (from i) Γ z h = (formed_include i Γ z h, small_types_formed (include_node i) (include_signature i Γ))
formed_schema (both n a b) Γ z h = (
  formed_schema a Γ z.0 h,
  (
    formed_schema b Γ z.1 h,
    (
      merge_names_formed n (schema_signature b Γ) (schema_signature a Γ) (schema_formed b Γ h) (schema_formed a Γ h),
      few_names_formed n (merge (schema_signature b Γ) (schema_signature a Γ)),
    ),
  ),
)

pub formed_paragraph : (p : Paragraph) (D : Dictionary) → SizedParagraph p → FormedDictionary D → FormedItems (paragraph_items p D)
unfolding paragraph_items FormedItems FormedScope SizedParagraph
formed_paragraph (given n xs) D z h = new_names_formed n xs D
formed_paragraph (axiomatic n t) D z h = formed_text t (globals D) D z h
formed_paragraph (schema n s ps x) D z h = formed_schema x (with_parameters ps 1 (globals D)) z (parameters_formed ps 1 (globals D) h)
formed_paragraph (abbreviation n i ps e) D z h =
    (formed_expr e (with_parameters ps 1 (globals D)) z (parameters_formed ps 1 (globals D) h), (new_names_formed n (i ∷ []) D, tt))
formed_paragraph (constraint n p) D z h = formed_pred p (globals D) z h
