-- A paragraph whose items are met keeps the dictionary within its limits.
use mathlib.Core.Path.{◌≡◌, refl, ap}
use mathlib.Core.Bool.{Bool, true, false, cond}
use mathlib.Core.List.{List, [], ◌∷◌}
use Prim.Native.Nat.{ℕ, suc, ◌≤◌}
use native.Mathlib.Omega.{arith}
use lib.Dec.{ltb, eqb}
use borrow.Author.Tests.{ltb-false}
use Rattle.reader_rules.specs.Tree.{Text, text, Lines, end, declaration, inclusion, Schema, plain, from, both}
use Rattle.reader_rules.specs.Tree.{Paragraph, given, axiomatic, schema, abbreviation, constraint, include_node}
use Rattle.types_rules.specs.Types.{Term, under, unders, size}
use Rattle.types_rules.specs.Formed.{part_count_type}
use Rattle.checker_rules.specs.Unknowns.{Valuation, unknown_at, given_set}
use Rattle.checker_rules.specs.Items.{Meets, MeetsIn}
use Rattle.checker_rules.specs.Conditions.{refuse_if, small_types, few_names}
use Rattle.checker_rules.specs.Dictionary.{Dictionary, blank, ◌▸◌, name_entry}
use Rattle.checker_rules.specs.Signatures.{Signature, no_names, naming, count_names, names_of, terms_of, binding_of, insert_name, merge, declare}
use Rattle.checker_rules.specs.Scopes.{Scope, globals, with_parameters, include_signature, lines_signature, text_signature, schema_signature}
use Rattle.checker_rules.specs.Rules.{text_items, lines_items, schema_items, paragraph_items}
use Rattle.checker_rules.specs.Entries.{add_givens, add_signature, extend}
use Rattle.checker_lookup.specs.Scoped.{SchemaType, Limited}
use Rattle.reader_rules.specs.Limited.{FewParameters}
use Rattle.checker_lookup.proofs.FewNames.{FewSchemas, include_few, globals_few, parameters_few}

-- What a table that meets the items shows.
module _ (τ : Valuation) where
  refuse_if_met : (b : Bool) (f n : ℕ) → Meets (refuse_if b f n) τ → b ≡ false
  unfolding refuse_if MeetsIn
  refuse_if_met true f n m = absurd m
  refuse_if_met false f n m = refl

  few_met : (n : ℕ) (s : Signature) → Meets (few_names n s) τ → count_names s ≤ 16
  unfolding few_names
  few_met n s m = ltb-false 16 (count_names s) (refuse_if_met (ltb 16 (count_names s)) 38 n m)

  -- The types of a signature are of size 32 at most.
  unfoldable SmallTerms : Signature → Type 0
  SmallTerms no_names = Unit {0}
  SmallTerms (naming i t s) = (size (under τ t) ≤ 32) × SmallTerms s

  small_met : (n : ℕ) (s : Signature) → Meets (small_types n s) τ → SmallTerms s
  unfolding small_types MeetsIn SmallTerms
  small_met n no_names m = tt
  small_met n (naming i t s) m = (m.0, small_met n s m.1)

  insert_small : (i : ℕ) (t : Term) (s : Signature) → size (under τ t) ≤ 32 → SmallTerms s → SmallTerms (insert_name i t s)
  unfolding insert_name SmallTerms
  insert_small i t no_names e h = (e, tt)
  insert_small i t (naming j u s) e h = go (eqb i j) (ltb i j) (insert_small i t s e h.1)
    where
      go : (a b : Bool) → SmallTerms (insert_name i t s) → SmallTerms (cond a (naming j u s) (cond b (naming i t (naming j u s)) (naming j u (insert_name i t s))))
      go true b k = h
      go false true k = (e, h)
      go false false k = (h.0, k)

  merge_small : (s r : Signature) → SmallTerms s → SmallTerms r → SmallTerms (merge s r)
  unfolding merge SmallTerms
  merge_small no_names r h k = k
  merge_small (naming i t s) r h k = merge_small s (insert_name i t r) h.1 (insert_small i t r h.0 k)

  declare_small : (is : List ℕ) (t : Term) (r : Signature) → size (under τ t) ≤ 32 → SmallTerms r → SmallTerms (declare is t r)
  unfolding declare
  declare_small [] t r e h = h
  declare_small (i ∷ is) t r e h = declare_small is t (insert_name i t r) e (insert_small i t r e h)

  lines_small : (ls : Lines) (Γ : Scope) (G : Dictionary) (r : Signature) → SmallTerms r → Meets (lines_items ls Γ G r) τ → SmallTerms (lines_signature ls Γ r)
  unfolding lines_items lines_signature MeetsIn
  lines_small end Γ G r h m = h
  lines_small (declaration n a is ls) Γ G r h m =
      lines_small ls Γ G (declare is (unknown_at n 0) r) (declare_small is (unknown_at n 0) r m.1.1.0.0 h) m.1.1.1
  lines_small (inclusion i ls) Γ G r h m =
      lines_small ls Γ G (merge (include_signature i Γ) r)
      (merge_small (include_signature i Γ) r (small_met (include_node i) (include_signature i Γ) m.1.1.0.0) h) m.1.1.1

  lines_few : (ls : Lines) (Γ : Scope) (G : Dictionary) (r : Signature) → count_names r ≤ 16 → Meets (lines_items ls Γ G r) τ → count_names (lines_signature ls Γ r) ≤ 16
  unfolding lines_items lines_signature MeetsIn
  lines_few end Γ G r h m = h
  lines_few (declaration n a is ls) Γ G r h m = lines_few ls Γ G (declare is (unknown_at n 0) r) (few_met n (declare is (unknown_at n 0) r) m.1.1.0.1) m.1.1.1
  lines_few (inclusion i ls) Γ G r h m =
      lines_few ls Γ G (merge (include_signature i Γ) r) (few_met (include_node i) (merge (include_signature i Γ) r) m.1.1.0.1) m.1.1.1

  text_small : (t : Text) (Γ : Scope) (G : Dictionary) → Meets (text_items t Γ G) τ → SmallTerms (text_signature t Γ)
  unfolding text_items text_signature MeetsIn SmallTerms
  text_small (text n p ls) Γ G m = lines_small ls Γ G no_names tt m.0

  text_few : (t : Text) (Γ : Scope) (G : Dictionary) → Meets (text_items t Γ G) τ → count_names (text_signature t Γ) ≤ 16
  unfolding text_items text_signature MeetsIn count_names
  text_few (text n p ls) Γ G m = lines_few ls Γ G no_names (omega arith) m.0

  pub schema_few : (x : Schema) (Γ : Scope) → FewSchemas Γ → Meets (schema_items x Γ) τ → count_names (schema_signature x Γ) ≤ 16
  unfolding schema_items schema_signature MeetsIn
  schema_few (plain t) Γ h m = text_few t Γ blank m
  schema_few (from i) Γ h m = include_few i Γ h
  schema_few (both n a b) Γ h m = few_met n (merge (schema_signature b Γ) (schema_signature a Γ)) m.1.1.1

  parts_count : (s : Signature) → part_count_type (unders τ (terms_of s)) ≡ count_names s
  unfolding under terms_of count_names
  parts_count no_names = refl
  parts_count (naming i t s) = ap suc (parts_count s)

  -- What is recorded of a signature with few identifiers is the type of a schema.
  pub binding_type : (s : Signature) → count_names s ≤ 16 → SchemaType (under τ (binding_of s))
  unfolding under binding_of
  binding_type s l = (omega (arith, parts_count s), (names_of s, unders τ (terms_of s), refl))

  pub schema_type : (x : Schema) (ps : List ℕ) (D : Dictionary) → Limited D → Meets (schema_items x (with_parameters ps 1 (globals D))) τ
      → SchemaType (under τ (binding_of (schema_signature x (with_parameters ps 1 (globals D)))))
  schema_type x ps D l m =
      let Γ = with_parameters ps 1 (globals D) in
      binding_type (schema_signature x Γ) (schema_few x Γ (parameters_few ps 1 (globals D) (globals_few D l)) m)

  givens_limited : (is : List ℕ) (D : Dictionary) → Limited D → Limited (add_givens is D)
  unfolding add_givens Limited size
  givens_limited [] D l = l
  givens_limited (i ∷ is) D l = givens_limited is (D ▸ name_entry i 0 (given_set i)) (l, omega arith, omega arith)

  signature_limited : (s : Signature) (D : Dictionary) → SmallTerms s → Limited D → Limited (add_signature s τ D)
  unfolding add_signature Limited SmallTerms
  signature_limited no_names D h l = l
  signature_limited (naming i t s) D h l = signature_limited s (D ▸ name_entry i 0 (under τ t)) h.1 (l, omega arith, h.0)

-- A PARAGRAPH WHOSE ITEMS ARE MET KEEPS THE DICTIONARY WITHIN ITS LIMITS.
pub limited_extend : (p : Paragraph) (D : Dictionary) (τ : Valuation) → FewParameters p → Limited D → Meets (paragraph_items p D) τ → Limited (extend p D τ)
unfolding paragraph_items extend MeetsIn Limited
limited_extend (given n is) D τ f l m = givens_limited τ is D l
limited_extend (axiomatic n t) D τ f l m = signature_limited τ (text_signature t (globals D)) D (text_small τ t (globals D) D m) l
limited_extend (schema n s ps x) D τ f l m = (l, schema_type τ x ps D l m)
limited_extend (abbreviation n i ps a) D τ f l m = (l, f, m.1.1)
limited_extend (constraint n p) D τ f l m = l
