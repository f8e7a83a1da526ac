-- Terms, signatures and scopes of a renumbered tree are those of the tree, mapped.
use mathlib.Core.Path.{◌≡◌, refl, ap, ap₂, sym, ◌∙◌}
use mathlib.Core.Bool.{Bool, true, false, cond}
use mathlib.Core.List.{List, [], ◌∷◌}
use mathlib.Core.Option.{Option, some, none as nothing}
use Prim.Native.Nat.{ℕ, zero, suc, ◌+◌, ◌*◌, ◌≤◌, ◌<◌}
use native.Mathlib.Omega.{arith}
use lib.Dec.{ltb, eqb}
use Rattle.reader_rules.specs.Tree.{exprs_length, Text, text, Lines, end, declaration, inclusion, Include, include}
use Rattle.reader_rules.specs.Tree.{Schema, plain, from, both}
use Rattle.types_rules.specs.Infinite.{Inf, mk_i, eval, evals, under_inf}
use Rattle.types_rules.specs.Trees.{Extent, finite, infinite, Tree, under_in}
use Rattle.types_rules.specs.Former.{Former, int, given, parameter, power, product, binding, identifiers}
use Rattle.types_rules.specs.Types.{Ty, Tys, node, tnil, tcons, Term, unknown, con, Terms, nil, cons, under, unders}
use Rattle.types_rules.specs.Instance.{nth, actual, instance_former, instance, instances}
use Rattle.checker_rules.specs.Strokes.{decorate}
use Rattle.checker_rules.specs.Unknowns.{Valuation, slot, unknown_at, row, power_of, parameter_of}
use Rattle.checker_rules.specs.Dictionary.{name_entry, schema_entry, Dictionary, blank, ◌▸◌, Named, unnamed, of_local, of_global, name_in, NamedSchema, no_schema, a_schema}
use Rattle.checker_rules.specs.Signatures.{Signature, no_names, naming, count_names, names_of, terms_of, binding_of, with_names, components_of, or_else, term_in}
use Rattle.checker_rules.specs.Signatures.{insert_name, merge, declare, stroke_all, renamed, rename_all}
use Rattle.checker_rules.specs.Scopes.{Scope, globals, local, name_at, schema_named, with_parameters, enter, brought, include_signature}
use Rattle.checker_rules.specs.Scopes.{lines_signature, text_signature, inside, schema_signature}
use Rattle.canonical_rules.specs.MapNodes.{map_text, map_lines, map_include, map_schema}
use Rattle.canonical_answers.proofs.MapItems.{move_slot, map_term, map_terms, map_signature, map_named, map_scope, map_option, pull, pull_in}
use Rattle.reader_rules.proofs.Sized.{SizedText, SizedLines, SizedInclude, SizedSchema}
use Rattle.checker_rules.proofs.ScopeUnknowns.{FewRecorded}
use Rattle.canonical_rules.proofs.NodeMaps.{length_maps}

module _ (f : ℕ → ℕ) where
  pub move_slot_lem : (n k : ℕ) → k < 8 → move_slot f (slot n k) ≡ slot (f n) k
  unfolding move_slot slot
  move_slot_lem n k h = ap₂ (λ a b. f a * 8 + b) (omega arith) (omega arith)

  pub unknown_maps : (n k : ℕ) → k < 8 → unknown_at (f n) k ≡ map_term f (unknown_at n k)
  unfolding map_term
  unknown_maps n k h = ap unknown (sym (move_slot_lem n k h))

  pub row_maps : (p n k : ℕ) → k + p ≤ 8 → row (f n) k p ≡ map_terms f (row n k p)
  unfolding row map_terms
  row_maps zero n k h = refl
  row_maps (suc p) n k h = ap₂ cons (unknown_maps n k (omega arith)) (row_maps p n (suc k) (omega arith))

  -- what a table says of a mapped term
  mutual
    unfolding map_term under

    pub under_maps : (τ : Valuation) (t : Term) → under τ (map_term f t) ≡ under (pull f τ) t
    under_maps τ (unknown x) = refl
    under_maps τ (con h ts) = ap (node h) (unders_maps τ ts)

    pub unders_maps : (τ : Valuation) (ts : Terms) → unders τ (map_terms f ts) ≡ unders (pull f τ) ts
    unders_maps τ nil = refl
    unders_maps τ (cons t ts) = ap₂ tcons (under_maps τ t) (unders_maps τ ts)

  mutual
    unfolding map_term eval

    inf_maps : (ρ : ℕ → Inf) (t : Term) → under_inf ρ (map_term f t) ≡ under_inf (pull_in f infinite ρ) t
    inf_maps ρ (unknown x) = refl
    inf_maps ρ (con h ts) = ap (mk_i h) (infs_maps ρ ts)

    infs_maps : (ρ : ℕ → Inf) (ts : Terms) → evals mk_i ρ (map_terms f ts) ≡ evals mk_i (pull_in f infinite ρ) ts
    infs_maps ρ nil = refl
    infs_maps ρ (cons t ts) = ap₂ ◌∷◌ (inf_maps ρ t) (infs_maps ρ ts)

  pub under_in_lem : (w : Extent) (τ : ℕ → Tree w) (t : Term) → under_in w τ (map_term f t) ≡ under_in w (pull_in f w τ) t
  under_in_lem finite τ t = under_maps τ t
  under_in_lem infinite τ t = inf_maps τ t

  -- recorded types with terms for their parameters
  nth_maps : (ts : Terms) (i : ℕ) → nth (map_terms f ts) i ≡ map_option f (nth ts i)
  unfolding nth map_terms map_option
  nth_maps nil i = refl
  nth_maps (cons t ts) zero = refl
  nth_maps (cons t ts) (suc zero) = refl
  nth_maps (cons t ts) (suc (suc i)) = nth_maps ts (suc i)

  actual_maps : (o : Option Term) (i : ℕ) (ts : Terms) → actual (map_option f o) i (map_terms f ts) ≡ map_term f (actual o i ts)
  unfolding actual map_option map_term
  actual_maps (some t) i ts = refl
  actual_maps nothing i ts = refl

  former_maps : (h : Former) (r ts : Terms) → instance_former h (map_terms f r) (map_terms f ts) ≡ map_term f (instance_former h r ts)
  unfolding instance_former map_term
  former_maps int r ts = refl
  former_maps (given g) r ts = refl
  former_maps (parameter i) r ts = ap (λ o. actual o i (map_terms f ts)) (nth_maps r i) ∙ actual_maps (nth r i) i ts
  former_maps power r ts = refl
  former_maps product r ts = refl
  former_maps (binding l) r ts = refl

  mutual
    unfolding instance map_terms

    pub instance_maps : (g : Ty) (r : Terms) → instance (map_terms f r) g ≡ map_term f (instance r g)
    instance_maps (node h gs) r = ap (λ ts. instance_former h (map_terms f r) ts) (instances_maps gs r) ∙ former_maps h r (instances r gs)

    pub instances_maps : (gs : Tys) (r : Terms) → instances (map_terms f r) gs ≡ map_terms f (instances r gs)
    instances_maps tnil r = refl
    instances_maps (tcons g gs) r = ap₂ cons (instance_maps g r) (instances_maps gs r)

  pub closed_maps : (g : Ty) → instance nil g ≡ map_term f (instance nil g)
  unfolding map_terms
  closed_maps g = instance_maps g nil

  pub row_instance : (n p : ℕ) (g : Ty) → p ≤ 4 → instance (row (f n) 1 p) g ≡ map_term f (instance (row n 1 p) g)
  row_instance n p g h = ap (λ r. instance r g) (row_maps p n 1 (omega arith)) ∙ instance_maps g (row n 1 p)

  -- signatures
  pub names_map : (s : Signature) → names_of (map_signature f s) ≡ names_of s
  unfolding names_of map_signature
  names_map no_names = refl
  names_map (naming i t s) = ap (λ l. i ∷ l) (names_map s)

  pub count_maps : (s : Signature) → count_names (map_signature f s) ≡ count_names s
  unfolding count_names map_signature
  count_maps no_names = refl
  count_maps (naming i t s) = ap suc (count_maps s)

  terms_map : (s : Signature) → terms_of (map_signature f s) ≡ map_terms f (terms_of s)
  unfolding terms_of map_signature map_terms
  terms_map no_names = refl
  terms_map (naming i t s) = ap (cons (map_term f t)) (terms_map s)

  pub binding_maps : (s : Signature) → binding_of (map_signature f s) ≡ map_term f (binding_of s)
  unfolding binding_of map_term
  binding_maps s = ap₂ (λ l ts. con (binding l) ts) (names_map s) (terms_map s)

  with_maps : (is : List ℕ) (ts : Terms) → with_names is (map_terms f ts) ≡ map_signature f (with_names is ts)
  unfolding with_names map_terms map_signature
  with_maps [] ts = refl
  with_maps (i ∷ is) nil = refl
  with_maps (i ∷ is) (cons t ts) = ap (naming i (map_term f t)) (with_maps is ts)

  pub components_map : (t : Term) → components_of (map_term f t) ≡ map_signature f (components_of t)
  unfolding components_of map_term map_signature
  components_map (unknown x) = refl
  components_map (con h ts) = with_maps (identifiers h) ts

  else_maps : (o q : Option Term) → or_else (map_option f o) (map_option f q) ≡ map_option f (or_else o q)
  unfolding or_else map_option
  else_maps (some t) q = refl
  else_maps nothing q = refl

  if_found : (b : Bool) (t : Term) → cond b (some (map_term f t)) nothing ≡ map_option f (cond b (some t) nothing)
  unfolding map_option
  if_found true t = refl
  if_found false t = refl

  pub term_maps : (i : ℕ) (s : Signature) → term_in i (map_signature f s) ≡ map_option f (term_in i s)
  unfolding term_in map_signature map_option
  term_maps i no_names = refl
  term_maps i (naming j t s) = ap₂ or_else (term_maps i s) (if_found (eqb i j) t) ∙ else_maps (term_in i s) (cond (eqb i j) (some t) nothing)

  if_maps : (b : Bool) (s r : Signature) {s' r' : Signature} → s' ≡ map_signature f s → r' ≡ map_signature f r → cond b s' r' ≡ map_signature f (cond b s r)
  if_maps true s r p q = p
  if_maps false s r p q = q

  pub insert_maps : (i : ℕ) (t : Term) (s : Signature) → insert_name i (map_term f t) (map_signature f s) ≡ map_signature f (insert_name i t s)
  unfolding insert_name map_signature
  insert_maps i t no_names = refl
  insert_maps i t (naming j u s) =
      if_maps (eqb i j) (naming j u s) _ refl
      (if_maps (ltb i j) (naming i t (naming j u s)) (naming j u (insert_name i t s)) refl (ap (naming j (map_term f u)) (insert_maps i t s)))

  pub merge_maps : (s r : Signature) → merge (map_signature f s) (map_signature f r) ≡ map_signature f (merge s r)
  unfolding merge map_signature
  merge_maps no_names r = refl
  merge_maps (naming i t s) r = ap (λ z. merge (map_signature f s) z) (insert_maps i t r) ∙ merge_maps s (insert_name i t r)

  pub declare_maps : (is : List ℕ) (t : Term) (r : Signature) → declare is (map_term f t) (map_signature f r) ≡ map_signature f (declare is t r)
  unfolding declare
  declare_maps [] t r = refl
  declare_maps (i ∷ is) t r = ap (λ z. declare is (map_term f t) z) (insert_maps i t r) ∙ declare_maps is t (insert_name i t r)

  stroke_maps : (k : ℕ) (s : Signature) → stroke_all k (map_signature f s) ≡ map_signature f (stroke_all k s)
  unfolding stroke_all map_signature
  stroke_maps k no_names = refl
  stroke_maps k (naming i t s) = ap (naming (decorate k i) (map_term f t)) (stroke_maps k s)

  rename_maps : (rs : List (ℕ × ℕ)) (s : Signature) → rename_all rs (map_signature f s) ≡ map_signature f (rename_all rs s)
  unfolding rename_all map_signature
  rename_maps rs no_names = refl
  rename_maps rs (naming i t s) = ap (λ z. insert_name (renamed rs i) (map_term f t) z) (rename_maps rs s) ∙ insert_maps (renamed rs i) t (rename_all rs s)

  -- scopes
  name_map : (b : Bool) (t : Term) (m : Named) {m' : Named} → m' ≡ map_named f m → cond b (of_local (map_term f t)) m' ≡ map_named f (cond b (of_local t) m)
  unfolding map_named
  name_map true t m e = refl
  name_map false t m e = e

  global_map : (b : Bool) (p : ℕ) (g : Ty) (m : Named) → m ≡ map_named f m → cond b (of_global p g) m ≡ map_named f (cond b (of_global p g) m)
  unfolding map_named
  global_map true p g m e = refl
  global_map false p g m e = e

  globals_map : (i : ℕ) (D : Dictionary) → name_in i D ≡ map_named f (name_in i D)
  unfolding name_in map_named
  globals_map i blank = refl
  globals_map i (D ▸ name_entry j p g) = global_map (eqb i j) p g (name_in i D) (globals_map i D)
  globals_map i (D ▸ schema_entry s p g) = globals_map i D

  pub name_at_maps : (i : ℕ) (Γ : Scope) → name_at i (map_scope f Γ) ≡ map_named f (name_at i Γ)
  unfolding name_at map_scope
  name_at_maps i (globals D) = globals_map i D
  name_at_maps i (local j t Γ) = name_map (eqb i j) t (name_at i Γ) (name_at_maps i Γ)

  pub schema_stays : (s : ℕ) (Γ : Scope) → schema_named s (map_scope f Γ) ≡ schema_named s Γ
  unfolding schema_named map_scope
  schema_stays s (globals D) = refl
  schema_stays s (local j t Γ) = schema_stays s Γ

  pub parameters_map : (is : List ℕ) (k : ℕ) (Γ : Scope) → with_parameters is k (map_scope f Γ) ≡ map_scope f (with_parameters is k Γ)
  unfolding with_parameters map_scope map_term
  parameters_map [] k Γ = refl
  parameters_map (i ∷ is) k Γ = parameters_map is (suc k) (local i (power_of (parameter_of k)) Γ)

  enter_maps : (s : Signature) (Γ : Scope) → enter (map_signature f s) (map_scope f Γ) ≡ map_scope f (enter s Γ)
  unfolding enter map_signature map_scope
  enter_maps no_names Γ = refl
  enter_maps (naming i t s) Γ = enter_maps s (local i t Γ)

  brought_maps : (d : NamedSchema) (ts : Terms) (k : ℕ) (rs : List (ℕ × ℕ)) → brought d (map_terms f ts) k rs ≡ map_signature f (brought d ts k rs)
  unfolding brought map_signature
  brought_maps no_schema ts k rs = refl
  brought_maps (a_schema p g) ts k rs =
      ap (λ t. rename_all rs (stroke_all k (components_of t))) (instance_maps g ts)
      ∙ ap (λ s. rename_all rs (stroke_all k s)) (components_map (instance ts g))
      ∙ ap (rename_all rs) (stroke_maps k (components_of (instance ts g)))
      ∙ rename_maps rs (stroke_all k (components_of (instance ts g)))

  pub include_signature_lem : (i : Include) (Γ : Scope) → SizedInclude i → include_signature (map_include f i) (map_scope f Γ) ≡ map_signature f (include_signature i Γ)
  unfolding include_signature map_include SizedInclude
  include_signature_lem (include n s k xs rs) Γ h =
      ap₂ (λ d p. brought d (row (f n) 1 p) k rs) (schema_stays s Γ) (length_maps f xs)
      ∙ ap (λ r. brought (schema_named s Γ) r k rs) (row_maps (exprs_length xs) n 1 (omega (arith, h.0)))
      ∙ brought_maps (schema_named s Γ) (row n 1 (exprs_length xs)) k rs

  pub lines_signature_lem : (ls : Lines) (Γ : Scope) (r : Signature) → SizedLines ls → lines_signature (map_lines f ls) (map_scope f Γ) (map_signature f r) ≡ map_signature f (lines_signature ls Γ r)
  unfolding lines_signature map_lines SizedLines
  lines_signature_lem end Γ r h = refl
  lines_signature_lem (declaration n a is ls) Γ r h =
      ap (λ t. lines_signature (map_lines f ls) (map_scope f Γ) (declare is t (map_signature f r))) (unknown_maps n 0 (omega arith))
      ∙ ap (λ s. lines_signature (map_lines f ls) (map_scope f Γ) s) (declare_maps is (unknown_at n 0) r)
      ∙ lines_signature_lem ls Γ (declare is (unknown_at n 0) r) h.1
  lines_signature_lem (inclusion i ls) Γ r h =
      ap (λ s. lines_signature (map_lines f ls) (map_scope f Γ) (merge s (map_signature f r))) (include_signature_lem i Γ h.0)
      ∙ ap (λ s. lines_signature (map_lines f ls) (map_scope f Γ) s) (merge_maps (include_signature i Γ) r)
      ∙ lines_signature_lem ls Γ (merge (include_signature i Γ) r) h.1

  pub text_signature_lem : (t : Text) (Γ : Scope) → SizedText t → text_signature (map_text f t) (map_scope f Γ) ≡ map_signature f (text_signature t Γ)
  unfolding text_signature map_text SizedText map_signature
  text_signature_lem (text n p ls) Γ h = lines_signature_lem ls Γ no_names h.1

  pub inside_maps : (t : Text) (Γ : Scope) → SizedText t → inside (map_text f t) (map_scope f Γ) ≡ map_scope f (inside t Γ)
  unfolding inside
  inside_maps t Γ h = ap (λ s. enter s (map_scope f Γ)) (text_signature_lem t Γ h) ∙ enter_maps (text_signature t Γ) Γ

  pub schema_signature_lem : (x : Schema) (Γ : Scope) → SizedSchema x → schema_signature (map_schema f x) (map_scope f Γ) ≡ map_signature f (schema_signature x Γ)
  unfolding schema_signature map_schema SizedSchema
  schema_signature_lem (plain t) Γ h = text_signature_lem t Γ h
  schema_signature_lem (from i) Γ h = include_signature_lem i Γ h
  schema_signature_lem (both n a b) Γ h =
      ap₂ merge (schema_signature_lem b Γ h.1) (schema_signature_lem a Γ h.0) ∙ merge_maps (schema_signature b Γ) (schema_signature a Γ)

-- names with at most 4 parameters
unfoldable pub FewNamed : Named → Type 0
FewNamed unnamed = Unit {0}
FewNamed (of_local t) = Unit {0}
FewNamed (of_global p g) = p ≤ 4

unfoldable pub FewAt : Scope → Type 0
FewAt (globals D) = FewRecorded D
FewAt (local i t Γ) = FewAt Γ

few_cond : (b : Bool) (p : ℕ) (g : Ty) (m : Named) → p ≤ 4 → FewNamed m → FewNamed (cond b (of_global p g) m)
unfolding FewNamed
few_cond true p g m h k = h
few_cond false p g m h k = k

few_global : (i : ℕ) (D : Dictionary) → FewRecorded D → FewNamed (name_in i D)
unfolding name_in FewRecorded FewNamed
few_global i blank h = tt
few_global i (D ▸ name_entry j p g) h = few_cond (eqb i j) p g (name_in i D) h.1 (few_global i D h.0)
few_global i (D ▸ schema_entry s p g) h = few_global i D h

few_local : (b : Bool) (t : Term) (m : Named) → FewNamed m → FewNamed (cond b (of_local t) m)
unfolding FewNamed
few_local true t m k = tt
few_local false t m k = k

pub few_name : (i : ℕ) (Γ : Scope) → FewAt Γ → FewNamed (name_at i Γ)
unfolding name_at FewAt
few_name i (globals D) h = few_global i D h
few_name i (local j t Γ) h = few_local (eqb i j) t (name_at i Γ) (few_name i Γ h)

pub few_enter : (s : Signature) (Γ : Scope) → FewAt Γ → FewAt (enter s Γ)
unfolding enter FewAt
few_enter no_names Γ h = h
few_enter (naming i t s) Γ h = few_enter s (local i t Γ) h

pub few_inside : (t : Text) (Γ : Scope) → FewAt Γ → FewAt (inside t Γ)
unfolding inside
few_inside t Γ h = few_enter (text_signature t Γ) Γ h

pub few_parameters : (is : List ℕ) (k : ℕ) (Γ : Scope) → FewAt Γ → FewAt (with_parameters is k Γ)
unfolding with_parameters FewAt
few_parameters [] k Γ h = h
few_parameters (i ∷ is) k Γ h = few_parameters is (suc k) (local i (power_of (parameter_of k)) Γ) h
