-- The unknowns of signatures, instances and scopes are those of the nodes that they are of: what N has of these, it has of all.
use mathlib.Core.Bool.{Bool, true, false, cond}
use mathlib.Core.List.{List, [], ◌∷◌, ◌++◌}
use Prim.Native.Nat.{ℕ, zero, suc, ◌+◌, ◌≤◌}
use native.Mathlib.Omega.{arith}
use lib.Dec.{eqb}
use Rattle.reader_rules.specs.Tree.{Expr}
use Rattle.reader_rules.specs.Tree.{Exprs, more, Pred, Text, text, Lines}
use Rattle.reader_rules.specs.Tree.{end, declaration, inclusion, Include, include, Schema, plain, from, both, exprs_length}
use Rattle.reader_rules.specs.TreeNumbers.{expr_numbers, exprs_numbers, pred_numbers, text_numbers, lines_numbers, include_numbers, schema_numbers}
use Rattle.types_rules.specs.Former.{Former, int, given as givenFormer, parameter, power as powerFormer, product as productFormer, binding, identifiers}
use Rattle.types_rules.specs.Types.{Ty, node, Tys, tnil, tcons, Term, unknown, con, Terms, nil, cons, Each, Eachs}
use Rattle.types_rules.specs.Instance.{nth, actual, instance_former, instance, instances}
use Rattle.checker_rules.specs.Unknowns.{slot, unknown_at, row}
use Rattle.checker_rules.specs.Dictionary.{name_entry, schema_entry, Dictionary, blank, ◌▸◌, Named, unnamed, of_local, of_global, name_in, NamedSchema, no_schema, a_schema}
use Rattle.checker_rules.specs.Signatures.{Signature, no_names, naming, terms_of, binding_of, with_names, components_of}
use Rattle.checker_rules.specs.Signatures.{merge, declare}
use Rattle.checker_rules.specs.Scopes.{Scope, globals, local, name_at, schema_named, with_parameters, enter, brought, include_signature}
use Rattle.checker_rules.specs.Scopes.{lines_signature, text_signature, inside, schema_signature}
use Rattle.checker_rules.specs.Conditions.{fresh_row}
use Rattle.checker_rules.proofs.SignatureTerms.{Having, merge_having, declare_having, stroke_having, rename_having}
use Rattle.checker_rules.proofs.ItemUnknowns.{Over}
use Rattle.reader_rules.proofs.Sized.{SizedText, SizedLines, SizedInclude, SizedSchema}

-- M of each number of the list
abbrev pub AllIn : (ℕ → Type 0) → List ℕ → Type 0
AllIn M [] = Unit {0}
AllIn M (x ∷ l) = M x × AllIn M l

pub all_left : (M : ℕ → Type 0) (a b : List ℕ) → AllIn M (a ++ b) → AllIn M a
all_left M [] b h = tt
all_left M (x ∷ a) b h = (h.0, all_left M a b h.1)

pub all_right : (M : ℕ → Type 0) (a b : List ℕ) → AllIn M (a ++ b) → AllIn M b
all_right M [] b h = h
all_right M (x ∷ a) b h = all_right M a b h.1

-- recorded names have at most 4 parameters
unfoldable pub FewRecorded : Dictionary → Type 0
FewRecorded blank = Unit {0}
FewRecorded (D ▸ name_entry i p g) = FewRecorded D × (p ≤ 4)
FewRecorded (D ▸ schema_entry s p g) = FewRecorded D

-- unknown k of a node for one actual, k + 1 and so on for those after it
pub longer : (k : ℕ) (a : Expr) (xs : Exprs) → k + exprs_length (more a xs) ≤ 7 → (k ≤ 6) × (suc k + exprs_length xs ≤ 7)
unfolding exprs_length
longer k a xs l = (omega (arith, l), omega (arith, l))

module _ (N : ℕ → Type 0) where
  -- N of the unknowns of node m
  abbrev pub Own : ℕ → Type 0
  Own m = (k : ℕ) → k ≤ 6 → N (slot m k)

  unfoldable pub ScopeOver : Scope → Type 0
  ScopeOver (globals D) = FewRecorded D
  ScopeOver (local i t Γ) = Each N t × ScopeOver Γ

  unfoldable pub NamedOver : Named → Type 0
  NamedOver unnamed = Unit {0}
  NamedOver (of_local t) = Each N t
  NamedOver (of_global p g) = p ≤ 4

  abbrev pub SigOver : Signature → Type 0
  SigOver s = Having (Each N) s

  either_named : (b : Bool) (m n : Named) → NamedOver m → NamedOver n → NamedOver (cond b m n)
  either_named true m n h k = h
  either_named false m n h k = k

  name_in_over : (i : ℕ) (D : Dictionary) → FewRecorded D → NamedOver (name_in i D)
  unfolding name_in FewRecorded NamedOver
  name_in_over i blank h = tt
  name_in_over i (D ▸ name_entry j p g) h = either_named (eqb i j) (of_global p g) (name_in i D) h.1 (name_in_over i D h.0)
  name_in_over i (D ▸ schema_entry s p g) h = name_in_over i D h

  pub name_over : (i : ℕ) (Γ : Scope) → ScopeOver Γ → NamedOver (name_at i Γ)
  unfolding name_at ScopeOver NamedOver
  name_over i (globals D) h = name_in_over i D h
  name_over i (local j t Γ) h = either_named (eqb i j) (of_local t) (name_at i Γ) h.0 (name_over i Γ h.1)

  -- ---- signatures
  with_names_over : (is : List ℕ) (ts : Terms) → Eachs N ts → SigOver (with_names is ts)
  unfolding with_names Each
  with_names_over [] ts h = tt
  with_names_over (i ∷ is) nil h = tt
  with_names_over (i ∷ is) (cons t ts) h = (h.0, with_names_over is ts h.1)

  components_over : (t : Term) → Each N t → SigOver (components_of t)
  unfolding components_of Each
  components_over (unknown x) h = tt
  components_over (con f ts) h = with_names_over (identifiers f) ts h

  terms_over : (s : Signature) → SigOver s → Eachs N (terms_of s)
  unfolding terms_of Each
  terms_over no_names h = tt
  terms_over (naming i t s) h = (h.0, terms_over s h.1)

  pub binding_over : (s : Signature) → SigOver s → Each N (binding_of s)
  unfolding binding_of Each
  binding_over s h = terms_over s h

  -- ---- instances
  actual_over : (ts : Terms) (i j : ℕ) (us : Terms) → Eachs N ts → Eachs N us → Each N (actual (nth ts i) j us)
  unfolding nth actual Each
  actual_over nil i j us h k = k
  actual_over (cons t ts) zero j us h k = k
  actual_over (cons t ts) (suc zero) j us h k = h.0
  actual_over (cons t ts) (suc (suc i)) j us h k = actual_over ts (suc i) j us h.1 k

  former_over : (f : Former) (ts us : Terms) → Eachs N ts → Eachs N us → Each N (instance_former f ts us)
  unfolding instance_former Each
  former_over int ts us h k = k
  former_over (givenFormer g) ts us h k = k
  former_over (parameter i) ts us h k = actual_over ts i i us h k
  former_over powerFormer ts us h k = k
  former_over productFormer ts us h k = k
  former_over (binding l) ts us h k = k

  mutual
    unfolding instance Each

    pub instance_over : (ts : Terms) (g : Ty) → Eachs N ts → Each N (instance ts g)
    instance_over ts (node f gs) h = former_over f ts (instances ts gs) h (instances_over ts gs h)

    instances_over : (ts : Terms) (gs : Tys) → Eachs N ts → Eachs N (instances ts gs)
    instances_over ts tnil h = tt
    instances_over ts (tcons g gs) h = (instance_over ts g h, instances_over ts gs h)

  pub nil_over : Eachs N nil
  unfolding Each
  nil_over = tt

  pub row_over : (n k p : ℕ) → Own n → k + p ≤ 7 → Eachs N (row n k p)
  unfolding row Each
  row_over n k zero o l = tt
  row_over n k (suc p) o l = (o k (omega arith), row_over n (suc k) p o (omega arith))

  pub fresh_over : (n k p : ℕ) → Own n → k + p ≤ 7 → Over N (fresh_row n k p)
  unfolding fresh_row Over
  fresh_over n k zero o l = tt
  fresh_over n k (suc p) o l = (o k (omega arith), fresh_over n (suc k) p o (omega arith))

  -- ---- scopes
  enter_over : (s : Signature) (Γ : Scope) → SigOver s → ScopeOver Γ → ScopeOver (enter s Γ)
  unfolding enter ScopeOver
  enter_over no_names Γ h k = k
  enter_over (naming i t s) Γ h k = enter_over s (local i t Γ) h.1 (h.0, k)

  pub parameters_over : (is : List ℕ) (k : ℕ) (Γ : Scope) → ScopeOver Γ → ScopeOver (with_parameters is k Γ)
  unfolding with_parameters ScopeOver Each
  parameters_over [] k Γ h = h
  parameters_over (i ∷ is) k Γ h = parameters_over is (suc k) _ ((tt, tt), h)

  brought_over : (f : NamedSchema) (ts : Terms) (k : ℕ) (rs : List (ℕ × ℕ)) → Eachs N ts → SigOver (brought f ts k rs)
  unfolding brought
  brought_over no_schema ts k rs h = tt
  brought_over (a_schema p g) ts k rs h = rename_having (Each N) rs _ (stroke_having (Each N) k _ (components_over (instance ts g) (instance_over ts g h)))

  pub included_over : (i : Include) (Γ : Scope) → AllIn Own (include_numbers i) → SizedInclude i → SigOver (include_signature i Γ)
  unfolding include_signature include_numbers SizedInclude
  included_over (include n s k xs rs) Γ h f = brought_over (schema_named s Γ) (row n 1 (exprs_length xs)) k rs (row_over n 1 (exprs_length xs) (all_right Own (exprs_numbers xs) (n ∷ []) h).0 (omega (arith, f.0)))

  lines_sig_over : (ls : Lines) (Γ : Scope) (r : Signature) → AllIn Own (lines_numbers ls) → SizedLines ls → SigOver r → SigOver (lines_signature ls Γ r)
  unfolding lines_signature lines_numbers SizedLines Each
  lines_sig_over end Γ r h f k = k
  lines_sig_over (declaration n a is ls) Γ r h f k =
      let own = (all_right Own (expr_numbers a) (n ∷ []) (all_left Own (expr_numbers a ++ (n ∷ [])) (lines_numbers ls) h)).0 in
      lines_sig_over ls Γ (declare is (unknown_at n 0) r) (all_right Own (expr_numbers a ++ (n ∷ [])) (lines_numbers ls) h) f.1 (declare_having (Each N) is (unknown_at n 0) r (own 0 (omega arith)) k)
  lines_sig_over (inclusion i ls) Γ r h f k =
      lines_sig_over ls Γ (merge (include_signature i Γ) r) (all_right Own (include_numbers i) (lines_numbers ls) h) f.1
      (merge_having (Each N) (include_signature i Γ) r (included_over i Γ (all_left Own (include_numbers i) (lines_numbers ls) h) f.0) k)

  pub lines_inside : (n : ℕ) (p : Pred) (ls : Lines) (Γ : Scope) → AllIn Own (lines_numbers ls) → SizedLines ls → ScopeOver Γ → ScopeOver (inside (text n p ls) Γ)
  unfolding inside text_signature
  lines_inside n p ls Γ h f k = enter_over (lines_signature ls Γ no_names) Γ (lines_sig_over ls Γ no_names h f tt) k

  pub inside_over : (t : Text) (Γ : Scope) → AllIn Own (text_numbers t) → SizedText t → ScopeOver Γ → ScopeOver (inside t Γ)
  unfolding text_numbers SizedText
  inside_over (text n p ls) Γ h f k =
      lines_inside n p ls Γ (all_right Own (pred_numbers p) (lines_numbers ls) (all_left Own (pred_numbers p ++ lines_numbers ls) (n ∷ []) h)) f.1 k

  text_sig_over : (t : Text) (Γ : Scope) → AllIn Own (text_numbers t) → SizedText t → SigOver (text_signature t Γ)
  unfolding text_signature text_numbers SizedText
  text_sig_over (text n p ls) Γ h f = lines_sig_over ls Γ no_names (all_right Own (pred_numbers p) (lines_numbers ls) (all_left Own (pred_numbers p ++ lines_numbers ls) (n ∷ []) h)) f.1 tt

  pub schema_sig_over : (x : Schema) (Γ : Scope) → AllIn Own (schema_numbers x) → SizedSchema x → SigOver (schema_signature x Γ)
  unfolding schema_signature schema_numbers SizedSchema
  schema_sig_over (plain t) Γ h f = text_sig_over t Γ h f
  schema_sig_over (from i) Γ h f = included_over i Γ h f
  schema_sig_over (both n a b) Γ h f =
      let z = all_left Own (schema_numbers a ++ schema_numbers b) (n ∷ []) h in
      merge_having (Each N) (schema_signature b Γ) (schema_signature a Γ) (schema_sig_over b Γ (all_right Own (schema_numbers a) (schema_numbers b) z) f.1) (schema_sig_over a Γ (all_left Own (schema_numbers a) (schema_numbers b) z) f.0)
