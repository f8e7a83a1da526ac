-- Well-formed scopes, and what is declared in them.
use mathlib.Core.Path.{refl}
use mathlib.Core.Bool.{Bool, true, false, cond}
use mathlib.Core.List.{List, [], ◌∷◌}
use Prim.Native.Nat.{ℕ, suc}
use lib.Dec.{eqb}
use Rattle.reader_rules.specs.Tree.{Text, text, Lines, end, declaration, inclusion, Include, include, Schema, plain, from, both, exprs_length}
use Rattle.types_rules.specs.Types.{Terms}
use Rattle.types_rules.specs.Instance.{instance}
use Rattle.types_rules.specs.Formed.{Formed, Formeds, Arity, WellFormed}
use Rattle.checker_rules.specs.Unknowns.{unknown_at, row, power_of, parameter_of}
use Rattle.checker_rules.specs.Dictionary.{name_entry, schema_entry, Dictionary, blank, ◌▸◌, Named, unnamed, of_local, of_global, name_in, NamedSchema, no_schema}
use Rattle.checker_rules.specs.Dictionary.{a_schema, schema_in}
use Rattle.checker_rules.specs.Signatures.{Signature, no_names, naming, names_of, components_of, merge, declare, stroke_all}
use Rattle.checker_rules.specs.Scopes.{Scope, globals, local, name_at, schema_named, with_parameters, enter, brought, include_signature, lines_signature}
use Rattle.checker_rules.specs.Scopes.{text_signature, inside, schema_signature}
use Rattle.checker_rules.specs.WellFormed.{FormedDictionary}
use Rattle.checker_rules.proofs.FormedInstances.{instance_formed, row_formed}
use Rattle.checker_rules.proofs.SignatureTerms.{merge_having, stroke_having, rename_having}
use Rattle.checker_rules.proofs.FormedSignatures.{FormedTerms, declare_formed, components_formed, Rising}
use Rattle.checker_rules.proofs.FormedSignatures.{merge_rising, declare_rising, rename_rising}

unfoldable pub FormedScope : Scope → Type 0
FormedScope (globals D) = FormedDictionary D
FormedScope (local i t Γ) = Formed Arity t × FormedScope Γ

unfoldable pub FormedNamed : Named → Type 0
FormedNamed unnamed = Unit {0}
FormedNamed (of_local t) = Formed Arity t
FormedNamed (of_global p g) = WellFormed g

unfoldable pub FormedFound : NamedSchema → Type 0
FormedFound no_schema = Unit {0}
FormedFound (a_schema p g) = WellFormed g

-- Lookups.
pub cond_named : (b : Bool) (a m : Named) → FormedNamed a → FormedNamed m → FormedNamed (cond b a m)
cond_named true a m h k = h
cond_named false a m h k = k

pub name_in_formed : (i : ℕ) (D : Dictionary) → FormedDictionary D → FormedNamed (name_in i D)
unfolding name_in FormedDictionary FormedNamed
name_in_formed i blank h = tt
name_in_formed i (D ▸ name_entry j p g) h = cond_named (eqb i j) (of_global p g) (name_in i D) h.1 (name_in_formed i D h.0)
name_in_formed i (D ▸ schema_entry s p g) h = name_in_formed i D h.0

pub name_at_formed : (i : ℕ) (Γ : Scope) → FormedScope Γ → FormedNamed (name_at i Γ)
unfolding name_at FormedScope FormedNamed
name_at_formed i (globals D) h = name_in_formed i D h
name_at_formed i (local j t Γ) h = cond_named (eqb i j) (of_local t) (name_at i Γ) h.0 (name_at_formed i Γ h.1)

pub cond_found : (b : Bool) (a m : NamedSchema) → FormedFound a → FormedFound m → FormedFound (cond b a m)
cond_found true a m h k = h
cond_found false a m h k = k

pub schema_in_formed : (s : ℕ) (D : Dictionary) → FormedDictionary D → FormedFound (schema_in s D)
unfolding schema_in FormedDictionary FormedFound
schema_in_formed s blank h = tt
schema_in_formed s (D ▸ name_entry j p g) h = schema_in_formed s D h.0
schema_in_formed s (D ▸ schema_entry r p g) h = cond_found (eqb s r) (a_schema p g) (schema_in s D) h.1 (schema_in_formed s D h.0)

pub schema_named_formed : (s : ℕ) (Γ : Scope) → FormedScope Γ → FormedFound (schema_named s Γ)
unfolding schema_named FormedScope
schema_named_formed s (globals D) h = schema_in_formed s D h
schema_named_formed s (local j t Γ) h = schema_named_formed s Γ h.1

pub brought_formed : (f : NamedSchema) (r : Terms) (k : ℕ) (rs : List (ℕ × ℕ)) → FormedFound f → Formeds Arity r → FormedTerms (brought f r k rs)
unfolding brought FormedFound
brought_formed no_schema r k rs h hr = tt
brought_formed (a_schema p g) r k rs h hr = rename_having (Formed Arity) rs (stroke_all k (components_of (instance r g))) (stroke_having (Formed Arity) k (components_of (instance r g)) (components_formed (instance r g) (instance_formed r g hr h)))

pub included_formed : (i : Include) (Γ : Scope) → FormedScope Γ → FormedTerms (include_signature i Γ)
unfolding include_signature
included_formed (include n s k xs rs) Γ h = brought_formed (schema_named s Γ) (row n 1 (exprs_length xs)) k rs (schema_named_formed s Γ h) (row_formed n 1 (exprs_length xs))

pub lines_formed : (ls : Lines) (Γ : Scope) (r : Signature) → FormedScope Γ → FormedTerms r → FormedTerms (lines_signature ls Γ r)
unfolding lines_signature
lines_formed end Γ r h k = k
lines_formed (declaration n e xs ls) Γ r h k = lines_formed ls Γ (declare xs (unknown_at n 0) r) h (declare_formed xs n r k)
lines_formed (inclusion i ls) Γ r h k = lines_formed ls Γ (merge (include_signature i Γ) r) h (merge_having (Formed Arity) (include_signature i Γ) r (included_formed i Γ h) k)

pub text_formed : (t : Text) (Γ : Scope) → FormedScope Γ → FormedTerms (text_signature t Γ)
unfolding text_signature
text_formed (text n p ls) Γ h = lines_formed ls Γ no_names h tt

pub schema_formed : (x : Schema) (Γ : Scope) → FormedScope Γ → FormedTerms (schema_signature x Γ)
unfolding schema_signature
schema_formed (plain t) Γ h = text_formed t Γ h
schema_formed (from i) Γ h = included_formed i Γ h
schema_formed (both n a b) Γ h = merge_having (Formed Arity) (schema_signature b Γ) (schema_signature a Γ) (schema_formed b Γ h) (schema_formed a Γ h)

pub enter_formed : (s : Signature) (Γ : Scope) → FormedTerms s → FormedScope Γ → FormedScope (enter s Γ)
unfolding enter FormedScope
enter_formed no_names Γ h k = k
enter_formed (naming i t s) Γ h k = enter_formed s (local i t Γ) h.1 (h.0, k)

pub inside_formed : (t : Text) (Γ : Scope) → FormedScope Γ → FormedScope (inside t Γ)
unfolding inside
inside_formed t Γ h = enter_formed (text_signature t Γ) Γ (text_formed t Γ h) h

pub parameters_formed : (xs : List ℕ) (k : ℕ) (Γ : Scope) → FormedScope Γ → FormedScope (with_parameters xs k Γ)
unfolding with_parameters FormedScope Formed Arity
parameters_formed [] k Γ h = h
parameters_formed (i ∷ xs) k Γ h = parameters_formed xs (suc k) (local i (power_of (parameter_of k)) Γ) ((refl, ((refl, tt), tt)), h)

-- Identifiers ascending.
pub included_rising : (i : Include) (Γ : Scope) → Rising (include_signature i Γ)
unfolding include_signature
included_rising (include n s k xs rs) Γ = go (schema_named s Γ)
  where
    go : (f : NamedSchema) → Rising (brought f (row n 1 (exprs_length xs)) k rs)
    go no_schema = unfold brought names_of in tt
    go (a_schema p g) = unfold brought in rename_rising rs (stroke_all k (components_of (instance (row n 1 (exprs_length xs)) g)))

pub lines_rising : (ls : Lines) (Γ : Scope) (r : Signature) → Rising r → Rising (lines_signature ls Γ r)
unfolding lines_signature
lines_rising end Γ r h = h
lines_rising (declaration n a is ls) Γ r h = lines_rising ls Γ (declare is (unknown_at n 0) r) (declare_rising is (unknown_at n 0) r h)
lines_rising (inclusion i ls) Γ r h = lines_rising ls Γ (merge (include_signature i Γ) r) (merge_rising (include_signature i Γ) r h)

pub text_rising : (t : Text) (Γ : Scope) → Rising (text_signature t Γ)
unfolding text_signature names_of
text_rising (text n p ls) Γ = lines_rising ls Γ no_names tt

pub schema_rising : (x : Schema) (Γ : Scope) → Rising (schema_signature x Γ)
unfolding schema_signature
schema_rising (plain t) Γ = text_rising t Γ
schema_rising (from i) Γ = included_rising i Γ
schema_rising (both n a b) Γ = merge_rising (schema_signature b Γ) (schema_signature a Γ) (schema_rising a Γ)
