-- An Include brings no more identifiers than its schema's binding has components, and those are few in a dictionary within the limits.
use mathlib.Core.Path.{◌≡◌, refl, ap}
use mathlib.Core.Bool.{Bool, true, false, cond}
use mathlib.Core.List.{List, [], ◌∷◌}
use mathlib.Core.Option.{Option, some, none}
use Prim.Native.Nat.{ℕ, zero, suc, ◌≤◌}
use native.Mathlib.Omega.{arith}
use lib.Dec.{ltb, eqb}
use Rattle.reader_rules.specs.Tree.{Include, include, exprs_length}
use Rattle.types_rules.specs.Former.{Former, int, given, parameter, power, product, binding, identifiers}
use Rattle.types_rules.specs.Types.{Ty, node, Term, Terms, unknown, con, nil, cons}
use Rattle.types_rules.specs.Formed.{part_count}
use Rattle.types_rules.specs.Instance.{nth, actual, instance_former, instance, instances}
use Rattle.checker_rules.specs.Unknowns.{row}
use Rattle.checker_rules.specs.Dictionary.{Dictionary, blank, ◌▸◌, name_entry, schema_entry, NamedSchema, no_schema, a_schema, schema_in}
use Rattle.checker_rules.specs.Signatures.{Signature, no_names, naming, count_names, with_names, components_of, insert_name, stroke_all, renamed, rename_all}
use Rattle.checker_rules.specs.Scopes.{Scope, globals, local, schema_named, with_parameters, brought, include_signature}
use Rattle.checker_rules.proofs.FormedInstances.{instances_count}
use Rattle.checker_lookup.specs.Scoped.{FewParts, Limited}

insert_count : (i : ℕ) (t : Term) (s : Signature) → count_names (insert_name i t s) ≤ suc (count_names s)
unfolding insert_name count_names
insert_count i t no_names = omega arith
insert_count i t (naming j u s) = go (eqb i j) (ltb i j) (insert_count i t s)
  where
    go : (a b : Bool) → count_names (insert_name i t s) ≤ suc (count_names s)
        → count_names (cond a (naming j u s) (cond b (naming i t (naming j u s)) (naming j u (insert_name i t s)))) ≤ suc (suc (count_names s))
    go true b k = omega arith
    go false true k = omega arith
    go false false k = omega arith

rename_count : (rs : List (ℕ × ℕ)) (s : Signature) → count_names (rename_all rs s) ≤ count_names s
unfolding rename_all count_names
rename_count rs no_names = omega arith
rename_count rs (naming i t s) = omega (arith, insert_count (renamed rs i) t (rename_all rs s), rename_count rs s)

stroke_count : (k : ℕ) (s : Signature) → count_names (stroke_all k s) ≡ count_names s
unfolding stroke_all count_names
stroke_count k no_names = refl
stroke_count k (naming i t s) = ap suc (stroke_count k s)

with_count : (is : List ℕ) (ts : Terms) → count_names (with_names is ts) ≤ part_count ts
unfolding with_names count_names
with_count [] ts = omega arith
with_count (i ∷ is) nil = omega arith
with_count (i ∷ is) (cons t ts) = omega (arith, with_count is ts)

-- An Include's actuals are unknowns.
unfoldable Open : Option Term → Type 0
Open none = Unit {0}
Open (some (unknown x)) = Unit {0}
Open (some (con h ts)) = ⊥

nth_open : (p n k i : ℕ) → Open (nth (row n k p) i)
unfolding nth row Open
nth_open zero n k i = tt
nth_open (suc p) n k zero = tt
nth_open (suc p) n k (suc zero) = tt
nth_open (suc p) n k (suc (suc i)) = nth_open p n (suc k) (suc i)

con_few : (h : Former) (ts : Terms) → part_count ts ≤ 16 → count_names (components_of (con h ts)) ≤ 16
unfolding components_of
con_few h ts l = omega (arith, with_count (identifiers h) ts)

actual_few : (o : Option Term) (i : ℕ) (ts : Terms) → Open o → part_count ts ≤ 16 → count_names (components_of (actual o i ts)) ≤ 16
unfolding actual Open components_of count_names
actual_few none i ts u l = con_few (parameter i) ts l
actual_few (some (unknown x)) i ts u l = omega arith
actual_few (some (con h us)) i ts u l = absurd u

former_few : (h : Former) (n k p : ℕ) (ts : Terms) → part_count ts ≤ 16 → count_names (components_of (instance_former h (row n k p) ts)) ≤ 16
unfolding instance_former
former_few int n k p ts l = con_few int ts l
former_few (given g) n k p ts l = con_few (given g) ts l
former_few (parameter i) n k p ts l = actual_few (nth (row n k p) i) i ts (nth_open p n k i) l
former_few power n k p ts l = con_few power ts l
former_few product n k p ts l = con_few product ts l
former_few (binding is) n k p ts l = con_few (binding is) ts l

instance_few : (g : Ty) (n k p : ℕ) → FewParts g → count_names (components_of (instance (row n k p) g)) ≤ 16
unfolding instance
instance_few (node h gs) n k p l = let e = instances_count (row n k p) gs in former_few h n k p (instances (row n k p) gs) (omega arith)

-- The schemas that are found have few components.
unfoldable pub FewFound : NamedSchema → Type 0
FewFound no_schema = Unit {0}
FewFound (a_schema p g) = FewParts g

brought_few : (f : NamedSchema) (n m p k : ℕ) (rs : List (ℕ × ℕ)) → FewFound f → count_names (brought f (row n m p) k rs) ≤ 16
unfolding brought FewFound count_names
brought_few no_schema n m p k rs h = omega arith
brought_few (a_schema q g) n m p k rs h =
    let s = components_of (instance (row n m p) g) in
    omega (arith, rename_count rs (stroke_all k s), stroke_count k s, instance_few g n m p h)

abbrev pub FewSchemas : Scope → Type 0
FewSchemas Γ = (s : ℕ) → FewFound (schema_named s Γ)

pub include_few : (i : Include) (Γ : Scope) → FewSchemas Γ → count_names (include_signature i Γ) ≤ 16
unfolding include_signature
include_few (include n s k xs rs) Γ h = brought_few (schema_named s Γ) n 1 (exprs_length xs) k rs (h s)

schema_in_few : (D : Dictionary) (s : ℕ) → Limited D → FewFound (schema_in s D)
unfolding schema_in Limited FewFound
schema_in_few blank s l = tt
schema_in_few (D ▸ name_entry i p g) s l = schema_in_few D s l.0
schema_in_few (D ▸ schema_entry r p g) s l = go (eqb s r) (schema_in_few D s l.0)
  where
    go : (b : Bool) → FewFound (schema_in s D) → FewFound (cond b (a_schema p g) (schema_in s D))
    go true h = l.1.0
    go false h = h

pub globals_few : (D : Dictionary) → Limited D → FewSchemas (globals D)
unfolding schema_named
globals_few D l s = schema_in_few D s l

pub parameters_few : (is : List ℕ) (k : ℕ) (Γ : Scope) → FewSchemas Γ → FewSchemas (with_parameters is k Γ)
unfolding schema_named with_parameters
parameters_few [] k Γ h = h
parameters_few (i ∷ is) k Γ h = parameters_few is (suc k) (local i _ Γ) h
