-- Power and Product as values: what is held of the listed members.
use mathlib.Core.Path.{◌≡◌, refl, sym, ap, ◌∙◌}
use mathlib.Core.Bool.{true}
use mathlib.Core.Logic.{◌⊎◌, inl, inr}
use mathlib.Core.List.{List, []}
use Prim.Native.Nat.{ℕ}
use native.Mathlib.Omega.{arith}
use lib.ListN.{get_or}
use Rattle.values.specs.Value.{Value, set, tuple, Values, nil, cons, encode}
use Rattle.values.specs.Held.{keep as words}
use Rattle.values.specs.declared.held.Held.{Held}
use Rattle.enumeration_rules.specs.Enumeration.{each, subsets, tuples}
use Rattle.enumeration_rules.specs.OnWords.{grow}
use Rattle.enumeration_rules.proofs.OnWords.{grown_product}
use Rattle.enumeration_rules.proofs.Rows.{All, none, also, Members, nobody, member}
use Rattle.enumeration_rules.proofs.Kept.{power_each, product_each}
use Rattle.evaluator_rules.specs.Outcomes.{Outcome, ◌>>=◌, pure, stop, keep}
use Rattle.evaluator_rules.specs.Operations.{as_set, as_sets}
use Rattle.evaluator_rules.specs.Listing.{NoSet, SomeNoSet, AllSets, no_sets, one_set, gives, stops}
use Rattle.evaluator_rules.proofs.Comes.{Comes, finished, ceased, some_no_set, all_sets}
use Rattle.std.proofs.Common.{Result, Err, Option, Some, None}
use Rattle.reader_rules.specs.declared.Refusal.{Refusal}
use Rattle.evaluator_operations.specs.Steps.{power_of, product_of}
use Rattle.evaluator_operations.specs.Worked.{narrow, all_narrow, Holds, Told, no_parts, Crosses, a_set, Crossed, Stops}
use Rattle.evaluator_operations.proofs.ToldLaws.{at_stop, at_pure}
use Rattle.evaluator_operations.proofs.OperationLaws.{tag_none, narrow_head, narrow_tail, narrow_cons}

-- ---- the integers of the listed members are of 32 bits
narrow_members : (vs : Values) → all_narrow vs ≡ true → Members (λ v. narrow v ≡ true) vs
narrow_members nil h = nobody
narrow_members (cons v vs) h = member (narrow_head v vs h) (narrow_members vs (narrow_tail v vs h))

members_narrow : {vs : Values} → Members (λ v. narrow v ≡ true) vs → all_narrow vs ≡ true
unfolding narrow
members_narrow nobody = refl
members_narrow (member {v} {vs} h hs) = narrow_cons v vs h (members_narrow hs)

power_narrow : (vs : Values) → narrow (set vs) ≡ true → narrow (set (subsets vs)) ≡ true
unfolding narrow
power_narrow vs h = members_narrow (power_each {P = λ r. all_narrow r ≡ true} refl (λ v r p q. narrow_cons v r p q) (λ r p. p) (narrow_members vs h))

sets_narrow : {vs : Values} {vss : List Values} → AllSets vs vss → all_narrow vs ≡ true → All (Members (λ v. narrow v ≡ true)) vss
unfolding narrow
sets_narrow no_sets h = none
sets_narrow (one_set {ws = ws} {vs = vs} s) h = also (narrow_members ws (narrow_head (set ws) vs h)) (sets_narrow s (narrow_tail (set ws) vs h))

product_narrow : {vs : Values} {vss : List Values} → AllSets vs vss → all_narrow vs ≡ true → narrow (set (tuples vss)) ≡ true
unfolding narrow
product_narrow s h = members_narrow (product_each {P = λ r. all_narrow r ≡ true} refl (λ v r p q. narrow_cons v r p q) (λ r p. p) (sets_narrow s h))

-- ---- Power
pub power_told : (k : ℕ) (vs : Values) {r : Result Held Refusal} → narrow (set vs) ≡ true → (narrow (set (subsets vs)) ≡ true → Told Holds r (keep k (set (subsets vs)))) → Told Holds r (power_of k (set vs))
unfolding power_of as_set
power_told k vs h t = at_pure _ _ (t (power_narrow vs h))

pub power_misfit : (k : ℕ) (x : Value) {f : Refusal} → (get_or (encode x) 0 0 ≡ 3 → ⊥) → Stops f 51 k → Told Holds (Err f) (power_of k x)
unfolding power_of
power_misfit k x e s = rw (tag_none k x e) (at_stop _ s (λ z. omega arith))

-- ---- Product
pub some_not_none : {A : Type 0} {a : A} → Some a ≡ None → ⊥
some_not_none e = cc

-- one operand more
pub set_crosses : {rs : List Values} {o : Option Held} (g h : Held) (vs : Values) → o ≡ Some g → h ≡ words (encode (set (each tuple (grow rs vs)))) → Crosses rs o (Some h) (set vs)
set_crosses g h vs e q = a_set (λ n. absurd (some_not_none (sym e ∙ n))) (λ n. absurd (some_not_none n)) (record { words = λ f k. let i : h ≡ f = cc k in sym i ∙ q })

pub no_set_tag : (x : Value) → (get_or (encode x) 0 0 ≡ 3 → ⊥) → NoSet x
unfolding encode
no_set_tag x e vs q = e (ap (λ (v : Value). get_or (encode v) 0 0) q)

come_stops : {A : Type 0} {o : Outcome A} {w m : ℕ} → Comes o [] (stops w m) → o ≡ stop w m
come_stops ceased = refl

come_gives : {A : Type 0} {o : Outcome A} {a : A} → Comes o [] (gives a) → o ≡ pure a
come_gives finished = refl

pub product_misfit : (k : ℕ) (vs : Values) {h : Held} {f : Refusal} → Crossed (Some h) no_parts None vs → Stops f 51 k → Told Holds (Err f) (product_of k vs)
unfolding product_of
product_misfit k vs {h = h} {f = f} c s = go (c.some refl)
  where
    go : (Some h ≡ None) ⊎ SomeNoSet vs → Told Holds (Err f) (as_sets k vs >>= λ vss. keep k (set (tuples vss)))
    go (inl e) = absurd (some_not_none e)
    go (inr d) = rw (come_stops (some_no_set k d)) (at_stop _ s (λ z. omega arith))

pub product_told : (k : ℕ) (vs : Values) {o : Option Held} {g : Held} {r : Result Held Refusal} → Crossed o no_parts (Some g) vs →
    ((v : Value) → g ≡ words (encode v) → narrow v ≡ true → Told Holds r (keep k v)) → Told Holds r (product_of k vs)
unfolding product_of
product_told k vs {g = g} c t =
    let q = c.sets g refl in
    rw (come_gives (all_sets k q.1)) (at_pure _ _ (t (set (tuples q.0)) (q.3 ∙ ap (λ (us : Values). words (encode (set us))) (grown_product q.0)) (product_narrow q.1 c.narrow)))
