-- 42's test on type words says what document 01 says of values and types.
use mathlib.Core.Path.{◌≡◌, refl, ap, sym, subst, ◌∙◌}
use mathlib.Core.Bool.{Bool, true, false, ◌&&◌, false≢true}
use mathlib.Core.List.{List, [], ◌++◌, append_assoc, append-nil}
use mathlib.Core.Logic.{◌↔◌}
use Prim.Native.Nat.{ℕ, suc, ◌+◌, ◌≤◌}
use native.Mathlib.Omega.{arith}
use lib.Dec.{eqb}
use lib.ListN.{drop}
use lib.Seq.{drop-append_seam}
use borrow.Author.Tests.{eqb-true, eq-eqb}
use Rattle.words.proofs.Loops.{and_left, and_right}
use Rattle.types_rules.specs.Former.{int, given, parameter, power, product, binding, tag, identifiers}
use Rattle.types_rules.specs.Types.{Ty, Tys, node, tnil, tcons, size, sizes}
use Rattle.types_rules.specs.Formed.{part_count_type, FormedType, FormedTypes, Arity, WellFormed}
use Rattle.types_rules.specs.Words.{second, words, part_words}
use Rattle.values.specs.Value.{Value, element, set, tuple, Values, nil, cons, count}
use Rattle.values.specs.Value as Value
use Rattle.values.specs.Typed.{type_step, is_of, are_of}
use Rattle.fitter_rules.specs.HasType.{Has, is_integer, is_element, is_set, is_tuple, MembersHave, no_member, a_member, PartsHave, no_part, a_part}
use Rattle.fitter_rules.proofs.TypeLengths.{type_reaches}

no : {A : Type 0} → false ≡ true → A
no e = absurd (false≢true e)

-- after a part's type words
step_over : (g : Ty) → WellFormed g → size g ≤ 32 → (r : List ℕ) → drop (type_step true (words g ++ r)) (words g ++ r) ≡ r
unfolding type_step
step_over g w l r = ap (λ (n : ℕ). drop n (words g ++ r)) (type_reaches 32 g w l r) ∙ drop-append_seam (words g) r

mutual
  unfolding is_of words tag second identifiers FormedType size Arity type_step count

  pub of_has : (v : Value) (g : Ty) → WellFormed g → size g ≤ 32 → (r : List ℕ) → is_of v (words g ++ r) ≡ true → Has v g
  of_has (Value.int z) (node int tnil) w l r e = is_integer z
  of_has (Value.int z) (node int (tcons g gs)) w l r e = absurd (let a = w.0 in omega arith)
  of_has (Value.int z) (node (given x) gs) w l r e = no e
  of_has (Value.int z) (node (parameter x) gs) w l r e = no e
  of_has (Value.int z) (node power gs) w l r e = no e
  of_has (Value.int z) (node product gs) w l r e = no e
  of_has (Value.int z) (node (binding is) gs) w l r e = no e
  of_has (element g k) (node int gs) w l r e = no e
  of_has (element g k) (node (given x) tnil) w l r e = subst (λ (y : ℕ). Has (element g k) (node (given y) tnil)) (sym (eqb-true x g e)) (is_element g k)
  of_has (element g k) (node (given x) (tcons t gs)) w l r e = absurd (let a = w.0 in omega arith)
  of_has (element g k) (node (parameter x) gs) w l r e = no e
  of_has (element g k) (node power gs) w l r e = no e
  of_has (element g k) (node product gs) w l r e = no e
  of_has (element g k) (node (binding is) gs) w l r e = no e
  of_has (set vs) (node int gs) w l r e = no e
  of_has (set vs) (node (given x) gs) w l r e = no e
  of_has (set vs) (node (parameter x) gs) w l r e = no e
  of_has (set vs) (node power tnil) w l r e = absurd (let a = w.0 in omega arith)
  of_has (set vs) (node power (tcons g tnil)) w l r e =
      is_set (members_have vs g w.1.0 (omega arith) r (subst (λ (ws : List ℕ). are_of vs false ws ≡ true) (append_assoc (words g) [] r) e))
  of_has (set vs) (node power (tcons g (tcons h gs))) w l r e = absurd (let a = w.0 in omega arith)
  of_has (set vs) (node product gs) w l r e = no e
  of_has (set vs) (node (binding is) gs) w l r e = no e
  of_has (tuple vs) (node int gs) w l r e = no e
  of_has (tuple vs) (node (given x) gs) w l r e = no e
  of_has (tuple vs) (node (parameter x) gs) w l r e = no e
  of_has (tuple vs) (node power gs) w l r e = no e
  of_has (tuple vs) (node product gs) w l r e =
      let n = and_left (eqb (part_count_type gs) (count vs)) _ e in
      is_tuple (parts_have vs gs (eqb-true (part_count_type gs) (count vs) n) w.1 (omega arith) r (and_right (eqb (part_count_type gs) (count vs)) _ e))
  of_has (tuple vs) (node (binding is) gs) w l r e = no e

  members_have : (vs : Values) (g : Ty) → WellFormed g → size g ≤ 32 → (r : List ℕ) → are_of vs false (words g ++ r) ≡ true → MembersHave vs g
  members_have nil g w l r e = no_member
  members_have (cons v vs) g w l r e =
      a_member (of_has v g w l r (and_left (is_of v (words g ++ r)) _ e)) (members_have vs g w l r (and_right (is_of v (words g ++ r)) _ e))

  parts_have : (vs : Values) (gs : Tys) → part_count_type gs ≡ count vs → FormedTypes Arity gs → sizes gs ≤ 32 → (r : List ℕ) → are_of vs true (part_words [] gs ++ r) ≡ true → PartsHave vs gs
  parts_have nil tnil n w l r e = no_part
  parts_have nil (tcons g gs) n w l r e = absurd (omega arith)
  parts_have (cons v vs) tnil n w l r e = absurd (omega arith)
  parts_have (cons v vs) (tcons g gs) n w l r e =
      let again : (words g ++ part_words [] gs) ++ r ≡ words g ++ (part_words [] gs ++ r) = append_assoc (words g) (part_words [] gs) r in
      let t : are_of (cons v vs) true (words g ++ (part_words [] gs ++ r)) ≡ true = subst (λ (ws : List ℕ). are_of (cons v vs) true ws ≡ true) again e in
      let rest : are_of vs true (part_words [] gs ++ r) ≡ true = subst (λ (ws : List ℕ). are_of vs true ws ≡ true) (step_over g w.0 (omega arith) (part_words [] gs ++ r)) (and_right (is_of v (words g ++ (part_words [] gs ++ r))) _ t) in
      a_part (of_has v g w.0 (omega arith) (part_words [] gs ++ r) (and_left (is_of v (words g ++ (part_words [] gs ++ r))) _ t)) (parts_have vs gs (omega arith) w.1 (omega arith) r rest)

and_both : (a b : Bool) → a ≡ true → b ≡ true → (a && b) ≡ true
and_both true b e f = f
and_both false b e f = e

parts_count : {vs : Values} {gs : Tys} → PartsHave vs gs → part_count_type gs ≡ count vs
unfolding count
parts_count no_part = refl
parts_count (a_part h hs) = ap suc (parts_count hs)

mutual
  unfolding is_of words tag second identifiers FormedType size Arity type_step count

  pub has_of : {v : Value} {g : Ty} → Has v g → WellFormed g → size g ≤ 32 → (r : List ℕ) → is_of v (words g ++ r) ≡ true
  has_of (is_integer z) w l r = refl
  has_of (is_element g k) w l r = eq-eqb g g refl
  has_of (is_set {vs} {t} h) w l r = subst (λ (ws : List ℕ). are_of vs false ws ≡ true) (sym (append_assoc (words t) [] r)) (have_members h w.1.0 (omega arith) r)
  has_of (is_tuple {vs} {ts} h) w l r = and_both (eqb (part_count_type ts) (count vs)) _ (eq-eqb (part_count_type ts) (count vs) (parts_count h)) (have_parts h w.1 (omega arith) r)

  have_members : {vs : Values} {g : Ty} → MembersHave vs g → WellFormed g → size g ≤ 32 → (r : List ℕ) → are_of vs false (words g ++ r) ≡ true
  have_members no_member w l r = refl
  have_members (a_member h hs) w l r = and_both _ _ (has_of h w l r) (have_members hs w l r)

  have_parts : {vs : Values} {gs : Tys} → PartsHave vs gs → FormedTypes Arity gs → sizes gs ≤ 32 → (r : List ℕ) → are_of vs true (part_words [] gs ++ r) ≡ true
  have_parts no_part w l r = refl
  have_parts (a_part {v} {vs} {t} {ts} h hs) w l r =
      let s = part_words [] ts ++ r in
      let rest : are_of vs true (drop (type_step true (words t ++ s)) (words t ++ s)) ≡ true = subst (λ (ws : List ℕ). are_of vs true ws ≡ true) (sym (step_over t w.0 (omega arith) s)) (have_parts hs w.1 (omega arith) r) in
      subst (λ (ws : List ℕ). are_of (cons v vs) true ws ≡ true) (sym (append_assoc (words t) (part_words [] ts) r)) (and_both _ _ (has_of h w.0 (omega arith) s) rest)

-- 42's test is document 01's sentence, for every type that a dictionary records for a state's name
pub of_type : (v : Value) (g : Ty) → WellFormed g → size g ≤ 32 → (is_of v (words g) ≡ true) ↔ Has v g
of_type v g w l =
    (λ e. of_has v g w l [] (subst (λ (ws : List ℕ). is_of v ws ≡ true) (sym (append-nil (words g))) e), λ h. subst (λ (ws : List ℕ). is_of v ws ≡ true) (append-nil (words g)) (has_of h w l []))
