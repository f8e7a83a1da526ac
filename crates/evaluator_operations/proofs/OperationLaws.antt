-- The operations on words are the operations on values.
use mathlib.Core.Path.{◌≡◌, refl, sym, ap, subst, ◌∙◌}
use mathlib.Core.Bool.{Bool, true, false, ◌&&◌, not}
use mathlib.Core.List.{[], ◌∷◌}
use Prim.Native.Nat.{ℕ, zero, suc, ◌-◌, ◌≤◌, ◌<◌}
use native.Mathlib.Omega.{arith}
use lib.Signed.{le_z}
use lib.IntN.{ℤ}
use lib.ListN.{length, get_or, take, drop}
use borrow.Author.Tests.{le-leb, lt-leb}
use mir.Syntax.{w32}
use mir.Val.{to_z, of_z}
use mir.ValLaws.{to_z-of_z}
use Rattle.values_integers.specs.Integer.{in32}
use Rattle.values.proofs.Unique.{fits32}
use Rattle.values.specs.Value.{Value, int, element, set, tuple, Values, nil, cons, encode}
use Rattle.values.specs.Held.{keep as words}
use Rattle.values.specs.Numbers.{number_of}
use Rattle.values.specs.Sets.{apply}
use Rattle.values.specs.Order.{compare}
use Rattle.std.specs.declared.cmp.Ordering.{Ordering}
use Rattle.std.specs.declared.cmp.Ordering.TheVariants.{Less, Equal, Greater}
use Rattle.values.specs.Applied.{Applied, Found, Undefined}
use Rattle.values.specs.Applied as Sets
use Rattle.values.proofs.Applying.{Shows, apply_value_lem}
use Rattle.reader_rules.specs.Tree.{plus, minus, times, quotient, remainder, and, or, implies, forall, exists}
use Rattle.reader_rules.specs.Decode.{operator_of, connective_of, quantifier_of}
use Rattle.evaluator_operations.specs.Steps.{decision_of, verdict_of, arithmetic_of, at_most_of, integer_test, image_of}
use Rattle.evaluator_rules.specs.Rules.{among_members}
use Rattle.evaluator_operations.proofs.ToldLaws.{at_stop, at_pure}
use Rattle.values.specs.SetValues.{is_in, insert_value, insert_by, Image, found, misfit, undefined, apply_value}
use Rattle.values.specs.declared.held.Held.{Held}
use Rattle.values.proofs.Holding.{held_part, held_words}
use Rattle.values.proofs.IntegerValues.{number_value}
use Rattle.words.proofs.Loops.{and_left, and_right}
use Rattle.evaluator_rules.specs.WordCount.{word_count}
use Rattle.evaluator_rules.specs.Outcomes.{◌>>=◌, pure, stop, keep_if, keep}
use Rattle.evaluator_rules.specs.Operations.{as_integer, as_set, as_tuple, add_if, add, image, find_pair, keep_integer, calculate}
use Rattle.evaluator_rules.specs.Applications.{pair, Among, here, later}
use Rattle.evaluator_rules.proofs.Images.{Finds, finds_one, finds, found_among, applied_words}
use Rattle.std.proofs.Common.{Some, None, Result, Ok, Err}
use Rattle.reader_rules.specs.declared.Refusal.{Refusal}
use Rattle.evaluator_operations.specs.Worked.{narrow, all_narrow, Holds, Is, Told, fine, ceased, Counted, Judged, Stops}

-- the words that are held
pub held_whole : (h : Held) (v : Value) → Holds h v → take h.len h.words ≡ encode v
held_whole h v g = held_part h (encode v) g.words g.short

-- a value that is complete
pub keep_told : (k : ℕ) (v : Value) {C : Type 0} {R : C → Value → Type 0} {b : C} → length (encode v) ≤ 64 → R b v → Told R (Ok b) (keep k v)
unfolding keep keep_if word_count
keep_told k v l g = rw (le-leb (length (encode v)) 64 l) (fine g)

pub keep_fine : (k : ℕ) (v : Value) {h : Held} → Holds h v → Told Holds (Ok h) (keep k v)
keep_fine k v g = keep_told k v g.short g

pub keep_over : (k : ℕ) (v : Value) {f : Refusal} → Stops f 55 k → 64 < length (encode v) → Told Holds (Err f) (keep k v)
unfolding keep keep_if word_count
keep_over k v s h = rw (lt-leb (length (encode v)) 64 h) (ceased s.number s.place (λ e. omega arith))

-- what a value is as an integer
pub integer_yes : (k : ℕ) (x : Value) → narrow x ≡ true → (z : ℤ) → Some z ≡ number_of (encode x) → as_integer k x ≡ pure z
unfolding as_integer narrow number_of encode
integer_yes k (int y) h z e = let q : y ≡ z = cc (number_value y h) in rw q
integer_yes k (element g j) h z e = let q : ◌≡◌ {A = ℕ} 0 1 = cc in absurd (omega arith)
integer_yes k (set vs) h z e = let q : ◌≡◌ {A = ℕ} 0 1 = cc in absurd (omega arith)
integer_yes k (tuple vs) h z e = let q : ◌≡◌ {A = ℕ} 0 1 = cc in absurd (omega arith)

pub integer_no : (k : ℕ) (x : Value) → None ≡ number_of (encode x) → as_integer k x ≡ stop 51 k
unfolding as_integer number_of encode
integer_no k (int y) e = let q : ◌≡◌ {A = ℕ} 0 1 = cc in absurd (omega arith)
integer_no k (element g j) e = refl
integer_no k (set vs) e = refl
integer_no k (tuple vs) e = refl

-- an integer is what it counts
pub counted_is : (z : ℤ) (v : Value) → Counted z v → Is (Some z) v
unfolding narrow number_of encode
counted_is z v c = record { integer = sym (number_value z c.narrow) ∙ ap (λ (u : Value). number_of (encode u)) (sym c.value); narrow = ap narrow c.value ∙ c.narrow }

-- an integer that a function took
pub counted_word : (z : ℤ) (v : Value) → Counted z v → Counted (to_z w32 (of_z w32 z)) v
counted_word z v c = rw (to_z-of_z w32 z (fits32 z c.narrow)) c

pub counted_kept : (k : ℕ) (i : ℤ) → in32 i ≡ true → Told Counted (Ok i) (keep k (int i))
unfolding keep keep_if word_count encode
counted_kept k i h = fine (record { value = refl; narrow = h })

-- the tag of a value's words says its sort
pub tag_set : (k : ℕ) (x : Value) → get_or (encode x) 0 0 ≡ 3 → (vs : Values) × (x ≡ set vs)
unfolding encode
tag_set k (int y) e = absurd (omega arith)
tag_set k (element g j) e = absurd (omega arith)
tag_set k (set vs) e = (vs, refl)
tag_set k (tuple vs) e = absurd (omega arith)

pub tag_none : (k : ℕ) (x : Value) → (get_or (encode x) 0 0 ≡ 3 → ⊥) → as_set k x ≡ stop 51 k
unfolding encode as_set
tag_none k (int y) e = refl
tag_none k (element g j) e = refl
tag_none k (set vs) e = absurd (e refl)
tag_none k (tuple vs) e = refl

pub tag_tuple : (k : ℕ) (x : Value) → get_or (encode x) 0 0 ≡ 4 → (vs : Values) × (x ≡ tuple vs)
unfolding encode
tag_tuple k (int y) e = absurd (omega arith)
tag_tuple k (element g j) e = absurd (omega arith)
tag_tuple k (set vs) e = absurd (omega arith)
tag_tuple k (tuple vs) e = (vs, refl)

pub tag_single : (k : ℕ) (x : Value) → (get_or (encode x) 0 0 ≡ 4 → ⊥) → as_tuple k x ≡ stop 51 k
unfolding encode as_tuple
tag_single k (int y) e = refl
tag_single k (element g j) e = refl
tag_single k (set vs) e = refl
tag_single k (tuple vs) e = absurd (e refl)

-- the first two words that are held
pub held_tag : (h : Held) (v : Value) → Holds h v → get_or h.words 0 0 ≡ get_or (encode v) 0 0
unfolding encode
held_tag h (int y) g = rw (held_words h (encode (int y)) g.words g.short)
held_tag h (element f j) g = rw (held_words h (encode (element f j)) g.words g.short)
held_tag h (set vs) g = rw (held_words h (encode (set vs)) g.words g.short)
held_tag h (tuple vs) g = rw (held_words h (encode (tuple vs)) g.words g.short)

both_narrow : (a b : Bool) → a ≡ true → b ≡ true → (a && b) ≡ true
both_narrow a b p q = rw (p, q)

pub narrow_head : (v : Value) (vs : Values) → all_narrow (cons v vs) ≡ true → narrow v ≡ true
unfolding narrow
narrow_head v vs h = and_left (narrow v) (all_narrow vs) h

pub narrow_tail : (v : Value) (vs : Values) → all_narrow (cons v vs) ≡ true → all_narrow vs ≡ true
unfolding narrow
narrow_tail v vs h = and_right (narrow v) (all_narrow vs) h

pub narrow_cons : (v : Value) (vs : Values) → narrow v ≡ true → all_narrow vs ≡ true → all_narrow (cons v vs) ≡ true
unfolding narrow
narrow_cons v vs p q = both_narrow (narrow v) (all_narrow vs) p q

-- arithmetic, ≤ and ℤ's test, by the integers that the values are
module _ (k q : ℕ) (x y : Value) where
  module _ {f : Refusal} (s : Stops f 51 k) where
    pub arithmetic_left : None ≡ number_of (encode x) → Told Counted (Err f) (arithmetic_of k q x y)
    unfolding arithmetic_of
    arithmetic_left e = rw (integer_no k x e) (at_stop _ s (λ z. omega arith))

    pub arithmetic_right : narrow x ≡ true → (i : ℤ) → Some i ≡ number_of (encode x) → None ≡ number_of (encode y) → Told Counted (Err f) (arithmetic_of k q x y)
    unfolding arithmetic_of
    arithmetic_right h i e g = rw (integer_yes k x h i e) (at_pure _ _ (rw (integer_no k y g) (at_stop _ s (λ z. omega arith))))

    pub at_most_left : None ≡ number_of (encode x) → Told Judged (Err f) (at_most_of k x y)
    unfolding at_most_of
    at_most_left e = rw (integer_no k x e) (at_stop _ s (λ z. omega arith))

    pub at_most_right : narrow x ≡ true → (i : ℤ) → Some i ≡ number_of (encode x) → None ≡ number_of (encode y) → Told Judged (Err f) (at_most_of k x y)
    unfolding at_most_of
    at_most_right h i e g = rw (integer_yes k x h i e) (at_pure _ _ (rw (integer_no k y g) (at_stop _ s (λ z. omega arith))))

    pub test_other : None ≡ number_of (encode x) → Told Judged (Err f) (integer_test k x)
    unfolding integer_test
    test_other e = rw (integer_no k x e) (at_stop _ s (λ z. omega arith))

    pub among_other : (get_or (encode y) 0 0 ≡ 3 → ⊥) → Told Judged (Err f) (among_members k x y)
    unfolding among_members
    among_other e = rw (tag_none k y e) (at_stop _ s (λ z. omega arith))

  pub arithmetic_both : {r : Result ℤ Refusal} → narrow x ≡ true → narrow y ≡ true → (i j : ℤ) → Some i ≡ number_of (encode x) → Some j ≡ number_of (encode y)
      → Told Counted r (keep_integer k (calculate (operator_of q) i j)) → Told Counted r (arithmetic_of k q x y)
  unfolding arithmetic_of
  arithmetic_both h g i j e f t = rw (integer_yes k x h i e) (at_pure _ _ (rw (integer_yes k y g j f) (at_pure _ _ t)))

  pub at_most_both : {b : Bool} → narrow x ≡ true → narrow y ≡ true → (i j : ℤ) → Some i ≡ number_of (encode x) → Some j ≡ number_of (encode y)
      → b ≡ le_z i j → Told Judged (Ok b) (at_most_of k x y)
  unfolding at_most_of
  at_most_both h g i j e f b = rw (integer_yes k x h i e) (at_pure _ _ (rw (integer_yes k y g j f) (at_pure _ _ (fine b))))

  pub test_integer : narrow x ≡ true → (i : ℤ) → Some i ≡ number_of (encode x) → Told Judged (Ok true) (integer_test k x)
  unfolding integer_test
  test_integer h i e = rw (integer_yes k x h i e) (at_pure _ _ (fine refl))

  -- Member against a value
  pub among_set : {b : Bool} (vs : Values) → y ≡ set vs → b ≡ is_in x vs → Told Judged (Ok b) (among_members k x y)
  unfolding among_members as_set
  among_set vs e b = rw e (at_pure _ _ (fine b))

-- Set members added one at a time
module _ (k : ℕ) (vs : Values) (x : Value) {C : Type 0} {R : C → Values → Type 0} where
  pub add_over : {f : Refusal} → 64 < length (encode (set (insert_value x vs))) → Stops f 55 k → Told R (Err f) (add k x vs)
  unfolding add add_if word_count
  add_over h s = rw (lt-leb (length (encode (set (insert_value x vs)))) 64 h) (ceased s.number s.place (λ z. omega arith))

  pub add_fits : {b : C} → length (encode (set (insert_value x vs))) ≤ 64 → R b (insert_value x vs) → Told R (Ok b) (add k x vs)
  unfolding add add_if word_count
  add_fits h g = rw (le-leb (length (encode (set (insert_value x vs)))) 64 h) (fine g)

insert_narrow : (vs : Values) (x : Value) → narrow x ≡ true → all_narrow vs ≡ true → all_narrow (insert_value x vs) ≡ true
unfolding narrow insert_value insert_by
insert_narrow nil x p q = both_narrow (narrow x) true p refl
insert_narrow (cons w ws) x p q = go (compare (encode x) (encode w)) (insert_narrow ws x p (and_right (narrow w) (all_narrow ws) q))
  where
    go : (o : Ordering) → all_narrow (insert_value x ws) ≡ true → all_narrow (insert_by o x w ws (insert_value x ws)) ≡ true
    go Less h = both_narrow (narrow x) _ p q
    go Equal h = q
    go Greater h = both_narrow (narrow w) _ (and_left (narrow w) (all_narrow ws) q) h

pub set_narrow : (vs : Values) (x : Value) → narrow x ≡ true → narrow (set vs) ≡ true → narrow (set (insert_value x vs)) ≡ true
unfolding narrow
set_narrow vs x p q = insert_narrow vs x p q

-- Apply
member_narrow : {w : Value} {vs : Values} → all_narrow vs ≡ true → Among w vs → narrow w ≡ true
unfolding narrow
member_narrow {w = w} h (here {vs = vs}) = and_left (narrow w) (all_narrow vs) h
member_narrow h (later {v = v} {vs = vs} m) = member_narrow (and_right (narrow v) (all_narrow vs) h) m

second_narrow : (x z : Value) → narrow (pair x z) ≡ true → narrow z ≡ true
unfolding narrow
second_narrow x z h = and_left (narrow z) true (and_right (narrow x) _ h)

-- the answer on a value's words says what Apply gives
module _ (k : ℕ) (x y : Value) (hs : length (encode x) ≤ 64) (hn : narrow x ≡ true) where
  image_found : {h : Held} (vs : Values) (i : Image) → Finds y vs i → all_narrow vs ≡ true → length (encode (set vs)) ≤ 64 → (at len : ℕ) → Shows (encode (set vs)) (Found at len) i
      → h ≡ words (take len (drop at (encode (set vs)))) → Told Holds (Ok h) (image k i >>= λ v. keep k v)
  unfolding image word_count
  image_found vs (found v) (finds_one i) h g at len s w =
      let m = found_among i in
      at_pure _ _ (keep_fine k v (record { words = w ∙ ap words s; short = omega (arith, applied_words i); narrow = second_narrow m.0 v (member_narrow h m.1.1) }))
  image_found vs misfit f h g at len s w = absurd s
  image_found vs undefined f h g at len s w = absurd s

  image_misfit : {f : Refusal} (vs : Values) (i : Image) → Shows (encode (set vs)) Sets.Misfit i → Stops f 51 k → Told Holds (Err f) (image k i >>= λ v. keep k v)
  unfolding image
  image_misfit vs (found v) s t = absurd s
  image_misfit vs misfit s t = at_stop _ t (λ z. omega arith)
  image_misfit vs undefined s t = absurd s

  image_none : {f : Refusal} (vs : Values) (i : Image) → Shows (encode (set vs)) Undefined i → Stops f 52 k → Told Holds (Err f) (image k i >>= λ v. keep k v)
  unfolding image
  image_none vs (found v) s t = absurd s
  image_none vs misfit s t = absurd s
  image_none vs undefined s t = at_stop _ t (λ z. omega arith)

  pub apply_found : {h : Held} (at len : ℕ) → Found at len ≡ apply (encode x) (encode y) → h ≡ words (take len (drop at (encode x))) → Told Holds (Ok h) (image_of k x y)
  unfolding image_of as_set find_pair apply encode narrow
  apply_found {h} at len e w = go x refl
    where
      go : (u : Value) → x ≡ u → Told Holds (Ok h) (as_set k u >>= λ vs. find_pair k y vs >>= λ v. keep k v)
      go (int i) q = let f : ◌≡◌ {A = ℕ} 0 1 = cc (ap (λ (t : Value). apply (encode t) (encode y)) q) in absurd (omega arith)
      go (element g j) q = let f : ◌≡◌ {A = ℕ} 0 1 = cc (ap (λ (t : Value). apply (encode t) (encode y)) q) in absurd (omega arith)
      go (set vs) q =
          let s : Shows (encode (set vs)) (Found at len) (apply_value y vs) =
          subst (λ (a : Applied). Shows (encode (set vs)) a (apply_value y vs)) (sym (e ∙ ap (λ (t : Value). apply (encode t) (encode y)) q)) (apply_value_lem vs y (rw q at hs)) in
          at_pure _ _ (image_found vs (apply_value y vs) (finds y vs) (rw q at hn) (rw q at hs) at len s (rw q at w))
      go (tuple vs) q = let f : ◌≡◌ {A = ℕ} 0 1 = cc (ap (λ (t : Value). apply (encode t) (encode y)) q) in absurd (omega arith)

  pub apply_misfit : {f : Refusal} → Sets.Misfit ≡ apply (encode x) (encode y) → Stops f 51 k → Told Holds (Err f) (image_of k x y)
  unfolding image_of as_set find_pair apply encode
  apply_misfit {f} e t = go x refl
    where
      go : (u : Value) → x ≡ u → Told Holds (Err f) (as_set k u >>= λ vs. find_pair k y vs >>= λ v. keep k v)
      go (int i) q = at_stop _ t (λ z. omega arith)
      go (element g j) q = at_stop _ t (λ z. omega arith)
      go (set vs) q =
          let s : Shows (encode (set vs)) Sets.Misfit (apply_value y vs) =
          subst (λ (a : Applied). Shows (encode (set vs)) a (apply_value y vs)) (sym (e ∙ ap (λ (t : Value). apply (encode t) (encode y)) q)) (apply_value_lem vs y (rw q at hs)) in
          at_pure _ _ (image_misfit vs (apply_value y vs) s t)
      go (tuple vs) q = at_stop _ t (λ z. omega arith)

  pub apply_none : {f : Refusal} → Undefined ≡ apply (encode x) (encode y) → Stops f 52 k → Told Holds (Err f) (image_of k x y)
  unfolding image_of as_set find_pair apply encode
  apply_none {f} e t = go x refl
    where
      go : (u : Value) → x ≡ u → Told Holds (Err f) (as_set k u >>= λ vs. find_pair k y vs >>= λ v. keep k v)
      go (int i) q = let f : ◌≡◌ {A = ℕ} 0 1 = cc (ap (λ (t : Value). apply (encode t) (encode y)) q) in absurd (omega arith)
      go (element g j) q = let f : ◌≡◌ {A = ℕ} 0 1 = cc (ap (λ (t : Value). apply (encode t) (encode y)) q) in absurd (omega arith)
      go (set vs) q =
          let s : Shows (encode (set vs)) Undefined (apply_value y vs) =
          subst (λ (a : Applied). Shows (encode (set vs)) a (apply_value y vs)) (sym (e ∙ ap (λ (t : Value). apply (encode t) (encode y)) q)) (apply_value_lem vs y (rw q at hs)) in
          at_pure _ _ (image_none vs (apply_value y vs) s t)
      go (tuple vs) q = let f : ◌≡◌ {A = ℕ} 0 1 = cc (ap (λ (t : Value). apply (encode t) (encode y)) q) in absurd (omega arith)

-- kinds 25 to 29 and 41 to 45 by their number
pub right_side_lem : (q : ℕ) → (q ≡ 26 → ⊥) → None ≡ decision_of (connective_of q) true
unfolding decision_of
right_side_lem q h = go (q - 25) refl
  where
    go : (d : ℕ) → q - 25 ≡ d → None ≡ decision_of (get_or (and ∷ or ∷ implies ∷ []) d and) true
    go zero e = refl
    go (suc zero) e = absurd (h (omega arith))
    go (suc (suc zero)) e = refl
    go (suc (suc (suc d))) e = refl

pub decided_false : (q : ℕ) → (q ≡ 26 → ⊥) → (q ≡ 27 → ⊥) → Some false ≡ decision_of (connective_of q) false
unfolding decision_of
decided_false q h g = go (q - 25) refl
  where
    go : (d : ℕ) → q - 25 ≡ d → Some false ≡ decision_of (get_or (and ∷ or ∷ implies ∷ []) d and) false
    go zero e = refl
    go (suc zero) e = absurd (h (omega arith))
    go (suc (suc zero)) e = absurd (g (omega arith))
    go (suc (suc (suc d))) e = refl

pub forall_verdict : (q : ℕ) → (q ≡ 29 → ⊥) → (b : Bool) → not b ≡ verdict_of (quantifier_of q) b
unfolding verdict_of
forall_verdict q h b = go (q - 28) refl
  where
    go : (d : ℕ) → q - 28 ≡ d → not b ≡ verdict_of (get_or (forall ∷ exists ∷ []) d forall) b
    go zero e = refl
    go (suc zero) e = absurd (h (omega arith))
    go (suc (suc d)) e = refl

pub other_plus : (q : ℕ) → (q ≡ 42 → ⊥) → (q ≡ 43 → ⊥) → (q ≡ 44 → ⊥) → (q ≡ 45 → ⊥) → operator_of q ≡ plus
other_plus q h2 h3 h4 h5 = go (q - 41) refl
  where
    go : (d : ℕ) → q - 41 ≡ d → get_or (plus ∷ minus ∷ times ∷ quotient ∷ remainder ∷ []) d plus ≡ plus
    go zero e = refl
    go (suc zero) e = absurd (h2 (omega arith))
    go (suc (suc zero)) e = absurd (h3 (omega arith))
    go (suc (suc (suc zero))) e = absurd (h4 (omega arith))
    go (suc (suc (suc (suc zero)))) e = absurd (h5 (omega arith))
    go (suc (suc (suc (suc (suc d))))) e = refl
