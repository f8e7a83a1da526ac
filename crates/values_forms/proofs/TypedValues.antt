-- Finding 42's test on words is its test on values.
use mathlib.Core.Path.{◌≡◌, refl, ap, ◌∙◌}
use mathlib.Core.Bool.{Bool, true, false, cond, ◌&&◌}
use mathlib.Core.List.{List, [], ◌∷◌, ◌++◌, append_assoc, append-nil}
use Prim.Native.Nat.{ℕ, suc, ◌-◌, ◌≤◌}
use native.Mathlib.Omega.{arith}
use lib.Dec.{eqb}
use lib.ListN.{length, get_or, drop, length-append}
use borrow.Author.Tests.{eqb-true}
use Rattle.values_integers.specs.Integer.{word_of}
use Rattle.values.specs.Value.{Value, int, element, set, tuple, Values, nil, cons, count, encode, encodes}
use Rattle.values.specs.declared.shapes.Test.TheVariants.{Fails, Passes, Each}
use Rattle.values.specs.Typed.{type_step, is_of, are_of, whether, test_of, each, by_test, has_type}
use Rattle.values.proofs.Encoding.{rest_value}
use Rattle.values_forms.proofs.Decoding.{depth, depth_of, depth_few}
use Rattle.values_forms.proofs.Testing.{typed_level}

module _ (t r : List ℕ) where
  test_int : (x : ℕ) → test_of t (1 ∷ x ∷ r) ≡ cond (eqb (get_or t 0 0) 1) Passes Fails
  unfolding test_of
  test_int x = go (eqb (get_or t 0 0) 1) refl
    where
      go : (b : Bool) → eqb (get_or t 0 0) 1 ≡ b → test_of t (1 ∷ x ∷ r) ≡ cond b Passes Fails
      go true e = rw (eqb-true (get_or t 0 0) 1 e)
      go false e = rw e

  test_element : (g k : ℕ) → test_of t (2 ∷ g ∷ k ∷ r) ≡ cond (eqb (get_or t 0 0) 2) (whether (eqb (get_or t 1 0) g)) Fails
  unfolding test_of
  test_element g k = go (eqb (get_or t 0 0) 2) refl
    where
      go : (b : Bool) → eqb (get_or t 0 0) 2 ≡ b → test_of t (2 ∷ g ∷ k ∷ r) ≡ cond b (whether (eqb (get_or t 1 0) g)) Fails
      go true e = rw (eqb-true (get_or t 0 0) 2 e)
      go false e = rw e

  test_set : (n : ℕ) → test_of t (3 ∷ n ∷ r) ≡ cond (eqb (get_or t 0 0) 3) (Each false 1 n) Fails
  unfolding test_of
  test_set n = go (eqb (get_or t 0 0) 3) refl
    where
      go : (b : Bool) → eqb (get_or t 0 0) 3 ≡ b → test_of t (3 ∷ n ∷ r) ≡ cond b (Each false 1 n) Fails
      go true e = rw (eqb-true (get_or t 0 0) 3 e)
      go false e = rw e

  test_tuple : (n : ℕ) → test_of t (4 ∷ n ∷ r) ≡ cond (eqb (get_or t 0 0) 4) (cond (eqb (get_or t 1 0) n) (Each true 2 n) Fails) Fails
  unfolding test_of
  test_tuple n = go (eqb (get_or t 0 0) 4) refl
    where
      go : (b : Bool) → eqb (get_or t 0 0) 4 ≡ b → test_of t (4 ∷ n ∷ r) ≡ cond b (cond (eqb (get_or t 1 0) n) (Each true 2 n) Fails) Fails
      go true e = rw (eqb-true (get_or t 0 0) 4 e)
      go false e = rw e

module _ (f : List ℕ → List ℕ → Bool) (t w : List ℕ) where
  by_passes : (b : Bool) → by_test f (cond b Passes Fails) t w ≡ b
  unfolding by_test
  by_passes true = refl
  by_passes false = refl

  by_whether : (a b : Bool) → by_test f (cond a (whether b) Fails) t w ≡ (a && b)
  unfolding by_test whether
  by_whether true true = refl
  by_whether true false = refl
  by_whether false b = refl

  by_each : (a own : Bool) (start n : ℕ) → by_test f (cond a (Each own start n) Fails) t w ≡ (a && each f own n (drop start t) (drop 2 w))
  unfolding by_test
  by_each true own start n = refl
  by_each false own start n = refl

  by_parts : (a b own : Bool) (start n : ℕ) → by_test f (cond a (cond b (Each own start n) Fails) Fails) t w ≡ (a && (b && each f own n (drop start t) (drop 2 w)))
  unfolding by_test
  by_parts true true own start n = refl
  by_parts true false own start n = refl
  by_parts false b own start n = refl

each_none : (f : List ℕ → List ℕ → Bool) (own : Bool) (t w : List ℕ) → each f own 0 t w ≡ true
unfolding each
each_none f own t w = refl

step : (f : List ℕ → List ℕ → Bool) (own : Bool) (n : ℕ) (t : List ℕ) (v : Value) (r : List ℕ) → length (encode v) ≤ 64 → each f own (suc n) t (encode v ++ r) ≡ (f t (encode v ++ r) && each f own n (drop (type_step own t) t) r)
unfolding each
step f own n t v r h = go (f t (encode v ++ r)) refl
  where
    go : (b : Bool) → f t (encode v ++ r) ≡ b → each f own (suc n) t (encode v ++ r) ≡ (b && each f own n (drop (type_step own t) t) r)
    go true e = rw (each, e) (rw (rest_value v r h))
    go false e = rw (each, e)

mutual
  unfolding depth encode count is_of

  typed : (v : Value) (d : ℕ) (t r : List ℕ) → depth v ≤ d → length (encode v) ≤ 64 → has_type d t (encode v ++ r) ≡ is_of v t
  typed (int z) d t r h l = typed_level d t _ (λ e. omega arith) _ refl ∙ rw (test_int t r (word_of z)) (by_passes (has_type (d - 1)) t _ (eqb (get_or t 0 0) 1))
  typed (element g k) d t r h l =
      typed_level d t _ (λ e. omega arith) _ refl ∙ rw (test_element t r g k) (by_whether (has_type (d - 1)) t _ (eqb (get_or t 0 0) 2) (eqb (get_or t 1 0) g))
  typed (set vs) d t r h l =
      typed_level d t _ (λ e. omega arith) _ refl ∙ rw (test_set t (encodes vs ++ r) (count vs)) (by_each (has_type (d - 1)) t _ (eqb (get_or t 0 0) 3) false 1 (count vs))
      ∙ ap (λ (b : Bool). eqb (get_or t 0 0) 3 && b) (typed_all vs (d - 1) false (drop 1 t) r (omega arith) (omega arith))
  typed (tuple vs) d t r h l =
      typed_level d t _ (λ e. omega arith) _ refl ∙ rw (test_tuple t (encodes vs ++ r) (count vs)) (by_parts (has_type (d - 1)) t _ (eqb (get_or t 0 0) 4) (eqb (get_or t 1 0) (count vs)) true 2 (count vs))
      ∙ ap (λ (b : Bool). eqb (get_or t 0 0) 4 && (eqb (get_or t 1 0) (count vs) && b)) (typed_all vs (d - 1) true (drop 2 t) r (omega arith) (omega arith))

  typed_all : (vs : Values) (d : ℕ) (own : Bool) (t r : List ℕ) → depth_of vs ≤ d → length (encodes vs) ≤ 64 → each (has_type d) own (count vs) t (encodes vs ++ r) ≡ are_of vs own t
  typed_all nil d own t r h l = each_none (has_type d) own t r
  typed_all (cons v vs) d own t r h l =
      let k = length-append (encode v) (encodes vs) in
      rw (append_assoc (encode v) (encodes vs) r)
      (step (has_type d) own (count vs) t v (encodes vs ++ r) (omega arith)
      ∙ rw (typed v d t (encodes vs ++ r) (omega arith) (omega arith), typed_all vs d own (drop (type_step own t) t) r (omega arith) (omega arith)))

-- a well-formed value's words against type words
pub typed_value : (v : Value) (t : List ℕ) → length (encode v) ≤ 64 → has_type 32 t (encode v) ≡ is_of v t
typed_value v t l = rw append-nil at (typed v 32 t [] (omega (arith, depth_few v)) l)
