-- `is_value` holds of the words of every well-formed value of at most 64 words; that it holds of no others is in Reading.
use mathlib.Core.Path.{◌≡◌, refl, ◌∙◌}
use mathlib.Core.Bool.{Bool, true, false, false≢true}
use mathlib.Core.List.{List, [], ◌∷◌, ◌++◌, append_assoc, append-nil}
use Prim.Native.Nat.{ℕ, suc, max, ◌+◌, ◌*◌, ◌-◌, ◌≤◌, ◌<◌, ◌^◌}
use native.Mathlib.Omega.{arith}
use lib.Dec.{leb, ltb}
use lib.ListN.{length, length-append}
use lib.Seq.{take_at, drop_at}
use borrow.Author.Tests.{eq-eqb, ne_eqb, le-leb, lt-ltb, le-ltb, leb-true}
use Rattle.values.specs.declared.shapes.Shape.TheVariants.{Leaf, Set, Tuple}
use Rattle.values_integers.specs.Integer.{word_of}
use Rattle.values.specs.Order.{compare, is_less}
use Rattle.values.specs.Value.{Value, int, element, set, tuple, Values, nil, cons, count, encode, encodes}
use Rattle.values.specs.Form.{element_shape, group_shape, shape_of, follows, next_fits, group_end, by_shape, value_length, is_value}
use Rattle.values.specs.WellFormed.{ascends, well_formed, all_well_formed}
use Rattle.words.proofs.Loops.{and_left, and_right}
use Rattle.values.proofs.Encoding.{words_some, count_few}
use Rattle.values_forms.proofs.Forms.{length_level}

-- ---- a well-formed value's words pass

-- how many levels a value has
unfoldable mutual
  pub depth : Value → ℕ
  depth (int z) = 1
  depth (element g k) = 1
  depth (set vs) = suc (depth_of vs)
  depth (tuple vs) = suc (depth_of vs)

  pub depth_of : Values → ℕ
  depth_of nil = 0
  depth_of (cons v vs) = max (depth v) (depth_of vs)

mutual
  unfolding depth encode

  pub depth_few : (v : Value) → 2 * depth v ≤ length (encode v)
  depth_few (int z) = omega arith
  depth_few (element g k) = omega arith
  depth_few (set vs) = omega (arith, depth_fews vs)
  depth_few (tuple vs) = omega (arith, depth_fews vs)

  depth_fews : (vs : Values) → 2 * depth_of vs ≤ length (encodes vs)
  depth_fews nil = omega arith
  depth_fews (cons v vs) = omega (arith, depth_few v, depth_fews vs, length-append (encode v) (encodes vs))

follows_if : (b : Bool) (p m : List ℕ) → (b ≡ true → is_less (compare p m) ≡ true) → follows b p m ≡ true
unfolding follows
follows_if true p m h = h refl
follows_if false p m h = refl

-- one value passed
module _ (f : List ℕ → ℕ) (b : Bool) (p : List ℕ) (v : Value) (r : List ℕ) (e : f (encode v ++ r) ≡ length (encode v)) where
  next_fits_lem : (b ≡ true → is_less (compare p (encode v)) ≡ true) → next_fits f b p (encode v ++ r) ≡ true
  unfolding next_fits
  next_fits_lem h = rw (e, ne_eqb (length (encode v)) 0 (λ z. omega (arith, words_some v)), take_at (encode v) r (length (encode v)) refl) (follows_if b p (encode v) h)

  group_step : (n at : ℕ) → (b ≡ true → is_less (compare p (encode v)) ≡ true) → group_end f b (suc n) p (encode v ++ r) at ≡ group_end f b n (encode v) r (at + length (encode v))
  unfolding group_end
  group_step n at h = rw (group_end, next_fits_lem h) (rw (e, take_at (encode v) r (length (encode v)) refl, drop_at (encode v) r (length (encode v)) refl))

module _ (size : ℕ → ℕ) where
  shape_int : (x : ℕ) (r : List ℕ) → Leaf 2 ≡ shape_of size (1 ∷ x ∷ r)
  unfolding shape_of
  shape_int x r = rw (le-ltb (suc (suc (length r))) 2 (omega arith))

  shape_element : (g k : ℕ) (r : List ℕ) → ltb k (size g) ≡ true → Leaf 3 ≡ shape_of size (2 ∷ g ∷ k ∷ r)
  unfolding shape_of element_shape
  shape_element g k r h = rw (le-ltb (suc (suc (suc (length r)))) 2 (omega arith), le-ltb (suc (suc (suc (length r)))) 3 (omega arith), h)

  shape_set : (n : ℕ) (r : List ℕ) → n < 2 ^ 31 → Set n ≡ shape_of size (3 ∷ n ∷ r)
  unfolding shape_of group_shape
  shape_set n r h = rw (le-ltb (suc (suc (length r))) 2 (omega arith), lt-ltb n (2 ^ 31) h)

  shape_tuple : (n : ℕ) (r : List ℕ) → 2 ≤ n → n ≤ 6 → Tuple n ≡ shape_of size (4 ∷ n ∷ r)
  unfolding shape_of group_shape
  shape_tuple n r g h = rw (le-ltb (suc (suc (length r))) 2 (omega arith), le-ltb n 2 g, le-leb n 6 h)

  mutual
    unfolding encode count well_formed depth by_shape ascends group_end

    passes : (v : Value) (d : ℕ) (r : List ℕ) → well_formed size v ≡ true → depth v ≤ d → length (encode v) ≤ 64 → value_length size d (encode v ++ r) ≡ length (encode v)
    passes (int z) d r w h l = length_level size d _ (λ e. omega arith) (Leaf 2) (shape_int (word_of z) r)
    passes (element g k) d r w h l = length_level size d _ (λ e. omega arith) (Leaf 3) (shape_element g k r w)
    passes (set vs) d r w h l =
        length_level size d _ (λ e. omega arith) (Set (count vs)) (shape_set (count vs) (encodes vs ++ r) (omega (arith, count_few vs)))
        ∙ pass_all vs (d - 1) true [] r 2 (and_left (all_well_formed size vs) _ w) (λ e. and_right (all_well_formed size vs) _ w) (omega arith) (omega arith)
        ∙ omega arith
    passes (tuple vs) d r w h l =
        let c = and_right (all_well_formed size vs) _ w in
        length_level size d _ (λ e. omega arith) (Tuple (count vs)) (shape_tuple (count vs) (encodes vs ++ r) (leb-true 2 (count vs) (and_left (leb 2 (count vs)) _ c)) (leb-true (count vs) 6 (and_right (leb 2 (count vs)) _ c)))
        ∙ pass_all vs (d - 1) false [] r 2 (and_left (all_well_formed size vs) _ w) (λ e. absurd (false≢true e)) (omega arith) (omega arith)
        ∙ omega arith

    pass_all : (vs : Values) (d : ℕ) (b : Bool) (p r : List ℕ) (at : ℕ) → all_well_formed size vs ≡ true → (b ≡ true → ascends p vs ≡ true) → depth_of vs ≤ d → length (encodes vs) ≤ 64 →
        group_end (value_length size d) b (count vs) p (encodes vs ++ r) at ≡ at + length (encodes vs)
    pass_all nil d b p r at w a h l = omega arith
    pass_all (cons v vs) d b p r at w a h l =
        let k = length-append (encode v) (encodes vs) in
        rw (append_assoc (encode v) (encodes vs) r)
        (group_step (value_length size d) b p v (encodes vs ++ r) (passes v d (encodes vs ++ r) (and_left (well_formed size v) _ w) (omega arith) (omega arith)) (count vs) at (λ e. and_left (is_less (compare p (encode v))) _ (a e))
        ∙ pass_all vs d b (encode v) r (at + length (encode v)) (and_right (well_formed size v) _ w) (λ e. and_right (is_less (compare p (encode v))) _ (a e)) (omega arith) (omega arith)
        ∙ omega arith)

  pub value_passes : (v : Value) → well_formed size v ≡ true → length (encode v) ≤ 64 → is_value size (encode v) ≡ true
  unfolding is_value
  value_passes v w l =
      let e : value_length size 32 (encode v) ≡ length (encode v) = rw append-nil at (passes v 32 [] w (omega (arith, depth_few v)) l) in
      rw (le-leb 1 (length (encode v)) (omega (arith, words_some v)), le-leb (length (encode v)) 64 l, eq-eqb _ _ e)
