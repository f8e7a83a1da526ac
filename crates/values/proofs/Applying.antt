-- Apply on words is Apply of values: the place that is found holds the words of the image.
use Rattle.std.proofs.Common.{◌≡◌, ℕ, suc, ◌+◌, ◌≤◌, Bool, true, false, cond, List, [], ◌∷◌, ◌++◌, length, take, drop, sym, refl, ap, ◌∙◌, append_assoc, append-nil, arith, length-append, drop-drop, take_at, drop_at, ne_eqb}
use mathlib.Core.Bool.{false≢true}
use Rattle.values.specs.Applied.{Applied, Found, Misfit, Undefined}
use Rattle.values.specs.Value.{Value, int, element, set, tuple, Values, nil, cons, count, encode, encodes}
use Rattle.values.specs.Sets.{first, is_pair, are_pairs, places, second, only_place, apply}
use Rattle.values.specs.SetValues.{same_value, Image, found, misfit, undefined, is_pair_value, all_pairs, images, only_one, apply_value}
use Rattle.values.proofs.Encoding.{span_value, first_value, rest_value}

-- the answer on the words f says the same as the answer on values
abbrev pub Shows : List ℕ → Applied → Image → Type 0
Shows f (Found at len) (found y) = take len (drop at f) ≡ encode y
Shows f (Found at len) misfit = ⊥
Shows f (Found at len) undefined = ⊥
Shows f Misfit (found y) = ⊥
Shows f Misfit misfit = Unit {0}
Shows f Misfit undefined = ⊥
Shows f Undefined (found y) = ⊥
Shows f Undefined misfit = ⊥
Shows f Undefined undefined = Unit {0}

-- the places ps of f are those of pairs with the second parts ys
unfoldable EachShows : List ℕ → List ℕ → Values → Type 0
EachShows f [] nil = Unit {0}
EachShows f [] (cons y ys) = ⊥
EachShows f (at ∷ ps) nil = ⊥
EachShows f (at ∷ ps) (cons y ys) = Shows f (second f at) (found y) × EachShows f ps ys

each_if : (f : List ℕ) (b : Bool) (at : ℕ) (y : Value) (ps : List ℕ) (ys : Values) → Shows f (second f at) (found y) → EachShows f ps ys → EachShows f (cond b (at ∷ ps) ps) (cond b (cons y ys) ys)
unfolding EachShows
each_if f true at y ps ys h g = (h, g)
each_if f false at y ps ys h g = g

only_shows : (f ps : List ℕ) (ys : Values) → EachShows f ps ys → Shows f (only_place f ps) (only_one ys)
unfolding EachShows only_place only_one
only_shows f [] nil h = tt
only_shows f [] (cons y ys) h = absurd h
only_shows f (at ∷ ps) nil h = absurd h
only_shows f (at ∷ []) (cons y nil) h = h.0
only_shows f (at ∷ []) (cons y (cons z ys)) h = absurd h.1
only_shows f (at ∷ next ∷ ps) (cons y nil) h = absurd h.1
only_shows f (at ∷ next ∷ ps) (cons y (cons z ys)) h = tt

-- ---- pairs
pair_value : (v : Value) (r : List ℕ) → is_pair (encode v ++ r) ≡ is_pair_value v
unfolding is_pair is_pair_value encode
pair_value (int z) r = refl
pair_value (element g k) r = refl
pair_value (set vs) r = refl
pair_value (tuple vs) r = refl

pairs_values : (vs : Values) (r : List ℕ) → length (encodes vs) ≤ 64 → are_pairs (count vs) (encodes vs ++ r) ≡ all_pairs vs
unfolding are_pairs all_pairs count encode
pairs_values nil r h = refl
pairs_values (cons v vs) r h =
    let k = length-append (encode v) (encodes vs) in
    rw (append_assoc (encode v) (encodes vs) r, pair_value v (encodes vs ++ r), rest_value v (encodes vs ++ r) (omega arith), pairs_values vs r (omega arith)) refl

-- ---- their places, in the words f
module _ (f : List ℕ) where
  -- the pair at the place `at` of f, the words s after it
  module _ (x y : Value) (s : List ℕ) (at : ℕ) (hx : length (encode x) ≤ 64) (hy : length (encode y) ≤ 64) (d : drop (at + 2) f ≡ encode x ++ (encode y ++ s)) where
    second_place : drop (at + 2 + length (encode x)) f ≡ encode y ++ s
    second_place = sym (drop-drop (length (encode x)) (at + 2) f) ∙ ap (drop (length (encode x))) d ∙ drop_at (encode x) (encode y ++ s) (length (encode x)) refl

    second_shows : Shows f (second f at) (found y)
    unfolding second
    second_shows =
        rw (d, span_value x (encode y ++ s) hx, rest_value x (encode y ++ s) hx, span_value y s hy, second_place) (take_at (encode y) s (length (encode y)) refl)

  -- of the pairs vs, from the place `at` of f on, those whose first part is a
  places_show : (vs : Values) (a : Value) (r : List ℕ) (at : ℕ) → all_pairs vs ≡ true → length (encodes vs) ≤ 64 → drop at f ≡ encodes vs ++ r
      → EachShows f (places (count vs) at (encodes vs ++ r) (encode a)) (images a vs)
  unfolding places images all_pairs is_pair_value count encode same_value EachShows
  places_show nil a r at p h d = tt
  places_show (cons (int z) ws) a r at p h d = absurd (false≢true p)
  places_show (cons (element g k) ws) a r at p h d = absurd (false≢true p)
  places_show (cons (set vs) ws) a r at p h d = absurd (false≢true p)
  places_show (cons (tuple nil) ws) a r at p h d = absurd (false≢true p)
  places_show (cons (tuple (cons x nil)) ws) a r at p h d = absurd (false≢true p)
  places_show (cons (tuple (cons x (cons y nil))) ws) a r at p h d =
      let v = tuple (cons x (cons y nil)) in
      let s = encodes ws ++ r in
      let l = ((encode x ++ (encode y ++ [])) ++ encodes ws) ++ r in
      let hv = length-append (encode v) (encodes ws) in
      let hx = length-append (encode x) (encode y ++ []) in
      let hy = length-append (encode y) [] in
      let e : l ≡ encode x ++ (encode y ++ s) = simp (append_assoc, append-nil) in
      let g : 4 ∷ 2 ∷ l ≡ encode v ++ s = ap (λ (t : List ℕ). 4 ∷ 2 ∷ t) (append_assoc (encode x ++ (encode y ++ [])) (encodes ws) r) in
      let kv : length (encode v) ≤ 64 = omega arith in
      let dv : drop (at + length (encode v)) f ≡ s = sym (drop-drop (length (encode v)) at f) ∙ ap (drop (length (encode v))) (d ∙ g) ∙ drop_at (encode v) s (length (encode v)) refl in
      let dl : drop (at + 2) f ≡ encode x ++ (encode y ++ s) = sym (drop-drop 2 at f) ∙ ap (drop 2) d ∙ e in
      let first-x : first l ≡ encode x = ap first e ∙ first_value x (encode y ++ s) (omega arith) in
      rw (first-x, g, span_value v s kv, rest_value v s kv)
      (each_if f (same_value x a) at y _ _ (second_shows x y s at (omega arith) (omega arith) dl) (places_show ws a r (at + length (encode v)) p (omega arith) dv))
  places_show (cons (tuple (cons x (cons y (cons z u)))) ws) a r at p h d = absurd (false≢true (rw (ne_eqb (suc (suc (suc (count u)))) 2 (λ e. omega arith)) at p))

-- ---- the two answers together
pub apply_other : (vs : Values) (a : Value) → all_pairs vs ≡ false → apply_value a vs ≡ misfit
unfolding apply_value
apply_other vs a p = rw p refl

pub apply_pairs : (vs : Values) (a : Value) → all_pairs vs ≡ true → apply_value a vs ≡ only_one (images a vs)
unfolding apply_value
apply_pairs vs a p = rw p refl

pub apply_value_lem : (vs : Values) (a : Value) → length (encode (set vs)) ≤ 64 → Shows (encode (set vs)) (apply (encode (set vs)) (encode a)) (apply_value a vs)
unfolding apply encode
apply_value_lem vs a h = rw (rw (append-nil (encodes vs)) at (pairs_values vs [] (omega arith))) (go (all_pairs vs) refl)
  where
    f : List ℕ
    f = encode (set vs)

    go : (b : Bool) → all_pairs vs ≡ b → Shows f (cond b (only_place f (places (count vs) 2 (encodes vs) (encode a))) Misfit) (apply_value a vs)
    go true p =
        rw (apply_pairs vs a p) (only_shows f _ _ (rw (append-nil (encodes vs)) at (places_show f vs a [] 2 p (omega arith) (sym (append-nil (encodes vs))))))
    go false p = rw (apply_other vs a p) tt
