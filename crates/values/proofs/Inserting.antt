-- Membership and insertion on words are membership and insertion of values, and insertion keeps a set well formed.
use Rattle.std.proofs.Common.{◌≡◌, ℕ, suc, ◌+◌, ◌^◌, ◌<◌, ◌≤◌, Bool, true, false, cond, List, [], ◌∷◌, ◌++◌, length, ℤ, pos, negsuc, refl, ap, ◌∙◌, true≢false, append_assoc, mod-eq_of_lt, arith, length-append, take_at, drop_at, ltb-true, le-ltb, None, Some}
use mathlib.Core.Bool.{false≢true}
use lib.Signed.{lt_z}
use Rattle.std.specs.declared.cmp.Ordering.{Ordering}
use Rattle.std.specs.declared.cmp.Ordering.TheVariants.{Less, Equal, Greater}
use Rattle.values_integers.specs.Integer.{signed}
use Rattle.values.specs.Order.{compare_word, or_else, compare, is_less}
use Rattle.values.specs.Value.{Value, int, element, set, tuple, Values, nil, cons, count, encode, encodes}
use Rattle.values.specs.Sets.{among, is_member, choose, place_from, place, insert_at, insert}
use Rattle.values.specs.WellFormed.{ascends, well_formed, all_well_formed}
use Rattle.values.specs.SetValues.{same_value, is_in, insert_by, insert_value}
use Rattle.values.proofs.Encoding.{span_value, first_value, rest_value, count_few}
use Rattle.words.proofs.Loops.{and_left, and_right}
use Rattle.values.proofs.Unique.{both}

-- ---- membership

among_values : (vs : Values) (v : Value) → length (encodes vs) ≤ 64 → among (count vs) (encodes vs) (encode v) ≡ is_in v vs
unfolding among count encode is_in same_value
among_values nil v h = refl
among_values (cons w ws) v h =
    let l = length-append (encode w) (encodes ws) in
    rw (among, first_value w (encodes ws) (omega arith), rest_value w (encodes ws) (omega arith), among_values ws v (omega arith))

pub member_value : (vs : Values) (v : Value) → length (encode (set vs)) ≤ 64 → is_member (encode (set vs)) (encode v) ≡ is_in v vs
unfolding is_member encode
member_value vs v h = among_values vs v (omega arith)

-- ---- insertion

at_place : (pre l m : List ℕ) (n : ℕ) → n + 1 < 2 ^ 32 → insert_at (Some (2 + length pre)) (3 ∷ n ∷ (pre ++ l)) m ≡ 3 ∷ (n + 1) ∷ (pre ++ (m ++ l))
unfolding insert_at
at_place pre l m n h =
    let e : 2 + length pre ≡ suc (suc (length pre)) = omega arith in
    rw (e, mod-eq_of_lt h, take_at pre l (length pre) refl, drop_at pre l (length pre) refl)

step_place : (w : Value) (r m : List ℕ) (n at : ℕ) → length (encode w) ≤ 64 → place_from (suc n) at (encode w ++ r) m ≡ choose (compare m (encode w)) at (place_from n (at + length (encode w)) r m)
unfolding place_from
step_place w r m n at h = rw (place_from, first_value w r h, span_value w r h, rest_value w r h)

already : (s m : List ℕ) → insert_at None s m ≡ s
unfolding insert_at
already s m = refl

insert_values : (vs : Values) (v : Value) (pre : List ℕ) (n c : ℕ) → length (encodes vs) ≤ 64 → n ≡ c + count vs → n + 1 < 2 ^ 32 →
    insert_at (place_from (count vs) (2 + length pre) (encodes vs) (encode v)) (3 ∷ n ∷ (pre ++ encodes vs)) (encode v) ≡ 3 ∷ (c + count (insert_value v vs)) ∷ (pre ++ encodes (insert_value v vs))
unfolding count encode insert_value place_from choose insert_by
insert_values nil v pre n c h e k =
    let q : n + 1 ≡ c + 1 = omega arith in
    at_place pre [] (encode v) n k ∙ ap (λ (x : ℕ). 3 ∷ x ∷ (pre ++ (encode v ++ []))) q
insert_values (cons w ws) v pre n c h e k =
    let l = length-append (encode w) (encodes ws) in
    let d = length-append pre (encode w) in
    let a : 2 + length pre + length (encode w) ≡ 2 + length (pre ++ encode w) = omega arith in
    rw (step_place w (encodes ws) (encode v) (count ws) (2 + length pre) (omega arith))
    (go (compare (encode v) (encode w))
    (rw (append_assoc pre (encode w) (encodes ws), append_assoc pre (encode w) (encodes (insert_value v ws)), ← a) at (insert_values ws v (pre ++ encode w) n (suc c) (omega arith) (omega arith) k)))
  where
    go : (o : Ordering) →
        insert_at (place_from (count ws) (2 + length pre + length (encode w)) (encodes ws) (encode v)) (3 ∷ n ∷ (pre ++ (encode w ++ encodes ws))) (encode v) ≡ 3 ∷ (suc c + count (insert_value v ws)) ∷ (pre ++ (encode w ++ encodes (insert_value v ws))) →
        insert_at (choose o (2 + length pre) (place_from (count ws) (2 + length pre + length (encode w)) (encodes ws) (encode v))) (3 ∷ n ∷ (pre ++ (encode w ++ encodes ws))) (encode v)
        ≡ 3 ∷ (c + count (insert_by o v w ws (insert_value v ws))) ∷ (pre ++ encodes (insert_by o v w ws (insert_value v ws)))
    go Less more =
        let q : n + 1 ≡ c + suc (suc (count ws)) = omega arith in
        at_place pre (encode w ++ encodes ws) (encode v) n k ∙ ap (λ (x : ℕ). 3 ∷ x ∷ (pre ++ (encode v ++ (encode w ++ encodes ws)))) q
    go Equal more = already (3 ∷ n ∷ (pre ++ (encode w ++ encodes ws))) (encode v) ∙ ap (λ (x : ℕ). 3 ∷ x ∷ (pre ++ (encode w ++ encodes ws))) e
    go Greater more =
        let q : suc c + count (insert_value v ws) ≡ c + suc (count (insert_value v ws)) = omega arith in
        more ∙ ap (λ (x : ℕ). 3 ∷ x ∷ (pre ++ (encode w ++ encodes (insert_value v ws)))) q

-- the words that the code keeps are those of the set with the value
pub insert_value_lem : (vs : Values) (v : Value) → length (encode (set vs)) ≤ 64 → insert (encode (set vs)) (encode v) ≡ encode (set (insert_value v vs))
unfolding insert place encode
insert_value_lem vs v h =
    let z : 0 + count (insert_value v vs) ≡ count (insert_value v vs) = omega arith in
    let t : count vs + 1 < 2 ^ 32 = omega (arith, count_few vs) in
    insert_values vs v [] (count vs) 0 (omega arith) (omega arith) t ∙ ap (λ (x : ℕ). 3 ∷ x ∷ encodes (insert_value v vs)) z

-- ---- the order, the other way round

unfoldable pub flip : Ordering → Ordering
flip Less = Greater
flip Equal = Equal
flip Greater = Less

not_both : (x y : ℤ) → lt_z x y ≡ true → lt_z y x ≡ false
not_both (pos a) (pos b) h = le-ltb b a (omega (arith, ltb-true a b h))
not_both (pos a) (negsuc b) h = absurd (false≢true h)
not_both (negsuc a) (pos b) h = refl
not_both (negsuc a) (negsuc b) h = le-ltb a b (omega (arith, ltb-true b a h))

flip_word : (a b : ℕ) → compare_word b a ≡ flip (compare_word a b)
unfolding compare_word flip
flip_word a b = go (lt_z (signed a) (signed b)) (lt_z (signed b) (signed a)) (not_both (signed a) (signed b))
  where
    go : (p q : Bool) → (p ≡ true → q ≡ false) → cond q Less (cond p Greater Equal) ≡ flip (cond p Less (cond q Greater Equal))
    go true true h = absurd (true≢false (h refl))
    go true false h = refl
    go false true h = refl
    go false false h = refl

flip_else : (o p : Ordering) → or_else (flip o) (flip p) ≡ flip (or_else o p)
unfolding flip or_else
flip_else Less p = refl
flip_else Equal p = refl
flip_else Greater p = refl

pub compare_flip : (a b : List ℕ) → compare b a ≡ flip (compare a b)
unfolding compare flip
compare_flip [] [] = refl
compare_flip [] (b ∷ bs) = refl
compare_flip (a ∷ xs) [] = refl
compare_flip (a ∷ xs) (b ∷ bs) = rw (flip_word a b, compare_flip xs bs) (flip_else (compare_word a b) (compare xs bs))

above : (a b : List ℕ) → compare a b ≡ Greater → is_less (compare b a) ≡ true
unfolding flip is_less
above a b e = rw (compare_flip a b, e)

-- ---- insertion keeps a set well formed

insert_ascends : (vs : Values) (v : Value) (p : List ℕ) → ascends p vs ≡ true → is_less (compare p (encode v)) ≡ true → ascends p (insert_value v vs) ≡ true
unfolding ascends insert_value insert_by is_less
insert_ascends nil v p h l = rw l
insert_ascends (cons w ws) v p h l = go (compare (encode v) (encode w)) refl (λ g. insert_ascends ws v (encode w) (and_right (is_less (compare p (encode w))) _ h) g)
  where
    go : (o : Ordering) → compare (encode v) (encode w) ≡ o → (is_less (compare (encode w) (encode v)) ≡ true → ascends (encode w) (insert_value v ws) ≡ true) → ascends p (insert_by o v w ws (insert_value v ws)) ≡ true
    go Less e again = both (is_less (compare p (encode v))) _ l (both (is_less (compare (encode v) (encode w))) _ (rw e) (and_right (is_less (compare p (encode w))) _ h))
    go Equal e again = h
    go Greater e again = both (is_less (compare p (encode w))) _ (and_left (is_less (compare p (encode w))) _ h) (again (above (encode v) (encode w) e))

insert_good : (size : ℕ → ℕ) (vs : Values) (v : Value) → all_well_formed size vs ≡ true → well_formed size v ≡ true → all_well_formed size (insert_value v vs) ≡ true
unfolding well_formed insert_value insert_by
insert_good size nil v h g = rw g
insert_good size (cons w ws) v h g = go (compare (encode v) (encode w)) (insert_good size ws v (and_right (well_formed size w) _ h) g)
  where
    go : (o : Ordering) → all_well_formed size (insert_value v ws) ≡ true → all_well_formed size (insert_by o v w ws (insert_value v ws)) ≡ true
    go Less again = both (well_formed size v) _ g h
    go Equal again = h
    go Greater again = both (well_formed size w) _ (and_left (well_formed size w) _ h) again

nothing_below : (v : Value) → is_less (compare [] (encode v)) ≡ true
unfolding encode compare is_less
nothing_below (int z) = refl
nothing_below (element g k) = refl
nothing_below (set vs) = refl
nothing_below (tuple vs) = refl

pub insert_well_formed : (size : ℕ → ℕ) (vs : Values) (v : Value) → well_formed size (set vs) ≡ true → well_formed size v ≡ true → well_formed size (set (insert_value v vs)) ≡ true
unfolding well_formed
insert_well_formed size vs v h g =
    both (all_well_formed size (insert_value v vs)) _ (insert_good size vs v (and_left (all_well_formed size vs) _ h) g)
    (insert_ascends vs v [] (and_right (all_well_formed size vs) _ h) (nothing_below v))
