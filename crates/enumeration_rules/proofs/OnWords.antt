-- The ways of specs/OnWords.antt make the lists of specs/Enumeration.antt.
use mathlib.Core.Path.{◌≡◌, refl, sym, ap, ◌∙◌}
use mathlib.Core.Bool.{Bool, true, false, cond}
use mathlib.Core.List.{List, [], ◌∷◌, ◌++◌, append-nil, append_assoc}
use Prim.Native.Nat.{ℕ, suc, ◌+◌, ◌*◌, ◌/◌, ◌%◌, ◌≤◌, ◌<◌, ◌^◌}
use native.Mathlib.Omega.{arith}
use native.Mathlib.Nat.{mod-lt, mod-eq_of_lt, mul-le-mul}
use lib.Dec.{eqb, ltb}
use lib.ListN.{length, length-append}
use borrow.Author.Tests.{eqb-true, eqb-false}
use Rattle.values.specs.Value.{Value, set, tuple, Values, nil, cons, count, encode, encodes}
use Rattle.values.proofs.Encoding.{first_value, rest_value, count_few}
use Rattle.enumeration_rules.specs.Enumeration.{before, rows, choices, choices_from, picks, each, subsets, tuples}
use Rattle.enumeration_rules.specs.OnWords.{also, endings, grow, grown, longer, endings_on, tuples_on, grow_on, masks, masked, by_masks, taken_on, masked_on, sets_on, power_on}
use Rattle.enumeration_rules.proofs.Counting.{rows_length, lengths_append, each_count, each_length, power_count}

-- ---- a product, operand by operand

unfoldable joined : Values → Values → Values
joined nil s = s
joined (cons v r) s = cons v (joined r s)

unfoldable after : Values → List Values → List Values
after r [] = []
after r (x ∷ xs) = joined r x ∷ after r xs

unfoldable afters : List Values → List Values → List Values
afters [] xs = []
afters (r ∷ rs) xs = after r xs ++ afters rs xs

also_joined : (r : Values) (v : Value) (x : Values) → joined (also r v) x ≡ joined r (cons v x)
unfolding joined also
also_joined nil v x = refl
also_joined (cons u r) v x = ap (cons u) (also_joined r v x)

after_also : (r : Values) (v : Value) (xs : List Values) → after (also r v) xs ≡ after r (before v xs)
unfolding after before
after_also r v [] = refl
after_also r v (x ∷ xs) = rw (also_joined r v x, after_also r v xs)

after_append : (r : Values) (xs ys : List Values) → after r (xs ++ ys) ≡ after r xs ++ after r ys
unfolding after
after_append r [] ys = refl
after_append r (x ∷ xs) ys = rw (after_append r xs ys)

after_endings : (r vs : Values) (xs : List Values) → afters (endings r vs) xs ≡ after r (rows vs (λ us. xs))
unfolding afters endings rows after
after_endings r nil xs = refl
after_endings r (cons v vs) xs = rw (after_append r (before v xs) (rows vs (λ us. xs)), after_also r v xs, after_endings r vs xs)

afters_append : (rs qs xs : List Values) → afters (rs ++ qs) xs ≡ afters rs xs ++ afters qs xs
unfolding afters
afters_append [] qs xs = refl
afters_append (r ∷ rs) qs xs = rw (afters_append rs qs xs) (sym (append_assoc (after r xs) (afters rs xs) (afters qs xs)))

afters_grow : (rs : List Values) (vs : Values) (xs : List Values) → afters (grow rs vs) xs ≡ afters rs (rows vs (λ us. xs))
unfolding afters grow
afters_grow [] vs xs = refl
afters_grow (r ∷ rs) vs xs = rw (afters_append (endings r vs) (grow rs vs) xs, after_endings r vs xs, afters_grow rs vs xs)

joined_nil : (r : Values) → joined r nil ≡ r
unfolding joined
joined_nil nil = refl
joined_nil (cons v r) = ap (cons v) (joined_nil r)

afters_nil : (rs : List Values) → afters rs (nil ∷ []) ≡ rs
unfolding afters after
afters_nil [] = refl
afters_nil (r ∷ rs) = rw (joined_nil r, afters_nil rs)

grown_afters : (vss rs : List Values) → grown rs vss ≡ afters rs (picks vss)
unfolding grown picks
grown_afters [] rs = sym (afters_nil rs)
grown_afters (vs ∷ vss) rs = grown_afters vss (grow rs vs) ∙ afters_grow rs vs (picks vss)

after_nil : (xs : List Values) → after nil xs ≡ xs
unfolding after joined
after_nil [] = refl
after_nil (x ∷ xs) = ap (λ (l : List Values). x ∷ l) (after_nil xs)

-- from the row of no parts, operand by operand, to the product
pub grown_product : (vss : List Values) → each tuple (grown (nil ∷ []) vss) ≡ tuples vss
unfolding tuples afters
grown_product vss = ap (each tuple) (grown_afters vss (nil ∷ []) ∙ append-nil (after nil (picks vss)) ∙ after_nil (picks vss))

-- ---- the same on words

also_count : (r : Values) (v : Value) → count (also r v) ≡ count r + 1
unfolding also count
also_count nil v = refl
also_count (cons u r) v = omega (arith, also_count r v)

also_words : (r : Values) (v : Value) → encodes (also r v) ≡ encodes r ++ encode v
unfolding also encode
also_words nil v = append-nil (encode v)
also_words (cons u r) v = rw (also_words r v) (sym (append_assoc (encode u) (encodes r) (encode v)))

longer_words : (r : Values) (v : Value) → count r + 1 < 2 ^ 32 → longer (encode (tuple r)) (encode v) ≡ encode (tuple (also r v))
unfolding longer encode
longer_words r v h = rw (mod-eq_of_lt h, also_count r v, also_words r v)

each_append : (f : Values → Value) (xs ys : List Values) → encodes (each f (xs ++ ys)) ≡ encodes (each f xs) ++ encodes (each f ys)
unfolding each encode
each_append f [] ys = refl
each_append f (r ∷ xs) ys = rw (each_append f xs ys) (sym (append_assoc (encode (f r)) (encodes (each f xs)) (encodes (each f ys))))

endings_words : (r vs : Values) → count r + 1 < 2 ^ 32 → length (encodes vs) ≤ 64 → endings_on (count vs) (encode (tuple r)) (encodes vs) ≡ encodes (each tuple (endings r vs))
unfolding endings_on endings each encode count
endings_words r nil h l = refl
endings_words r (cons v vs) h l =
    let a = length-append (encode v) (encodes vs) in
    rw (endings_on, first_value v (encodes vs) (omega arith), rest_value v (encodes vs) (omega arith), longer_words r v h, endings_words r vs h (omega arith))

tuples_words : (rs : List Values) (vs : Values) → length (encodes (each tuple rs)) ≤ 64 → length (encodes vs) ≤ 64 →
    tuples_on (length rs) (encodes (each tuple rs)) (count vs) (encodes vs) ≡ encodes (each tuple (grow rs vs))
unfolding tuples_on grow each encode
tuples_words [] vs l k = refl
tuples_words (r ∷ rs) vs l k =
    let a = length-append (encode (tuple r)) (encodes (each tuple rs)) in
    rw (
      tuples_on,
      first_value (tuple r) (encodes (each tuple rs)) (omega arith),
      rest_value (tuple r) (encodes (each tuple rs)) (omega arith),
      endings_words r vs (omega (arith, count_few r)) k,
      tuples_words rs vs (omega arith) k,
      each_append tuple (endings r vs) (grow rs vs),
    )

endings_number : (r vs : Values) → length (endings r vs) ≡ count vs
unfolding endings count
endings_number r nil = refl
endings_number r (cons v vs) = ap suc (endings_number r vs)

grow_number : (rs : List Values) (vs : Values) → length (grow rs vs) ≡ length rs * count vs
unfolding grow
grow_number [] vs = omega arith
grow_number (r ∷ rs) vs = omega (arith, grow_number rs vs, endings_number r vs, length-append (endings r vs) (grow rs vs))

-- one operand more, on the words of the tuples so far
pub grow_words : (rs : List Values) (vs : Values) → length (encode (set (each tuple rs))) ≤ 64 → length (encode (set vs)) ≤ 64 →
    grow_on (encode (set (each tuple rs))) (encode (set vs)) ≡ encode (set (each tuple (grow rs vs)))
unfolding grow_on encode
grow_words rs vs l k =
    let m = count_few (each tuple rs) in
    let n = count_few vs in
    let c = each_count tuple rs in
    let a : length rs ≤ 64 = omega arith in
    let b : count vs ≤ 64 = omega arith in
    let h : length rs * count vs < 2 ^ 32 = omega (arith, mul-le-mul a b) in
    rw (each_count tuple rs, mod-eq_of_lt h, each_count tuple (grow rs vs), grow_number rs vs, tuples_words rs vs (omega arith) (omega arith))

-- no tuple is left where an operand has no member
pub grow_empty : (rs : List Values) → grow rs nil ≡ []
unfolding grow endings
grow_empty [] = refl
grow_empty (r ∷ rs) = grow_empty rs

endings_length : (r vs : Values) → rows_length (endings r vs) ≡ count vs * length (encodes r) + length (encodes vs)
unfolding endings rows_length count encode
endings_length r nil = omega arith
endings_length r (cons v vs) =
    rw (also_words r v, length-append (encodes r) (encode v), length-append (encode v) (encodes vs), endings_length r vs) (omega arith)

grow_length : (rs : List Values) (vs : Values) → rows_length (grow rs vs) ≡ count vs * rows_length rs + length rs * length (encodes vs)
unfolding grow rows_length
grow_length [] vs = omega arith
grow_length (r ∷ rs) vs = omega (arith, lengths_append (endings r vs) (grow rs vs), endings_length r vs, grow_length rs vs)

-- the words with one operand more, by the counts and words of both
pub grow_total : (rs : List Values) (vs : Values) →
    count vs * length (encode (set (each tuple rs))) + length rs * length (encode (set vs)) + 2 ≡ length (encode (set (each tuple (grow rs vs)))) + 2 * (length rs + count vs)
unfolding encode
grow_total rs vs =
    rw (each_length tuple (λ r. omega arith) rs, each_length tuple (λ r. omega arith) (grow rs vs), grow_number rs vs, grow_length rs vs) (omega arith)

-- what has passed 64 words stays past them, while operands have members
pub grow_more : (rs : List Values) (v : Value) (vs : Values) → length (encode (set (each tuple rs))) ≤ length (encode (set (each tuple (grow rs (cons v vs)))))
unfolding encode count
grow_more rs v vs =
    let us = cons v vs in
    omega (arith, each_length tuple (λ r. omega arith) rs, each_length tuple (λ r. omega arith) (grow rs us), grow_number rs us, grow_length rs us)

-- ---- a power of at most three members

masks_choices : (vs : Values) → count vs ≤ 3 → by_masks masks vs ≡ choices_from 0 (suc (count vs)) vs
unfolding by_masks masked choices_from choices rows before count
masks_choices nil l = refl
masks_choices (cons a nil) l = refl
masks_choices (cons a (cons b nil)) l = refl
masks_choices (cons a (cons b (cons c nil))) l = refl
masks_choices (cons a (cons b (cons c (cons d vs)))) l = absurd (omega arith)

masked_count : (vs : Values) (mask : ℕ) → taken_on (count vs) mask ≡ count (masked mask vs)
unfolding taken_on masked count
masked_count nil mask = refl
masked_count (cons v vs) mask = go (eqb (mask % 2) 1) refl (masked_count vs (mask / 2))
  where
    go : (b : Bool) → eqb (mask % 2) 1 ≡ b → taken_on (count vs) (mask / 2) ≡ count (masked (mask / 2) vs) →
        mask % 2 + taken_on (count vs) (mask / 2) ≡ count (cond b (cons v (masked (mask / 2) vs)) (masked (mask / 2) vs))
    go true q e = omega (arith, eqb-true (mask % 2) 1 q)
    go false q e =
        let c = eqb-false (mask % 2) 1 q in
        let d : mask % 2 < 2 = mod-lt mask (omega arith) in
        omega arith

masked_words : (vs : Values) (mask : ℕ) → length (encodes vs) ≤ 64 → masked_on (count vs) mask (encodes vs) ≡ encodes (masked mask vs)
unfolding masked_on masked count encode
masked_words nil mask l = refl
masked_words (cons v vs) mask l =
    let a = length-append (encode v) (encodes vs) in
    rw (masked_on, first_value v (encodes vs) (omega arith), rest_value v (encodes vs) (omega arith), masked_words vs (mask / 2) (omega arith)) (go (eqb (mask % 2) 1))
  where
    go : (b : Bool) → cond b (encode v) [] ++ encodes (masked (mask / 2) vs) ≡ encodes (cond b (cons v (masked (mask / 2) vs)) (masked (mask / 2) vs))
    go true = refl
    go false = refl

sets_words : (ms : List ℕ) (vs : Values) → length (encodes vs) ≤ 64 → sets_on ms (count vs) (encodes vs) ≡ encodes (each set (by_masks ms vs))
unfolding sets_on by_masks each encode
sets_words [] vs l = refl
sets_words (m ∷ ms) vs l = rw (sets_words ms vs l, masked_count vs m, masked_words vs m l) (go (ltb m (2 ^ count vs)))
  where
    go : (b : Bool) → cond b (3 ∷ count (masked m vs) ∷ encodes (masked m vs)) [] ++ encodes (each set (by_masks ms vs)) ≡ encodes (each set (cond b (masked m vs ∷ by_masks ms vs) (by_masks ms vs)))
    go true = refl
    go false = refl

pub power_on_lem : (vs : Values) → count vs ≤ 3 → length (encode (set vs)) ≤ 64 → power_on (encode (set vs)) ≡ encode (set (subsets vs))
unfolding power_on subsets encode
power_on_lem vs c l = rw (power_count vs, sets_words masks vs (omega arith), masks_choices vs c)
