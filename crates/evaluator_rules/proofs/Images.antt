-- What Apply finds, by the sentences of specs/Applications: each of its answers comes exactly where its sentence holds.
use mathlib.Core.Path.{◌≡◌, refl, sym, ap, subst, ◌∙◌}
use mathlib.Core.Bool.{Bool, true, false, ◌&&◌}
use mathlib.Core.Logic.{◌⊎◌, inl, inr}
use mathlib.Core.List.{[], ◌++◌}
use Prim.Native.Nat.{ℕ, suc, ◌≤◌}
use native.Mathlib.Omega.{arith}
use lib.ListN.{length, length-append}
use borrow.Author.Tests.{ne_eqb}
use Rattle.values.specs.Value.{Value, int, element, set, tuple, Values, nil, cons, count, encode, encodes}
use Rattle.values.specs.SetValues.{same_value, Image, found, misfit, undefined, is_pair_value, all_pairs, images, only_one, apply_value}
use Rattle.values.proofs.Applying.{apply_other, apply_pairs}
use Rattle.evaluator_rules.specs.WordCount.{word_count}
use Rattle.evaluator_rules.specs.Applications.{pair, NoPair, SomeNoPair, this_no_pair, later_no_pair, Images, no_images, one_image, other_pair, Among, here, later, AllPairs}

-- ---- one of the sentences holds
pair_or_not : (v : Value) → NoPair v ⊎ ((x : Value) × ((z : Value) × (v ≡ pair x z)))
pair_or_not (int k) = inl (λ x z e. let i : ◌≡◌ {A = ℕ} 0 1 = cc in omega arith)
pair_or_not (element g k) = inl (λ x z e. let i : ◌≡◌ {A = ℕ} 0 1 = cc in omega arith)
pair_or_not (set vs) = inl (λ x z e. let i : ◌≡◌ {A = ℕ} 0 1 = cc in omega arith)
pair_or_not (tuple nil) = inl (λ x z e. let i : ◌≡◌ {A = ℕ} 0 1 = cc in omega arith)
pair_or_not (tuple (cons u nil)) = inl (λ x z e. let i : ◌≡◌ {A = ℕ} 0 1 = cc in omega arith)
pair_or_not (tuple (cons u (cons v nil))) = inr (u, (v, refl))
pair_or_not (tuple (cons u (cons v (cons w r)))) = inl (λ x z e. let i : ◌≡◌ {A = ℕ} 0 1 = cc in omega arith)

abbrev pub PairsOrNot : Value → Values → Type 0
PairsOrNot a vs = SomeNoPair vs ⊎ ((zs : Values) × Images a vs zs)

one_more : (a x z : Value) (vs : Values) → PairsOrNot a vs → PairsOrNot a (cons (pair x z) vs)
one_more a x z vs (inl s) = inl (later_no_pair s)
one_more a x z vs (inr (zs, i)) = go (same_value x a) refl
  where
    go : (b : Bool) → same_value x a ≡ b → PairsOrNot a (cons (pair x z) vs)
    go true e = inr (cons z zs, one_image e i)
    go false e = inr (zs, other_pair e i)

pub pairs_or_not : (a : Value) (vs : Values) → PairsOrNot a vs
pairs_or_not a nil = inr (nil, no_images)
pairs_or_not a (cons v vs) = go (pair_or_not v) (pairs_or_not a vs)
  where
    go : NoPair v ⊎ ((x : Value) × ((z : Value) × (v ≡ pair x z))) → PairsOrNot a vs → PairsOrNot a (cons v vs)
    go (inl n) s = inl (this_no_pair n)
    go (inr (x, (z, e))) s = subst (λ (w : Value). PairsOrNot a (cons w vs)) (sym e) (one_more a x z vs s)

-- ---- what Apply answers then
no_pair_false : (v : Value) → NoPair v → is_pair_value v ≡ false
unfolding is_pair_value count
no_pair_false (int k) h = refl
no_pair_false (element g k) h = refl
no_pair_false (set vs) h = refl
no_pair_false (tuple nil) h = refl
no_pair_false (tuple (cons u nil)) h = refl
no_pair_false (tuple (cons u (cons v nil))) h = absurd (h u v refl)
no_pair_false (tuple (cons u (cons v (cons w r)))) h = ne_eqb (suc (suc (suc (count r)))) 2 (λ e. omega arith)

later_false : (b : Bool) → (b && false) ≡ false
later_false true = refl
later_false false = refl

some_false : {vs : Values} → SomeNoPair vs → all_pairs vs ≡ false
unfolding all_pairs
some_false (this_no_pair {v = v} h) = rw (no_pair_false v h) refl
some_false (later_no_pair {v = v} s) = rw (some_false s) (later_false (is_pair_value v))

pub misfit_where : {vs : Values} (a : Value) → SomeNoPair vs → apply_value a vs ≡ misfit
misfit_where {vs = vs} a s = apply_other vs a (some_false s)

images_pairs : {a : Value} {vs zs : Values} → Images a vs zs → all_pairs vs ≡ true
unfolding all_pairs is_pair_value count
images_pairs no_images = refl
images_pairs (one_image e i) = images_pairs i
images_pairs (other_pair e i) = images_pairs i

images_these : {a : Value} {vs zs : Values} → Images a vs zs → images a vs ≡ zs
unfolding images
images_these no_images = refl
images_these (one_image e i) = rw (e, images_these i) refl
images_these (other_pair e i) = rw e (images_these i)

only_of : {a : Value} {vs zs : Values} → Images a vs zs → apply_value a vs ≡ only_one zs
only_of {a = a} {vs = vs} i = apply_pairs vs a (images_pairs i) ∙ ap only_one (images_these i)

pub found_where : {a v : Value} {vs : Values} → Images a vs (cons v nil) → apply_value a vs ≡ found v
unfolding only_one
found_where i = only_of i

pub undefined_where : {a : Value} {vs zs : Values} → Images a vs zs → (count zs ≡ 1 → ⊥) → apply_value a vs ≡ undefined
unfolding only_one count
undefined_where {zs = zs} i h = only_of i ∙ go zs h
  where
    go : (zs : Values) → (count zs ≡ 1 → ⊥) → only_one zs ≡ undefined
    go nil h = refl
    go (cons z nil) h = absurd (h refl)
    go (cons z (cons w ws)) h = refl

-- ---- and nowhere else
pub data Finds (a : Value) (vs : Values) : Image → Type 0 where
  misfits : SomeNoPair vs → Finds a vs misfit
  finds_one : {v : Value} → Images a vs (cons v nil) → Finds a vs (found v)
  finds_not_one : {zs : Values} → Images a vs zs → (count zs ≡ 1 → ⊥) → Finds a vs undefined

pub finds : (a : Value) (vs : Values) → Finds a vs (apply_value a vs)
unfolding count
finds a vs = go (pairs_or_not a vs)
  where
    by_images : (zs : Values) → Images a vs zs → Finds a vs (apply_value a vs)
    by_images nil i = subst (Finds a vs) (sym (undefined_where i (λ e. omega arith))) (finds_not_one i (λ e. omega arith))
    by_images (cons z nil) i = subst (Finds a vs) (sym (found_where i)) (finds_one i)
    by_images (cons z (cons w ws)) i = subst (Finds a vs) (sym (undefined_where i (λ e. omega arith))) (finds_not_one i (λ e. omega arith))

    go : PairsOrNot a vs → Finds a vs (apply_value a vs)
    go (inl s) = subst (Finds a vs) (sym (misfit_where a s)) (misfits s)
    go (inr (zs, i)) = by_images zs i

-- ---- members
pub all_pairs_lem : {a : Value} {vs zs : Values} → Images a vs zs → AllPairs vs
all_pairs_lem no_images w m = elim m [ ]
all_pairs_lem (one_image {x = x} {z = z} e i) w here = (x, (z, refl))
all_pairs_lem (one_image e i) w (later m) = all_pairs_lem i w m
all_pairs_lem (other_pair {x = x} {z = z} e i) w here = (x, (z, refl))
all_pairs_lem (other_pair e i) w (later m) = all_pairs_lem i w m

-- each image is the second part of a member
pub image_among : {a v : Value} {vs zs : Values} → Images a vs zs → Among v zs → (x : Value) × ((same_value x a ≡ true) × Among (pair x v) vs)
image_among no_images m = elim m [ ]
image_among (one_image {x = x} e i) here = (x, (e, here))
image_among (one_image e i) (later m) = let r = image_among i m in (r.0, (r.1.0, later r.1.1))
image_among (other_pair e i) m = let r = image_among i m in (r.0, (r.1.0, later r.1.1))

pub found_among : {a v : Value} {vs : Values} → Images a vs (cons v nil) → (x : Value) × ((same_value x a ≡ true) × Among (pair x v) vs)
found_among i = image_among i here

among_words : {w : Value} {vs : Values} → Among w vs → length (encode w) ≤ length (encodes vs)
unfolding encode
among_words {w = w} (here {vs = vs}) = let k = length-append (encode w) (encodes vs) in omega arith
among_words (later {v = v} {vs = vs} m) = let k = length-append (encode v) (encodes vs) in let h = among_words m in omega arith

-- what Apply takes has no more words than the set
pub applied_words : {a v : Value} {vs : Values} → Images a vs (cons v nil) → word_count v ≤ word_count (set vs)
unfolding word_count encode
applied_words {v = v} i =
    let r = found_among i in
    let h = among_words r.1.1 in
    let j = length-append (encode r.0) (encode v ++ []) in
    let k = length-append (encode v) [] in
    omega arith
