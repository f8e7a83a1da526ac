-- How many rows there are, and how many words: by the operands' counts and words alone.
use mathlib.Core.Path.{◌≡◌, refl, ap, ◌∙◌}
use mathlib.Core.Bool.{Bool, true, false, ◌&&◌}
use mathlib.Core.List.{List, [], ◌∷◌, ◌++◌}
use Prim.Native.Nat.{ℕ, zero, suc, ◌+◌, ◌*◌, ◌≤◌, ◌<◌, ◌^◌}
use native.Mathlib.Omega.{arith}
use native.Mathlib.Nat.{two-pow-succ, pow-le-pow_right, mul-le-mul}
use lib.Dec.{leb}
use lib.ListN.{length, length-append}
use borrow.Author.Tests.{leb-true, leb-false, le-leb}
use Rattle.words.proofs.Loops.{and_right}
use Rattle.words.proofs.Lists.{same_test}
use Rattle.values.specs.Value.{Value, set, tuple, Values, nil, cons, count, encode, encodes}
use Rattle.values.proofs.Encoding.{words_some}
use Rattle.values.proofs.Unique.{both}
use Rattle.enumeration_rules.specs.Enumeration.{before, rows, choices, choices_from, picks, each, subsets, tuples}
use Rattle.enumeration_rules.specs.WordCounts.{power_fits, row_count, row_words, product_words}

-- the words of all rows, without a head for each
unfoldable pub rows_length : List Values → ℕ
rows_length [] = 0
rows_length (r ∷ rs) = length (encodes r) + rows_length rs

pub lengths_append : (xs ys : List Values) → rows_length (xs ++ ys) ≡ rows_length xs + rows_length ys
unfolding rows_length
lengths_append [] ys = omega arith
lengths_append (r ∷ xs) ys = omega (arith, lengths_append xs ys)

before_number : (v : Value) (xs : List Values) → length (before v xs) ≡ length xs
unfolding before
before_number v [] = refl
before_number v (r ∷ xs) = ap suc (before_number v xs)

before_length : (v : Value) (xs : List Values) → rows_length (before v xs) ≡ length xs * length (encode v) + rows_length xs
unfolding before rows_length encode
before_length v [] = omega arith
before_length v (r ∷ xs) = omega (arith, before_length v xs, length-append (encode v) (encodes r))

pub each_count : (f : Values → Value) (xs : List Values) → count (each f xs) ≡ length xs
unfolding each count
each_count f [] = refl
each_count f (r ∷ xs) = ap suc (each_count f xs)

-- with a tag and a count for each row
pub each_length : (f : Values → Value) → ((r : Values) → length (encode (f r)) ≡ 2 + length (encodes r)) → (xs : List Values) → length (encodes (each f xs)) ≡ 2 * length xs + rows_length xs
unfolding each encode rows_length
each_length f e [] = omega arith
each_length f e (r ∷ xs) = omega (arith, each_length f e xs, e r, length-append (encode (f r)) (encodes (each f xs)))

-- ---- the power

-- a member more: each choice without it, and each with it
module _ (v : Value) (vs : Values) where
  sizes_number : (n k : ℕ) → length (choices_from (suc k) n (cons v vs)) ≡ length (choices_from k n vs) + length (choices_from (suc k) n vs)
  unfolding choices_from choices rows
  sizes_number zero k = omega arith
  sizes_number (suc n) k =
      omega (
        arith,
        sizes_number n (suc k),
        before_number v (choices k vs),
        length-append (before v (choices k vs)) (rows vs (choices k)),
        length-append (before v (choices k vs) ++ rows vs (choices k)) (choices_from (suc (suc k)) n (cons v vs)),
        length-append (choices k vs) (choices_from (suc k) n vs),
        length-append (rows vs (choices k)) (choices_from (suc (suc k)) n vs),
      )

  sizes_length : (n k : ℕ) → rows_length (choices_from (suc k) n (cons v vs)) ≡ length (choices_from k n vs) * length (encode v) + rows_length (choices_from k n vs) + rows_length (choices_from (suc k) n vs)
  unfolding choices_from choices rows rows_length
  sizes_length zero k = omega arith
  sizes_length (suc n) k =
      rw (length-append (choices k vs) (choices_from (suc k) n vs))
      (omega (
        arith,
        sizes_length n (suc k),
        before_length v (choices k vs),
        lengths_append (before v (choices k vs)) (rows vs (choices k)),
        lengths_append (before v (choices k vs) ++ rows vs (choices k)) (choices_from (suc (suc k)) n (cons v vs)),
        lengths_append (choices k vs) (choices_from (suc k) n vs),
        lengths_append (rows vs (choices k)) (choices_from (suc (suc k)) n vs),
      ))

-- of no member there is no choice but the empty one
sizes_nil : (n k : ℕ) → choices_from (suc k) n nil ≡ []
unfolding choices_from choices rows
sizes_nil zero k = refl
sizes_nil (suc n) k = sizes_nil n (suc k)

choices_number : (vs : Values) (n : ℕ) → count vs < n → length (choices_from 0 n vs) ≡ 2 ^ count vs
unfolding choices_from choices count
choices_number nil zero l = absurd (omega arith)
choices_number nil (suc n) l = rw (sizes_nil n 0)
choices_number (cons v vs) zero l = absurd (omega arith)
choices_number (cons v vs) (suc n) l =
    let a = choices_number vs n (omega arith) in
    let b = choices_number vs (suc n) (omega arith) in
    omega (arith, sizes_number v vs n 0, two-pow-succ (count vs))

-- each member stands in half of the choices
choices_length : (vs : Values) (n : ℕ) → count vs < n → 2 * rows_length (choices_from 0 n vs) ≡ 2 ^ count vs * length (encodes vs)
unfolding choices_from choices count rows_length encode
choices_length nil zero l = absurd (omega arith)
choices_length nil (suc n) l = rw (sizes_nil n 0)
choices_length (cons v vs) zero l = absurd (omega arith)
choices_length (cons v vs) (suc n) l =
    let a = choices_length vs n (omega arith) in
    let b = choices_length vs (suc n) (omega arith) in
    rw (two-pow-succ (count vs), length-append (encode v) (encodes vs), sizes_length v vs n 0, choices_number vs n (omega arith)) (omega arith)

-- 2 + 2^m (4 + w) / 2 words
pub power_words : (vs : Values) → 2 * length (encode (set (subsets vs))) ≡ 4 + 2 ^ count vs * (4 + length (encodes vs))
unfolding subsets encode
power_words vs =
    let n = choices_number vs (suc (count vs)) (omega arith) in
    let w = choices_length vs (suc (count vs)) (omega arith) in
    omega (arith, each_length set (λ r. omega arith) (choices_from 0 (suc (count vs)) vs))

two_words : (vs : Values) → 2 * count vs ≤ length (encodes vs)
unfolding count encode
two_words nil = omega arith
two_words (cons v vs) = omega (arith, two_words vs, words_some v, length-append (encode v) (encodes vs))

-- no set of four members or more has a power of at most 64 words
pub power_few : (vs : Values) → length (encode (set (subsets vs))) ≤ 64 → count vs ≤ 3
power_few vs l = go (leb (count vs) 3) refl
  where
    go : (b : Bool) → leb (count vs) 3 ≡ b → count vs ≤ 3
    go true q = leb-true (count vs) 3 q
    go false q =
        let m = leb-false (count vs) 3 q in
        let p : 2 ^ 4 ≤ 2 ^ count vs = pow-le-pow_right (omega arith) m in
        let w : 12 ≤ 4 + length (encodes vs) = omega (arith, two_words vs) in
        absurd (omega (arith, power_words vs, mul-le-mul p w))

-- 55, decided by the count and the words
pub power_fits_lem : (vs : Values) → leb (length (encode (set (subsets vs)))) 64 ≡ power_fits (count vs) (length (encodes vs))
unfolding power_fits
power_fits_lem vs =
    let n = length (encode (set (subsets vs))) in
    let p = 2 ^ count vs * (4 + length (encodes vs)) in
    same_test (leb n 64) (leb (count vs) 3 && leb p 124)
    (λ e. both (leb (count vs) 3) _ (le-leb (count vs) 3 (power_few vs (leb-true n 64 e))) (le-leb p 124 (omega (arith, power_words vs, leb-true n 64 e))))
    (λ e. le-leb n 64 (omega (arith, power_words vs, leb-true p 124 (and_right (leb (count vs) 3) _ e))))

-- ---- the product

rows_number : (xs : List Values) (vs : Values) → length (rows vs (λ us. xs)) ≡ count vs * length xs
unfolding rows count
rows_number xs nil = omega arith
rows_number xs (cons v vs) = omega (arith, rows_number xs vs, before_number v xs, length-append (before v xs) (rows vs (λ us. xs)))

rows_length_lem : (xs : List Values) (vs : Values) → rows_length (rows vs (λ us. xs)) ≡ length (encodes vs) * length xs + count vs * rows_length xs
unfolding rows count rows_length encode
rows_length_lem xs nil = omega arith
rows_length_lem xs (cons v vs) =
    rw (length-append (encode v) (encodes vs)) (omega (arith, rows_length_lem xs vs, before_length v xs, lengths_append (before v xs) (rows vs (λ us. xs))))

picks_number : (vss : List Values) → length (picks vss) ≡ row_count vss
unfolding picks row_count
picks_number [] = refl
picks_number (vs ∷ vss) = rows_number (picks vss) vs ∙ ap (λ (n : ℕ). count vs * n) (picks_number vss)

picks_length : (vss : List Values) → rows_length (picks vss) ≡ row_words vss
unfolding picks row_words rows_length encode
picks_length [] = refl
picks_length (vs ∷ vss) = rw (rows_length_lem (picks vss) vs, picks_number vss, picks_length vss)

pub product_count : (vss : List Values) → count (tuples vss) ≡ row_count vss
unfolding tuples
product_count vss = each_count tuple (picks vss) ∙ picks_number vss

pub product_words_lem : (vss : List Values) → length (encode (set (tuples vss))) ≡ product_words vss
unfolding tuples product_words encode
product_words_lem vss = omega (arith, each_length tuple (λ r. omega arith) (picks vss), picks_number vss, picks_length vss)

pub power_count : (vs : Values) → count (subsets vs) ≡ 2 ^ count vs
unfolding subsets
power_count vs = each_count set (choices_from 0 (suc (count vs)) vs) ∙ choices_number vs (suc (count vs)) (omega arith)
