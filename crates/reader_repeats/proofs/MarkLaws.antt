-- One turn of the loops over identifiers; the list that is left at i is `drop i`.
use mathlib.Core.Path.{◌≡◌, refl, ap, ◌∙◌}
use mathlib.Core.Bool.{Bool, true, false, ◌||◌}
use mathlib.Core.List.{List, [], ◌∷◌}
use Prim.Native.Nat.{ℕ, ◌+◌, ◌-◌, ◌≤◌, ◌<◌}
use native.Mathlib.Omega.{arith}
use lib.ListN.{length, get_or, take, drop, length-drop}
use lib.Seq.{take_all}
use lib.Dec.{eqb}
use Rattle.std.specs.List.{list_any}
use Rattle.words.specs.Loops.{has}
use Rattle.words.proofs.Lists.{drop_next, drop_done}
use Rattle.reader_repeats.specs.Marks.{is_free, with_mark, unmarked, marked, distinct, shares}

-- what stands in a list, as the library's tests of lists say it
pub has_any : (x : ℕ) (xs : List ℕ) → has x xs ≡ list_any (λ y. eqb y x) xs
unfolding has
has_any x [] = refl
has_any x (y ∷ xs) = ap (λ (b : Bool). eqb y x || b) (has_any x xs)

module _ (xs : List ℕ) (i : ℕ) where
  pub unmarked_off : (seen : List ℕ) → i < length xs → is_free seen (get_or xs i 0) ≡ false → false ≡ unmarked (drop i xs) seen
  unfolding unmarked
  unmarked_off seen h e = rw (drop_next xs i h, unmarked, e)

  pub unmarked_go : (seen : List ℕ) → i < length xs → is_free seen (get_or xs i 0) ≡ true
      → unmarked (drop i xs) seen ≡ unmarked (drop (i + 1) xs) (with_mark seen (get_or xs i 0))
  unfolding unmarked
  unmarked_go seen h e = rw (drop_next xs i h, unmarked, e)

  pub unmarked_end : (seen : List ℕ) → length xs ≤ i → true ≡ unmarked (drop i xs) seen
  unfolding unmarked
  unmarked_end seen h = rw (drop_done xs i h)

  pub marked_go : (seen : List ℕ) → i < length xs → marked (drop i xs) seen ≡ marked (drop (i + 1) xs) (with_mark seen (get_or xs i 0))
  unfolding marked
  marked_go seen h = rw (drop_next xs i h, marked)

  pub marked_end : (seen : List ℕ) → length xs ≤ i → seen ≡ marked (drop i xs) seen
  unfolding marked
  marked_end seen h = rw (drop_done xs i h)

  rest_of : (j : ℕ) → take (length xs - j) (drop j xs) ≡ drop j xs
  rest_of j = take_all (length xs - j) (drop j xs) (rw (length-drop j xs) (omega arith))

  pub distinct_off : i < length xs → list_any (λ y. eqb y (get_or xs i 0)) (take (length xs - (i + 1)) (drop (i + 1) xs)) ≡ true → false ≡ distinct (drop i xs)
  unfolding distinct
  distinct_off h e = let s : has (get_or xs i 0) (drop (i + 1) xs) ≡ true = has_any _ _ ∙ rw (rest_of (i + 1)) at e in rw (drop_next xs i h, distinct, s)

  pub distinct_go : i < length xs → list_any (λ y. eqb y (get_or xs i 0)) (take (length xs - (i + 1)) (drop (i + 1) xs)) ≡ false → distinct (drop i xs) ≡ distinct (drop (i + 1) xs)
  unfolding distinct
  distinct_go h e = let s : has (get_or xs i 0) (drop (i + 1) xs) ≡ false = has_any _ _ ∙ rw (rest_of (i + 1)) at e in rw (drop_next xs i h, distinct, s)

  pub distinct_end : length xs ≤ i → true ≡ distinct (drop i xs)
  unfolding distinct
  distinct_end h = rw (drop_done xs i h)

  pub shares_on : (ys : List ℕ) → i < length xs → list_any (λ y. eqb y (get_or xs i 0)) ys ≡ true → true ≡ shares ys (drop i xs)
  unfolding shares
  shares_on ys h e = rw (drop_next xs i h, shares, has_any _ ys ∙ e)

  pub shares_go : (ys : List ℕ) → i < length xs → list_any (λ y. eqb y (get_or xs i 0)) ys ≡ false → shares ys (drop i xs) ≡ shares ys (drop (i + 1) xs)
  unfolding shares
  shares_go ys h e = rw (drop_next xs i h, shares, has_any _ ys ∙ e)

  pub shares_end : (ys : List ℕ) → length xs ≤ i → false ≡ shares ys (drop i xs)
  unfolding shares
  shares_end ys h = rw (drop_done xs i h)

pub ruleset unmarked_turns = (unmarked_off, unmarked_go, unmarked_end, marked_go, marked_end)

pub ruleset distinct_turns = (distinct_off, distinct_go, distinct_end)

pub ruleset shares_turns = (shares_on, shares_go, shares_end)
