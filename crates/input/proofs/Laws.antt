-- The words of the input one by one, and as the front of an area.
use mathlib.Core.Path.{◌≡◌, refl, sym, ap, ◌∙◌}
use mathlib.Core.Bool.{true, false}
use mathlib.Core.List.{List, [], ◌∷◌, ◌++◌, append_assoc}
use Prim.Native.Nat.{ℕ, zero, suc, ◌+◌, ◌*◌, ◌/◌, ◌%◌, ◌≤◌, ◌<◌}
use native.Mathlib.Omega.{arith}
use native.Mathlib.Numerals.{add-one}
use native.Mathlib.Nat.{div-add-mod'}
use lib.ListN.{length, get_or, set, take, drop}
use lib.Seq.{set_at, take_at}
use lib.Dec.{eqb}
use borrow.Author.Tests.{eq-eqb, ne_eqb, le-leb, lt-leb, leb-true}
use Rattle.words.specs.Loops.{joined}
use Rattle.words.proofs.Loops.{and_right}
use Rattle.words.proofs.Lists.{joined_last, drop_next}
use Rattle.input.specs.Input.{word_at, first_words, words_of, are_words, words_after}

-- one word more
words_next : (bytes : List ℕ) (i : ℕ) → first_words bytes i ++ (word_at bytes i ∷ []) ≡ first_words bytes (i + 1)
unfolding first_words
words_next bytes i =
    let f : ℕ → List ℕ = λ j. word_at bytes j ∷ [] in
    let e : 0 + i ≡ i = omega arith in
    ap (λ (j : ℕ). joined f 0 i ++ f j) (sym e) ∙ sym (joined_last f 0 i) ∙ ap (joined f 0) (sym (add-one i))

words_length : (bytes : List ℕ) (i n : ℕ) → length (joined (λ j. word_at bytes j ∷ []) i n) ≡ n
unfolding joined
words_length bytes i zero = refl
words_length bytes i (suc n) = ap suc (words_length bytes (suc i) n)

pub first_length : (bytes : List ℕ) (n : ℕ) → length (first_words bytes n) ≡ n
unfolding first_words
first_length bytes n = words_length bytes 0 n

pub store_next : (bytes area : List ℕ) (i : ℕ) → i < length area
    → set (first_words bytes i ++ drop i area) i (word_at bytes i) ≡ first_words bytes (i + 1) ++ drop (i + 1) area
store_next bytes area i h =
    let rest = drop (i + 1) area in
    ap (λ (z : List ℕ). set (first_words bytes i ++ z) i (word_at bytes i)) (drop_next area i h)
    ∙ set_at (first_words bytes i) (get_or area i 0) rest (word_at bytes i) i (first_length bytes i)
    ∙ sym (append_assoc (first_words bytes i) (word_at bytes i ∷ []) rest)
    ∙ ap (λ (z : List ℕ). z ++ rest) (words_next bytes i)

-- the front of an area that the words were written to
words_front : (bytes rest : List ℕ) → take (length bytes / 4) (words_of bytes ++ rest) ≡ words_of bytes
unfolding words_of
words_front bytes rest = take_at (words_of bytes) rest (length bytes / 4) (first_length bytes (length bytes / 4))

-- the tests of the length, in the order of the code
module _ (bytes : List ℕ) (room : ℕ) where
  pub broken_word : (length bytes % 4 ≡ 0 → ⊥) → false ≡ are_words bytes room
  unfolding are_words
  broken_word h = rw (ne_eqb (length bytes % 4) 0 h)

  pub too_many_lem : length bytes % 4 ≡ 0 → room < length bytes / 4 → false ≡ are_words bytes room
  unfolding are_words
  too_many_lem z h =
      let t = div-add-mod' (length bytes) 4 in
      rw (eq-eqb (length bytes % 4) 0 z, lt-leb (length bytes) (4 * room) (omega arith))

  pub all_words_lem : length bytes % 4 ≡ 0 → length bytes / 4 ≤ room → true ≡ are_words bytes room
  unfolding are_words
  all_words_lem z h =
      let t = div-add-mod' (length bytes) 4 in
      rw (eq-eqb (length bytes % 4) 0 z, le-leb (length bytes) (4 * room) (omega arith))

module _ (bytes area : List ℕ) where
  pub none_written : false ≡ are_words bytes (length area) → area ≡ words_after bytes area
  unfolding words_after
  none_written e = rw (← e)

  pub all_written : true ≡ are_words bytes (length area) → words_of bytes ++ drop (length bytes / 4) area ≡ words_after bytes area
  unfolding words_after
  all_written e = rw (← e)

-- what a caller of take_words knows where it answers true
module _ (bytes : List ℕ) where
  pub words_room : (room : ℕ) → are_words bytes room ≡ true → length bytes / 4 ≤ room
  unfolding are_words
  words_room room e =
      let l = leb-true (length bytes) (4 * room) (and_right (eqb (length bytes % 4) 0) _ e) in
      let t = div-add-mod' (length bytes) 4 in
      omega arith

  pub words_taken : (area : List ℕ) → are_words bytes (length area) ≡ true → take (length bytes / 4) (words_after bytes area) ≡ words_of bytes
  unfolding words_after
  words_taken area e = rw e (words_front bytes (drop (length bytes / 4) area))
