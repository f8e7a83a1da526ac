-- Laws of a given's elements as words, three each, in order; and of the search for a given's size.
use mathlib.Core.Path.{◌≡◌, refl, sym, ap, ◌∙◌}
use mathlib.Core.List.{List, [], ◌∷◌, ◌++◌}
use Prim.Native.Nat.{ℕ, zero, suc, ◌+◌, ◌*◌, ◌-◌, ◌<◌, ◌≤◌}
use native.Mathlib.Omega.{arith}
use native.Mathlib.Numerals.{add-one}
use lib.ListN.{length, get_or}
use borrow.Author.Tests.{eq-eqb, ne_eqb}
use Rattle.values.specs.Held.{over, keep}
use Rattle.values.specs.Value.{count, encode, encodes}
use Rattle.values.specs.Givens.{elements, elements_from, small_size, size_from}
use Rattle.values.proofs.Holding.{keep_over}
use Rattle.words.proofs.Loops.{turn, none_left_lem}

elements_count : (g k n : ℕ) → count (elements_from g k n) ≡ n
unfolding elements_from count
elements_count g k zero = refl
elements_count g k (suc n) = ap suc (elements_count g (suc k) n)

elements_length : (g k n : ℕ) → length (encodes (elements_from g k n)) ≡ 3 * n
unfolding elements_from encodes
elements_length g k zero = omega arith
elements_length g k (suc n) = omega (arith, elements_length g (suc k) n)

next_element : (g k n : ℕ) → encodes (elements_from g k (suc n)) ≡ encodes (elements_from g k n) ++ (2 ∷ g ∷ (k + n) ∷ [])
unfolding elements_from encodes
next_element g k zero =
    let e : k ≡ k + 0 = omega arith in
    ap (λ (x : ℕ). 2 ∷ g ∷ x ∷ []) e
next_element g k (suc n) =
    let e : suc k + n ≡ k + suc n = omega arith in
    ap (λ (l : List ℕ). 2 ∷ g ∷ k ∷ l) (next_element g (suc k) n ∙ ap (λ (x : ℕ). encodes (elements_from g (suc k) n) ++ (2 ∷ g ∷ x ∷ [])) e)

module _ (g n : ℕ) where
  pub elements_words : encode (elements g n) ≡ 3 ∷ n ∷ encodes (elements_from g 0 n)
  unfolding elements encode
  elements_words = ap (λ (x : ℕ). 3 ∷ x ∷ encodes (elements_from g 0 n)) (elements_count g 0 n)

  pub elements_over : 20 < n → over ≡ keep (encode (elements g n))
  elements_over h = rw elements_words (sym (keep_over _ (omega (arith, elements_length g 0 n))))

  pub elements_more : (k : ℕ) → (3 ∷ n ∷ encodes (elements_from g 0 k)) ++ (2 ∷ g ∷ k ∷ []) ≡ 3 ∷ n ∷ encodes (elements_from g 0 (k + 1))
  elements_more k =
      let e : 0 + k ≡ k = omega arith in
      ap (λ (l : List ℕ). 3 ∷ n ∷ l) (sym (rw (add-one k, next_element g 0 k, e)))

-- one turn of the search for the given g among n
module _ (givens : List ℕ) (g n i : ℕ) where
  pub size_hit : i < n → get_or givens (2 * i) 0 ≡ g → small_size (get_or givens (2 * i + 1) 0) ≡ size_from givens g i (n - i)
  unfolding size_from
  size_hit h e = rw (turn n i h, size_from, eq-eqb _ _ e)

  pub size_go : i < n → (get_or givens (2 * i) 0 ≡ g → ⊥) → size_from givens g i (n - i) ≡ size_from givens g (i + 1) (n - (i + 1))
  unfolding size_from
  size_go h e = rw (turn n i h, size_from, ne_eqb _ _ e, add-one i)

  pub size_end : n ≤ i → 0 ≡ size_from givens g i (n - i)
  unfolding size_from
  size_end h = rw (none_left_lem n i h)
