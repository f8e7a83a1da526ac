-- Laws of the order by signed word sequence.
use Rattle.std.proofs.Common.{◌≡◌, ℕ, ◌+◌, ◌<◌, ◌≤◌, Bool, true, false, cond, List, length, get_or, drop, sym, refl, ◌∙◌, true≢false, add-one, drop_of_length-le, drop-cons, arith, eqb, ltb, eqb-true, ltb-true, ltb-false, min, nat_cmp}
use mathlib.Core.Bool.{false≢true}
use Rattle.std.proofs.lemmas.Bool.{eqb-false}
use Rattle.std.specs.Ordering.{is_ne}
use Rattle.std.specs.declared.cmp.Ordering.{Ordering}
use Rattle.std.specs.declared.cmp.Ordering.TheVariants.{Less, Equal, Greater}
use Rattle.values.specs.Order.{compare_word, or_else, compare}

decided : (o p : Ordering) → is_ne o ≡ true → or_else o p ≡ o
unfolding or_else
decided Less p h = refl
decided Equal p h = absurd (false≢true h)
decided Greater p h = refl

undecided : (o p : Ordering) → is_ne o ≡ false → or_else o p ≡ p
unfolding or_else
undecided Less p h = absurd (true≢false h)
undecided Equal p h = refl
undecided Greater p h = absurd (true≢false h)

-- one turn of the comparison, and its end
module _ (a b : List ℕ) (i : ℕ) where
  pub compare_end : i ≤ length a → i ≤ length b → min (length a) (length b) ≤ i → nat_cmp (length a) (length b) ≡ compare (drop i a) (drop i b)
  unfolding compare
  compare_end p q r = go (ltb (length a) (length b)) refl (eqb (length a) (length b)) refl
    where
      go : (l : Bool) → ltb (length a) (length b) ≡ l → (e : Bool) → eqb (length a) (length b) ≡ e → cond l Less (cond e Equal Greater) ≡ compare (drop i a) (drop i b)
      go true l e f = let h = ltb-true _ _ l in rw (drop_of_length-le a {i = i} (omega arith), drop-cons b i 0 (omega arith))
      go false l true f = let h = eqb-true _ _ f in rw (drop_of_length-le a {i = i} (omega arith), drop_of_length-le b {i = i} (omega arith))
      go false l false f = let h = ltb-false _ _ l in let g = eqb-false _ _ f in rw (drop-cons a i 0 (omega arith), drop_of_length-le b {i = i} (omega arith))

  module _ (p : i < length a) (q : i < length b) where
    compare_turn : compare (drop i a) (drop i b) ≡ or_else (compare_word (get_or a i 0) (get_or b i 0)) (compare (drop (i + 1) a) (drop (i + 1) b))
    unfolding compare
    compare_turn = rw (add-one i, drop-cons a i 0 p, drop-cons b i 0 q)

    pub compare_stop : (o : Ordering) → o ≡ compare_word (get_or a i 0) (get_or b i 0) → is_ne o ≡ true → o ≡ compare (drop i a) (drop i b)
    compare_stop o e h = sym (compare_turn ∙ rw (← e) (decided o (compare (drop (i + 1) a) (drop (i + 1) b)) h))

    pub compare_go : (o : Ordering) → o ≡ compare_word (get_or a i 0) (get_or b i 0) → is_ne o ≡ false → compare (drop i a) (drop i b) ≡ compare (drop (i + 1) a) (drop (i + 1) b)
    compare_go o e h = compare_turn ∙ rw (← e) (undecided o (compare (drop (i + 1) a) (drop (i + 1) b)) h)
