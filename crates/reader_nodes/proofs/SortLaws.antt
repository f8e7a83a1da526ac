-- THE SORTS OF A KIND ARE THOSE WITHIN WHICH ITS NARROWEST ONE IS, for every kind and every number as a sort.
use mathlib.Core.Path.{◌≡◌, refl, sym, ◌∙◌}
use mathlib.Core.Bool.{Bool, true, false, ◌&&◌, cond, not, false≢true}
use Prim.Native.Nat.{ℕ, ◌≤◌, ◌<◌}
use native.Mathlib.Omega.{arith}
use lib.Dec.{ltb, eqb}
use borrow.Author.Tests.{ltb-true, ltb-false, lt-ltb, ne_eqb}
use Rattle.words.specs.Loops.{every}
use Rattle.words.proofs.Loops.{every_at}
use Rattle.reader_rules.specs.Kinds.{of_sort}
use Rattle.reader_nodes.specs.Choices.{by_ranges, by_kind, other_sort, chosen_sort, within}
use Rattle.reader_nodes.proofs.RangeLaws.{over, past}

-- both tests pass, or neither
abbrev both_or_neither : Bool → Bool → Bool
both_or_neither true b = b
both_or_neither false b = not b

both_or_neither_lem : (a b : Bool) → both_or_neither a b ≡ true → a ≡ b
both_or_neither_lem true true e = refl
both_or_neither_lem true false e = absurd (false≢true e)
both_or_neither_lem false true e = absurd (false≢true e)
both_or_neither_lem false false e = refl

-- the listed kinds and the sorts
listed_sorts : every (λ q. every (λ s. both_or_neither (within (chosen_sort q) s) (of_sort s q)) 0 13) 0 47 ≡ true
unfolding every within chosen_sort by_ranges by_kind other_sort of_sort
listed_sorts = refl

-- a number from 13 on is no sort
module _ (s : ℕ) (h : 13 ≤ s) where
  no : (t : ℕ) → t < 13 → eqb s t ≡ false
  no t l = ne_eqb s t (λ e. omega arith)

  no_sort : (q : ℕ) → of_sort s q ≡ false
  unfolding of_sort
  no_sort q =
      rw (no 6 (omega arith), no 7 (omega arith), no 8 (omega arith), no 9 (omega arith), no 10 (omega arith), no 11 (omega arith), no 12 (omega arith))

  not_within : (t : ℕ) → t < 13 → within t s ≡ false
  unfolding within
  not_within t l = rw (lt-ltb 5 s (omega arith), no t l, no 7 (omega arith), no 10 (omega arith))

-- a kind from 47 on has no sort
module _ (q : ℕ) (h : 47 ≤ q) where
  other_kind : (k : ℕ) → k < 47 → eqb q k ≡ false
  other_kind k l = ne_eqb q k (λ e. omega arith)

  past_sort : chosen_sort q ≡ 0
  unfolding chosen_sort other_sort
  past_sort = past _ _ _ _ _ _ _ _ _ q h

  nothing : (b x : Bool) → x ≡ false → cond b false x ≡ false
  nothing true x e = refl
  nothing false x e = e

  past_kind : (s : ℕ) → of_sort s q ≡ false
  unfolding of_sort
  past_kind s =
      rw (over 2 q 6 (omega arith), over 20 q 29 (omega arith), over 30 q 46 h, over 11 q 12 (omega arith), other_kind 10 (omega arith), other_kind 12 (omega arith), other_kind 15 (omega arith))
      (nothing (eqb s 6) _ (nothing (eqb s 7) _ (nothing (eqb s 8) _ (nothing (eqb s 9) _ (nothing (eqb s 10) _ (nothing (eqb s 11) _ (nothing (eqb s 12) _ refl)))))))

  none_within : (s : ℕ) → within 0 s ≡ false
  unfolding within
  none_within s = go (ltb 5 s) refl
    where
      both : (a b : Bool) → cond a false (b && false) ≡ false
      both true b = refl
      both false true = refl
      both false false = refl

      go : (b : Bool) → ltb 5 s ≡ b → within 0 s ≡ false
      go false e = rw (e)
      go true e = rw (e, ne_eqb s 0 (λ z. omega (arith, ltb-true 5 s e))) (both (eqb s 7) (eqb s 10))

sort_bounds : every (λ q. ltb (chosen_sort q) 13) 0 47 ≡ true
unfolding every chosen_sort by_ranges by_kind other_sort
sort_bounds = refl

pub sorts_chosen : (s q : ℕ) → within (chosen_sort q) s ≡ of_sort s q
sorts_chosen s q = go (ltb q 47) (ltb s 13) refl refl
  where
    go : (a b : Bool) → ltb q 47 ≡ a → ltb s 13 ≡ b → within (chosen_sort q) s ≡ of_sort s q
    go true true e f =
        both_or_neither_lem (within (chosen_sort q) s) (of_sort s q)
        (every_at (λ (n : ℕ). both_or_neither (within (chosen_sort q) n) (of_sort n q)) 0 13
        (every_at (λ (k : ℕ). every (λ (n : ℕ). both_or_neither (within (chosen_sort k) n) (of_sort n k)) 0 13) 0 47 listed_sorts q (omega arith) (ltb-true q 47 e)) s (omega arith) (ltb-true s 13 f))
    go true false e f =
        let b = ltb-true (chosen_sort q) 13 (every_at (λ (k : ℕ). ltb (chosen_sort k) 13) 0 47 sort_bounds q (omega arith) (ltb-true q 47 e)) in
        not_within s (ltb-false s 13 f) (chosen_sort q) b ∙ sym (no_sort s (ltb-false s 13 f) q)
    go false b e f = rw (past_sort q (ltb-false q 47 e), past_kind q (ltb-false q 47 e) s) (none_within q (ltb-false q 47 e) s)
