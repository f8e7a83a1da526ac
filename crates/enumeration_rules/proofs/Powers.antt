-- The listed members of a power ascend, and are well formed.
use mathlib.Core.Path.{◌≡◌, refl, ap}
use mathlib.Core.Bool.{true}
use mathlib.Core.List.{List, []}
use Prim.Native.Nat.{ℕ, zero, suc, ◌+◌, ◌≤◌, ◌<◌, ◌^◌}
use native.Mathlib.Omega.{arith}
use lib.ListN.{length}
use Rattle.words.proofs.Loops.{and_left, and_right}
use Rattle.values.specs.Order.{or_else, compare, is_less}
use Rattle.values.specs.Value.{Value, set, Values, nil, cons, count, encode, encodes}
use Rattle.values.specs.WellFormed.{ascends, well_formed, all_well_formed}
use Rattle.values.proofs.Encoding.{count_few}
use Rattle.values.proofs.Unique.{both}
use Rattle.enumeration_rules.specs.Enumeration.{rows, choices, choices_from, subsets}
use Rattle.values.proofs.WordOrder.{word_itself, small_less}
use Rattle.enumeration_rules.proofs.Rows.{All, none, also, Members, nobody, member, anybody, Rising, flat, step, all_append, all_map, all_before, rising_append, rising_map}
use Rattle.enumeration_rules.proofs.Rows.{rows_all, Below, Lower, Up, up_none, up_more, ascends_below, ascends_up, rows_rising, each_ascends, formed_members, each_formed, one_more, headed}

-- ---- all choices of k

pub choices_rising : (k : ℕ) (vs : Values) → Up vs → Rising Lower (choices k vs)
unfolding choices
choices_rising zero vs u = step none flat
choices_rising (suc k) vs u = rows_rising (choices k) (λ us. choices_rising k us) u

pub choices_count : (k : ℕ) (vs : Values) → All (λ r. count r ≡ k) (choices k vs)
unfolding choices count
choices_count zero vs = also refl none
choices_count (suc k) vs = rows_all (choices k) (λ v r _ e. ap suc e) (λ us _. choices_count k us) (anybody vs)

pub choices_all : {M : Value → Type 0} {P : Values → Type 0} → P nil → ((v : Value) (r : Values) → M v → P r → P (cons v r)) → (k : ℕ) (vs : Values) → Members M vs → All P (choices k vs)
unfolding choices
choices_all e f zero vs h = also e none
choices_all e f (suc k) vs h = rows_all (choices k) f (λ us. choices_all e f k us) h

-- each choice ascends
rows_ascend : (p : List ℕ) (more : Values → List Values) → ((q : List ℕ) (us : Values) → Up us → Members (Below q) us → All (λ r. ascends q r ≡ true) (more us)) →
    {vs : Values} → Up vs → Members (Below p) vs → All (λ r. ascends p r ≡ true) (rows vs more)
unfolding rows ascends
rows_ascend p more f up_none nobody = none
rows_ascend p more f (up_more {v} {vs} h a u) (member b m) =
    all_append (all_before v (λ r e. both (is_less (compare p (encode v))) _ b e) (f (encode v) vs u a)) (rows_ascend p more f u m)

choices_ascend : (k : ℕ) (p : List ℕ) (vs : Values) → Up vs → Members (Below p) vs → All (λ r. ascends p r ≡ true) (choices k vs)
unfolding choices ascends
choices_ascend zero p vs u m = also refl none
choices_ascend (suc k) p vs u m = rows_ascend p (choices k) (choices_ascend k) u m

-- ---- all sizes

pub sizes_all : {P : Values → Type 0} (vs : Values) → ((k : ℕ) → All P (choices k vs)) → (n k : ℕ) → All P (choices_from k n vs)
unfolding choices_from
sizes_all vs f zero k = none
sizes_all vs f (suc n) k = all_append (f k) (sizes_all vs f n (suc k))

pub sizes_count : (n k : ℕ) (vs : Values) → All (λ r. (k ≤ count r) × (count r < k + n)) (choices_from k n vs)
unfolding choices_from
sizes_count zero k vs = none
sizes_count (suc n) k vs =
    all_append (all_map (λ r e. (omega arith, omega arith)) (choices_count k vs)) (all_map (λ r h. (omega (arith, h.0), omega (arith, h.1))) (sizes_count n (suc k) vs))

-- sets by their words: of one size by their members, else by their size
abbrev Less : Values → Values → Type 0
Less r s = Below (encode (set r)) (set s)

same_size : (k : ℕ) (r s : Values) → count r ≡ k → count s ≡ k → Lower r s → Less r s
unfolding encode
same_size k r s p q l = rw (p, q, headed 3 k (encodes r) (encodes s)) l

larger : (r s : Values) → count r < count s → count s < 2 ^ 31 → Less r s
unfolding encode compare or_else is_less
larger r s p q = rw (word_itself 3, small_less (count r) (count s) p q)

sizes_rising : (n k : ℕ) (vs : Values) → k + n ≤ 2 ^ 31 → Up vs → Rising Less (choices_from k n vs)
unfolding choices_from
sizes_rising zero k vs b u = flat
sizes_rising (suc n) k vs b u =
    rising_append (rising_map (λ r s p q l. same_size k r s p q l) (choices_count k vs) (choices_rising k vs u)) (sizes_rising n (suc k) vs (omega arith) u)
    (all_map (λ r e. all_map (λ s h. larger r s (omega (arith, h.0)) (omega (arith, h.1))) (sizes_count n (suc k) vs)) (choices_count k vs))

-- ---- the power

from_nothing : (vs : Values) → Below [] (set vs)
unfolding encode compare is_less
from_nothing vs = refl

-- Of a well-formed set, the power is a well-formed set: its members ascend, and so do those of each member.
module _ (size : ℕ → ℕ) (vs : Values) (h : well_formed size (set vs) ≡ true) (l : length (encodes vs) < 2 ^ 31) where
  power_up : Up vs
  unfolding well_formed
  power_up = ascends_up [] vs (omega arith) (and_right (all_well_formed size vs) _ h)

  choices_formed : (k : ℕ) → All (λ r. well_formed size (set r) ≡ true) (choices k vs)
  unfolding well_formed
  choices_formed k =
      let a = choices_all {P = λ r. all_well_formed size r ≡ true} refl (one_more size) k vs (formed_members size vs (and_left (all_well_formed size vs) _ h)) in
      let b = choices_ascend k [] vs power_up (ascends_below [] vs (and_right (all_well_formed size vs) _ h)) in
      go a b
    where
      go : {xs : List Values} → All (λ r. all_well_formed size r ≡ true) xs → All (λ r. ascends [] r ≡ true) xs → All (λ r. well_formed size (set r) ≡ true) xs
      go none none = none
      go (also {r} p a) (also q b) = also (both (all_well_formed size r) _ p q) (go a b)

  pub power_ascends : ascends [] (subsets vs) ≡ true
  unfolding subsets
  power_ascends =
      each_ascends set [] (sizes_all vs (λ k. all_map (λ r _. from_nothing r) (choices_count k vs)) (suc (count vs)) 0)
      (sizes_rising (suc (count vs)) 0 vs (omega (arith, count_few vs)) power_up)

  pub power_formed : well_formed size (set (subsets vs)) ≡ true
  unfolding well_formed subsets
  power_formed = both (all_well_formed size (subsets vs)) _ (each_formed size set (sizes_all vs choices_formed (suc (count vs)) 0)) power_ascends
