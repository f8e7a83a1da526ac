-- The listed members of a product ascend, and are well formed.
use mathlib.Core.Path.{◌≡◌, refl, ap}
use mathlib.Core.Bool.{true}
use mathlib.Core.List.{List, [], ◌∷◌}
use Prim.Native.Nat.{ℕ, suc, ◌≤◌, ◌<◌, ◌^◌}
use native.Mathlib.Omega.{arith}
use lib.Dec.{leb}
use lib.ListN.{length}
use borrow.Author.Tests.{le-leb}
use Rattle.words.proofs.Loops.{and_left, and_right}
use Rattle.values.specs.Order.{compare, is_less}
use Rattle.values.specs.Value.{Value, set, tuple, Values, nil, cons, count, encode, encodes}
use Rattle.values.specs.WellFormed.{ascends, well_formed, all_well_formed}
use Rattle.values.proofs.Unique.{both}
use Rattle.enumeration_rules.specs.Enumeration.{picks, tuples}
use Rattle.enumeration_rules.proofs.Rows.{All, none, also, Members, anybody, Rising, flat, step, all_map, rising_map}
use Rattle.enumeration_rules.proofs.Rows.{rows_all, Below, Lower, Up, ascends_up, rows_rising, each_ascends, formed_members, each_formed, one_more, headed}

pub picks_rising : {vss : List Values} → All Up vss → Rising Lower (picks vss)
unfolding picks
picks_rising none = step none flat
picks_rising (also {rs = vss} u us) = rows_rising (λ _. picks vss) (λ _ _. picks_rising us) u

pub picks_count : (vss : List Values) → All (λ r. count r ≡ length vss) (picks vss)
unfolding picks count
picks_count [] = also refl none
picks_count (vs ∷ vss) = rows_all (λ _. picks vss) (λ v r _ e. ap suc e) (λ _ _. picks_count vss) (anybody vs)

pub picks_all : {M : Value → Type 0} {P : Values → Type 0} → P nil → ((v : Value) (r : Values) → M v → P r → P (cons v r)) → {vss : List Values} → All (Members M) vss → All P (picks vss)
unfolding picks
picks_all e f none = also e none
picks_all e f (also {rs = vss} h hs) = rows_all (λ _. picks vss) f (λ _ _. picks_all e f hs) h

-- tuples of one length by their parts
abbrev Less : Values → Values → Type 0
Less r s = Below (encode (tuple r)) (tuple s)

same_length : (k : ℕ) (r s : Values) → count r ≡ k → count s ≡ k → Lower r s → Less r s
unfolding encode
same_length k r s p q l = rw (p, q, headed 4 k (encodes r) (encodes s)) l

from_nothing : (vs : Values) → Below [] (tuple vs)
unfolding encode compare is_less
from_nothing vs = refl

-- Of 2 to 6 well-formed sets, the product is a well-formed set.
abbrev pub Operand : (ℕ → ℕ) → Values → Type 0
Operand size vs = (well_formed size (set vs) ≡ true) × (length (encodes vs) < 2 ^ 32)

module _ (size : ℕ → ℕ) (vss : List Values) (h : All (Operand size) vss) where
  operands_up : All Up vss
  unfolding well_formed
  operands_up = all_map (λ vs o. ascends_up [] vs o.1 (and_right (all_well_formed size vs) _ o.0)) h

  pub product_ascends : ascends [] (tuples vss) ≡ true
  unfolding tuples
  product_ascends =
      each_ascends tuple [] (all_map (λ r _. from_nothing r) (picks_count vss))
      (rising_map (λ r s p q l. same_length (length vss) r s p q l) (picks_count vss) (picks_rising operands_up))

  pub product_formed : 2 ≤ length vss → length vss ≤ 6 → well_formed size (set (tuples vss)) ≡ true
  unfolding well_formed tuples
  product_formed a b =
      both (all_well_formed size (tuples vss)) _
      (each_formed size tuple (go (picks_all {P = λ r. all_well_formed size r ≡ true} refl (one_more size) (all_map (λ vs o. formed_members size vs (and_left (all_well_formed size vs) _ o.0)) h)) (picks_count vss)))
      product_ascends
    where
      go : {xs : List Values} → All (λ r. all_well_formed size r ≡ true) xs → All (λ r. count r ≡ length vss) xs → All (λ r. well_formed size (tuple r) ≡ true) xs
      go none none = none
      go (also {r} p k) (also e c) = also (both (all_well_formed size r) _ p (both (leb 2 (count r)) _ (le-leb 2 (count r) (omega arith)) (le-leb (count r) 6 (omega arith)))) (go k c)
