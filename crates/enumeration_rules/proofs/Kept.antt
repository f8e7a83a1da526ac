-- For the rules, which keep a value of at most 64 words: of well-formed operands such a list is well formed, with no more known of the operands.
use mathlib.Core.Path.{◌≡◌, refl, ◌∙◌}
use mathlib.Core.Bool.{true}
use mathlib.Core.List.{List, [], ◌∷◌}
use Prim.Native.Nat.{ℕ, zero, suc, ◌+◌, ◌*◌, ◌≤◌, ◌<◌, ◌^◌}
use native.Mathlib.Omega.{arith}
use native.Mathlib.Nat.{pow-le-pow_right, mul-le-mul}
use lib.ListN.{length}
use Rattle.values.specs.Value.{Value, set, tuple, Values, nil, cons, count, encode, encodes}
use Rattle.values.specs.WellFormed.{ascends, well_formed}
use Rattle.enumeration_rules.specs.Enumeration.{each, subsets, tuples}
use Rattle.enumeration_rules.specs.WordCounts.{row_count, row_words, product_words}
use Rattle.enumeration_rules.proofs.Rows.{All, none, also, Members, nobody, member, all_map}
use Rattle.enumeration_rules.proofs.Powers.{choices_all, sizes_all, power_formed}
use Rattle.enumeration_rules.proofs.Products.{picks_all, Operand, product_formed}
use Rattle.enumeration_rules.proofs.Counting.{power_words, product_count, product_words_lem}

-- ---- well formed

-- every member has its words in the power
operand_short : (vs : Values) → length (encode (set (subsets vs))) ≤ 64 → length (encodes vs) < 2 ^ 31
operand_short vs l =
    let p : 2 ^ 0 ≤ 2 ^ count vs = pow-le-pow_right (omega arith) {i = 0} (omega arith) in
    let w : 4 + length (encodes vs) ≤ 4 + length (encodes vs) = omega arith in
    omega (arith, power_words vs, mul-le-mul p w)

pub power_kept : (size : ℕ → ℕ) (vs : Values) → well_formed size (set vs) ≡ true → length (encode (set (subsets vs))) ≤ 64 → well_formed size (set (subsets vs)) ≡ true
power_kept size vs h l = power_formed size vs h (operand_short vs l)

-- where there is a row, every operand has its words in the rows
row_count_lem : (m n : ℕ) → 1 ≤ m * n → (1 ≤ m) × (1 ≤ n)
row_count_lem zero n l = absurd (omega arith)
row_count_lem (suc m) zero l = absurd (omega arith)
row_count_lem (suc m) (suc n) l = (omega arith, omega arith)

operands_short : (bound : ℕ) (vss : List Values) → 1 ≤ row_count vss → row_words vss ≤ bound → All (λ vs. length (encodes vs) ≤ bound) vss
unfolding row_count row_words
operands_short bound [] c l = none
operands_short bound (vs ∷ vss) c l =
    let k = row_count_lem (count vs) (row_count vss) c in
    let w : length (encodes vs) ≤ length (encodes vs) = omega arith in
    let r : row_words vss ≤ row_words vss = omega arith in
    also {r = vs} (omega (arith, mul-le-mul w k.1)) (operands_short bound vss k.1 (omega (arith, mul-le-mul k.0 r)))

none_formed : (size : ℕ → ℕ) (vs : Values) → count vs ≡ 0 → well_formed size (set vs) ≡ true
unfolding well_formed ascends count
none_formed size nil e = refl
none_formed size (cons v vs) e = absurd (omega arith)

pub product_kept : (size : ℕ → ℕ) (vss : List Values) → All (λ vs. well_formed size (set vs) ≡ true) vss → 2 ≤ length vss → length vss ≤ 6 →
    length (encode (set (tuples vss))) ≤ 64 → well_formed size (set (tuples vss)) ≡ true
unfolding product_words
product_kept size vss h a b l = go (row_count vss) refl
  where
    go : (n : ℕ) → row_count vss ≡ n → well_formed size (set (tuples vss)) ≡ true
    go zero e = none_formed size (tuples vss) (product_count vss ∙ e)
    go (suc n) e = product_formed size vss (pairs h (operands_short 64 vss (omega arith) (omega (arith, product_words_lem vss)))) a b
      where
        pairs : {xs : List Values} → All (λ vs. well_formed size (set vs) ≡ true) xs → All (λ vs. length (encodes vs) ≤ 64) xs → All (Operand size) xs
        pairs none none = none
        pairs (also {r} p ps) (also q qs) = also {r = r} (p, omega arith) (pairs ps qs)

-- ---- any other claim: what members give a row, every listed value has

each_members : {Q : Value → Type 0} (f : Values → Value) {xs : List Values} → All (λ r. Q (f r)) xs → Members Q (each f xs)
unfolding each
each_members f none = nobody
each_members f (also p h) = member p (each_members f h)

module _ {M Q : Value → Type 0} {P : Values → Type 0} (empty : P nil) (more : (v : Value) (r : Values) → M v → P r → P (cons v r)) where
  pub power_each : ((r : Values) → P r → Q (set r)) → {vs : Values} → Members M vs → Members Q (subsets vs)
  unfolding subsets
  power_each f {vs} h = each_members set (all_map f (sizes_all vs (λ k. choices_all empty more k vs h) (suc (count vs)) 0))

  pub product_each : ((r : Values) → P r → Q (tuple r)) → {vss : List Values} → All (Members M) vss → Members Q (tuples vss)
  unfolding tuples
  product_each f h = each_members tuple (all_map f (picks_all empty more h))
