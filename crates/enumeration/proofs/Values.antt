-- What the functions hold, said of values: the power of a set, and a product with one operand more.
use Rattle.std.proofs.Common.{◌≡◌, ℕ, zero, suc, ◌+◌, ◌-◌, ◌*◌, ◌/◌, ◌^◌, ◌<◌, ◌≤◌, Bool, true, false, leb, List, length, get_or, sym, refl, ap, subst, arith, leb-false, leb-true}
use Rattle.values.specs.Held.{keep, over}
use Rattle.values.specs.declared.held.Held.{Held}
use Rattle.values.specs.Value.{set, tuple, Values, nil, cons, count, encode, encodes}
use Rattle.values.proofs.Holding.{keep_over, held_words}
use Rattle.enumeration_rules.specs.Enumeration.{each, subsets}
use Rattle.enumeration_rules.specs.OnWords.{grow, grow_on, power_on}
use Rattle.enumeration_rules.proofs.Counting.{each_count, power_words, power_few}
use Rattle.enumeration_rules.proofs.OnWords.{grow_words, grow_empty, grow_total, grow_more, power_on_lem}

-- the second word of a set is its count
pub set_count : (s : List ℕ) (vs : Values) → s ≡ encode (set vs) → get_or s 1 0 ≡ count vs
unfolding encode
set_count s vs e = rw e

-- ---- the power of a set
module _ (vs : Values) where
  -- by its count, then by its words
  pub power_many : 3 < count vs → over ≡ keep (encode (set (subsets vs)))
  power_many c = sym (keep_over (encode (set (subsets vs))) (go (leb (length (encode (set (subsets vs)))) 64) refl))
    where
      go : (b : Bool) → leb (length (encode (set (subsets vs)))) 64 ≡ b → 64 < length (encode (set (subsets vs)))
      go true q = absurd (omega (arith, power_few vs (leb-true (length (encode (set (subsets vs)))) 64 q)))
      go false q = leb-false (length (encode (set (subsets vs)))) 64 q

  twice : (n : ℕ) → count vs ≡ n → 2 * length (encode (set (subsets vs))) ≡ 4 + 2 ^ n * (4 + length (encodes vs))
  twice n q = subst (λ (m : ℕ). 2 * length (encode (set (subsets vs))) ≡ 4 + 2 ^ m * (4 + length (encodes vs))) q (power_words vs)

  past : (n : ℕ) → count vs ≡ n → n ≤ 3 → 124 / 2 ^ n - 2 < length (encode (set vs)) → 64 < length (encode (set (subsets vs)))
  unfolding encode
  past zero q l h = omega (arith, twice 0 q)
  past (suc zero) q l h = omega (arith, twice 1 q)
  past (suc (suc zero)) q l h = omega (arith, twice 2 q)
  past (suc (suc (suc zero))) q l h = omega (arith, twice 3 q)
  past (suc (suc (suc (suc n)))) q l h = absurd (omega arith)

  pub power_long : (e : ℕ) → e ≡ 2 ^ count vs → count vs ≤ 3 → 124 / e - 2 < length (encode (set vs)) → over ≡ keep (encode (set (subsets vs)))
  power_long e q l h = sym (keep_over (encode (set (subsets vs))) (past (count vs) refl l (rw q at h)))

  pub power_listed : count vs ≤ 3 → length (encode (set vs)) ≤ 64 → keep (power_on (encode (set vs))) ≡ keep (encode (set (subsets vs)))
  power_listed c l = ap keep (power_on_lem vs c l)

-- ---- a product with one operand more
module _ (rs : List Values) where
  -- no member, no tuple
  pub grow_none : (vs : Values) → count vs ≡ 0 → keep (encode (set nil)) ≡ keep (encode (set (each tuple (grow rs vs))))
  unfolding each count
  grow_none nil e = rw (grow_empty rs)
  grow_none (cons v vs) e = absurd (omega arith)

  -- tuples of over 64 words stay over
  pub grow_over : (vs : Values) → (count vs ≡ 0 → ⊥) → 64 < length (encode (set (each tuple rs))) → over ≡ keep (encode (set (each tuple (grow rs vs))))
  unfolding count
  grow_over nil n l = absurd (n refl)
  grow_over (cons v vs) n l = sym (keep_over (encode (set (each tuple (grow rs (cons v vs))))) (omega (arith, grow_more rs v vs)))

  pub grow_long : (vs : Values) (m n p s : ℕ) → m ≡ length rs → n ≡ count vs → p ≡ length (encode (set (each tuple rs))) → s ≡ length (encode (set vs)) → leb (n * p + m * s) (62 + 2 * (m + n)) ≡ false →
      over ≡ keep (encode (set (each tuple (grow rs vs))))
  grow_long vs m n p s a b c d f =
      let l : 62 + 2 * (length rs + count vs) < count vs * length (encode (set (each tuple rs))) + length rs * length (encode (set vs)) = leb-false _ _ (rw (a, b, c, d) at f) in
      sym (keep_over (encode (set (each tuple (grow rs vs)))) (omega (arith, l, grow_total rs vs)))

  -- how many tuples are held
  pub rows_held : (p : Held) → p ≡ keep (encode (set (each tuple rs))) → length (encode (set (each tuple rs))) ≤ 64 → get_or p.words 1 0 ≡ length rs
  unfolding encode
  rows_held p e l = rw (held_words p (encode (set (each tuple rs))) e l) (each_count tuple rs)

  pub grow_listed : (vs : Values) → length (encode (set (each tuple rs))) ≤ 64 → length (encode (set vs)) ≤ 64 → keep (grow_on (encode (set (each tuple rs))) (encode (set vs))) ≡ keep (encode (set (each tuple (grow rs vs))))
  grow_listed vs l k = ap keep (grow_words rs vs l k)
