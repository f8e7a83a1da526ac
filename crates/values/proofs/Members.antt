-- One turn of each loop over a set's members: n members, i of them passed, the next at the place `at` of s.
use Rattle.std.proofs.Common.{◌≡◌, ℕ, zero, suc, ◌+◌, ◌-◌, ◌<◌, ◌≤◌, true, false, cond, List, [], ◌∷◌, drop, refl, arith, drop-drop, None, Some}
use Rattle.words.proofs.Loops.{turn, none_left_lem}
use Rattle.values.specs.Order.{compare, same}
use Rattle.values.specs.Span.{span}
use Rattle.values.specs.Sets.{first, rest, among, choose, place_from, is_pair, are_pairs, places, second, only_place}
use Rattle.std.specs.declared.cmp.Ordering.TheVariants.{Less, Equal, Greater}
use Rattle.values.specs.Applied.{Applied, Misfit, Undefined}

pub rest_at : (s : List ℕ) (at : ℕ) → rest (drop at s) ≡ drop (at + span (drop at s)) s
unfolding rest
rest_at s at = drop-drop (span (drop at s)) at s

module _ (s m : List ℕ) (n i at : ℕ) where
  pub among_hit : i < n → same (first (drop at s)) m ≡ true → true ≡ among (n - i) (drop at s) m
  unfolding among
  among_hit h e = rw (turn n i h, among, e)

  pub among_go : i < n → same (first (drop at s)) m ≡ false → (k : ℕ) → k ≡ span (drop at s) → among (n - i) (drop at s) m ≡ among (n - (i + 1)) (drop (at + k) s) m
  unfolding among
  among_go h e k f = rw (turn n i h, among, e, rest_at s at, f)

  pub among_end : n ≤ i → false ≡ among (n - i) (drop at s) m
  unfolding among
  among_end h = rw (none_left_lem n i h)

  pub place_less : i < n → compare m (first (drop at s)) ≡ Less → Some at ≡ place_from (n - i) at (drop at s) m
  unfolding place_from choose
  place_less h e = rw (turn n i h, place_from, e)

  pub place_same : i < n → compare m (first (drop at s)) ≡ Equal → None ≡ place_from (n - i) at (drop at s) m
  unfolding place_from choose
  place_same h e = rw (turn n i h, place_from, e)

  pub place_go : i < n → compare m (first (drop at s)) ≡ Greater → (k : ℕ) → k ≡ span (drop at s) → place_from (n - i) at (drop at s) m ≡ place_from (n - (i + 1)) (at + k) (drop (at + k) s) m
  unfolding place_from choose
  place_go h e k f = rw (turn n i h, place_from, e, rest_at s at, f)

  pub place_end : n ≤ i → Some at ≡ place_from (n - i) at (drop at s) m
  unfolding place_from
  place_end h = rw (none_left_lem n i h)

-- What Apply answers where i of n members are passed, the next at the place `at` of f, and `hits` of the passed ones are pairs whose first part is a, the last
-- of them at the place `hit`.
unfoldable pub seen : ℕ → ℕ → List ℕ → List ℕ
seen zero hit more = more
seen (suc zero) hit more = hit ∷ more
seen (suc (suc k)) hit more = hit ∷ hit ∷ more

unfoldable pub apply_from : List ℕ → List ℕ → ℕ → ℕ → ℕ → ℕ → Applied
apply_from f a left at hits hit = cond (are_pairs left (drop at f)) (only_place f (seen hits hit (places left at (drop at f) a))) Misfit

seen_more : (f : List ℕ) (hits hit at : ℕ) (more : List ℕ) → only_place f (seen hits hit (at ∷ more)) ≡ only_place f (seen (suc hits) at more)
unfolding seen only_place
seen_more f zero hit at more = refl
seen_more f (suc zero) hit at more = refl
seen_more f (suc (suc k)) hit at more = refl

module _ (f a : List ℕ) (n i at hits hit : ℕ) where
  pub apply_misfit : i < n → is_pair (drop at f) ≡ false → Misfit ≡ apply_from f a (n - i) at hits hit
  unfolding apply_from are_pairs
  apply_misfit h e = rw (turn n i h, are_pairs, e)

  module _ (h : i < n) (e : is_pair (drop at f) ≡ true) (k : ℕ) (g : k ≡ span (drop at f)) where
    pub apply_hit : same (first (drop 2 (drop at f))) a ≡ true → apply_from f a (n - i) at hits hit ≡ apply_from f a (n - (i + 1)) (at + k) (hits + 1) at
    unfolding apply_from are_pairs places
    apply_hit t =
        let q : hits + 1 ≡ suc hits = omega arith in
        rw (turn n i h, are_pairs, places, e, t, rest_at f at, g, q, seen_more f hits hit at (places (n - (i + 1)) (at + span (drop at f)) (drop (at + span (drop at f)) f) a))

    pub apply_go : same (first (drop 2 (drop at f))) a ≡ false → apply_from f a (n - i) at hits hit ≡ apply_from f a (n - (i + 1)) (at + k) hits hit
    unfolding apply_from are_pairs places
    apply_go t = rw (turn n i h, are_pairs, places, e, t, rest_at f at, g)

  pub apply_one : n ≤ i → hits ≡ 1 → second f hit ≡ apply_from f a (n - i) at hits hit
  unfolding apply_from are_pairs places seen only_place
  apply_one h e = rw (none_left_lem n i h, e)

  pub apply_none : n ≤ i → (hits ≡ 1 → ⊥) → Undefined ≡ apply_from f a (n - i) at hits hit
  unfolding apply_from are_pairs places seen only_place
  apply_none h e = rw (none_left_lem n i h) (go hits e)
    where
      go : (k : ℕ) → (k ≡ 1 → ⊥) → Undefined ≡ only_place f (seen k hit [])
      go zero x = refl
      go (suc zero) x = absurd (x refl)
      go (suc (suc k)) x = refl
