-- Which rows are listed, by their words; and which sets or tuples, by their rows.
use mathlib.Core.Path.{◌≡◌, refl}
use mathlib.Core.Bool.{Bool, true, false, cond, ◌&&◌}
use mathlib.Core.List.{List, [], ◌∷◌, ◌++◌}
use Prim.Native.Nat.{ℕ, ◌<◌, ◌^◌}
use Rattle.values.specs.Order.{compare_word, or_else, compare, is_same, same}
use Rattle.values.specs.Value.{Value, Values, cons, count, encode, encodes}
use Rattle.values.specs.SetValues.{same_value, is_in}
use Rattle.std.specs.declared.cmp.Ordering.{Ordering}
use Rattle.std.specs.declared.cmp.Ordering.TheVariants.{Less, Equal, Greater}
use Rattle.enumeration_rules.specs.Enumeration.{before, each}
use Rattle.values.proofs.WordOrder.{word_alike, word_itself}
use Rattle.values.proofs.Joined.{value_join}
use Rattle.enumeration_rules.proofs.Rows.{All, none, also, Short, headed}

unfoldable pub has_row : Values → List Values → Bool
has_row ws [] = false
has_row ws (r ∷ rs) = cond (same (encodes r) (encodes ws)) true (has_row ws rs)

or_assoc : (a b c : Bool) → cond a true (cond b true c) ≡ cond (cond a true b) true c
or_assoc true b c = refl
or_assoc false b c = refl

and_or : (a b c : Bool) → cond (a && b) true (a && c) ≡ a && cond b true c
and_or true b c = refl
and_or false b c = refl

pub or_and : (a b c : Bool) → cond (a && c) true (b && c) ≡ cond a true b && c
or_and true true true = refl
or_and true true false = refl
or_and true false true = refl
or_and true false false = refl
or_and false b c = refl

pub has_append : (ws : Values) (xs ys : List Values) → has_row ws (xs ++ ys) ≡ cond (has_row ws xs) true (has_row ws ys)
unfolding has_row
has_append ws [] ys = refl
has_append ws (r ∷ xs) ys = rw (has_append ws xs ys) (or_assoc (same (encodes r) (encodes ws)) (has_row ws xs) (has_row ws ys))

same_else : (o p : Ordering) → is_same (or_else o p) ≡ (is_same o && is_same p)
unfolding is_same or_else
same_else Less p = refl
same_else Equal p = refl
same_else Greater p = refl

-- a row that begins with v, against one that begins with w
pub has_before : (v w : Value) (ws : Values) → Short v → Short w → (xs : List Values) → has_row (cons w ws) (before v xs) ≡ (same_value v w && has_row ws xs)
unfolding has_row before encode same same_value
has_before v w ws h k [] = nothing (is_same (compare (encode v) (encode w)))
  where
    nothing : (b : Bool) → false ≡ (b && false)
    nothing true = refl
    nothing false = refl
has_before v w ws h k (r ∷ xs) =
    rw (value_join v w (encodes r) (encodes ws) h k, same_else (compare (encode v) (encode w)) (compare (encodes r) (encodes ws)), has_before v w ws h k xs)
    (and_or (same_value v w) (same (encodes r) (encodes ws)) (has_row ws xs))

-- ---- sets and tuples: f r is the tag t, the count and the words of the row r

module _ (t : ℕ) (f : Values → Value) (e : (r : Values) → encode (f r) ≡ t ∷ count r ∷ encodes r) where
  pub in_append : (v : Value) (xs ys : List Values) → is_in v (each f (xs ++ ys)) ≡ cond (is_in v (each f xs)) true (is_in v (each f ys))
  unfolding is_in each
  in_append v [] ys = refl
  in_append v (r ∷ xs) ys = rw (in_append v xs ys) (or_assoc (same_value (f r) v) (is_in v (each f xs)) (is_in v (each f ys)))

  -- rows of as many
  pub in_each : (ws : Values) {xs : List Values} → All (λ r. count r ≡ count ws) xs → is_in (f ws) (each f xs) ≡ has_row ws xs
  unfolding is_in each has_row same_value same
  in_each ws none = refl
  in_each ws (also {r} {rs} p h) = rw (e r, e ws, p, headed t (count ws) (encodes r) (encodes ws), in_each ws h)

  -- rows of another number
  unlike : (r ws : Values) → count r < 2 ^ 32 → count ws < 2 ^ 32 → (count r ≡ count ws → ⊥) → same_value (f r) (f ws) ≡ false
  unfolding same_value same compare or_else is_same
  unlike r ws a b c = rw (e r, e ws, word_itself t) (go (compare_word (count r) (count ws)) refl)
    where
      go : (o : Ordering) → compare_word (count r) (count ws) ≡ o → is_same (or_else o (compare (encodes r) (encodes ws))) ≡ false
      go Less q = refl
      go Equal q = absurd (c (word_alike (count r) (count ws) a b q))
      go Greater q = refl

  pub in_none : (ws : Values) {xs : List Values} → count ws < 2 ^ 32 → All (λ r. (count r < 2 ^ 32) × (count r ≡ count ws → ⊥)) xs → is_in (f ws) (each f xs) ≡ false
  unfolding is_in each
  in_none ws b none = refl
  in_none ws b (also {r} {rs} p h) = rw (unlike r ws p.0 b p.1) (in_none ws b h)

  -- a value of another tag
  pub in_other : (v : Value) → ((r : Values) → same_value (f r) v ≡ false) → (xs : List Values) → is_in v (each f xs) ≡ false
  unfolding is_in each
  in_other v u [] = refl
  in_other v u (r ∷ xs) = rw (u r) (in_other v u xs)
