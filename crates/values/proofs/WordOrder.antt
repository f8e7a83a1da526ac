-- The order of word sequences: transitive, and Equal is a congruence.
use Rattle.std.proofs.Common.{◌≡◌, ℕ, ◌^◌, ◌<◌, Bool, true, false, cond, List, [], ◌∷◌, ℤ, pos, negsuc, sym, refl, ap, ◌∙◌, subst, arith, w32, Fits, of_z, ltb-false, ltb-true, le-ltb, lt-ltb}
use mathlib.Core.Bool.{false≢true}
use mir.ValLaws.{of_z-to_z, to_z_pos}
use lib.Signed.{lt_z}
use Rattle.values_integers.specs.Integer.{signed}
use Rattle.values.specs.Order.{compare_word, or_else, compare, is_less}
use Rattle.std.specs.declared.cmp.Ordering.{Ordering}
use Rattle.std.specs.declared.cmp.Ordering.TheVariants.{Less, Equal, Greater}

below_trans : (x y z : ℤ) → lt_z x y ≡ true → lt_z y z ≡ true → lt_z x z ≡ true
below_trans (pos a) (pos b) (pos c) p q = lt-ltb a c (omega (arith, ltb-true a b p, ltb-true b c q))
below_trans (pos a) (pos b) (negsuc c) p q = absurd (false≢true q)
below_trans (pos a) (negsuc b) z p q = absurd (false≢true p)
below_trans (negsuc a) (pos b) (pos c) p q = refl
below_trans (negsuc a) (pos b) (negsuc c) p q = absurd (false≢true q)
below_trans (negsuc a) (negsuc b) (pos c) p q = refl
below_trans (negsuc a) (negsuc b) (negsuc c) p q = lt-ltb c a (omega (arith, ltb-true b a p, ltb-true c b q))

not_below : (z : ℤ) → lt_z z z ≡ false
not_below (pos a) = le-ltb a a (omega arith)
not_below (negsuc a) = le-ltb a a (omega arith)

level : (x y : ℤ) → lt_z x y ≡ false → lt_z y x ≡ false → x ≡ y
level (pos a) (pos b) p q = ap pos (omega (arith, ltb-false a b p, ltb-false b a q))
level (pos a) (negsuc b) p q = absurd (false≢true (sym q))
level (negsuc a) (pos b) p q = absurd (false≢true (sym p))
level (negsuc a) (negsuc b) p q = ap negsuc (omega (arith, ltb-false b a p, ltb-false a b q))

-- what the order of two words says of the integers that they are
data Ordered (x y : ℕ) : Ordering → Type 0 where
  lower : lt_z (signed x) (signed y) ≡ true → Ordered x y Less
  alike : signed x ≡ signed y → Ordered x y Equal
  higher : Ordered x y Greater

ordered : (x y : ℕ) → Ordered x y (compare_word x y)
unfolding compare_word
ordered x y = go (lt_z (signed x) (signed y)) refl (lt_z (signed y) (signed x)) refl
  where
    go : (a : Bool) → lt_z (signed x) (signed y) ≡ a → (b : Bool) → lt_z (signed y) (signed x) ≡ b → Ordered x y (cond a Less (cond b Greater Equal))
    go true p b q = lower p
    go false p true q = higher
    go false p false q = alike (level (signed x) (signed y) p q)

pub word_less : (x z : ℕ) → lt_z (signed x) (signed z) ≡ true → compare_word x z ≡ Less
unfolding compare_word
word_less x z l = rw l

pub word_same : (x z : ℕ) → signed x ≡ signed z → compare_word x z ≡ Equal
unfolding compare_word
word_same x z e = rw (e, not_below (signed z))

pub less_trans : (a b c : List ℕ) → is_less (compare a b) ≡ true → is_less (compare b c) ≡ true → is_less (compare a c) ≡ true
unfolding compare is_less or_else
less_trans [] [] c h k = absurd (false≢true h)
less_trans [] (y ∷ b) [] h k = absurd (false≢true k)
less_trans [] (y ∷ b) (z ∷ c) h k = refl
less_trans (x ∷ a) [] c h k = absurd (false≢true h)
less_trans (x ∷ a) (y ∷ b) [] h k = absurd (false≢true k)
less_trans (x ∷ a) (y ∷ b) (z ∷ c) h k = go (less_trans a b c) (compare_word x y) (ordered x y) (compare_word y z) (ordered y z) h k
  where
    go : (is_less (compare a b) ≡ true → is_less (compare b c) ≡ true → is_less (compare a c) ≡ true) → (o : Ordering) → Ordered x y o → (p : Ordering) → Ordered y z p →
        is_less (or_else o (compare a b)) ≡ true → is_less (or_else p (compare b c)) ≡ true → is_less (or_else (compare_word x z) (compare a c)) ≡ true
    go ih o (lower l) p (lower m) h k = rw (word_less x z (below_trans (signed x) (signed y) (signed z) l m))
    go ih o (lower l) p (alike e) h k = rw (word_less x z (subst (λ (i : ℤ). lt_z (signed x) i ≡ true) e l))
    go ih o (lower l) p higher h k = absurd (false≢true k)
    go ih o (alike e) p (lower m) h k = rw (word_less x z (subst (λ (i : ℤ). lt_z i (signed z) ≡ true) (sym e) m))
    go ih o (alike e) p (alike f) h k = rw (word_same x z (e ∙ f)) (ih h k)
    go ih o (alike e) p higher h k = absurd (false≢true k)
    go ih o higher p q h k = absurd (false≢true h)

pub word_itself : (x : ℕ) → compare_word x x ≡ Equal
word_itself x = word_same x x refl

-- Equal words of 32 bits are equal
pub word_alike : (x y : ℕ) → x < 2 ^ 32 → y < 2 ^ 32 → compare_word x y ≡ Equal → x ≡ y
unfolding signed
word_alike x y hx hy e = go (compare_word x y) (ordered x y) e
  where
    go : (o : Ordering) → Ordered x y o → o ≡ Equal → x ≡ y
    go o (lower l) e = let z : ◌≡◌ {A = ℕ} 0 1 = cc in absurd (omega arith)
    go o (alike q) e =
        let fx : Fits w32 x = record { fits = hx } in
        let fy : Fits w32 y = record { fits = hy } in
        sym (of_z-to_z w32 x fx) ∙ ap (of_z w32) q ∙ of_z-to_z w32 y fy
    go o higher e = let z : ◌≡◌ {A = ℕ} 0 1 = cc in absurd (omega arith)

-- two same words are the same to any third
word_same_left : (x y z : ℕ) → signed x ≡ signed y → compare_word x z ≡ compare_word y z
unfolding compare_word
word_same_left x y z e = rw e

pub same_left : (a b c : List ℕ) → compare a b ≡ Equal → compare a c ≡ compare b c
unfolding compare or_else
same_left [] [] c h = refl
same_left [] (y ∷ b) c h = let z : ◌≡◌ {A = ℕ} 0 1 = cc in absurd (omega arith)
same_left (x ∷ a) [] c h = let z : ◌≡◌ {A = ℕ} 0 1 = cc in absurd (omega arith)
same_left (x ∷ a) (y ∷ b) [] h = refl
same_left (x ∷ a) (y ∷ b) (z ∷ c) h = go (same_left a b c) (compare_word x y) (ordered x y) h
  where
    go : (compare a b ≡ Equal → compare a c ≡ compare b c) → (o : Ordering) → Ordered x y o → or_else o (compare a b) ≡ Equal → or_else (compare_word x z) (compare a c) ≡ or_else (compare_word y z) (compare b c)
    go ih o (lower l) h = let z : ◌≡◌ {A = ℕ} 0 1 = cc in absurd (omega arith)
    go ih o (alike e) h = rw (word_same_left x y z e, ih h)
    go ih o higher h = let z : ◌≡◌ {A = ℕ} 0 1 = cc in absurd (omega arith)

-- counts are not negative
pub small_less : (x y : ℕ) → x < y → y < 2 ^ 31 → compare_word x y ≡ Less
unfolding signed
small_less x y h l = word_less x y (rw (to_z_pos w32 x (omega arith), to_z_pos w32 y (omega arith)) (lt-ltb x y h))
