-- Laws of membership in lists, and of mapped lists.
use mathlib.Core.Path.{◌≡◌, refl, ap, ap₂, sym, ◌∙◌, subst}
use mathlib.Core.Bool.{Bool, true, false, cond, ◌||◌, false≢true}
use mathlib.Core.List.{List, [], ◌∷◌, ◌++◌, map}
use Prim.Native.Nat.{ℕ, zero, suc, ◌+◌, ◌≤◌, ◌<◌}
use native.Mathlib.Omega.{arith}
use lib.Dec.{eqb}
use lib.ListN.{length, get_or}
use borrow.Author.Tests.{eqb-true, eqb-false, eq-eqb, ne_eqb}
use Rattle.words.specs.Loops.{has, occurrences}
use Rattle.words.proofs.Lists.{has_append, has_once, once_has, same_test}

or_left : (a b : Bool) → a ≡ true → (a || b) ≡ true
or_left true b e = refl
or_left false b e = absurd (false≢true e)

or_right : (a b : Bool) → b ≡ true → (a || b) ≡ true
or_right true b e = refl
or_right false b e = e

pub has_first : (x : ℕ) (l : List ℕ) → has x (x ∷ l) ≡ true
unfolding has
has_first x l = or_left (eqb x x) (has x l) (eq-eqb x x refl)

pub has_later : (x n : ℕ) (l : List ℕ) → has n l ≡ true → has n (x ∷ l) ≡ true
unfolding has
has_later x n l h = or_right (eqb x n) (has n l) h

pub has_left : (x : ℕ) (a b : List ℕ) → has x a ≡ true → has x (a ++ b) ≡ true
has_left x a b h = has_append x a b ∙ or_left (has x a) (has x b) h

pub has_right : (x : ℕ) (a b : List ℕ) → has x b ≡ true → has x (a ++ b) ≡ true
has_right x a b h = has_append x a b ∙ or_right (has x a) (has x b) h

-- mapped by a function that is injective
module _ (f : ℕ → ℕ) (inj : (j k : ℕ) → f j ≡ f k → j ≡ k) (x : ℕ) where
  pub occurrences_map : (l : List ℕ) → occurrences (f x) (map f l) ≡ occurrences x l
  unfolding occurrences
  occurrences_map [] = refl
  occurrences_map (y ∷ l) = ap₂ (λ b n. cond b 1 0 + n) (go (eqb y x) refl) (occurrences_map l)
    where
      go : (b : Bool) → eqb y x ≡ b → eqb (f y) (f x) ≡ b
      go true e = eq-eqb (f y) (f x) (ap f (eqb-true y x e))
      go false e = ne_eqb (f y) (f x) (λ z. eqb-false y x e (inj y x z))

  pub has_map : (l : List ℕ) → has (f x) (map f l) ≡ has x l
  has_map l =
      let e = occurrences_map l in
      same_test (has (f x) (map f l)) (has x l) (λ h. once_has x l (subst (λ n. 1 ≤ n) e (has_once (f x) (map f l) h)))
      (λ h. once_has (f x) (map f l) (subst (λ n. 1 ≤ n) (sym e) (has_once x l h)))

module _ {A B : Type 0} (f : A → B) where
  pub map_at : (l : List A) (i : ℕ) (a : A) (b : B) → i < length l → get_or (map f l) i b ≡ f (get_or l i a)
  map_at [] i a b h = absurd (omega arith)
  map_at (x ∷ l) zero a b h = refl
  map_at (x ∷ l) (suc i) a b h = map_at l i a b (omega arith)

  -- a list mapped part by part
  pub map_parts : (a b : List A) {c d : List B} → c ≡ map f a → d ≡ map f b → c ++ d ≡ map f (a ++ b)
  map_parts a b p q = ap₂ (λ x y. x ++ y) p q ∙ go a
    where
      go : (a : List A) → map f a ++ map f b ≡ map f (a ++ b)
      go [] = refl
      go (x ∷ a) = ap (λ l. f x ∷ l) (go a)

  pub map_last : (a : List A) (x : A) {c : List B} {y : B} → c ≡ map f a → y ≡ f x → c ++ (y ∷ []) ≡ map f (a ++ (x ∷ []))
  map_last a x p e = map_parts a (x ∷ []) p (ap (λ v. v ∷ []) e)

-- R of each place from o on and what stands there
abbrev pub Along : {A : Type 0} → (ℕ → A → Type 0) → ℕ → List A → Type 0
Along R o [] = Unit {0}
Along R o (x ∷ l) = R o x × Along R (suc o) l

no_more : (o : ℕ) → o + 0 ≡ o
no_more o = omega arith

one_more : (o i : ℕ) → o + suc i ≡ suc o + i
one_more o i = omega arith

module _ {A : Type 0} (R : ℕ → A → Type 0) where
  pub along_split : (a b : List A) (o : ℕ) → Along R o (a ++ b) → Along R o a × Along R (o + length a) b
  along_split [] b o h = (tt, subst (λ z. Along R z b) (sym (no_more o)) h)
  along_split (x ∷ a) b o h = let r = along_split a b (suc o) h.1 in ((h.0, r.0), subst (λ z. Along R z b) (sym (one_more o (length a))) r.1)

  -- place by place, d off the list
  pub along_from : (d : A) (l : List A) (o : ℕ) → ((i : ℕ) → i < length l → R (o + i) (get_or l i d)) → Along R o l
  along_from d [] o h = tt
  along_from d (x ∷ l) o h = (
    subst (λ z. R z x) (no_more o) (h 0 (omega arith)),
    along_from d l (suc o) (λ i k. subst (λ z. R z (get_or l i d)) (one_more o i) (h (suc i) (omega arith))),
  )

  pub along_nth : (d : A) (l : List A) (o i : ℕ) → Along R o l → i < length l → R (o + i) (get_or l i d)
  along_nth d [] o i h k = absurd (omega arith)
  along_nth d (x ∷ l) o zero h k = subst (λ z. R z x) (sym (no_more o)) h.0
  along_nth d (x ∷ l) o (suc i) h k = subst (λ z. R z (get_or l i d)) (sym (one_more o i)) (along_nth d l (suc o) i h.1 (omega arith))
