-- Ranges of kinds: what is outside them and past the list, and what a test over each kind of a range shows for all of them.
use mathlib.Core.Path.{◌≡◌, refl, sym, ◌∙◌}
use mathlib.Core.Bool.{Bool, true, false, ◌&&◌, cond, false≢true}
use mathlib.Core.List.{List, [], ◌∷◌}
use mathlib.Core.Logic.{◌⊎◌, inr, ⊎_elim}
use Prim.Native.Nat.{ℕ, ◌+◌, ◌≤◌, ◌<◌}
use native.Mathlib.Omega.{arith}
use lib.Dec.{leb, eqb}
use borrow.Author.Tests.{eqb-true, lt-leb, ne_eqb}
use Rattle.words.specs.Loops.{every}
use Rattle.words.proofs.Loops.{and_left, and_right, every_at}
use Rattle.reader_rules.specs.Kinds.{between}
use Rattle.reader_nodes.specs.Choices.{by_ranges, by_kind}

-- below a range, and above it
pub under : (a q b : ℕ) → q < a → between a q b ≡ false
under a q b h = rw (lt-leb a q h)

pub over : (a q b : ℕ) → b < q → between a q b ≡ false
over a q b h = rw (lt-leb q b h) (no (leb a q))
  where
    no : (t : Bool) → (t && false) ≡ false
    no true = refl
    no false = refl

-- below the paragraphs, between them and the predicates, or above the expressions; predicates and expressions leave no gap
abbrev pub Outside : ℕ → Type 0
Outside q = (q < 2) ⊎ (((6 < q) × (q < 20)) ⊎ (46 < q))

pub outside : {A : Type 0} (p r e o : ℕ → A) (q : ℕ) → Outside q → o q ≡ by_ranges p r e o q
unfolding by_ranges
outside p r e o q = ⊎_elim low (⊎_elim gap high)
  where
    rest : between 2 q 6 ≡ false → between 20 q 29 ≡ false → between 30 q 46 ≡ false → o q ≡ by_ranges p r e o q
    rest x y z = rw (x, y, z)

    low : q < 2 → o q ≡ by_ranges p r e o q
    low h = rest (under 2 q 6 h) (under 20 q 29 (omega arith)) (under 30 q 46 (omega arith))

    gap : (6 < q) × (q < 20) → o q ≡ by_ranges p r e o q
    gap h = rest (over 2 q 6 h.0) (under 20 q 29 h.1) (under 30 q 46 (omega (arith, h.1)))

    high : 46 < q → o q ≡ by_ranges p r e o q
    high h = rest (over 2 q 6 (omega arith)) (over 20 q 29 (omega arith)) (over 30 q 46 h)

-- there, a kind that is not listed, or the Document where it is treated alike
pub unlisted : {A : Type 0} (a b c d e u : A) (q : ℕ) → (q ≡ 1 → u ≡ a) → (q ≡ 10 → ⊥) → (q ≡ 11 → ⊥) → (q ≡ 12 → ⊥) → (q ≡ 15 → ⊥) → u ≡ by_kind a b c d e u q
unfolding by_kind
unlisted a b c d e u q n₁ n₂ n₃ n₄ n₅ = rw (ne_eqb q 10 n₂, ne_eqb q 11 n₃, ne_eqb q 12 n₄, ne_eqb q 15 n₅) (go (eqb q 1) refl)
  where
    go : (t : Bool) → eqb q 1 ≡ t → u ≡ cond t a u
    go true x = n₁ (eqb-true q 1 x)
    go false x = refl

-- past the list: the choice is that of what is not listed
pub past : {A : Type 0} (p r e : ℕ → A) (a b c d f u : A) (q : ℕ) → 47 ≤ q → by_ranges p r e (by_kind a b c d f u) q ≡ u
past p r e a b c d f u q h =
    sym
    (unlisted a b c d f u q (λ x. absurd (omega arith)) (λ x. omega arith) (λ x. omega arith) (λ x. omega arith) (λ x. omega arith)
    ∙ outside p r e (by_kind a b c d f u) q (inr (inr h)))

-- a function that has one value along the m kinds from a on
pub along : (f : ℕ → ℕ) (a m : ℕ) {v x : ℕ} → x ≡ v → every (λ q. eqb (f q) v) a m ≡ true → (q : ℕ) → a ≤ q → q < a + m → x ≡ f q
along f a m {v} p e q l h = p ∙ sym (eqb-true (f q) v (every_at (λ (n : ℕ). eqb (f n) v) a m e q l h))

-- two that have the same words there
abbrev pub same_words : List ℕ → List ℕ → Bool
same_words [] [] = true
same_words [] (y ∷ ys) = false
same_words (x ∷ xs) [] = false
same_words (x ∷ xs) (y ∷ ys) = eqb x y && same_words xs ys

same_words_lem : (xs ys : List ℕ) → same_words xs ys ≡ true → xs ≡ ys
same_words_lem [] [] e = refl
same_words_lem [] (y ∷ ys) e = absurd (false≢true e)
same_words_lem (x ∷ xs) [] e = absurd (false≢true e)
same_words_lem (x ∷ xs) (y ∷ ys) e =
    rw (eqb-true x y (and_left (eqb x y) _ e), same_words_lem xs ys (and_right (eqb x y) _ e))

pub alike : (f g : ℕ → List ℕ) (a m : ℕ) → every (λ q. same_words (f q) (g q)) a m ≡ true → (q : ℕ) → a ≤ q → q < a + m → f q ≡ g q
alike f g a m e q l h = same_words_lem (f q) (g q) (every_at (λ (n : ℕ). same_words (f n) (g n)) a m e q l h)
