-- The stand-in of types over size 32: its words, its size, and that it is well formed.
use mathlib.Core.Path.{◌≡◌, refl, sym, ap, ◌∙◌}
use mathlib.Core.List.{List, [], ◌∷◌, ◌++◌}
use Prim.Native.Nat.{ℕ, zero, suc, ◌+◌, ◌-◌, ◌≤◌, ◌<◌}
use native.Mathlib.Omega.{arith}
use lib.ListN.{length, set}
use lib.Seq.{sets}
use Rattle.types_rules.specs.Former.{tag, identifiers}
use Rattle.types_rules.specs.Types.{size}
use Rattle.types_rules.specs.Formed.{WellFormed, FormedType, Arity}
use Rattle.types_rules.specs.Words.{second, words, part_words}
use Rattle.checker_includes.specs.Large.{powers}

nil_right : (l : List ℕ) → l ++ [] ≡ l
nil_right [] = refl
nil_right (x ∷ l) = ap (λ z. x ∷ z) (nil_right l)

power_words : (k : ℕ) → words (powers (suc k)) ≡ 3 ∷ words (powers k)
unfolding powers words second part_words tag identifiers
power_words k = ap (λ z. 3 ∷ z) (nil_right (words (powers k)))

zero_words : words (powers 0) ≡ 1 ∷ []
unfolding powers words second part_words tag identifiers
zero_words = refl

pub powers_length : (k : ℕ) → length (words (powers k)) ≡ suc k
powers_length zero = ap length zero_words
powers_length (suc k) = ap length (power_words k) ∙ ap suc (powers_length k)

pub powers_size : (k : ℕ) → size (powers k) ≡ suc k
unfolding powers size
powers_size zero = refl
powers_size (suc k) = let e = powers_size k in omega arith

pub powers_formed : (k : ℕ) → WellFormed (powers k)
unfolding powers FormedType Arity
powers_formed zero = (refl, tt)
powers_formed (suc k) = (refl, (powers_formed k, tt))

-- All words stand where those of the powers past the j-th are written over a.
abbrev pub Put : List ℕ → List ℕ → ℕ → ℕ → Type 0
Put a₀ a at j = sets a₀ at (words (powers 32)) ≡ sets a (at + j) (words (powers (32 - j)))

pub put_start : (a : List ℕ) (at : ℕ) → Put a a at 0
put_start a at = ap (λ z. sets a z (words (powers 32))) (let z : at ≡ at + 0 = omega arith in z)

pub put_step : (a₀ a : List ℕ) (at j : ℕ) → j < 32 → Put a₀ a at j → Put a₀ (set a (at + j) 3) at (j + 1)
put_step a₀ a at j l c =
    let e : 32 - j ≡ suc (32 - (j + 1)) = omega arith in
    let f : suc (at + j) ≡ at + (j + 1) = omega arith in
    c ∙ ap (λ k. sets a (at + j) (words (powers k))) e ∙ ap (sets a (at + j)) (power_words (32 - (j + 1))) ∙ ap (λ k. sets (set a (at + j) 3) k (words (powers (32 - (j + 1))))) f

pub put_end : (a₀ a : List ℕ) (at j : ℕ) → 32 ≤ j → j ≤ 32 → Put a₀ a at j → set a (at + 32) 1 ≡ sets a₀ at (words (powers 32))
put_end a₀ a at j l m c =
    let e : 32 ≡ j = omega arith in
    let f : 32 - j ≡ 0 = omega arith in
    ap (λ k. set a (at + k) 1) e ∙ sym (ap (sets a (at + j)) zero_words) ∙ ap (λ k. sets a (at + j) (words (powers k))) (sym f) ∙ sym c

pub ruleset put_turns = (put_start, put_step, put_end)
