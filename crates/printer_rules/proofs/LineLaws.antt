-- The printed lines by their parts, as the code puts them one after the other.
use mathlib.Core.Path.{◌≡◌, refl, sym, ap, ◌∙◌}
use mathlib.Core.List.{List, [], ◌∷◌, ◌++◌, append-nil, append_assoc}
use Prim.Native.Nat.{ℕ, zero, suc, ◌+◌, ◌-◌, ◌≤◌, ◌<◌}
use native.Mathlib.Omega.{arith}
use native.Mathlib.Numerals.{add-one}
use lib.ListN.{length, get_or, take, drop}
use lib.Seq.{take-suc}
use Rattle.words.specs.Loops.{joined}
use Rattle.words.proofs.Lists.{joined_last}
use Rattle.layout.specs.Layout.{count, part}
use Rattle.printer_rules.specs.Decimal.{decimal}
use Rattle.printer_rules.specs.Lines.{accepted_bytes, spaced, numbers, entry_line, dictionary_size, entry_lines, accepted_lines}

pub spaced_one : (n : ℕ) → (32 ∷ []) ++ decimal n ≡ spaced (n ∷ [])
unfolding spaced
spaced_one n = ap (λ (z : List ℕ). 32 ∷ z) (sym (append-nil (decimal n)))

spaced_append : (a b : List ℕ) → spaced (a ++ b) ≡ spaced a ++ spaced b
unfolding spaced
spaced_append [] b = refl
spaced_append (w ∷ a) b =
    ap (λ (z : List ℕ). 32 ∷ (decimal w ++ z)) (spaced_append a b) ∙ ap (λ (z : List ℕ). 32 ∷ z) (sym (append_assoc (decimal w) (spaced a) (spaced b)))

pub spaced_next : (ws : List ℕ) (i : ℕ) → i < length ws → spaced (take i ws) ++ spaced (get_or ws i 0 ∷ []) ≡ spaced (take (i + 1) ws)
spaced_next ws i h =
    sym (spaced_append (take i ws) (get_or ws i 0 ∷ []))
    ∙ ap spaced (sym (take-suc ws i 0 h))
    ∙ ap (λ (k : ℕ). spaced (take k ws)) (sym (add-one i))

pub numbers_none : (ws : List ℕ) → length ws ≡ 0 → [] ≡ numbers ws
unfolding numbers
numbers_none [] h = refl
numbers_none (w ∷ ws) h = absurd (omega arith)

pub numbers_some : (ws : List ℕ) → (length ws ≡ 0 → ⊥) → decimal (get_or ws 0 0) ++ spaced (drop 1 ws) ≡ numbers ws
unfolding numbers
numbers_some [] h = absurd (h refl)
numbers_some (w ∷ ws) h = refl

-- the lines of the entries before k, then the others
joined_split : (f : ℕ → List ℕ) (i a b : ℕ) → joined f i (a + b) ≡ joined f i a ++ joined f (i + a) b
unfolding joined
joined_split f i zero b = let e : 0 + b ≡ b = omega arith in let g : i ≡ i + 0 = omega arith in ap (joined f i) e ∙ ap (λ (j : ℕ). joined f j b) g
joined_split f i (suc a) b =
    let e : suc a + b ≡ suc (a + b) = omega arith in
    let g : suc i + a ≡ i + suc a = omega arith in
    ap (joined f i) e
    ∙ ap (λ (z : List ℕ). f i ++ z) (joined_split f (suc i) a b ∙ ap (λ (j : ℕ). joined f (suc i) a ++ joined f j b) g)
    ∙ sym (append_assoc (f i) (joined f (suc i) a) (joined f (i + suc a) b))

-- the lines of the entries before k
abbrev pub lines_before : List ℕ → ℕ → List ℕ
lines_before d k = joined (λ j. entry_line (part d j)) 1 (k - 1)

module _ (d : List ℕ) (k : ℕ) (h : 1 ≤ k) where
  pub lines_next : lines_before d k ++ entry_line (part d k) ≡ lines_before d (k + 1)
  lines_next =
      let f : ℕ → List ℕ = λ j. entry_line (part d j) in
      let a : 1 + (k - 1) ≡ k = omega arith in
      let b : suc (k - 1) ≡ k + 1 - 1 = omega arith in
      ap (λ (j : ℕ). joined f 1 (k - 1) ++ f j) (sym a) ∙ sym (joined_last f 1 (k - 1)) ∙ ap (joined f 1) b

  pub lines_rest : k ≤ count d + 1 → lines_before d k ++ joined (λ j. entry_line (part d j)) k (count d + 1 - k) ≡ entry_lines d
  unfolding entry_lines
  lines_rest l =
      let f : ℕ → List ℕ = λ j. entry_line (part d j) in
      let a : 1 + (k - 1) ≡ k = omega arith in
      let b : k - 1 + (count d + 1 - k) ≡ count d = omega arith in
      ap (λ (j : ℕ). joined f 1 (k - 1) ++ joined f j (count d + 1 - k)) (sym a) ∙ sym (joined_split f 1 (k - 1) (count d + 1 - k)) ∙ ap (joined f 1) b

pub lines_end_lem : (d : List ℕ) → lines_before d (count d + 1) ≡ entry_lines d
unfolding entry_lines
lines_end_lem d = let e : count d + 1 - 1 ≡ count d = omega arith in ap (joined (λ j. entry_line (part d j)) 1) e

pub accepted_parts : (d : List ℕ) → accepted_bytes ++ (spaced (dictionary_size d ∷ []) ++ (spaced (count d ∷ []) ++ (10 ∷ entry_lines d))) ≡ accepted_lines d
unfolding accepted_lines
accepted_parts d =
    ap (λ (z : List ℕ). accepted_bytes ++ z)
    (sym (append_assoc (spaced (dictionary_size d ∷ [])) (spaced (count d ∷ [])) (10 ∷ entry_lines d))
    ∙ ap (λ (z : List ℕ). z ++ (10 ∷ entry_lines d)) (sym (spaced_append (dictionary_size d ∷ []) (count d ∷ []))))
