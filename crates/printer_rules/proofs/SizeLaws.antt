-- The number of a dictionary's words, read from its area: by the lengths of its entries, and by where the last of them ends.
use mathlib.Core.Path.{◌≡◌, refl, sym, ap, subst, ◌∙◌}
use mathlib.Core.List.{List, [], ◌∷◌, ◌++◌, append_assoc}
use Prim.Native.Nat.{ℕ, suc, ◌+◌, ◌*◌, ◌-◌}
use native.Mathlib.Omega.{arith}
use borrow.Author.Tests.{ne_eqb}
use lib.ListN.{length, get_or, length-append}
use lib.Seq.{get_or-append-add}
use Rattle.words.specs.Loops.{total}
use Rattle.layout.specs.Layout.{count, length_at}
use Rattle.checker_rules.specs.Dictionary.{Entry, Dictionary, entry_words, entries, entry_pairs, all_words, laid_out_words, dictionary_words, dictionary_length}
use Rattle.printer_rules.specs.Lines.{dictionary_size}

-- the words that count, pairs and entries of these lengths take
abbrev pub taken : List ℕ → ℕ
taken d = 1 + 2 * count d + total (length_at d) 1 (count d)

pairs_total : (es : List Entry) (o i : ℕ) (pre rest : List ℕ) → length pre + 1 ≡ 2 * i → total (λ k. get_or (pre ++ (entry_pairs es o ++ rest)) (2 * k) 0) i (length es) ≡ length (all_words es)
unfolding entry_pairs total all_words
pairs_total [] o i pre rest h = refl
pairs_total (e ∷ es) o i pre rest h =
    let l = length (entry_words e) in
    let again : (pre ++ (o ∷ l ∷ [])) ++ (entry_pairs es (o + l) ++ rest) ≡ pre ++ (o ∷ l ∷ (entry_pairs es (o + l) ++ rest)) = append_assoc pre (o ∷ l ∷ []) _ in
    let ih = pairs_total es (o + l) (suc i) (pre ++ (o ∷ l ∷ [])) rest (simp length-append (omega arith)) in
    let head : get_or (pre ++ (o ∷ l ∷ (entry_pairs es (o + l) ++ rest))) (2 * i) 0 ≡ l = subst (λ (n : ℕ). get_or (pre ++ (o ∷ l ∷ (entry_pairs es (o + l) ++ rest))) n 0 ≡ l) h (get_or-append-add pre _ 1 0) in
    let tail = subst (λ (z : List ℕ). total (λ k. get_or z (2 * k) 0) (suc i) (length es) ≡ length (all_words es)) again ih in
    let n = length-append (entry_words e) (all_words es) in
    omega (arith, head, tail)

pairs_length : (es : List Entry) (o : ℕ) → length (entry_pairs es o) ≡ 2 * length es
unfolding entry_pairs
pairs_length [] o = refl
pairs_length (e ∷ es) o = let h = pairs_length es (o + length (entry_words e)) in omega arith

pub taken_length : (D : Dictionary) (zs : List ℕ) → taken (dictionary_words D ++ zs) ≡ dictionary_length D
unfolding dictionary_words laid_out_words
taken_length D zs =
    let es = entries D in
    let o = 1 + 2 * length es in
    let a = pairs_total es o 1 (length es ∷ []) (all_words es ++ zs) refl in
    let b = pairs_length es o in
    let c = length-append (entry_pairs es o) (all_words es) in
    let again : length es ∷ ((entry_pairs es o ++ all_words es) ++ zs) ≡ length es ∷ (entry_pairs es o ++ (all_words es ++ zs)) = ap (λ (z : List ℕ). length es ∷ z) (append_assoc (entry_pairs es o) (all_words es) zs) in
    let t = subst (λ (z : List ℕ). total (λ k. get_or z (2 * k) 0) 1 (length es) ≡ length (all_words es)) (sym again) a in
    omega (arith, t)

-- the last of the entries e and es ends where all end
last_ends : (es : List Entry) (e : Entry) (o i : ℕ) (pre rest : List ℕ) → length pre + 1 ≡ 2 * i → (k : ℕ) → k ≡ i + length es
    → get_or (pre ++ (entry_pairs (e ∷ es) o ++ rest)) (2 * k - 1) 0 + get_or (pre ++ (entry_pairs (e ∷ es) o ++ rest)) (2 * k) 0 ≡ o + length (all_words (e ∷ es))
unfolding entry_pairs all_words
last_ends [] e o i pre rest h k q =
    let l = length (entry_words e) in
    let ws = pre ++ (o ∷ l ∷ rest) in
    let at : length pre + 0 ≡ 2 * k - 1 = omega arith in
    let after : length pre + 1 ≡ 2 * k = omega arith in
    let a : get_or ws (2 * k - 1) 0 ≡ o = subst (λ (n : ℕ). get_or ws n 0 ≡ o) at (get_or-append-add pre _ 0 0) in
    let b : get_or ws (2 * k) 0 ≡ l = subst (λ (n : ℕ). get_or ws n 0 ≡ l) after (get_or-append-add pre _ 1 0) in
    let n = length-append (entry_words e) [] in
    omega (arith, a, b, n)
last_ends (f ∷ es) e o i pre rest h k q =
    let l = length (entry_words e) in
    let again : (pre ++ (o ∷ l ∷ [])) ++ (entry_pairs (f ∷ es) (o + l) ++ rest) ≡ pre ++ (o ∷ l ∷ (entry_pairs (f ∷ es) (o + l) ++ rest)) = append_assoc pre (o ∷ l ∷ []) _ in
    let ih = last_ends es f (o + l) (suc i) (pre ++ (o ∷ l ∷ [])) rest (simp length-append (omega arith)) k (omega arith) in
    let moved = subst (λ (z : List ℕ). get_or z (2 * k - 1) 0 + get_or z (2 * k) 0 ≡ o + l + length (all_words (f ∷ es))) again ih in
    let n = length-append (entry_words e) (all_words (f ∷ es)) in
    omega (arith, moved, n)

laid_ends : (es : List Entry) (zs : List ℕ) → dictionary_size (laid_out_words es ++ zs) ≡ length (laid_out_words es)
unfolding dictionary_size laid_out_words entry_pairs all_words
laid_ends [] zs = refl
laid_ends (e ∷ es) zs =
    let n = suc (length es) in
    let o = 1 + 2 * n in
    let ps = entry_pairs (e ∷ es) o in
    let all = all_words (e ∷ es) in
    let again : n ∷ (ps ++ (all ++ zs)) ≡ n ∷ ((ps ++ all) ++ zs) = ap (λ (z : List ℕ). n ∷ z) (sym (append_assoc ps all zs)) in
    let a = last_ends es e o 1 (n ∷ []) (all ++ zs) refl n (omega arith) in
    let ends = subst (λ (z : List ℕ). get_or z (2 * n - 1) 0 + get_or z (2 * n) 0 ≡ o + length all) again a in
    let t : dictionary_size (laid_out_words (e ∷ es) ++ zs) ≡ o + length all = rw (ne_eqb n 0 (omega arith)) ends in
    let b = pairs_length (e ∷ es) o in
    let c = length-append ps all in
    omega (arith, t, b, c)

-- in its area a dictionary's size is the number of its words
pub size_length : (D : Dictionary) (zs : List ℕ) → dictionary_size (dictionary_words D ++ zs) ≡ dictionary_length D
unfolding dictionary_words
size_length D zs = laid_ends (entries D) zs
