-- Where the caller's part is clean from `at` on, all types lie below `at` or in the dictionary; words written and wiped there keep it so.
use mathlib.Core.Path.{◌≡◌, sym, ap, ◌∙◌}
use mathlib.Core.List.{List}
use mathlib.Core.Logic.{inl, inr, ⊎_elim}
use Prim.Native.Nat.{ℕ, suc, ◌+◌, ◌-◌, ◌≤◌, ◌<◌}
use native.Mathlib.Omega.{arith}
use lib.ListN.{length, get_or, replicate, length-replicate, get_or-replicate}
use lib.Seq.{sets, ext_get_or}
use Rattle.types_rules.specs.Types.{Ty}
use Rattle.types_rules.specs.Words.{words}
use Rattle.types_cells.specs.Layout.{pool_size, settled_from, area_size}
use Rattle.types_cells.specs.Settled.{lower, heap, word_at, Reads}
use Rattle.types_cells.proofs.Reading.{word_in, words_some, lower_length, heap_low}
use Rattle.types_cells.proofs.Growing.{lt_or_ge}
use Rattle.types_instances.specs.Moved.{Below, AllBelow}
use Rattle.types_instances.specs.Clean.{Clean}
use Rattle.types_instances.proofs.Apart.{first_word, no_zeros}
use Rattle.types_instances.proofs.Moving.{sets_before, sets_after, sets_in, lower_at_lem, lower_words, below_reads}

module _ (s d : List ℕ) (at p : ℕ) (g : Ty) (size : length s ≡ area_size) (some : 1 ≤ at) (room : at < pool_size) (C : Clean s at) (R : Reads (heap s d) p g) where
  -- A word of g in the clean part is 0.
  zero_in : (j : ℕ) → j < length (words g) → at ≤ suc (p + j) → p + j < pool_size → get_or (words g) j 0 ≡ 0
  zero_in j l m r = sym (word_in (heap s d) p g R j l) ∙ heap_low s d (p + j) size r ∙ C (p + j) m r

  -- So g does not begin there, ..
  before : p < pool_size → suc p < at
  before r =
      ⊎_elim (λ (z : suc p < at). z)
      (λ (z : at ≤ suc p). let e = zero_in 0 (words_some g) (omega arith) (omega arith) in let f = first_word g in absurd (omega arith))
      (lt_or_ge (suc p) at)

  -- .. and does not reach its second word.
  ends : p < pool_size → p + length (words g) ≤ at
  ends r =
      let b = before r in
      ⊎_elim
      (λ (z : at < p + length (words g)).
      let e = zero_in (at - suc p) (omega arith) (omega arith) (omega arith) in
      let f = zero_in (suc (at - suc p)) (omega arith) (omega arith) (omega arith) in
      absurd (no_zeros g R.formed (at - suc p) (omega arith) e f))
      (λ (z : p + length (words g) ≤ at). z)
      (lt_or_ge at (p + length (words g)))

  -- ALL TYPES THAT ARE READ LIE BELOW A CLEAN PART, or in the dictionary.
  pub clean_below : Below at p g
  clean_below = ⊎_elim (λ (z : p < pool_size). inl (ends z)) (λ (z : pool_size ≤ p). inr z) (lt_or_ge p pool_size)

-- They are read where the words below the clean part are the same.
pub clean_reads : (s s' d : List ℕ) (at p : ℕ) (g : Ty) → length s ≡ area_size → length s' ≡ area_size → 1 ≤ at → at < pool_size → Clean s at → ((i : ℕ) → i < at → get_or s' i 0 ≡ get_or s i 0) →
    Reads (heap s d) p g → Reads (heap s' d) p g
clean_reads s s' d at p g e e' o r C h R = below_reads s s' d at p g e e' (omega arith) h (clean_below s d at p g e o r C R) R

pub clean_all_below : (s d : List ℕ) (n at : ℕ) → length s ≡ area_size → 1 ≤ at → at < pool_size → Clean s at → AllBelow s d n at
clean_all_below s d n at e o r C i l q g R = clean_below s d at (word_at s i - settled_from) g e o r C R

pub clean_lower : (s s' : List ℕ) (at : ℕ) → Clean s at → lower s' ≡ lower s → Clean s' at
clean_lower s s' at C e i l r = lower_words s s' e i r ∙ C i l r

-- Two clean areas with the same words below are the same in the caller's part.
pub clean_same : (s s' : List ℕ) (at : ℕ) → length s ≡ area_size → length s' ≡ area_size → Clean s at → Clean s' at → ((i : ℕ) → i < at → get_or s' i 0 ≡ get_or s i 0) → lower s' ≡ lower s
clean_same s s' at e e' C C' h =
    let z = lower_length s e in
    let z' = lower_length s' e' in
    ext_get_or 0 (lower s') (lower s) (omega arith)
    (λ i l.
    let r : i < pool_size = omega arith in
    lower_at_lem s' i r ∙ ⊎_elim (λ (q : i < at). h i q) (λ (q : at ≤ i). C' i (omega arith) r ∙ sym (C i (omega arith) r)) (lt_or_ge i at) ∙ sym (lower_at_lem s i r))

-- WIPED: the words from `at` on become 0.
pub wiped_clean : (s : List ℕ) (at e : ℕ) → 1 ≤ at → at ≤ e → e < pool_size → length s ≡ area_size → get_or s (at - 1) 0 ≡ 0 → Clean s e → Clean (sets s at (replicate (e - at) 0)) at
wiped_clean s at e o l r q b C i m t =
    let n = length-replicate {A = ℕ} (e - at) 0 in
    ⊎_elim
    (λ (z : i < at).
    let y : i ≡ at - 1 = omega arith in
    sets_before s at (replicate (e - at) 0) i z ∙ ap (λ k. get_or s k 0) y ∙ b)
    (λ (z : at ≤ i).
    ⊎_elim
    (λ (x : i < e).
    let y : i ≡ at + (i - at) = omega arith in
    ap (λ k. get_or (sets s at (replicate (e - at) 0)) k 0) y ∙ sets_in s at (replicate (e - at) 0) (i - at) (omega arith) (omega arith)
    ∙ get_or-replicate (e - at) (i - at) 0 0 (omega arith))
    (λ (x : e ≤ i). sets_after s at (replicate (e - at) 0) i (omega arith) ∙ C i (omega arith) t)
    (lt_or_ge i e))
    (lt_or_ge i at)

-- WRITTEN: after the words ws from `at` on, and one more word, the area is clean.
pub written_clean : (s : List ℕ) (at : ℕ) (ws : List ℕ) → Clean s at → Clean (sets s at ws) (at + length ws + 1)
written_clean s at ws C i l r = sets_after s at ws i (omega arith) ∙ C i (omega arith) r

-- The words below `at` are what they were.
pub written_below : (s : List ℕ) (at : ℕ) (ws : List ℕ) (i : ℕ) → i < at → get_or (sets s at ws) i 0 ≡ get_or s i 0
written_below s at ws i l = sets_before s at ws i l
