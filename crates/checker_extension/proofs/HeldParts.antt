-- An area that holds a dictionary: so does its part that has the dictionary's words, and words after that part are zeros.
use mathlib.Core.Path.{◌≡◌, refl, sym, ap, subst, ◌∙◌}
use mathlib.Core.List.{List, ◌∷◌, ◌++◌, append_assoc}
use Prim.Native.Nat.{ℕ, zero, suc, ◌+◌, ◌-◌, ◌≤◌}
use native.Mathlib.Omega.{arith}
use lib.ListN.{length, take, drop, replicate, length-append, length-replicate, replicate-append-replicate}
use lib.Seq.{length-take-le, take-append-add, drop-append-add}
use Rattle.checker_rules.specs.Dictionary.{Dictionary, dictionary_words, dictionary_length}
use Rattle.checker_dictionary.specs.Growth.{size_at}
use Rattle.checker_dictionary.specs.Holds.{Holds}
use Rattle.checker_dictionary.proofs.LiftLaws.{drop_zeros}
use Rattle.checker_dictionary.proofs.Places.{size_held}
use Rattle.checker_dictionary.proofs.IndexLaws.{indexed_there}
use Rattle.checker_lookup.specs.Scoped.{DictionaryHeld}

take_zeros : (m k : ℕ) → take m (replicate (m + k) 0) ≡ replicate {A = ℕ} m 0
take_zeros zero k = refl
take_zeros (suc m) k =
    let e : suc m + k ≡ suc (m + k) = omega arith in
    ap (λ (n : ℕ). take (suc m) (replicate n 0)) e ∙ ap (λ (l : List ℕ). 0 ∷ l) (take_zeros m k)

module _ (D : Dictionary) (d : List ℕ) (H : Holds D d) (n : ℕ) (low : dictionary_length D ≤ n) (high : n ≤ length d) where
  over : ℕ
  over = n - dictionary_length D

  laid_at : d ≡ dictionary_words D ++ replicate (over + (length d - n)) 0
  unfolding over
  laid_at = let h = H.fits in let e : length d - dictionary_length D ≡ over + (length d - n) = omega arith in H.laid ∙ ap (λ (k : ℕ). dictionary_words D ++ replicate k 0) e

  reaches : n ≡ dictionary_length D + over
  unfolding over
  reaches = omega arith

  pub held_part : Holds D (take n d)
  unfolding over
  held_part =
      let l = length-take-le n d high in
      let e : over ≡ length (take n d) - dictionary_length D = omega arith in
      record {
        fits = omega arith;
        laid =
            ap (λ (k : ℕ). take k d) reaches
            ∙ ap (take (dictionary_length D + over)) laid_at
            ∙ take-append-add (dictionary_words D) (replicate (over + (length d - n)) 0) over
            ∙ ap (λ (l : List ℕ). dictionary_words D ++ l) (take_zeros over (length d - n))
            ∙ ap (λ (k : ℕ). dictionary_words D ++ replicate k 0) e;
      }

  pub held_rest : drop n d ≡ replicate (length d - n) 0
  held_rest =
      ap (λ (k : ℕ). drop k d) reaches
      ∙ ap (drop (dictionary_length D + over)) laid_at
      ∙ drop-append-add (dictionary_words D) (replicate (over + (length d - n)) 0) over
      ∙ drop_zeros over (length d - n)

-- with zeros more
pub held_whole : (D : Dictionary) (d : List ℕ) (m : ℕ) → Holds D d → Holds D (d ++ replicate m 0)
held_whole D d m H =
    let h = H.fits in
    let k = length d - dictionary_length D in
    let l = length-append d (replicate m 0) in
    let z = length-replicate {A = ℕ} m 0 in
    let e : k + m ≡ length (d ++ replicate m 0) - dictionary_length D = omega arith in
    record {
      fits = omega arith;
      laid =
          ap (λ (l : List ℕ). l ++ replicate m 0) H.laid
          ∙ append_assoc (dictionary_words D) (replicate k 0) (replicate m 0)
          ∙ ap (λ (l : List ℕ). dictionary_words D ++ l) (replicate-append-replicate k m 0)
          ∙ ap (λ (j : ℕ). dictionary_words D ++ replicate j 0) e;
    }

-- The words in use.
pub recorded_part : (D : Dictionary) (d part w : List ℕ) (n : ℕ) → n ≡ size_at d → part ≡ take n (drop 0 d) → DictionaryHeld D d w → DictionaryHeld D part w
recorded_part D d part w n e q R =
    let h = R.holds.holds in
    let s = size_held D d h in
    let f = h.fits in
    record { holds = indexed_there D d part w R.holds (subst (Holds D) (sym q) (held_part D d h n (omega arith) (omega arith))); formed = R.formed; limited = R.limited }
