-- An area that holds a dictionary, with one entry more.
use Rattle.std.proofs.Common.{◌≡◌, ℕ, zero, suc, ◌+◌, ◌-◌, ◌*◌, ◌^◌, ◌<◌, ◌≤◌, true, false, List, [], ◌∷◌, ◌++◌, length, replicate, sym, refl, ap, ◌∙◌, subst, append_assoc, arith, length-append}
use mathlib.Core.Bool.{false≢true}
use lib.ListN.{length-replicate}
use lib.Seq.{sets}
use Rattle.words.specs.Loops.{run}
use Rattle.layout.specs.Layout.{count}
use Rattle.checker_rules.specs.Dictionary.{Entry, Dictionary, blank, ◌▸◌, entry_words, entries, entry_pairs, all_words, laid_out_words, dictionary_words, dictionary_length}
use Rattle.checker_rules.proofs.DictionaryLaid.{pairs_length}
use Rattle.checker_dictionary.specs.Holds.{Holds}
use Rattle.checker_dictionary.specs.Growth.{size_at, lifted, offset_raised, pair_added, grown, Appended}
use Rattle.checker_dictionary.proofs.Places.{laid_length, length_last, words_last, count_held, size_held}
use Rattle.checker_dictionary.proofs.Monotone.{length_more}
use Rattle.checker_dictionary.proofs.LiftLaws.{lifted_lists, sets_seam, drop_zeros}
use Rattle.checker_dictionary.proofs.PairLaws.{offsets_raised, pair_added_lem, pairs_last}

-- a nonempty area of zeros holds no entry
pub blank_held : (n : ℕ) → 0 < n → Holds blank (replicate n 0)
unfolding dictionary_words laid_out_words entries entry_pairs all_words
blank_held zero h = absurd (omega arith)
blank_held (suc n) h =
    let l = length-replicate {A = ℕ} n 0 in
    let s : n ≡ suc (length (replicate {A = ℕ} n 0)) - 1 = omega (arith, l) in
    record { fits = omega arith; laid = ap (λ (k : ℕ). 0 ∷ replicate k 0) s }

-- an area of other words than those of the dictionary and zeros after them
held_by : (D : Dictionary) (d : List ℕ) (m : ℕ) → d ≡ dictionary_words D ++ replicate m 0 → Holds D d
held_by D d m q =
    let l = ap length q ∙ length-append (dictionary_words D) (replicate m 0) in
    let z = length-replicate {A = ℕ} m 0 in
    let s : m ≡ length d - dictionary_length D = omega (arith, l, z) in
    record { fits = omega (arith, l); laid = q ∙ ap (λ (k : ℕ). dictionary_words D ++ replicate k 0) s }

-- the words with one entry more, its pair after the others
laid_last : (es : List Entry) (e : Entry) → laid_out_words (es ++ (e ∷ []))
    ≡ (length es + 1) ∷ ((entry_pairs es (1 + 2 * length es + 2) ++ ((length (laid_out_words es) + 2) ∷ (length (entry_words e) ∷ []))) ++ (all_words es ++ entry_words e))
unfolding laid_out_words
laid_last es e =
    let n = length es in
    let o = 1 + 2 * n in
    let fs = es ++ (e ∷ []) in
    let W = entry_words e in
    let l = length_last es e in
    let a = laid_length es in
    let k : length fs ≡ n + 1 = omega (arith, l) in
    let j : 1 + 2 * (n + 1) ≡ o + 2 = omega arith in
    let i : o + 2 + length (all_words es) ≡ length (laid_out_words es) + 2 = omega (arith, a) in
    ap (λ (x : ℕ). x ∷ (entry_pairs fs (1 + 2 * x) ++ all_words fs)) k
    ∙ ap (λ (w : List ℕ). (n + 1) ∷ (entry_pairs fs (1 + 2 * (n + 1)) ++ w)) (words_last es e)
    ∙ ap (λ (x : ℕ). (n + 1) ∷ (entry_pairs fs x ++ (all_words es ++ W))) j
    ∙ ap (λ (w : List ℕ). (n + 1) ∷ (w ++ (all_words es ++ W))) (pairs_last es e (o + 2))
    ∙ ap (λ (x : ℕ). (n + 1) ∷ ((entry_pairs es (o + 2) ++ (x ∷ (length W ∷ []))) ++ (all_words es ++ W))) i

-- the words of the entries es, room for the entry e, and m zeros more
grown_lists : (es : List Entry) (e : Entry) (m : ℕ) → length (laid_out_words es) + 2 + length (entry_words e) + m < 2 ^ 32
    → grown (length es) (length (laid_out_words es)) (entry_words e) (laid_out_words es ++ (0 ∷ (0 ∷ replicate (length (entry_words e) + m) 0)))
    ≡ laid_out_words (es ++ (e ∷ [])) ++ replicate m 0
unfolding grown laid_out_words
grown_lists es e m few =
    let n = length es in
    let o = 1 + 2 * n in
    let P = entry_pairs es o in
    let Q = entry_pairs es (o + 2) in
    let B = all_words es in
    let W = entry_words e in
    let L = length (laid_out_words es) in
    let Z = replicate {A = ℕ} (length W + m) 0 in
    let d = laid_out_words es ++ (0 ∷ (0 ∷ Z)) in
    let X = (n + 1) ∷ (Q ++ ((L + 2) ∷ (length W ∷ B))) in
    let p = pairs_length es o in
    let q = pairs_length es (o + 2) in
    let a = laid_length es in
    let z = length-replicate {A = ℕ} (length W + m) 0 in
    let x = length-append Q ((L + 2) ∷ (length W ∷ B)) in
    let from : 2 * n + 1 ≡ length (n ∷ P) = omega (arith, p) in
    let long : L - (2 * n + 1) ≡ length B = omega (arith, a) in
    let up = lifted_lists (n ∷ P) B Z 0 0 in
    let lift : lifted (2 * n + 1) (L - (2 * n + 1)) d ≡ n ∷ (P ++ (up.0 ∷ (up.1 ∷ (B ++ Z)))) =
    ap (λ (j : ℕ). lifted j (L - (2 * n + 1)) d) from
    ∙ ap (λ (j : ℕ). lifted (length (n ∷ P)) j d) long
    ∙ ap (λ (w : List ℕ). lifted (length (n ∷ P)) (length B) (n ∷ w)) (append_assoc P B (0 ∷ (0 ∷ Z)))
    ∙ up.2 in
    let raise = offsets_raised es (n ∷ []) (up.0 ∷ (up.1 ∷ (B ++ Z))) 1 o (omega arith) (omega (arith, a, few)) in
    let pair = pair_added_lem n (L + 2) (length W) up.0 up.1 Q (B ++ Z) (omega (arith, q)) (omega (arith, a, few)) in
    let seam = ap (λ (w : List ℕ). (n + 1) ∷ w) (sym (append_assoc Q ((L + 2) ∷ (length W ∷ B)) Z)) in
    let over = sets_seam X Z W (L + 2) (omega (arith, x, q, a)) (omega (arith, z)) in
    ap (λ (w : List ℕ). sets (pair_added n (L + 2) (length W) (run offset_raised 1 n w)) (L + 2) W) lift
    ∙ ap (λ (w : List ℕ). sets (pair_added n (L + 2) (length W) w) (L + 2) W) raise
    ∙ ap (λ (w : List ℕ). sets w (L + 2) W) (pair ∙ seam)
    ∙ over
    ∙ ap (λ (w : List ℕ). X ++ (W ++ w)) (drop_zeros (length W) m)
    ∙ sym (ap (λ (w : List ℕ). w ++ replicate m 0) (laid_last es e) ∙ simp append_assoc)

grown_held : (D : Dictionary) (e : Entry) (d : List ℕ) → Holds D d → dictionary_length (D ▸ e) ≤ length d → length d < 2 ^ 32
    → Holds (D ▸ e) (grown (length (entries D)) (dictionary_length D) (entry_words e) d)
unfolding dictionary_words entries
grown_held D e d h room few =
    let es = entries D in
    let W = entry_words e in
    let m = length d - dictionary_length (D ▸ e) in
    let l = length_more D e in
    let s : length d - dictionary_length D ≡ suc (suc (length W + m)) = omega (arith, l, room) in
    let q : d ≡ laid_out_words es ++ (0 ∷ (0 ∷ replicate (length W + m) 0)) = h.laid ∙ ap (λ (k : ℕ). laid_out_words es ++ replicate k 0) s in
    held_by (D ▸ e) (grown (length es) (dictionary_length D) W d) m
    (ap (grown (length es) (dictionary_length D) W) q ∙ grown_lists es e m (omega (arith, l, room, few)))

-- What `append` promises where the entry fits the area, and where not.
module _ (D : Dictionary) (e : Entry) (d w : List ℕ) (h : Holds D d) (q : w ≡ entry_words e) where
  pub append_fits : size_at d + 2 + length w ≤ length d → length d < 2 ^ 32 → Appended D e d (grown (count d) (size_at d) w d) true
  append_fits room few =
      let s = size_held D d h in
      let l = length_more D e in
      let t = ap length q in
      let g : grown (length (entries D)) (dictionary_length D) (entry_words e) d ≡ grown (count d) (size_at d) w d = rw (count_held D d h, s, q) in
      record {
        fits = λ _. subst (Holds (D ▸ e)) g (grown_held D e d h (omega (arith, s, l, t, room)) few);
        full = λ x. absurd (false≢true (sym x));
      }

  pub append_full : length d < size_at d + 2 + length w → Appended D e d d false
  append_full room =
      let s = size_held D d h in
      let l = length_more D e in
      let t = ap length q in
      record { fits = λ x. absurd (false≢true x); full = λ _. (refl, omega (arith, s, l, t, room)) }
