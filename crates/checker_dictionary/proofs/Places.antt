-- Where the entries of a dictionary stand in an area that holds it, and how many words it takes.
use Rattle.std.proofs.Common.{◌≡◌, ℕ, suc, ◌+◌, ◌-◌, ◌*◌, Bool, cond, eqb, List, [], ◌∷◌, ◌++◌, length, get_or, drop, replicate, sym, ap, ◌∙◌, append_assoc, append-nil, arith, length-append, drop_at, ne_eqb}
use Rattle.layout.specs.Layout.{count, offset_at, length_at}
use Rattle.checker_rules.specs.Dictionary.{Entry, Dictionary, blank, ◌▸◌, entry_words, entries, entry_pairs, all_words, laid_out_words, dictionary_words, dictionary_length}
use Rattle.checker_rules.proofs.DictionaryLaid.{pairs_length, pairs_at_lem, words_append}
use Rattle.checker_dictionary.specs.Holds.{Holds}
use Rattle.checker_dictionary.specs.Growth.{size_at}

-- count, pairs, entries
pub laid_length : (es : List Entry) → length (laid_out_words es) ≡ 1 + 2 * length es + length (all_words es)
unfolding laid_out_words
laid_length es =
    let o = 1 + 2 * length es in
    let a = length-append (entry_pairs es o) (all_words es) in
    let p = pairs_length es o in
    omega (arith, a, p)

-- the number of entries with one more, and their words
pub length_last : (es : List Entry) (e : Entry) → length (es ++ (e ∷ [])) ≡ suc (length es)
length_last es e = let h = length-append es (e ∷ []) in omega (arith, h)

pub words_last : (es : List Entry) (e : Entry) → all_words (es ++ (e ∷ [])) ≡ all_words es ++ entry_words e
unfolding all_words
words_last es e = words_append es (e ∷ []) ∙ ap (λ (w : List ℕ). all_words es ++ w) (append-nil (entry_words e))

-- the entry after fs in an area that begins with the words of fs, e and bs
module _ (fs bs : List Entry) (e : Entry) (rest d : List ℕ) (q : d ≡ laid_out_words (fs ++ (e ∷ bs)) ++ rest) where
  pub entry_pair : (offset_at d (suc (length fs)) ≡ 1 + 2 * length (fs ++ (e ∷ bs)) + length (all_words fs)) × (length_at d (suc (length fs)) ≡ length (entry_words e))
  unfolding laid_out_words
  entry_pair =
      let es = fs ++ (e ∷ bs) in
      let n = length es in
      let o = 1 + 2 * n in
      let a = ap (λ (w : List ℕ). n ∷ w) (append_assoc (entry_pairs es o) (all_words es) rest) in
      let h = pairs_at_lem fs bs e (n ∷ []) (all_words es ++ rest) d 1 o (q ∙ a) (omega arith) in
      let s : 1 + length fs ≡ suc (length fs) = omega arith in
      (ap (offset_at d) (sym s) ∙ h.0, ap (length_at d) (sym s) ∙ h.1)

  pub entry_here : drop (offset_at d (suc (length fs))) d ≡ entry_words e ++ (all_words bs ++ rest)
  unfolding laid_out_words all_words
  entry_here =
      let es = fs ++ (e ∷ bs) in
      let n = length es in
      let P = entry_pairs es (1 + 2 * n) in
      let a : d ≡ ((n ∷ P) ++ all_words fs) ++ (entry_words e ++ (all_words bs ++ rest)) =
      q ∙ ap (λ (w : List ℕ). (n ∷ (P ++ w)) ++ rest) (words_append fs (e ∷ bs)) ∙ simp append_assoc in
      let p = pairs_length es (1 + 2 * n) in
      let l = length-append (n ∷ P) (all_words fs) in
      let o = entry_pair.0 in
      ap (drop (offset_at d (suc (length fs)))) a
      ∙ drop_at ((n ∷ P) ++ all_words fs) (entry_words e ++ (all_words bs ++ rest)) (offset_at d (suc (length fs))) (omega (arith, p, l, o))

-- an area that holds a dictionary: its count, and its size
pub count_held : (D : Dictionary) (d : List ℕ) → Holds D d → count d ≡ length (entries D)
unfolding dictionary_words laid_out_words
count_held D d h = ap (λ (w : List ℕ). get_or w 0 0) h.laid

pub size_none : (d : List ℕ) → count d ≡ 0 → size_at d ≡ 1
unfolding size_at
size_none d e = rw e

pub size_some : (d : List ℕ) (n : ℕ) → count d ≡ n → (n ≡ 0 → ⊥) → size_at d ≡ offset_at d n + length_at d n
unfolding size_at
size_some d n e h =
    ap (λ (k : ℕ). cond (eqb k 0) 1 (offset_at d k + length_at d k)) e
    ∙ ap (λ (b : Bool). cond b 1 (offset_at d n + length_at d n)) (ne_eqb n 0 h)

pub size_held : (D : Dictionary) (d : List ℕ) → Holds D d → size_at d ≡ dictionary_length D
unfolding dictionary_words entries laid_out_words entry_pairs all_words
size_held blank d h = size_none d (count_held blank d h)
size_held (D ▸ e) d h =
    let fs = entries D in
    let n = length_last fs e in
    let p = entry_pair fs [] e (replicate (length d - dictionary_length (D ▸ e)) 0) d h.laid in
    let a = laid_length (fs ++ (e ∷ [])) in
    let w = ap length (words_last fs e) ∙ length-append (all_words fs) (entry_words e) in
    let s = size_some d (suc (length fs)) (count_held (D ▸ e) d h ∙ n) (omega arith) in
    omega (arith, n, p.0, p.1, a, w, s)
