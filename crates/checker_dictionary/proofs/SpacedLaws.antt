-- Where the entries of a dictionary that grows stand in its area, and how many words they take.
use Rattle.std.proofs.Common.{◌≡◌, ℕ, suc, ◌+◌, ◌-◌, ◌*◌, ◌%◌, ◌^◌, ◌<◌, ◌≤◌, Bool, cond, List, [], ◌∷◌, ◌++◌, length, get_or, take, drop, set, replicate, sym, refl, ap, ◌∙◌, append_assoc, mod-eq_of_lt, arith, length-append, length-take-le, take_at, drop_at, ne_eqb}
use lib.ListN.{length-replicate, replicate-append-replicate}
use lib.Seq.{set_at, get_or_at, take-append-add, drop-append-add, sets-eq}
use Rattle.words.proofs.Lists.{sets_append, zeros_dropped}
use Rattle.layout.specs.Layout.{count, offset_at, length_at}
use Rattle.checker_rules.specs.Dictionary.{Entry, Dictionary, blank, ◌▸◌, entry_words, entries, entry_pairs, all_words, laid_out_words, dictionary_words, dictionary_length}
use Rattle.checker_rules.proofs.DictionaryLaid.{pairs_length, pairs_at_lem, words_append}
use Rattle.checker_dictionary.specs.Holds.{Holds}
use Rattle.checker_dictionary.specs.Growth.{size_at, pair_added}
use Rattle.checker_dictionary.specs.Spaced.{spaced_words, Spaced, first_at, placed, Respaced}
use Rattle.checker_dictionary.proofs.Places.{laid_length, length_last, words_last, size_none, size_some}
use Rattle.checker_dictionary.proofs.LiftLaws.{sets_seam, drop_zeros}
use Rattle.checker_dictionary.proofs.PairLaws.{pair_added_lem, pairs_last}
use lib.Seq.{sets}

pub spaced_length : (gap : List ℕ) (es : List Entry) → length (spaced_words gap es) ≡ 1 + 2 * length es + length gap + length (all_words es)
unfolding spaced_words
spaced_length gap es =
    let o = 1 + 2 * length es + length gap in
    let a = length-append (entry_pairs es o) (gap ++ all_words es) in
    let b = length-append gap (all_words es) in
    let p = pairs_length es o in
    omega (arith, a, b, p)

-- the entry after fs in an area that begins with the words of fs, e and bs
module _ (gap : List ℕ) (fs bs : List Entry) (e : Entry) (rest d : List ℕ) (q : d ≡ spaced_words gap (fs ++ (e ∷ bs)) ++ rest) where
  pub entry_pair : (offset_at d (suc (length fs)) ≡ 1 + 2 * length (fs ++ (e ∷ bs)) + length gap + length (all_words fs)) × (length_at d (suc (length fs)) ≡ length (entry_words e))
  unfolding spaced_words
  entry_pair =
      let es = fs ++ (e ∷ bs) in
      let n = length es in
      let o = 1 + 2 * n + length gap in
      let a = ap (λ (w : List ℕ). n ∷ w) (append_assoc (entry_pairs es o) (gap ++ all_words es) rest) in
      let h = pairs_at_lem fs bs e (n ∷ []) ((gap ++ all_words es) ++ rest) d 1 o (q ∙ a) (omega arith) in
      let s : 1 + length fs ≡ suc (length fs) = omega arith in
      (ap (offset_at d) (sym s) ∙ h.0, ap (length_at d) (sym s) ∙ h.1)

  pub entry_here : drop (offset_at d (suc (length fs))) d ≡ entry_words e ++ (all_words bs ++ rest)
  unfolding spaced_words all_words
  entry_here =
      let es = fs ++ (e ∷ bs) in
      let n = length es in
      let P = entry_pairs es (1 + 2 * n + length gap) in
      let a : d ≡ ((n ∷ P) ++ (gap ++ all_words fs)) ++ (entry_words e ++ (all_words bs ++ rest)) =
      q ∙ ap (λ (w : List ℕ). (n ∷ (P ++ (gap ++ w))) ++ rest) (words_append fs (e ∷ bs)) ∙ simp append_assoc in
      let p = pairs_length es (1 + 2 * n + length gap) in
      let l = length-append (n ∷ P) (gap ++ all_words fs) in
      let k = length-append gap (all_words fs) in
      let o = entry_pair.0 in
      ap (drop (offset_at d (suc (length fs)))) a
      ∙ drop_at ((n ∷ P) ++ (gap ++ all_words fs)) (entry_words e ++ (all_words bs ++ rest)) (offset_at d (suc (length fs))) (omega (arith, p, l, k, o))

-- AN AREA THAT HOLDS A DICTIONARY has no spare words; and one without spare words holds it.
laid_spaced : (es : List Entry) → laid_out_words es ≡ spaced_words [] es
unfolding laid_out_words spaced_words
laid_spaced es = let z : 1 + 2 * length es ≡ 1 + 2 * length es + 0 = omega arith in ap (λ (o : ℕ). length es ∷ (entry_pairs es o ++ all_words es)) z

pub holds_spaced : (D : Dictionary) (d : List ℕ) → Holds D d → Spaced D d
unfolding dictionary_words
holds_spaced D d H = record {
  gap = [];
  after = length d - dictionary_length D;
  none = λ e. refl;
  laid = H.laid ∙ ap (λ (w : List ℕ). w ++ replicate (length d - dictionary_length D) 0) (laid_spaced (entries D));
}

pub spaced_holds : (D : Dictionary) (d gap : List ℕ) (m : ℕ) → length gap ≡ 0 → d ≡ spaced_words gap (entries D) ++ replicate m 0 → Holds D d
unfolding dictionary_words
spaced_holds D d [] m z q =
    let a : d ≡ dictionary_words D ++ replicate m 0 = q ∙ ap (λ (w : List ℕ). w ++ replicate m 0) (sym (laid_spaced (entries D))) in
    let l = ap length a ∙ length-append (dictionary_words D) (replicate m 0) in
    let k = length-replicate {A = ℕ} m 0 in
    let s : m ≡ length d - dictionary_length D = omega (arith, l, k) in
    record { fits = omega (arith, l); laid = a ∙ ap (λ (j : ℕ). dictionary_words D ++ replicate j 0) s }
spaced_holds D d (x ∷ gap) m z q = absurd (omega (arith, z))

-- COUNT, PLACE AND END of the entries.
module _ (D : Dictionary) (d : List ℕ) (S : Spaced D d) where
  pub count_spaced : count d ≡ length (entries D)
  unfolding spaced_words
  count_spaced = ap (λ (w : List ℕ). get_or w 0 0) S.laid

  pub area_spaced : length d ≡ 1 + 2 * length (entries D) + length S.gap + length (all_words (entries D)) + S.after
  area_spaced =
      let a = ap length S.laid ∙ length-append (spaced_words S.gap (entries D)) (replicate S.after 0) in
      let b = spaced_length S.gap (entries D) in
      let c = length-replicate {A = ℕ} S.after 0 in
      omega (arith, a, b, c)

  pub spaced_fits : dictionary_length D ≤ length d
  unfolding dictionary_words
  spaced_fits = let a = area_spaced in let b = laid_length (entries D) in omega (arith, a, b)

pub size_spaced : (D : Dictionary) (d : List ℕ) (S : Spaced D d) → size_at d ≡ 1 + 2 * length (entries D) + length S.gap + length (all_words (entries D))
unfolding entries all_words
size_spaced blank d S = let z = S.none refl in size_none d (count_spaced blank d S) ∙ (let k : 1 ≡ 1 + 2 * 0 + length S.gap + 0 = omega (arith, z) in k)
size_spaced (D ▸ e) d S =
    let fs = entries D in
    let n = length_last fs e in
    let p = entry_pair S.gap fs [] e (replicate S.after 0) d S.laid in
    let w = ap length (words_last fs e) ∙ length-append (all_words fs) (entry_words e) in
    let s = size_some d (suc (length fs)) (count_spaced (D ▸ e) d S ∙ n) (omega arith) in
    omega (arith, n, p.0, p.1, w, s)

pub first_none : (d : List ℕ) → count d ≡ 0 → first_at d ≡ 1
unfolding first_at
first_none d e = rw e

pub first_some : (d : List ℕ) → (count d ≡ 0 → ⊥) → first_at d ≡ offset_at d 1
unfolding first_at
first_some d h = ap (λ (b : Bool). cond b 1 (offset_at d 1)) (ne_eqb (count d) 0 h)

first_of : (gap : List ℕ) (es : List Entry) (rest d : List ℕ) → (length es ≡ 0 → length gap ≡ 0) → count d ≡ length es → d ≡ spaced_words gap es ++ rest → first_at d ≡ 1 + 2 * length es + length gap
unfolding all_words
first_of gap [] rest d none c q = let z = none refl in first_none d c ∙ (let k : 1 ≡ 1 + 2 * 0 + length gap = omega (arith, z) in k)
first_of gap (e ∷ es) rest d none c q =
    let p = (entry_pair gap [] es e rest d q).0 in
    first_some d (λ z. absurd (omega (arith, c, z))) ∙ (let k : offset_at d 1 ≡ 1 + 2 * length (e ∷ es) + length gap = omega (arith, p) in k)

pub first_spaced : (D : Dictionary) (d : List ℕ) (S : Spaced D d) → first_at d ≡ 1 + 2 * length (entries D) + length S.gap
first_spaced D d S = first_of S.gap (entries D) (replicate S.after 0) d S.none (count_spaced D d S) S.laid

-- AN ENTRY MORE: its pair over two spare words, its words after the others.
pub put_spaced : (es : List Entry) (e : Entry) (a b : ℕ) (gap : List ℕ) (m end : ℕ) → end ≡ 1 + 2 * length es + length (a ∷ (b ∷ gap)) + length (all_words es) → length es + 1 < 2 ^ 32
    → sets (pair_added (length es) end (length (entry_words e)) (spaced_words (a ∷ (b ∷ gap)) es ++ replicate (length (entry_words e) + m) 0)) end (entry_words e)
    ≡ spaced_words gap (es ++ (e ∷ [])) ++ replicate m 0
unfolding spaced_words
put_spaced es e a b gap m end is few =
    let n = length es in
    let o = 1 + 2 * n + length (a ∷ (b ∷ gap)) in
    let P = entry_pairs es o in
    let E = all_words es in
    let W = entry_words e in
    let Z = replicate {A = ℕ} (length W + m) 0 in
    let X = (n + 1) ∷ (P ++ (end ∷ (length W ∷ (gap ++ E)))) in
    let p = pairs_length es o in
    let x = length-append P (end ∷ (length W ∷ (gap ++ E))) in
    let y = length-append gap E in
    let z = length-replicate {A = ℕ} (length W + m) 0 in
    let l = length_last es e in
    let flat : (n ∷ (P ++ ((a ∷ (b ∷ gap)) ++ E))) ++ Z ≡ n ∷ (P ++ (a ∷ (b ∷ ((gap ++ E) ++ Z)))) = ap (λ (w : List ℕ). n ∷ w) (append_assoc P (a ∷ (b ∷ (gap ++ E))) Z) in
    let pair = pair_added_lem n end (length W) a b P ((gap ++ E) ++ Z) (omega (arith, p)) few in
    let seam = ap (λ (w : List ℕ). (n + 1) ∷ w) (sym (append_assoc P (end ∷ (length W ∷ (gap ++ E))) Z)) in
    let over = sets_seam X Z W end (omega (arith, x, p, y, is)) (omega (arith, z)) in
    let k : n + 1 ≡ length (es ++ (e ∷ [])) = omega (arith, l) in
    let j : o ≡ 1 + 2 * length (es ++ (e ∷ [])) + length gap = omega (arith, l) in
    let i : o + length E ≡ end = omega (arith, is) in
    let pairs : P ++ (end ∷ (length W ∷ [])) ≡ entry_pairs (es ++ (e ∷ [])) (1 + 2 * length (es ++ (e ∷ [])) + length gap) =
    sym (ap (λ (t : ℕ). entry_pairs (es ++ (e ∷ [])) t) (sym j) ∙ pairs_last es e o ∙ ap (λ (t : ℕ). P ++ (t ∷ (length W ∷ []))) i) in
    ap (λ (w : List ℕ). sets (pair_added n end (length W) w) end W) flat
    ∙ ap (λ (w : List ℕ). sets w end W) (pair ∙ seam)
    ∙ over
    ∙ ap (λ (w : List ℕ). X ++ (W ++ w)) (drop_zeros (length W) m)
    ∙ sym (ap (λ (t : ℕ). (t ∷ (entry_pairs (es ++ (e ∷ [])) (1 + 2 * length (es ++ (e ∷ [])) + length gap) ++ (gap ++ all_words (es ++ (e ∷ []))))) ++ replicate m 0) (sym k)
    ∙ ap (λ (w : List ℕ). ((n + 1) ∷ (w ++ (gap ++ all_words (es ++ (e ∷ []))))) ++ replicate m 0) (sym pairs)
    ∙ ap (λ (w : List ℕ). ((n + 1) ∷ ((P ++ (end ∷ (length W ∷ []))) ++ (gap ++ w))) ++ replicate m 0) (words_last es e)
    ∙ simp append_assoc)

-- OTHER PLACES for the entries: their offsets, by their lengths.
pub offsets_placed : (es : List Entry) (A R : List ℕ) (k o u : ℕ) → length A + 1 ≡ 2 * k → u + length (all_words es) < 2 ^ 32
    → placed (length es) k u (A ++ (entry_pairs es o ++ R)) ≡ A ++ (entry_pairs es u ++ R)
unfolding placed entry_pairs all_words
offsets_placed [] A R k o u n h = refl
offsets_placed (e ∷ es) A R k o u n h =
    let L = length (entry_words e) in
    let rest = entry_pairs es (o + L) ++ R in
    let B = A ++ (u ∷ (L ∷ [])) in
    let l = length-append A (u ∷ (L ∷ [])) in
    let m = length-append A (o ∷ []) in
    let w = length-append (entry_words e) (all_words es) in
    let len : get_or (A ++ (o ∷ (L ∷ rest))) (2 * k) 0 ≡ L = ap (λ (v : List ℕ). get_or v (2 * k) 0) (sym (append_assoc A (o ∷ []) (L ∷ rest))) ∙ get_or_at (A ++ (o ∷ [])) L rest 0 (2 * k) (omega (arith, m, n)) in
    let next : (u + get_or (A ++ (o ∷ (L ∷ rest))) (2 * k) 0) % 2 ^ 32 ≡ u + L = ap (λ (x : ℕ). (u + x) % 2 ^ 32) len ∙ mod-eq_of_lt (omega (arith, h, w)) in
    let moved : set (A ++ (o ∷ (L ∷ rest))) (2 * k - 1) u ≡ B ++ rest = set_at A o (L ∷ rest) u (2 * k - 1) (omega (arith, n)) ∙ sym (append_assoc A (u ∷ (L ∷ [])) rest) in
    ap (λ (x : ℕ). placed (length es) (suc k) x (set (A ++ (o ∷ (L ∷ rest))) (2 * k - 1) u)) next
    ∙ ap (placed (length es) (suc k) (u + L)) moved
    ∙ offsets_placed es B R (suc k) (o + L) (u + L) (omega (arith, l, n)) (omega (arith, h, w))
    ∙ append_assoc A (u ∷ (L ∷ [])) (entry_pairs es (u + L) ++ R)

-- The entries moved from the place `from` to the place `to`, and zeros after them.
-- the zeros after them: `over` of the zeros that were there are passed over
zeros_left : (from to m after l over : ℕ) → l ≡ from + m + after → to + m ≤ l → over ≡ to - from → from - to + (after - over) ≡ l - (to + m)
zeros_left from to m after l over e room o = omega (arith, e, room, o)

over_is : (from to m x : ℕ) → x ≡ m + (from - to) → to + x - from - m ≡ to - from
over_is from to m x e = omega (arith, e)

within : (from to m after l x : ℕ) → x ≡ m + (from - to) → l ≡ from + m + after → to + m ≤ l → to + x ≤ l
within from to m after l x e f room = omega (arith, e, f, room)

module _ (gap : List ℕ) (es : List Entry) (after : ℕ) (d : List ℕ) (q : d ≡ spaced_words gap es ++ replicate after 0) (from to m : ℕ) (start : from ≡ 1 + 2 * length es + length gap)
    (long : m ≡ length (all_words es)) (low : 1 + 2 * length es ≤ to) (room : to + m ≤ length d) (few : to + m < 2 ^ 32) where
  n : ℕ
  n = length es

  head : List ℕ
  head = length es ∷ entry_pairs es (1 + 2 * length es + length gap)

  E : List ℕ
  E = all_words es

  tail : List ℕ
  tail = gap ++ (E ++ replicate after 0)

  head_length : length head ≡ 1 + 2 * n
  unfolding head n
  head_length = let p = pairs_length es (1 + 2 * length es + length gap) in omega (arith, p)

  flat : d ≡ head ++ tail
  unfolding spaced_words head tail E
  flat = q ∙ simp append_assoc

  d_length : length d ≡ 1 + 2 * n + length gap + length E + after
  unfolding n E
  d_length =
      let a = ap length q ∙ length-append (spaced_words gap es) (replicate after 0) in
      let b = spaced_length gap es in
      let c = length-replicate {A = ℕ} after 0 in
      omega (arith, a, b, c)

  -- the entries' words, and what is written
  words_here : take m (drop from d) ≡ E
  unfolding n E tail
  words_here =
      let h = head_length in
      let k = length-append head gap in
      let a : d ≡ (head ++ gap) ++ (E ++ replicate after 0) = flat ∙ sym (append_assoc head gap (E ++ replicate after 0)) in
      ap (λ (x : List ℕ). take m (drop from x)) a
      ∙ ap (take m) (drop_at (head ++ gap) (E ++ replicate after 0) from (omega (arith, h, k, start)))
      ∙ take_at E (replicate after 0) m (sym long)

  spare : List ℕ
  spare = take (to - (1 + 2 * n)) tail

  left : ℕ
  left = length d - (to + m)

  written : sets (sets d to (take m (drop from d))) (to + m) (replicate (from - to) 0) ≡ (head ++ spare) ++ (E ++ replicate left 0)
  unfolding spare left n E tail
  written =
      let h = head_length in
      let z = length-replicate {A = ℕ} (from - to) 0 in
      let dl = d_length in
      let Q = E ++ replicate {A = ℕ} (from - to) 0 in
      let v = length-append E (replicate {A = ℕ} (from - to) 0) in
      let e : to + m ≡ to + length E = omega (arith, long) in
      let i : to ≡ length head + (to - (1 + 2 * n)) = omega (arith, h, low) in
      let front : take to d ≡ head ++ spare = ap (take to) flat ∙ ap (λ (x : ℕ). take x (head ++ tail)) i ∙ take-append-add head tail (to - (1 + 2 * n)) in
      let k = length-append head gap in
      let g = length-append (head ++ gap) E in
      let t : to + length Q ≡ length ((head ++ gap) ++ E) + (to + length Q - from - m) = omega (arith, h, k, g, v, z, start, long, low) in
      let back : drop (to + length Q) d ≡ replicate (after - (to + length Q - from - m)) 0 =
      ap (drop (to + length Q)) (flat ∙ simp append_assoc)
      ∙ ap (λ (x : ℕ). drop x (((head ++ gap) ++ E) ++ replicate after 0)) t
      ∙ drop-append-add ((head ++ gap) ++ E) (replicate after 0) (to + length Q - from - m)
      ∙ zeros_dropped (to + length Q - from - m) after in
      let x : length Q ≡ m + (from - to) = omega (arith, v, z, long) in
      let y : length d ≡ from + m + after = omega (arith, dl, start, long) in
      let j : from - to + (after - (to + length Q - from - m)) ≡ length d - (to + m) = zeros_left from to m after (length d) (to + length Q - from - m) y room (over_is from to m (length Q) x) in
      ap (λ (w : List ℕ). sets (sets d to w) (to + m) (replicate (from - to) 0)) words_here
      ∙ ap (λ (x : ℕ). sets (sets d to E) x (replicate (from - to) 0)) e
      ∙ sym (sets_append d to E (replicate (from - to) 0))
      ∙ sets-eq Q d to (within from to m after (length d) (length Q) x y room)
      ∙ append_assoc (take to d) Q (drop (to + length Q) d)
      ∙ ap (λ (w : List ℕ). w ++ (Q ++ drop (to + length Q) d)) front
      ∙ ap (λ (w : List ℕ). (head ++ spare) ++ (Q ++ w)) back
      ∙ ap (λ (w : List ℕ). (head ++ spare) ++ w) (append_assoc E (replicate (from - to) 0) (replicate (after - (to + length Q - from - m)) 0))
      ∙ ap (λ (w : List ℕ). (head ++ spare) ++ (E ++ w)) (replicate-append-replicate (from - to) (after - (to + length Q - from - m)) 0)
      ∙ ap (λ (x : ℕ). (head ++ spare) ++ (E ++ replicate x 0)) j

  spare_length : length spare ≡ to - (1 + 2 * n)
  unfolding spare tail n E
  spare_length =
      let a = length-append gap (E ++ replicate after 0) in
      let b = length-append E (replicate {A = ℕ} after 0) in
      let c = length-replicate {A = ℕ} after 0 in
      let l = d_length in
      length-take-le (to - (1 + 2 * n)) (gap ++ (E ++ replicate after 0)) (omega (arith, a, b, c, l, room))

  pub respaced : Respaced es (placed (length es) 1 to (sets (sets d to (take m (drop from d))) (to + m) (replicate (from - to) 0))) to
  unfolding spaced_words head E n
  respaced =
      let l = spare_length in
      let o : to ≡ 1 + 2 * length es + length spare = omega (arith, l, low) in
      record {
        gap = spare;
        after = left;
        begins = o;
        laid =
            ap (placed (length es) 1 to) (written ∙ simp append_assoc)
            ∙ offsets_placed es (length es ∷ []) (spare ++ (all_words es ++ replicate left 0)) 1 (1 + 2 * length es + length gap) to (omega arith) (omega (arith, long, room, few))
            ∙ ap (λ (x : ℕ). length es ∷ (entry_pairs es x ++ (spare ++ (all_words es ++ replicate left 0)))) o
            ∙ simp append_assoc;
      }
