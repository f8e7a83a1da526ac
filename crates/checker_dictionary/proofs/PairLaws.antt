-- The pairs of a dictionary with one entry more: offsets grown by two, a pair at the end, and the count.
use Rattle.std.proofs.Common.{◌≡◌, ℕ, suc, ◌+◌, ◌-◌, ◌*◌, ◌%◌, ◌^◌, ◌<◌, List, [], ◌∷◌, ◌++◌, length, set, sym, refl, ap, ◌∙◌, append_assoc, mod-eq_of_lt, arith, length-append}
use lib.Seq.{set_at, get_or_at}
use Rattle.words.specs.Loops.{run}
use Rattle.checker_rules.specs.Dictionary.{Entry, entry_words, entry_pairs, all_words}
use Rattle.checker_dictionary.specs.Growth.{raised, offset_raised, pair_added}

raised_at : (A : List ℕ) (x : ℕ) (R : List ℕ) (i more : ℕ) → length A ≡ i → x + more < 2 ^ 32 → raised i more (A ++ (x ∷ R)) ≡ A ++ ((x + more) ∷ R)
unfolding raised
raised_at A x R i more l h =
    ap (λ (y : ℕ). set (A ++ (x ∷ R)) i ((y + more) % 2 ^ 32)) (get_or_at A x R 0 i l)
    ∙ ap (λ (y : ℕ). set (A ++ (x ∷ R)) i y) (mod-eq_of_lt h)
    ∙ set_at A x R (x + more) i l

-- each offset of the entries es, whose pairs stand after A
pub offsets_raised : (es : List Entry) (A R : List ℕ) (k o : ℕ) → length A + 1 ≡ 2 * k → o + length (all_words es) + 2 < 2 ^ 32
    → run offset_raised k (length es) (A ++ (entry_pairs es o ++ R)) ≡ A ++ (entry_pairs es (o + 2) ++ R)
unfolding run offset_raised entry_pairs all_words
offsets_raised [] A R k o n h = refl
offsets_raised (e ∷ es) A R k o n h =
    let L = length (entry_words e) in
    let rest = entry_pairs es (o + L) ++ R in
    let B = A ++ ((o + 2) ∷ (L ∷ [])) in
    let l = length-append A ((o + 2) ∷ (L ∷ [])) in
    let w = length-append (entry_words e) (all_words es) in
    let s : o + L + 2 ≡ o + 2 + L = omega arith in
    ap (run offset_raised (suc k) (length es)) (raised_at A o (L ∷ rest) (2 * k - 1) 2 (omega (arith, n)) (omega (arith, h)) ∙ sym (append_assoc A ((o + 2) ∷ (L ∷ [])) rest))
    ∙ offsets_raised es B R (suc k) (o + L) (omega (arith, l, n)) (omega (arith, h, w))
    ∙ append_assoc A ((o + 2) ∷ (L ∷ [])) (entry_pairs es (o + L + 2) ++ R)
    ∙ ap (λ (j : ℕ). A ++ ((o + 2) ∷ (L ∷ (entry_pairs es j ++ R)))) s

-- the pair over two words after the pairs P
pub pair_added_lem : (n offset len a b : ℕ) (P R : List ℕ) → length P ≡ 2 * n → n + 1 < 2 ^ 32
    → pair_added n offset len (n ∷ (P ++ (a ∷ (b ∷ R)))) ≡ (n + 1) ∷ (P ++ (offset ∷ (len ∷ R)))
unfolding pair_added
pair_added_lem n offset len a b P R p h =
    let F = (n + 1) ∷ P in
    let l = length-append F (offset ∷ []) in
    ap (λ (w : List ℕ). set (set w (2 * n + 1) offset) (2 * n + 2) len) (raised_at [] n (P ++ (a ∷ (b ∷ R))) 0 1 refl h)
    ∙ ap (λ (w : List ℕ). set w (2 * n + 2) len) (set_at F a (b ∷ R) offset (2 * n + 1) (omega (arith, p)) ∙ sym (append_assoc F (offset ∷ []) (b ∷ R)))
    ∙ set_at (F ++ (offset ∷ [])) b R len (2 * n + 2) (omega (arith, l, p))
    ∙ append_assoc F (offset ∷ []) (len ∷ R)

-- the pairs of one entry more
pub pairs_last : (es : List Entry) (e : Entry) (o : ℕ)
    → entry_pairs (es ++ (e ∷ [])) o ≡ entry_pairs es o ++ ((o + length (all_words es)) ∷ (length (entry_words e) ∷ []))
unfolding entry_pairs all_words
pairs_last [] e o = let s : o ≡ o + 0 = omega arith in ap (λ (j : ℕ). j ∷ (length (entry_words e) ∷ [])) s
pairs_last (a ∷ es) e o =
    let L = length (entry_words a) in
    let w = length-append (entry_words a) (all_words es) in
    let s : o + L + length (all_words es) ≡ o + length (entry_words a ++ all_words es) = omega (arith, w) in
    ap (λ (v : List ℕ). o ∷ (L ∷ v)) (pairs_last es e (o + L) ∙ ap (λ (j : ℕ). entry_pairs es (o + L) ++ (j ∷ (length (entry_words e) ∷ []))) s)
