-- THE DICTIONARY'S WORDS have the layout of count and pairs, and its parts are its entries in order.
use mathlib.Core.Path.{◌≡◌, refl, sym, ap, ap₂, ◌∙◌}
use mathlib.Core.Bool.{true}
use mathlib.Core.List.{List, [], ◌∷◌, ◌++◌, map}
use Prim.Native.Nat.{ℕ, suc, ◌+◌, ◌*◌, ◌≤◌}
use native.Mathlib.Omega.{arith}
use lib.ListN.{length, length-map}
use Rattle.layout.specs.declared.Form.{Form}
use Rattle.layout.specs.Layout.{offset_at, length_at, laid_out, part}
use Rattle.layout.specs.Rows.{Rows, row_pairs, row_words, lay_out}
use Rattle.layout.proofs.LaidRows as rows
use Rattle.layout.proofs.LaidRows.{Long, rows_laid, laid_length}
use Rattle.types_rules.specs.Types.{Ty, node}
use Rattle.types_rules.specs.Words.{words}
use Rattle.checker_rules.specs.Dictionary.{Entry, name_entry, schema_entry, Dictionary, entry_words, entries, entry_pairs, all_words, laid_out_words}
use Rattle.checker_rules.specs.Dictionary.{dictionary_words, dictionary_length}

type_words_lem : (g : Ty) → 1 ≤ length (words g)
unfolding words
type_words_lem (node h gs) = omega arith

-- class, name, parameter count, and at least one type word
pub entry_long : (e : Entry) → 4 ≤ length (entry_words e)
unfolding entry_words
entry_long (name_entry i p g) = omega (arith, type_words_lem g)
entry_long (schema_entry s p g) = omega (arith, type_words_lem g)

-- The entries as rows.
pairs_rows : (es : List Entry) (o : ℕ) → entry_pairs es o ≡ row_pairs (map entry_words es) o
unfolding entry_pairs row_pairs
pairs_rows [] o = refl
pairs_rows (e ∷ es) o = ap (λ (w : List ℕ). o ∷ length (entry_words e) ∷ w) (pairs_rows es (o + length (entry_words e)))

words_rows : (es : List Entry) → all_words es ≡ row_words (map entry_words es)
unfolding all_words row_words
words_rows [] = refl
words_rows (e ∷ es) = ap (λ (w : List ℕ). entry_words e ++ w) (words_rows es)

laid_rows : (es : List Entry) → laid_out_words es ≡ lay_out (map entry_words es)
unfolding laid_out_words lay_out
laid_rows es =
    let n = length-map es entry_words in
    ap₂ (λ (p w : List ℕ). length es ∷ (p ++ w)) (pairs_rows es (1 + 2 * length es)) (words_rows es)
    ∙ ap (λ (m : ℕ). m ∷ (row_pairs (map entry_words es) (1 + 2 * m) ++ row_words (map entry_words es))) (sym n)

rows_append : (fs bs : List Entry) → map entry_words (fs ++ bs) ≡ map entry_words fs ++ map entry_words bs
rows_append [] bs = refl
rows_append (a ∷ fs) bs = ap (λ (ws : Rows). entry_words a ∷ ws) (rows_append fs bs)

rows_long : (es : List Entry) → Long 4 (map entry_words es)
rows_long [] = tt
rows_long (e ∷ es) = (entry_long e, rows_long es)

pub pairs_length : (es : List Entry) (o : ℕ) → length (entry_pairs es o) ≡ 2 * length es
pairs_length es o =
    let n = length-map es entry_words in
    ap length (pairs_rows es o) ∙ rows.pairs_length (map entry_words es) o ∙ ap (λ (m : ℕ). 2 * m) n

-- entries of at least 4 words, in an area of d words
abbrev pub dictionary_form : ℕ → Form
dictionary_form d = record { fewest = 0; most = d; shortest = 4; longest = d }

-- The words of a dictionary that fits its area are laid out.
pub dictionary_laid : (D : Dictionary) (d : ℕ) → dictionary_length D ≤ d → laid_out (dictionary_form d) (dictionary_words D) ≡ true
unfolding dictionary_words
dictionary_laid D d h =
    let ws = map entry_words (entries D) in
    let e = laid_rows (entries D) in
    let l = ap length e in
    let m = laid_length ws in
    ap (laid_out (dictionary_form d)) e ∙ rows_laid (dictionary_form d) ws (rows_long (entries D)) (omega arith) (omega (arith, h, l, m)) (omega (arith, h, l))

-- Entry k of the words is the k-th entry.
pub pairs_at_lem : (fs bs : List Entry) (e : Entry) (pre body w : List ℕ) (k o : ℕ) → w ≡ pre ++ (entry_pairs (fs ++ (e ∷ bs)) o ++ body) → length pre + 1 ≡ 2 * k
    → (offset_at w (k + length fs) ≡ o + length (all_words fs)) × (length_at w (k + length fs) ≡ length (entry_words e))
pairs_at_lem fs bs e pre body w k o q n =
    let r = pairs_rows (fs ++ (e ∷ bs)) o ∙ ap (λ (ws : Rows). row_pairs ws o) (rows_append fs (e ∷ bs)) in
    let h = rows.pairs_at_lem (map entry_words fs) (map entry_words bs) (entry_words e) pre body w k o (q ∙ ap (λ (p : List ℕ). pre ++ (p ++ body)) r) n in
    let m = length-map fs entry_words in
    (ap (λ (j : ℕ). offset_at w (k + j)) (sym m) ∙ h.0 ∙ ap (λ (v : List ℕ). o + length v) (sym (words_rows fs)), ap (λ (j : ℕ). length_at w (k + j)) (sym m) ∙ h.1)

pub words_append : (fs bs : List Entry) → all_words (fs ++ bs) ≡ all_words fs ++ all_words bs
words_append fs bs =
    words_rows (fs ++ bs)
    ∙ ap row_words (rows_append fs bs)
    ∙ rows.words_append (map entry_words fs) (map entry_words bs)
    ∙ ap₂ (λ (v w : List ℕ). v ++ w) (sym (words_rows fs)) (sym (words_rows bs))

parts_of_lem : (fs bs : List Entry) (e : Entry) → part (laid_out_words (fs ++ (e ∷ bs))) (suc (length fs)) ≡ entry_words e
parts_of_lem fs bs e =
    let m = length-map fs entry_words in
    ap₂ (λ (w : List ℕ) (j : ℕ). part w (suc j)) (laid_rows (fs ++ (e ∷ bs)) ∙ ap lay_out (rows_append fs (e ∷ bs))) (sym m)
    ∙ rows.parts_of_lem (map entry_words fs) (map entry_words bs) (entry_words e)

pub entry_part : (D : Dictionary) (fs : List Entry) (e : Entry) (bs : List Entry) → entries D ≡ fs ++ (e ∷ bs)
    → part (dictionary_words D) (suc (length fs)) ≡ entry_words e
unfolding dictionary_words
entry_part D fs e bs q = ap (λ (es : List Entry). part (laid_out_words es) (suc (length fs))) q ∙ parts_of_lem fs bs e
