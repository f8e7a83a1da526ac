-- Dictionaries grow with each declaration: where a later one fits its area, so does each before it (document 01, finding 22).
use Rattle.std.proofs.Common.{◌≡◌, ◌+◌, ◌≤◌, [], ◌∷◌, ◌++◌, length, ap, ◌∙◌, arith, length-append}
use Rattle.checker_rules.specs.Dictionary.{Entry, Dictionary, ◌▸◌, entry_words, entries, all_words, dictionary_words, dictionary_length}
use Rattle.checker_dictionary.proofs.Places.{laid_length, length_last, words_last}

-- A further entry takes its words and a pair.
pub length_more : (D : Dictionary) (e : Entry) → dictionary_length (D ▸ e) ≡ dictionary_length D + 2 + length (entry_words e)
unfolding dictionary_words entries
length_more D e =
    let es = entries D in
    let a = laid_length (es ++ (e ∷ [])) in
    let b = laid_length es in
    let n = length_last es e in
    let w = ap length (words_last es e) ∙ length-append (all_words es) (entry_words e) in
    omega (arith, a, b, n, w)

pub length_grows : (D : Dictionary) (e : Entry) → dictionary_length D ≤ dictionary_length (D ▸ e)
length_grows D e = let h = length_more D e in omega (arith, h)
