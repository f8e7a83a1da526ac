-- What an accepted dictionary holds in its area: it fits, it is laid out, and each recorded type can be read back from its words.
use mathlib.Core.Path.{◌≡◌, refl, subst}
use mathlib.Core.List.{List, [], ◌∷◌, ◌++◌}
use Prim.Native.Nat.{ℕ, ◌-◌, ◌≤◌}
use native.Mathlib.Omega.{arith}
use mathlib.Core.Bool.{true}
use mathlib.Core.Logic.{inl, inr}
use lib.ListN.{length, replicate, length-append, length-replicate}
use Rattle.layout.specs.Layout.{laid_out}
use Rattle.types_rules.specs.Types.{Ty, size}
use Rattle.types_rules.specs.Formed.{WellFormed}
use Rattle.types_rules.specs.Words.{words, read_type, got}
use Rattle.types_rules.proofs.Words.{read_back}
use Rattle.reader_rules.specs.Tree.{Paragraph}
use Rattle.reader_rules.specs.Decode.{tree_of}
use Rattle.checker_rules.specs.Dictionary.{Entry, name_entry, schema_entry, Dictionary, blank, ◌▸◌, entries, entry_pairs, all_words, laid_out_words}
use Rattle.checker_rules.specs.Dictionary.{dictionary_words, dictionary_length}
use Rattle.checker_rules.specs.Entries.{extend}
use Rattle.checker_rules.specs.Check.{Answer, accepted, refused, check_of, paragraphs_of}
use Rattle.checker_rules.specs.Areas.{dictionary_after}
use Rattle.checker_rules.specs.Items.{Any}
use Rattle.checker_rules.specs.Verdicts.{Accepts, Answers, AnswersTree}
use Rattle.checker_rules.specs.WellFormed.{FormedDictionary, FormedAnswer}
use Rattle.checker_rules.proofs.CheckRight.{check_right, accepted_says}
use Rattle.checker_rules.proofs.FormedCheck.{check_formed}
use Rattle.checker_rules.proofs.DictionaryLaid.{dictionary_form, dictionary_laid}

fits_from : (ps : List Paragraph) (D : Dictionary) (d : ℕ) (E : Dictionary) → dictionary_length D ≤ d → Accepts Any ps D d E → dictionary_length E ≤ d
unfolding Accepts
fits_from [] D d E l h = subst (λ X. dictionary_length X ≤ d) h l
fits_from (p ∷ ps) D d E l h = fits_from ps (extend p D h.1.0) d E h.1.2 h.1.3

blank_length : dictionary_length blank ≡ 1
unfolding dictionary_words laid_out_words entries entry_pairs all_words
blank_length = refl

some_area : (doc : List ℕ) (d w : ℕ) (E : Dictionary) → check_of doc d w ≡ accepted E → 1 ≤ d
unfolding Answers AnswersTree
some_area doc d w E e = go ((check_right doc d w (accepted E)).0 e)
  where
    no : (f m : ℕ) → accepted E ≡ refused f m → 1 ≤ d
    no f m q = let z : ◌≡◌ {A = ℕ} 0 1 = cc in absurd (omega arith)

    go : Answers Any doc d w (accepted E) → 1 ≤ d
    go (inl h) = no h.0 h.1 h.3
    go (inr (r, inl h)) = no 21 0 h.1
    go (inr (r, inr (l, inl h))) = no 22 0 h.1
    go (inr (r, inr (l, inr h))) = omega (arith, h.0)

-- The dictionary of an accepted document fits its area, and its words are laid out.
pub accepted_fits : (doc : List ℕ) (d w : ℕ) (E : Dictionary) → check_of doc d w ≡ accepted E → dictionary_length E ≤ d
accepted_fits doc d w E e = fits_from (paragraphs_of (tree_of doc)) blank d E (omega (arith, blank_length, some_area doc d w E e)) (accepted_says doc d w E e).passes

pub accepted_laid : (doc : List ℕ) (d w : ℕ) (E : Dictionary) → check_of doc d w ≡ accepted E → laid_out (dictionary_form d) (dictionary_words E) ≡ true
accepted_laid doc d w E e = dictionary_laid E d (accepted_fits doc d w E e)

filled : (E : Dictionary) (d : ℕ) → dictionary_length E ≤ d → length (dictionary_after (accepted E) d) ≡ d
unfolding dictionary_after
filled E d l =
    let n = d - dictionary_length E in
    omega (arith, l, length-append (dictionary_words E) (replicate n 0), length-replicate {A = ℕ} n 0)

emptied : (f m d : ℕ) → length (dictionary_after (refused f m) d) ≡ d
unfolding dictionary_after
emptied f m d = length-replicate {A = ℕ} d 0

-- The area keeps its length.
pub area_kept : (doc : List ℕ) (d w : ℕ) → length (dictionary_after (check_of doc d w) d) ≡ d
area_kept doc d w = go (check_of doc d w) refl
  where
    go : (a : Answer) → check_of doc d w ≡ a → length (dictionary_after a d) ≡ d
    go (accepted E) e = filled E d (accepted_fits doc d w E e)
    go (refused f m) e = emptied f m d

-- Each recorded type can be read back, whatever words come after it.
unfoldable pub entry_type : Entry → Ty
entry_type (name_entry i p g) = g
entry_type (schema_entry s p g) = g

unfoldable AllFormed : List Entry → Type 0
AllFormed [] = Unit {0}
AllFormed (e ∷ es) = WellFormed (entry_type e) × AllFormed es

formed_last : (es : List Entry) (e : Entry) → AllFormed es → WellFormed (entry_type e) → AllFormed (es ++ (e ∷ []))
unfolding AllFormed
formed_last [] e h k = (k, tt)
formed_last (f ∷ es) e h k = (h.0, formed_last es e h.1 k)

formed_entries : (D : Dictionary) → FormedDictionary D → AllFormed (entries D)
unfolding entries AllFormed FormedDictionary entry_type
formed_entries blank h = tt
formed_entries (D ▸ name_entry i p g) h = formed_last (entries D) (name_entry i p g) (formed_entries D h.0) h.1
formed_entries (D ▸ schema_entry s p g) h = formed_last (entries D) (schema_entry s p g) (formed_entries D h.0) h.1

formed_at : (fs : List Entry) (e : Entry) (bs : List Entry) → AllFormed (fs ++ (e ∷ bs)) → WellFormed (entry_type e)
unfolding AllFormed
formed_at [] e bs h = h.0
formed_at (f ∷ fs) e bs h = formed_at fs e bs h.1

pub type_back : (doc : List ℕ) (d w : ℕ) (E : Dictionary) → check_of doc d w ≡ accepted E → (fs : List Entry) (e : Entry) (bs : List Entry) → entries E ≡ fs ++ (e ∷ bs)
    → (r : List ℕ) → read_type (size (entry_type e)) (words (entry_type e) ++ r) ≡ got (entry_type e) r
type_back doc d w E q fs e bs s r =
    let h = subst FormedAnswer q (check_formed doc d w) in
    read_back (entry_type e) (formed_at fs e bs (subst AllFormed s (formed_entries E h))) (size (entry_type e)) (omega arith) r
