-- All paragraphs: at the first, the dictionary is empty and the pool is zero.
use mathlib.Core.Path.{◌≡◌, refl, sym, ap, subst, ◌∙◌}
use mathlib.Core.List.{List}
use Prim.Native.Nat.{ℕ, ◌-◌, ◌≤◌}
use native.Mathlib.Omega.{arith}
use lib.ListN.{length, replicate, get_or-replicate, length-replicate}
use Rattle.layout.specs.Layout.{count, part}
use Rattle.reader_rules.specs.Reading.{read_of}
use Rattle.reader_rules.specs.Tree.{Paragraph}
use Rattle.reader_rules.specs.Decode.{paragraphs_from, tree_of}
use Rattle.reader_rules.proofs.TreeParagraph.{document_law}
use Rattle.reader_rules.specs.Refusals.{Finding, Readable}
use Rattle.checker_rules.specs.Check.{paragraphs_of, check_work_words}
use Rattle.checker_rules.specs.Dictionary.{blank, entries, entry_pairs, all_words, laid_out_words, dictionary_words, dictionary_length}
use Rattle.checker_rules.specs.Items.{Any}
use Rattle.checker_rules.specs.Verdicts.{AnswersFrom}
use Rattle.checker_rules.specs.WellFormed.{FormedDictionary}
use Rattle.checker_dictionary.specs.Holds.{Holds}
use Rattle.checker_dictionary.specs.Index.{IndexedTo}
use Rattle.checker_dictionary.proofs.Places.{count_held}
use Rattle.types_instances.specs.Clean.{Clean}
use Rattle.checker_lookup.specs.Scoped.{DictionaryHeld, Limited}
use Rattle.checker.specs.Answering.{ParagraphsAsk, Answered}
use Rattle.checker.proofs.DocumentWords.{words_some}
use Rattle.types_cells.specs.Layout.{area_size, pool_size}

-- The first paragraph: an area that is zero holds the empty dictionary.
pub blank_recorded : (d w : List ℕ) → Holds blank d → IndexedTo d w 0 → DictionaryHeld blank d w
unfolding FormedDictionary Limited entries
blank_recorded d w H I = record { holds = record { holds = H; index = subst (IndexedTo d w) (sym (count_held blank d H)) I }; formed = tt; limited = tt }

blank_length : dictionary_length blank ≡ 1
unfolding dictionary_words laid_out_words entries entry_pairs all_words
blank_length = refl

zeros_clean : (n : ℕ) → pool_size ≤ n → Clean (replicate n 0) 1
zeros_clean n h i a b = get_or-replicate n i 0 0 (omega arith)

all_paragraphs : (doc : List ℕ) → read_of doc ≡ Readable → paragraphs_from doc (count doc) 1 (length (part doc (count doc)) - 1) ≡ paragraphs_of (tree_of doc)
unfolding paragraphs_of
all_paragraphs doc r = sym (ap paragraphs_of (document_law doc r).tree)

-- l are the words of the Document, node c.
module _ (doc : List ℕ) (r : read_of doc ≡ Readable) (c : ℕ) (e : c ≡ count doc) (l : List ℕ) (q : l ≡ part doc c) where
  words_of : l ≡ part doc (count doc)
  words_of = q ∙ ap (part doc) e

  pub first_some : 1 ≤ length l
  first_some = let a = words_some doc r in let z = ap length words_of in omega arith

  -- n is no numeral here, so that no list of that length is made
  begun : (n : ℕ) → n ≡ area_size → (d w : List ℕ) → check_work_words ≤ length w → Holds blank d → IndexedTo d w 0 → ParagraphsAsk doc (replicate n 0) d w 1 (length l - 1)
  begun n y d w v H I =
      let a = first_some in
      let b = ap length words_of in
      let o = blank_length in
      record {
        read = r;
        some = omega arith;
        ends = omega arith;
        ready = record {
          size = length-replicate {A = ℕ} n 0 ∙ y;
          clean = zeros_clean n (omega arith);
          wide = v;
          dictionary = blank;
          recorded = blank_recorded d w H I;
          few = omega arith;
        };
        short = omega arith;
      }

  pub first_ask : (d w : List ℕ) → check_work_words ≤ length w → Holds blank d → IndexedTo d w 0 → ParagraphsAsk doc (replicate area_size 0) d w 1 (length l - 1)
  first_ask = begun area_size refl

  pub first_answered : (d d₁ d' : List ℕ) (a : Finding) → length d₁ ≡ length d → Answered (paragraphs_from doc (count doc) 1 (length l - 1)) blank (length d₁) d' a
      → Answered (paragraphs_of (tree_of doc)) blank (length d) d' a
  first_answered d d₁ d' a z X =
      let b : paragraphs_from doc (count doc) 1 (length l - 1) ≡ paragraphs_of (tree_of doc) =
      ap (λ (x : List ℕ). paragraphs_from doc (count doc) 1 (length x - 1)) words_of ∙ all_paragraphs doc r in
      record {
        answer = X.answer;
        answers =
            subst (λ (n : ℕ). AnswersFrom Any (paragraphs_of (tree_of doc)) blank n X.answer) z
            (subst (λ (ps : List Paragraph). AnswersFrom Any ps blank (length d₁) X.answer) b X.answers);
        told = X.told;
      }
