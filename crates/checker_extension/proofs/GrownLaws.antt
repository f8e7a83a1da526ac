-- The dictionary after a paragraph that passes: well formed, within its limits, and few words more.
use mathlib.Core.Path.{◌≡◌, subst}
use mathlib.Core.List.{List, [], ◌∷◌}
use Prim.Native.Nat.{ℕ, ◌+◌, ◌≤◌}
use native.Mathlib.Omega.{arith}
use lib.ListN.{length, length-append}
use Rattle.reader_rules.specs.Tree.{Paragraph}
use Rattle.types_rules.specs.Types.{integer_type}
use Rattle.types_rules.specs.Substitution.{empty}
use Rattle.types_rules.specs.Formed.{Arity}
use Rattle.types_rules.proofs.Formed.{sol_fit}
use Rattle.checker_rules.specs.Dictionary.{Entry, entry_words, Dictionary, ◌▸◌, dictionary_length}
use Rattle.checker_rules.specs.Entries.{extend}
use Rattle.checker_rules.specs.Items.{Items, skip, Meets, Any, Passes}
use Rattle.checker_rules.specs.Rules.{paragraph_items}
use Rattle.checker_rules.specs.Solving.{Solved, pass, refuse, unknowns, solve, valuation_of}
use Rattle.checker_rules.specs.Unknowns.{Valuation}
use Rattle.checker_rules.specs.WellFormed.{FormedDictionary}
use Rattle.checker_rules.proofs.FormedCheck.{FormedSolved, solve_formed, extend_formed, integer_formed}
use Rattle.checker_rules.proofs.FormedItems.{formed_paragraph}
use Rattle.checker_rules.proofs.ItemLaws.{not_both}
use Rattle.checker_rules.proofs.OneType.{extend_same}
use Rattle.reader_rules.proofs.Sized.{SizedParagraph}
use Rattle.checker_rules.proofs.SolvingRight.{Verdict, solve_right}
use Rattle.checker_dictionary.specs.Index.{Indexed}
use Rattle.checker_dictionary.specs.Waiting.{with_entries, waiting}
use Rattle.checker_dictionary.proofs.Monotone.{length_more}
use Rattle.reader_rules.specs.Limited.{FewParameters}
use Rattle.checker_lookup.specs.Scoped.{DictionaryHeld}
use Rattle.checker_lookup.proofs.LimitedKept.{limited_extend}

-- Any valuation that meets the items gives the entries that the solver's own valuation gives, and that valuation is well formed.
module _ (p : Paragraph) (D : Dictionary) (τ : Valuation) (P : Passes (paragraph_items p D) Any) (M : Meets (paragraph_items p D) τ) where
  pub extended_formed : SizedParagraph p → FormedDictionary D → FormedDictionary (extend p D τ)
  unfolding solve valuation_of
  extended_formed z f = go (solve t) (solve_right t) (solve_formed t skip (unknowns t []) empty (formed_paragraph p D z f) tt)
    where
      t : Items
      t = paragraph_items p D

      go : (r : Solved) → Verdict Any t r → FormedSolved r → FormedDictionary (extend p D τ)
      go (pass vs s) v k =
          subst FormedDictionary (extend_same p D P (valuation_of s) τ v.1 M)
          (extend_formed (valuation_of s) (λ x. sol_fit Arity s k (λ y. integer_type) (λ y. integer_formed) x) p D f)
      go (refuse g m) v k = absurd (not_both t Any g m P v)

  pub extended_recorded : SizedParagraph p → FewParameters p → (d d' w w' : List ℕ) → DictionaryHeld D d w → Indexed (extend p D τ) d' w' → DictionaryHeld (extend p D τ) d' w'
  extended_recorded z f d d' w w' R H = record { holds = H; formed = extended_formed z R.formed; limited = limited_extend p D τ f R.limited M }

-- An entry that waits takes one word more in the dictionary, for its offset.
pub entries_length : (es : List Entry) (D : Dictionary) → dictionary_length (with_entries es D) ≡ dictionary_length D + length (waiting es) + length es
unfolding with_entries waiting
entries_length [] D = omega arith
entries_length (e ∷ es) D =
    let h = entries_length es (D ▸ e) in
    let l = length_more D e in
    let w = length-append (entry_words e) (waiting es) in
    omega arith

pub entries_few : (es : List Entry) → length es ≤ length (waiting es)
unfolding waiting
entries_few [] = omega arith
entries_few (e ∷ es) = let h = entries_few es in let w = length-append (entry_words e) (waiting es) in omega arith
