-- A Given: 36, and its entries as written.
use mathlib.Core.Path.{◌≡◌, refl, sym, ap, subst, ◌∙◌}
use mathlib.Core.Bool.{true, false}
use mathlib.Core.List.{List, [], ◌∷◌}
use Prim.Native.Nat.{ℕ, suc, ◌+◌, ◌*◌, ◌≤◌}
use native.Mathlib.Omega.{arith}
use lib.ListN.{length}
use lib.Seq.{length-sets}
use Rattle.reader_rules.specs.Tree.{Paragraph, given}
use Rattle.checker_rules.specs.Conditions.{new_names}
use Rattle.checker_rules.specs.Dictionary.{Dictionary, ◌▸◌, name_entry}
use Rattle.checker_rules.specs.Entries.{extend, add_givens}
use Rattle.checker_rules.specs.Items.{skip, MeetsIn}
use Rattle.checker_rules.specs.Rules.{paragraph_items}
use Rattle.checker_rules.specs.Unknowns.{given_set}
use Rattle.types_solver.specs.Written.{Wrote}
use Rattle.checker_dictionary.specs.Waiting.{with_entries, waiting}
use Rattle.checker_dictionary.specs.Index.{index_end}
use Rattle.checker_merging.specs.Merging.{NewTold}
use Rattle.checker_contracts.specs.Paragraphs.{ParagraphDone}
use Rattle.checker_entries.specs.Entries.{given_entries}
use Rattle.checker_entries.proofs.Beginning.{nothing_before, passes_any, refuses_any}
use Rattle.checker_entries.proofs.Waits.{wrote_waits, givens_few, wrote_index}

givens_extend : (is : List ℕ) (D : Dictionary) → add_givens is D ≡ with_entries (given_entries is) D
unfolding add_givens with_entries given_entries
givens_extend [] D = refl
givens_extend (i ∷ is) D = givens_extend is (D ▸ name_entry i 0 (given_set i))

givens_count : (is : List ℕ) → length (given_entries is) ≡ length is
unfolding given_entries
givens_count [] = refl
givens_count (i ∷ is) = ap suc (givens_count is)

module _ (s d w : List ℕ) (p : Paragraph) (k : ℕ) (is : List ℕ) (e : p ≡ given k is) where
  pub given_clash : NewTold d w is false → (at count : ℕ) → ParagraphDone s s d w w p 36 k at count
  unfolding paragraph_items
  given_clash N at count = subst (λ x. ParagraphDone s s d w w x 36 k at count) (sym e) (record {
    size = refl;
    index = λ i least most. refl;
    low = λ z. absurd (omega arith);
    goes = λ z. absurd (omega arith);
    stops = λ z D R. refuses_any (new_names k is D) 36 k (N.stops refl D skip [] k R.holds nothing_before);
  })

  pub given_done : NewTold d w is true → (w' : List ℕ) (place at end : ℕ) → length is ≤ 1024 → at + 7 * length is ≤ length w → index_end ≤ at → Wrote w w' at end (waiting (given_entries is)) →
      ParagraphDone s s d w w' p 0 place at (length is)
  unfolding paragraph_items extend MeetsIn
  given_done N w' place at end few room high W = subst (λ x. ParagraphDone s s d w w' x 0 place at (length is)) (sym e) (record {
    size = ap length W.area ∙ length-sets w at (waiting (given_entries is));
    index = wrote_index w w' at end (waiting (given_entries is)) high W;
    low = λ z. refl;
    goes = λ z D R.
        let X = N.goes refl D skip [] k R.holds nothing_before in
        let S = X.steady.some in
        let l = givens_few is in
        record {
          passes = passes_any (new_names k is D) X.goes;
          table = S.0;
          meets = S.1.1;
          entries = given_entries is;
          counted = givens_count is;
          waits = wrote_waits (given_entries is) w w' at end (omega arith) W;
          short = omega arith;
          extends = givens_extend is D;
        };
    stops = λ z. absurd (z refl);
  })
