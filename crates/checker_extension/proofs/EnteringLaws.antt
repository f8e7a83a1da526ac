-- A paragraph visited over the words in use, its entries appended to an area of any length, and what that comes to.
use mathlib.Core.Path.{◌≡◌, sym, ap, subst, ◌∙◌}
use mathlib.Core.Bool.{Bool, true, false}
use mathlib.Core.Logic.{inl, inr}
use mathlib.Core.List.{List, ◌++◌}
use Prim.Native.Nat.{ℕ, ◌+◌, ◌-◌, ◌≤◌, ◌<◌, ◌^◌}
use native.Mathlib.Omega.{arith}
use native.Mathlib.Nat.{le_trans}
use lib.ListN.{length, take, drop}
use lib.Seq.{length-take-le}
use Rattle.reader_rules.proofs.Scan.{same_refusal}
use Rattle.reader_rules.specs.Kinds.{paragraphs}
use Rattle.reader_rules.specs.Promise.{At}
use Rattle.reader_rules.specs.Decode.{paragraph_at}
use Rattle.reader_rules.specs.Tree.{Paragraph}
use Rattle.reader_rules.proofs.OnceBelow.{once_at}
use Rattle.checker_rules.specs.Dictionary.{Entry, Dictionary, dictionary_length}
use Rattle.checker_rules.specs.Verdicts.{RefusesAt}
use Rattle.reader_rules.specs.Refusals.{Accepted, Refused}
use Rattle.checker_dictionary.specs.Growth.{size_at}
use Rattle.checker_dictionary.specs.Holds.{Holds}
use Rattle.layout.specs.Layout.{count}
use Rattle.checker_dictionary.specs.Index.{IndexedTo, Indexed}
use Rattle.checker_dictionary.proofs.IndexLaws.{indexed_older, count_more}
use Rattle.checker_lookup.proofs.HeldLaws.{indexed_in}
use Rattle.checker_dictionary.specs.Waiting.{with_entries, waiting, Waits, AppendedAll}
use Rattle.checker_dictionary.proofs.Places.{size_held}
use Rattle.checker_dictionary.proofs.WaitingLaws.{entries_grow}
use Rattle.checker_lookup.specs.Scoped.{DictionaryHeld}
use Rattle.reader_rules.proofs.FewParameters.{few_parameters}
use Rattle.checker_contracts.specs.Paragraphs.{ParagraphAsk, Extended, ParagraphDone, max_waiting}
use Rattle.checker_extension.specs.Entering.{IsParagraph, BetweenParagraphs, Entered, max_added}
use Rattle.checker_extension.proofs.HeldParts.{held_part, held_rest, held_whole, recorded_part}
use Rattle.checker_extension.proofs.ListedLaws.{listed_at, listed_limited, listed_sized, node_is}
use Rattle.checker_extension.proofs.GrownLaws.{extended_recorded, entries_length, entries_few}

-- The words in use are what a paragraph asks for.
module _ (d part : List ℕ) (n : ℕ) (e : n ≡ size_at d) (q : part ≡ take n (drop 0 d)) where
  pub visit_ask : (doc s w : List ℕ) (k : ℕ) → IsParagraph doc k → BetweenParagraphs s d w → At doc paragraphs k × ParagraphAsk s part w (paragraph_at doc k)
  visit_ask doc s w k L R =
      let at = listed_at doc k L in
      let h = R.recorded.holds.holds in
      let f = h.fits in
      let g = R.few in
      let z = size_held R.dictionary d h in
      let l = ap length q ∙ length-take-le n d (omega arith) in (
        at,
        record {
          dictionary = R.dictionary;
          recorded = recorded_part R.dictionary d part w n e q R.recorded;
          size = R.size;
          few = omega arith;
          wide = R.wide;
          clean = R.clean;
          limited = listed_limited doc k L;
          once = λ j. (once_at doc k).paragraph at j;
          parameters = few_parameters doc k at;
        },
      )

  pub visit_done : (s s' w w' : List ℕ) (p : Paragraph) (f m at c : ℕ) → ParagraphDone s s' part w w' p f m at c → ParagraphDone s s' d w w' p f m at c
  visit_done s s' w w' p f m at c X = record {
    size = X.size;
    index = X.index;
    low = X.low;
    goes = λ z D R. X.goes z D (recorded_part D d part w n e q R);
    stops = λ z D R. X.stops z D (recorded_part D d part w n e q R);
  }

-- The first n words are few.
pub part_few : (d : List ℕ) (n m : ℕ) → n ≤ length d → n < m → length (take n d) < m
part_few d n m h l = let e = length-take-le n d h in omega arith

-- Where the entries fit the first n words, they are appended there, and words after those are zeros.
pub append_part : (D : Dictionary) (es : List Entry) (d d₁ : List ℕ) (r : Bool) (n : ℕ) → n ≤ length d → Holds D d → dictionary_length (with_entries es D) ≤ n →
    (Holds D (take n d) → AppendedAll D es (take n d) d₁ r) → AppendedAll D es d (d₁ ++ drop n d) r
append_part D es d d₁ r n high H few A =
    let low : dictionary_length D ≤ n = le_trans (entries_grow es D) few in
    let X = A (held_part D d H n low high) in
    record {
      fits = λ q. subst (λ (l : List ℕ). Holds (with_entries es D) (d₁ ++ l)) (sym (held_rest D d H n low high)) (held_whole (with_entries es D) d₁ (length d - n) (X.fits q));
      full = λ q. let l = length-take-le n d high in let z = X.full q in absurd (omega arith);
    }

module _ (doc : List ℕ) (k : ℕ) (L : IsParagraph doc k) (s s' d w w' : List ℕ) (R : BetweenParagraphs s d w) (f m at c : ℕ) (X : ParagraphDone s s' d w w' (paragraph_at doc k) f m at c) where
  p : Paragraph
  p = paragraph_at doc k

  pub entered_refused : (f ≡ 0 → ⊥) → Entered s s' d d w w' (paragraph_at doc k) (Refused f m)
  unfolding RefusesAt
  entered_refused ne = record {
    low = λ q. let z : ◌≡◌ {A = ℕ} 0 1 = cc in absurd (omega arith);
    goes = λ q. let z : ◌≡◌ {A = ℕ} 0 1 = cc in absurd (omega arith);
    stops = λ g j q D S ps. let a = same_refusal f m g j q in rw (← a.0, ← a.1) (inl (X.stops ne D S));
  }

  module _ (z : f ≡ 0) where
    -- The dictionary with the entries has few words.
    grows_few : (D : Dictionary) (es : List Entry) → length (waiting es) ≤ max_waiting → dictionary_length (with_entries es D) ≤ dictionary_length D + max_added
    grows_few D es l = let a = entries_length es D in let b = entries_few es in omega arith

    short_all : (D : Dictionary) (es : List Entry) → Holds D d → length (waiting es) ≤ max_waiting → dictionary_length (with_entries es D) ≤ 2 ^ 31
    short_all D es H l =
        let a = grows_few D es l in
        let b = size_held D d H in
        let e = size_held R.dictionary d R.recorded.holds.holds in
        let g = R.few in
        omega arith

    module _ (d' : List ℕ) (r : Bool) (A : (D : Dictionary) (es : List Entry) → length es ≡ c → Holds D d → Waits es w' at → dictionary_length (with_entries es D) ≤ 2 ^ 31 → AppendedAll D es d d' r) where
      appended : (D : Dictionary) (S : DictionaryHeld D d w) (E : Extended w' p D at c) → AppendedAll D E.entries d d' r
      appended D S E = A D E.entries E.counted S.holds.holds E.waits (short_all D E.entries S.holds.holds E.short)

      pub entered_accepted : r ≡ true → (w'' : List ℕ) (n : ℕ) → n ≡ count d → (n ≤ count d' → IndexedTo d' w' n → IndexedTo d' w'' (count d')) → Entered s s' d d' w w'' (paragraph_at doc k) Accepted
      unfolding p
      entered_accepted t w'' n is N = record {
        low = λ q. X.low z;
        goes = λ q D S.
            let E = X.goes z D S in
            let F = (appended D S E).fits t in
            let c = count_more D E.entries d d' S.holds.holds F in
            let J = indexed_older D E.entries d d' w' (indexed_in D d w w' X.index S.holds) F in
            let H = subst (λ (G : Dictionary). Indexed G d' w'') (sym E.extends) (record { holds = F; index = N (omega (arith, c, is)) (subst (IndexedTo d' w') (sym is) J) }) in
            let l = grows_few D E.entries E.short in
            let h = listed_at doc k L in
            record {
              passes = E.passes;
              table = E.table;
              meets = E.meets;
              recorded = extended_recorded p D E.table E.passes E.meets (listed_sized doc k L) (few_parameters doc k h) d d' w w'' S H;
              short = subst (λ (G : Dictionary). dictionary_length G ≤ dictionary_length D + max_added) (sym E.extends) l;
            };
        stops = λ g j q. let y : ◌≡◌ {A = ℕ} 0 1 = cc in absurd (omega arith);
      }

      pub entered_full : r ≡ false → Entered s s' d d' w w' (paragraph_at doc k) (Refused 22 k)
      unfolding RefusesAt p
      entered_full t = record {
        low = λ q. let y : ◌≡◌ {A = ℕ} 0 1 = cc in absurd (omega arith);
        goes = λ q. let y : ◌≡◌ {A = ℕ} 0 1 = cc in absurd (omega arith);
        stops = λ g j q D S ps.
            let E = X.goes z D S in
            let a = same_refusal 22 k g j q in
            let l = subst (λ (G : Dictionary). length d < dictionary_length G) (sym E.extends) ((appended D S E).full t) in
            inr (E.passes, (E.table, (tt, E.meets), inl (l, sym a.0, sym a.1 ∙ sym (node_is doc k (listed_at doc k L)))));
      }
