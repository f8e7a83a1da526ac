-- A dictionary's entries stand in order of declaration.
use mathlib.Core.Path.{◌≡◌, refl, sym, ap, ◌∙◌}
use mathlib.Core.List.{List, [], ◌∷◌, ◌++◌, append_assoc}
use Prim.Native.Nat.{ℕ, zero, suc, ◌≤◌}
use native.Mathlib.Omega.{arith}
use lib.ListN.{length, length-append}
use Rattle.layout.specs.Layout.{count, part}
use Rattle.checker_rules.specs.Dictionary.{Entry, Dictionary, blank, ◌▸◌, entry_words, entries, laid_out_words, dictionary_words}
use Rattle.checker_rules.specs.EntryOrder.{InOrder}
use Rattle.checker_rules.proofs.DictionaryLaid.{entry_part}

-- an entry, those before it and those after it
record At (es : List Entry) (k : ℕ) : Type 0 where
  before : List Entry
  entry : Entry
  behind : List Entry
  split : es ≡ before ++ (entry ∷ behind)
  place : suc (length before) ≡ k

entry_at : (es : List Entry) (k : ℕ) → suc k ≤ length es → At es (suc k)
entry_at [] k l = absurd (omega arith)
entry_at (e ∷ es) zero l = record { before = []; entry = e; behind = es; split = refl; place = refl }
entry_at (e ∷ es) (suc k) l =
    let a = entry_at es k (omega arith) in
    record { before = e ∷ a.before; entry = a.entry; behind = a.behind; split = ap (λ (x : List Entry). e ∷ x) a.split; place = ap suc a.place }

counts : (D : Dictionary) → count (dictionary_words D) ≡ length (entries D)
unfolding dictionary_words laid_out_words
counts D = refl

more_counted : (D : Dictionary) (e : Entry) → length (entries (D ▸ e)) ≡ suc (length (entries D))
unfolding entries
more_counted D e = let h = length-append (entries D) (e ∷ []) in omega (arith, h)

newest_last : (D : Dictionary) (e : Entry) → part (dictionary_words (D ▸ e)) (suc (length (entries D))) ≡ entry_words e
unfolding entries
newest_last D e = entry_part (D ▸ e) (entries D) e [] refl

stays : (D : Dictionary) (e : Entry) (k : ℕ) → suc k ≤ length (entries D) → part (dictionary_words (D ▸ e)) (suc k) ≡ part (dictionary_words D) (suc k)
unfolding entries
stays D e k l =
    let a = entry_at (entries D) k l in
    let more : entries D ++ (e ∷ []) ≡ a.before ++ (a.entry ∷ (a.behind ++ (e ∷ []))) = ap (λ (x : List Entry). x ++ (e ∷ [])) a.split ∙ append_assoc a.before (a.entry ∷ a.behind) (e ∷ []) in
    ap (part (dictionary_words (D ▸ e))) (sym a.place)
    ∙ entry_part (D ▸ e) a.before a.entry (a.behind ++ (e ∷ [])) more
    ∙ sym (entry_part D a.before a.entry a.behind a.split)
    ∙ ap (part (dictionary_words D)) a.place

earlier_stay : (D : Dictionary) (e : Entry) (k : ℕ) → 1 ≤ k → k ≤ length (entries D) → part (dictionary_words (D ▸ e)) k ≡ part (dictionary_words D) k
earlier_stay D e zero l h = absurd (omega arith)
earlier_stay D e (suc k) l h = stays D e k h

start_empty : count (dictionary_words blank) ≡ 0
unfolding dictionary_words laid_out_words entries
start_empty = refl

pub in_order_lem : InOrder
in_order_lem = record {
  start = start_empty;
  declared = λ D e. record {
    counted = counts (D ▸ e) ∙ more_counted D e ∙ ap suc (sym (counts D));
    newest = ap (part (dictionary_words (D ▸ e))) (counts (D ▸ e) ∙ more_counted D e) ∙ newest_last D e;
    earlier = λ k l h. earlier_stay D e k l (rw (counts D) at h);
  };
}
