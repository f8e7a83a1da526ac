-- Entries that were written wait, and are few words.
use mathlib.Core.Path.{◌≡◌, refl, sym, ap, subst, ◌∙◌}
use mathlib.Core.List.{List, [], ◌∷◌, ◌++◌, append_assoc}
use Prim.Native.Nat.{ℕ, ◌+◌, ◌*◌, ◌≤◌}
use native.Mathlib.Omega.{arith}
use lib.ListN.{get_or, length, take, drop, length-append}
use lib.Seq.{sets-eq, drop-append_seam, length-take-le}
use Rattle.types_rules.specs.Types.{Tys, tnil, tcons}
use Rattle.types_rules.specs.Former.{tag, identifiers}
use Rattle.types_rules.specs.Words.{words, second, part_words}
use Rattle.checker_rules.specs.Dictionary.{Entry, entry_words}
use Rattle.types_solver.specs.Written.{Wrote}
use Rattle.types_instances.proofs.Moving.{sets_before}
use Rattle.checker_dictionary.specs.Index.{index_end}
use Rattle.checker_lookup.proofs.HeldLaws.{SameIndex}
use Rattle.checker_dictionary.specs.Waiting.{waiting, Waits}
use Rattle.checker_entries.specs.Entries.{TypesAt, AllSmall, name_entries, given_entries, entry_waits, schema_of}
use Rattle.checker_entries.proofs.Writing.{small_words, parts_few}
use Rattle.types_cells.specs.Layout.{type_words}

pub wrote_waits : (es : List Entry) (w w' : List ℕ) (at e : ℕ) → at + length (waiting es) ≤ length w → Wrote w w' at e (waiting es) → Waits es w' at
wrote_waits es w w' at e l W = record {
  after = drop (at + length (waiting es)) w;
  words =
      ap (drop at) (W.area ∙ sets-eq (waiting es) w at l ∙ append_assoc (take at w) (waiting es) (drop (at + length (waiting es)) w))
      ∙ ap (λ (k : ℕ). drop k (take at w ++ (waiting es ++ drop (at + length (waiting es)) w))) (sym (length-take-le at w (omega arith)))
      ∙ drop-append_seam (take at w) (waiting es ++ drop (at + length (waiting es)) w);
}

-- One entry alone.
pub one_waits : (x : Entry) (w w' : List ℕ) (at e : ℕ) → at + length (entry_waits x) ≤ length w → Wrote w w' at e (entry_waits x) → Waits (x ∷ []) w' at
unfolding waiting
one_waits x w w' at e l W =
    let z = length-append (entry_words x) [] in
    wrote_waits (x ∷ []) w w' at e (omega arith) (subst (λ v. Wrote w w' at e (length (entry_words x) ∷ v)) (nil (entry_words x)) W)
  where
    nil : (l : List ℕ) → l ≡ l ++ []
    nil [] = refl
    nil (y ∷ l) = ap (◌∷◌ y) (nil l)

-- FEW WORDS.
pub givens_few : (is : List ℕ) → length (waiting (given_entries is)) ≡ 7 * length is
unfolding waiting given_entries entry_words words tag second identifiers part_words
givens_few [] = refl
givens_few (i ∷ is) = let q = givens_few is in omega arith

pub names_few : (rs : List (ℕ × ℕ)) (gs : Tys) → AllSmall gs → length (waiting (name_entries rs gs)) ≤ 99 * length rs
unfolding waiting name_entries entry_words AllSmall
names_few [] gs S = omega arith
names_few (r ∷ rs) tnil S = omega arith
names_few (r ∷ rs) (tcons g gs) S =
    let l = small_words g S.0 in
    let q = names_few rs gs S.1 in
    let e = length-append (words g) (waiting (name_entries rs gs)) in
    omega arith

pub schema_few : (H : List ℕ) (s p : ℕ) (rs : List (ℕ × ℕ)) (gs : Tys) → TypesAt H rs gs → AllSmall gs → length (entry_waits (schema_of s p rs gs)) ≤ 6 + type_words * length rs
unfolding entry_words words tag second identifiers
schema_few H s p rs gs T S = let l = parts_few H rs gs T S in omega arith

-- Entries wait above the dictionary's index.
pub wrote_index : (w w' : List ℕ) (at end : ℕ) (ws : List ℕ) → index_end ≤ at → Wrote w w' at end ws → SameIndex w w'
wrote_index w w' at end ws high W i least most = ap (λ z. get_or z i 0) W.area ∙ sets_before w at ws i (omega (arith, high, most))
