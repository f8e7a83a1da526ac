-- What a well-formed state says of a name has at most 64 words.
use mathlib.Core.Path.{◌≡◌, refl}
use mathlib.Core.Bool.{Bool, true, false, cond}
use mathlib.Core.Logic.{⊎_elim}
use mathlib.Core.List.{List, []}
use Prim.Native.Nat.{ℕ, zero, suc, ◌*◌, ◌≤◌}
use native.Mathlib.Omega.{arith}
use lib.Dec.{eqb, leb}
use lib.ListN.{length, length-append, get_or}
use borrow.Author.Tests.{leb-true}
use Rattle.layout.specs.Layout.{part}
use Rattle.values.specs.Value.{element, encode, encodes}
use Rattle.values.specs.Givens.{elements_from, elements}
use Rattle.values.specs.Form.{shape_of, value_length, is_value}
use Rattle.words.proofs.Loops.{and_left, and_right}
use Rattle.states_rules.specs.Names.{Name}
use Rattle.states_rules.specs.Decode.{value_by_shape, value_at, value_of}
use Rattle.states_rules.specs.States.{name_at, sizes_in, is_size, given_number, value_number, entry_from, entry_value, value_in}
use Rattle.states_rules.proofs.GivenSizes.{EntryOf, entry_found}
use Rattle.evaluator_rules.specs.WordCount.{word_count}
use Rattle.evaluator_rules.specs.Claims.{WellFormedState}
use Rattle.evaluator_rules.proofs.Decoding.{Words, value_read}
use Rattle.evaluator_rules.proofs.StateWords.{words_part, value_fine}

elements_words : (g k n : ℕ) → length (encodes (elements_from g k n)) ≡ 3 * n
unfolding elements_from encode
elements_words g k zero = refl
elements_words g k (suc n) = let a = length-append (encode (element g k)) (encodes (elements_from g (suc k) n)) in let h = elements_words g (suc k) n in omega arith

elements_short : (g n : ℕ) → n ≤ 20 → word_count (elements g n) ≤ 64
unfolding word_count encode elements
elements_short g n l = let h = elements_words g 0 n in omega arith

value_short : (sizes : ℕ → ℕ) (ws : List ℕ) → Words ws → is_value sizes ws ≡ true → word_count (value_of sizes ws) ≤ 64
unfolding word_count is_value
value_short sizes ws h e =
    let a = value_read sizes ws h e in
    let b = leb-true (length ws) 64 (and_left (leb (length ws) 64) (eqb (value_length sizes 32 ws) (length ws)) (and_right (leb 1 (length ws)) _ e)) in
    rw a b

module _ (ns : List Name) (state : List ℕ) (h : Words state) (f : WellFormedState ns state) where
  abbrev sizes : ℕ → ℕ
  sizes = sizes_in ns state

  -- an identifier that no entry has
  missing : (n : Name) → word_count (entry_value sizes n []) ≤ 64
  unfolding entry_value elements elements_from value_of value_at value_by_shape shape_of word_count encode
  missing n = go n.is_given
    where
      go : (b : Bool) → word_count (cond b (elements n.identifier 0) (value_of sizes [])) ≤ 64
      go true = omega arith
      go false = omega arith

  present : (k : ℕ) → 1 ≤ k → k ≤ length ns → word_count (entry_value sizes (name_at ns k) (part state k)) ≤ 64
  unfolding entry_value given_number value_number is_size
  present k l m = go (name_at ns k).is_given refl
    where
      go : (b : Bool) → (name_at ns k).is_given ≡ b → word_count (cond b (elements (name_at ns k).identifier (get_or (part state k) 0 0)) (value_of sizes (part state k))) ≤ 64
      go true g =
          let t = value_fine (is_size (part state k)) (rw g at (f.givens k l m)) in
          elements_short (name_at ns k).identifier _ (leb-true _ 20 (and_right (eqb (length (part state k)) 1) _ t))
      go false g = value_short sizes (part state k) (words_part state k h) (value_fine (is_value sizes (part state k)) (rw g at (f.others k l m)))

  pub state_short : (i : ℕ) → word_count (value_in ns state i) ≤ 64
  unfolding value_in part
  state_short i = ⊎_elim (λ z. rw z (missing (name_at ns 0))) (λ e. found e) (entry_found ns state i 1)
    where
      found : EntryOf ns state i 1 (entry_from ns i 1) → word_count (value_in ns state i) ≤ 64
      found e = present (entry_from ns i 1) e.low (omega (arith, e.high))
