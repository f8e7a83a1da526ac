-- Entries that wait, one after another.
use Rattle.std.proofs.Common.{◌≡◌, ℕ, ◌+◌, ◌<◌, ◌≤◌, Bool, true, false, List, [], ◌∷◌, ◌++◌, length, get_or, take, drop, sym, refl, ap, ◌∙◌, subst, append_assoc, le_trans, arith, length-append, length-drop, get_or-drop, drop-drop}
use lib.Seq.{take-append_seam, drop-append_seam}
use Rattle.types_rules.proofs.Terms.{bool_no}
use Rattle.checker_rules.proofs.DictionaryLaid.{entry_long}
use Rattle.checker_rules.specs.Dictionary.{Entry, entry_words, Dictionary, ◌▸◌, dictionary_length}
use Rattle.checker_dictionary.specs.Holds.{Holds}
use Rattle.checker_dictionary.specs.Growth.{Appended}
use Rattle.checker_dictionary.specs.Waiting.{with_entries, waiting, Waits, Waiting, AppendedAll}
use Rattle.checker_dictionary.proofs.Monotone.{length_grows}

pub entries_grow : (es : List Entry) (D : Dictionary) → dictionary_length D ≤ dictionary_length (with_entries es D)
unfolding with_entries
entries_grow [] D = omega arith
entries_grow (e ∷ es) D = le_trans (length_grows D e) (entries_grow es (D ▸ e))

-- The first of the entries.
module _ (e : Entry) (es : List Entry) (w : List ℕ) (at : ℕ) (W : Waits (e ∷ es) w at) where
  pub first_length : get_or w (at + 0) 0 ≡ length (entry_words e)
  unfolding waiting
  first_length = sym (get_or-drop at w 0 0) ∙ ap (λ z. get_or z 0 0) W.words

  rest : drop (at + 1) w ≡ entry_words e ++ (waiting es ++ W.after)
  unfolding waiting
  rest = sym (drop-drop 1 at w) ∙ ap (drop 1) W.words ∙ append_assoc (entry_words e) (waiting es) W.after

  pub first_words_lem : take (length (entry_words e)) (drop (at + 1) w) ≡ entry_words e
  first_words_lem = ap (take (length (entry_words e))) rest ∙ take-append_seam (entry_words e) (waiting es ++ W.after)

  pub others_wait : Waits es w (at + 1 + length (entry_words e))
  others_wait = record {
    after = W.after;
    words = sym (drop-drop (length (entry_words e)) (at + 1) w) ∙ ap (drop (length (entry_words e))) rest ∙ drop-append_seam (entry_words e) (waiting es ++ W.after);
  }

  -- they lie inside the words
  pub wait_inside : at + 1 + length (entry_words e) ≤ length w
  wait_inside = let l = sym (length-drop (at + 1) w) ∙ ap length rest ∙ length-append (entry_words e) (waiting es ++ W.after) in let z = entry_long e in omega arith

-- the m entries that wait at `at` are appended to d, which is d' then
abbrev pub AllAppended : List ℕ → ℕ → ℕ → List ℕ → List ℕ → Bool → Type 0
AllAppended w at m d d' b = (D : Dictionary) (es : List Entry) → length es ≡ m → Holds D d → Waits es w at → AppendedAll D es d d' b

pub wait_none : (w : List ℕ) (at m : ℕ) → m ≡ 0 → (d : List ℕ) → AllAppended w at m d d true
unfolding with_entries
wait_none w at m e d D [] l H W = record { fits = λ q. H; full = λ q. absurd (bool_no true refl q) }
wait_none w at m e d D (x ∷ es) l H W = absurd (omega arith)

-- One entry, then the others.
module _ (w : List ℕ) (at m : ℕ) (some : 0 < m) (d d₁ : List ℕ) (len : ℕ) (is : len ≡ get_or w at 0) (part : List ℕ) (words_of : part ≡ take len (drop (at + 1) w)) (b : Bool)
    (A : (D : Dictionary) (e : Entry) → Holds D d → part ≡ entry_words e → Appended D e d d₁ b) where
  entry_is : (e : Entry) (es : List Entry) → Waits (e ∷ es) w at → part ≡ entry_words e
  entry_is e es W = words_of ∙ ap (λ z. take z (drop (at + 1) w)) (is ∙ ap (λ z. get_or w z 0) (let z : at ≡ at + 0 = omega arith in z) ∙ first_length e es w at W) ∙ first_words_lem e es w at W

  len_is : (e : Entry) (es : List Entry) → Waits (e ∷ es) w at → len ≡ length (entry_words e)
  len_is e es W = is ∙ ap (λ z. get_or w z 0) (let z : at ≡ at + 0 = omega arith in z) ∙ first_length e es w at W

  after_one : (e : Entry) (es : List Entry) → Waits (e ∷ es) w at → Waits es w (at + (1 + len))
  after_one e es W =
      let z : at + 1 + length (entry_words e) ≡ at + (1 + len) = let l = len_is e es W in omega arith in
      subst (λ p. Waits es w p) z (others_wait e es w at W)

  pub wait_full : b ≡ false → AllAppended w at m d d₁ false
  unfolding with_entries
  wait_full q D [] l H W = absurd (omega arith)
  wait_full q D (e ∷ es) l H W = record {
    fits = λ z. absurd (bool_no false z refl);
    full = λ z. let f = ((A D e H (entry_is e es W)).full q).1 in let g = entries_grow es (D ▸ e) in omega arith;
  }

  pub wait_next : b ≡ true → length d₁ ≡ length d → (n : ℕ) → n + 1 ≡ m → (d₂ : List ℕ) (c : Bool) → AllAppended w (at + (1 + len)) n d₁ d₂ c → AllAppended w at m d d₂ c
  unfolding with_entries
  wait_next q k n r d₂ c N D [] l H W = absurd (omega arith)
  wait_next q k n r d₂ c N D (e ∷ es) l H W =
      let X = N (D ▸ e) es (omega arith) ((A D e H (entry_is e es W)).fits q) (after_one e es W) in
      record { fits = X.fits; full = λ z. let f = X.full z in omega arith }

  pub wait_ready : (n : ℕ) → n + 1 ≡ m → Waiting w at m → Waiting w (at + (1 + len)) n
  wait_ready n r R = go R.entries R.count R.waits
    where
      go : (es : List Entry) → length es ≡ m → Waits es w at → Waiting w (at + (1 + len)) n
      go [] l W = absurd (omega arith)
      go (e ∷ es) l W = record { entries = es; count = omega arith; waits = after_one e es W }

pub wait_bound : (w : List ℕ) (at m : ℕ) → 0 < m → Waiting w at m → at + 1 + get_or w at 0 ≤ length w
wait_bound w at m some R = go R.entries R.count R.waits
  where
    go : (es : List Entry) → length es ≡ m → Waits es w at → at + 1 + get_or w at 0 ≤ length w
    go [] l W = absurd (omega arith)
    go (e ∷ es) l W =
        subst (λ z. at + 1 + z ≤ length w) (sym (ap (λ z. get_or w z 0) (let z : at ≡ at + 0 = omega arith in z) ∙ first_length e es w at W)) (wait_inside e es w at W)
