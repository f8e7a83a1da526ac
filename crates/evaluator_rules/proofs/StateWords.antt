-- What a well-formed state says of a name: the value with the words of the name's entry, or a given's set of elements.
use mathlib.Core.Path.{◌≡◌, refl, subst}
use mathlib.Core.Bool.{Bool, true, false, cond}
use mathlib.Core.List.{List, [], ◌∷◌}
use Prim.Native.Nat.{ℕ, zero, suc, ◌≤◌}
use native.Mathlib.Omega.{arith}
use lib.Dec.{eqb}
use lib.ListN.{length, get_or, take, drop}
use Rattle.layout.specs.Layout.{part, length_at, offset_at}
use Rattle.values.specs.Value.{encode}
use Rattle.values.specs.Givens.{elements}
use Rattle.values.specs.Form.{is_value}
use Rattle.states_rules.specs.Names.{Name}
use Rattle.states_rules.specs.States.{name_at, sizes_in, value_number, entry_from, entry_value, value_in}
use Rattle.evaluator_rules.specs.Claims.{WellFormedState}
use Rattle.evaluator_rules.proofs.Decoding.{Words, words_drop, value_read}

words_take : (n : ℕ) (ws : List ℕ) → Words ws → Words (take n ws)
words_take zero ws h i = omega arith
words_take (suc n) [] h i = omega arith
words_take (suc n) (w ∷ ws) h zero = h 0
words_take (suc n) (w ∷ ws) h (suc i) = words_take n ws (λ j. h (suc j)) i

pub words_part : (ws : List ℕ) (k : ℕ) → Words ws → Words (part ws k)
unfolding part
words_part ws k h = go (eqb k 0)
  where
    go : (b : Bool) → Words (cond b [] (take (length_at ws k) (drop (offset_at ws k) ws)))
    go true = λ i. omega arith
    go false = words_take (length_at ws k) _ (words_drop (offset_at ws k) ws h)

pub value_fine : (b : Bool) → ◌≡◌ {A = ℕ} (cond b 0 41) 0 → b ≡ true
value_fine true e = refl
value_fine false e = absurd (omega arith)

module _ (ns : List Name) (state : List ℕ) (i : ℕ) where
  -- the number of the name's entry
  abbrev pub entry : ℕ
  entry = entry_from ns i 1

  pub state_words : Words state → WellFormedState ns state → 1 ≤ entry → entry ≤ length ns → (name_at ns entry).is_given ≡ false → encode (value_in ns state i) ≡ part state entry
  unfolding value_in entry_value value_number
  state_words h f l m g =
      let z : ◌≡◌ {A = ℕ} (cond (name_at ns entry).is_given 0 (cond (is_value (sizes_in ns state) (part state entry)) 0 41)) 0 = f.others entry l m in
      let y : ◌≡◌ {A = ℕ} (cond (is_value (sizes_in ns state) (part state entry)) 0 41) 0 = subst (λ (b : Bool). ◌≡◌ {A = ℕ} (cond b 0 (cond (is_value (sizes_in ns state) (part state entry)) 0 41)) 0) g z in
      rw g (value_read (sizes_in ns state) (part state entry) (words_part state entry h) (value_fine (is_value (sizes_in ns state) (part state entry)) y))

  pub state_given : (name_at ns entry).is_given ≡ true → value_in ns state i ≡ elements (name_at ns entry).identifier (get_or (part state entry) 0 0)
  unfolding value_in entry_value
  state_given g = rw g
