-- In a state that fits an accepted dictionary, the value of each name is of the type recorded for the name; a given's is the set of its elements.
use mathlib.Core.Path.{◌≡◌, refl, ap, sym, ◌∙◌, subst}
use mathlib.Core.List.{List, [], ◌∷◌}
use mathlib.Core.Bool.{Bool, true, false, cond}
use mathlib.Core.Logic.{◌⊎◌, inl, inr, ⊎_elim}
use Prim.Native.Nat.{ℕ, zero, suc, ◌+◌, ◌-◌, ◌≤◌, ◌<◌}
use native.Mathlib.Omega.{arith}
use lib.Dec.{eqb}
use lib.ListN.{length, get_or}
use borrow.Author.Tests.{eqb-true, eqb-false}
use Rattle.layout.specs.Layout.{part}
use Rattle.values.specs.Value.{Value}
use Rattle.values.specs.Givens.{elements_from, elements}
use Rattle.types_rules.specs.Former as Former
use Rattle.types_rules.specs.Types.{Ty, node, tnil}
use Rattle.checker_rules.specs.Unknowns.{given_set}
use Rattle.checker_rules.specs.Dictionary.{Dictionary, of_global, name_in}
use Rattle.fitter_rules.specs.HasType.{Has, is_element, is_set, MembersHave, no_member, a_member}
use Rattle.fitter_rules.specs.Recorded.{StateFits}
use Rattle.states_rules.specs.Names.{Name, nobody}
use Rattle.states_rules.specs.Decode.{value_of}
use Rattle.states_rules.specs.States.{State, name_at, sizes_in, entry_from, entry_value, value_in}
use Rattle.soundness.proofs.EachName.{Every, none, also}
use Rattle.soundness.proofs.RecordedNames.{RecordedAs, Recording}

-- the value of a name is of the type recorded for it
abbrev pub Valued : Dictionary → State → Name → Type 0
Valued E state n = (g : Ty) → name_in n.identifier E ≡ of_global 0 g → Has (state n.identifier) g

-- ---- the entry of a name

unfoldable Occurs : ℕ → List Name → Type 0
Occurs i [] = ⊥
Occurs i (n ∷ ns) = (n.identifier ≡ i) ⊎ Occurs i ns

record Entry (P : Name → Type 0) (ns : List Name) (i k₀ k : ℕ) : Type 0 where
  from : k₀ ≤ k
  before : k < k₀ + length ns
  named : (get_or ns (k - k₀) nobody).identifier ≡ i
  holds : P (get_or ns (k - k₀) nobody)

entry_of : {P : Name → Type 0} (ns : List Name) (i k₀ : ℕ) → Every P ns → Occurs i ns → Entry P ns i k₀ (entry_from ns i k₀)
unfolding entry_from Occurs
entry_of [] i k₀ h o = absurd o
entry_of {P} (n ∷ ns) i k₀ (also p h) o = go (eqb n.identifier i) refl (λ q. entry_of ns i (suc k₀) h q)
  where
    zero_at : k₀ - k₀ ≡ 0
    zero_at = omega arith

    go : (b : Bool) → eqb n.identifier i ≡ b → (Occurs i ns → Entry P ns i (suc k₀) (entry_from ns i (suc k₀))) → Entry P (n ∷ ns) i k₀ (cond b k₀ (entry_from ns i (suc k₀)))
    go true e later = record { from = omega arith; before = omega arith; named = rw zero_at (eqb-true n.identifier i e); holds = rw zero_at p }
    go false e later =
        let r = later (⊎_elim (λ z. absurd (eqb-false n.identifier i e z)) (λ z. z) o) in
        let k = entry_from ns i (suc k₀) in
        let f = r.from in
        let b = r.before in
        let s : k - k₀ ≡ suc (k - suc k₀) = omega arith in
        record { from = omega arith; before = omega arith; named = rw s r.named; holds = rw s r.holds }

every_from : {P : Name → Type 0} (ns : List Name) → ((n : Name) → Occurs n.identifier ns → P n) → Every P ns
unfolding Occurs
every_from [] f = none
every_from (n ∷ ns) f = also (f n (inl refl)) (every_from ns (λ m o. f m (inr o)))

-- ---- its value

elements_have : (g k n : ℕ) → MembersHave (elements_from g k n) (node (Former.given g) tnil)
unfolding elements_from
elements_have g k zero = no_member
elements_have g k (suc n) = a_member (is_element g k) (elements_have g (suc k) n)

global_inj : (q : ℕ) (g h : Ty) → of_global q g ≡ of_global q h → g ≡ h
global_inj q g h e = cc

module _ (E : Dictionary) (v : Value) (w : List ℕ) where
  value_has : (b : Bool) (j : ℕ) → RecordedAs b E j → (b ≡ false → (g : Ty) × (name_in j E ≡ of_global 0 g) × Has v g) → (g : Ty) → name_in j E ≡ of_global 0 g → Has (cond b (elements j (get_or w 0 0)) v) g
  unfolding RecordedAs elements
  value_has true j r f g e = subst (λ (t : Ty). Has (elements j (get_or w 0 0)) t) (global_inj 0 (given_set j) g (sym r ∙ e)) (is_set (elements_have j 0 (get_or w 0 0)))
  value_has false j r f g e = let h = f refl in subst (λ (t : Ty). Has v t) (global_inj 0 h.0 g (sym h.1 ∙ e)) h.2

module _ (E : Dictionary) (ns : List Name) (state : List ℕ) (recording : Every (Recording E) ns) (fits : StateFits E ns state) where
  name_has : (i : ℕ) → Occurs i ns → (g : Ty) → name_in i E ≡ of_global 0 g → Has (value_in ns state i) g
  unfolding value_in entry_value
  name_has i o g e =
      let k = entry_from ns i 1 in
      let r = entry_of ns i 1 recording o in
      let f = r.from in
      let b = r.before in
      value_has E (value_of (sizes_in ns state) (part state k)) (part state k) (name_at ns k).is_given (name_at ns k).identifier r.holds (fits.entry k f (omega arith)) g (ap (λ (j : ℕ). name_in j E) r.named ∙ e)

  pub state_valued : Every (Valued E (value_in ns state)) ns
  state_valued = every_from ns (λ n o. name_has n.identifier o)
