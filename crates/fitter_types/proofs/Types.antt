-- 42's test on a dictionary area, and at an entry of a state.
use mathlib.Core.Path.{◌≡◌, refl, sym, ap, subst, ◌∙◌}
use mathlib.Core.Bool.{Bool, true, false, cond}
use mathlib.Core.List.{List, ◌++◌}
use Prim.Native.Nat.{ℕ, ◌-◌, ◌≤◌}
use Rattle.std.specs.Prelude.{Some, None}
use native.Mathlib.Omega.{arith}
use lib.Dec.{leb}
use lib.ListN.{length, drop}
use borrow.Author.Tests.{eqb-true, leb-true}
use Rattle.words.proofs.Loops.{and_left, and_right}
use Rattle.layout.specs.Layout.{count, laid_out, part}
use Rattle.reader_rules.specs.Decode.{tree_of}
use Rattle.reader_rules.specs.Refusals.{Readable}
use Rattle.types_rules.specs.Types.{Ty, size}
use Rattle.types_rules.specs.Formed.{WellFormed as Formed}
use Rattle.types_rules.specs.Words.{words}
use Rattle.values.specs.Value.{Value, encode}
use Rattle.values.specs.Form.{is_value}
use Rattle.values.specs.Typed.{is_of, has_type}
use Rattle.values_forms.proofs.TypedValues.{typed_value}
use Rattle.checker_rules.specs.Dictionary.{Dictionary, Named, of_global, name_in}
use Rattle.checker_rules.specs.WellFormed.{FormedAnswer}
use Rattle.checker_rules.proofs.CheckRight.{accepted_says}
use Rattle.checker_rules.proofs.FormedCheck.{check_formed}
use Rattle.checker_dictionary.specs.Holds.{Holds}
use Rattle.checker_dictionary.specs.Lookup.{type_at, NameFound}
use Rattle.states_rules.specs.Names.{Name, document_names}
use Rattle.states_rules.specs.Decode.{value_of}
use Rattle.states_rules.specs.States.{name_at, sizes_in, value_number, is_paired, state_form, state_of}
use Rattle.evaluator_rules.proofs.Decoding.{Words, value_read}
use Rattle.evaluator_rules.proofs.StateWords.{words_part}
use Rattle.evaluator_rules.proofs.StatePlace.{state_well}
use Rattle.fitter_rules.specs.Fit.{recorded_words, type_number}
use Rattle.fitter_rules.proofs.OfType.{of_type, of_has, has_of}
use Rattle.soundness.proofs.EachName.{every_at}
use Rattle.soundness.proofs.RecordedNames.{RecordedAs, Recording, document_recorded, formed_in}
use Rattle.fitter_types.specs.Roles.{role_of}
use Rattle.fitter_types.specs.Held.{Held, TestedValue}

-- ---- words after a recorded type change nothing
same_bool : (a b : Bool) → (a ≡ true → b ≡ true) → (b ≡ true → a ≡ true) → a ≡ b
same_bool true b f g = sym (f refl)
same_bool false true f g = g refl
same_bool false false f g = refl

test_front : (v : Value) (g : Ty) → Formed g → size g ≤ 32 → (r : List ℕ) → is_of v (words g ++ r) ≡ is_of v (words g)
test_front v g w l r = same_bool (is_of v (words g ++ r)) (is_of v (words g)) (λ e. (of_type v g w l).1 (of_has v g w l r e)) (λ e. has_of ((of_type v g w l).0 e) w l r)

-- ---- the entry of a name in the area
type_same : (p : ℕ) (t g : Ty) (m : Named) → m ≡ of_global p t → m ≡ of_global 0 g → t ≡ g
type_same p t g m e f = cc

module _ (dict : List ℕ) (id k : ℕ) (w : List ℕ) (found : (E : Dictionary) → Holds E dict → NameFound E dict id k) where
  pub test_told : (k ≡ 0 → ⊥) → (r : Bool) → r ≡ has_type 32 (drop (type_at dict k) dict) w → TestedValue dict id w r
  test_told z r e = record { told = tell }
    where
      tell : (E : Dictionary) (v : Value) (g : Ty) → Holds E dict → encode v ≡ w → length w ≤ 64 → name_in id E ≡ of_global 0 g → Formed g → size g ≤ 32 → r ≡ is_of v (words g)
      tell E v g h x l n f s =
          let R = (found E h).present (omega arith) in
          let t = type_same R.parameters R.type g (name_in id E) R.means n in
          let d : drop (type_at dict k) dict ≡ words g ++ R.after = R.written ∙ ap (λ (y : Ty). words y ++ R.after) t in
          let c : r ≡ has_type 32 (words g ++ R.after) (encode v) = e ∙ ap (λ (y : List ℕ). has_type 32 y w) d ∙ ap (has_type 32 (words g ++ R.after)) (sym x) in
          c ∙ typed_value v (words g ++ R.after) (omega (arith, l, ap length x)) ∙ test_front v g f s R.after

-- ---- an entry of the state
test_fine : (b : Bool) → ◌≡◌ {A = ℕ} (cond b 0 41) 0 → b ≡ true
test_fine true e = refl
test_fine false e = absurd (omega arith)

value_short : (sizes : ℕ → ℕ) (ws : List ℕ) → is_value sizes ws ≡ true → length ws ≤ 64
unfolding is_value
value_short sizes ws t = leb-true (length ws) 64 (and_left (leb (length ws) 64) _ (and_right (leb 1 (length ws)) _ t))

-- the entries of a well-formed state are counted
module _ (ns : List Name) (state : List ℕ) (s : state_of ns state ≡ Readable) where
  pub entry_count : count state ≡ length ns
  unfolding is_paired
  entry_count = eqb-true (count state) (length ns) (and_right (laid_out state_form state) _ ((state_well ns state).0 s).paired)

  -- entry k, where it is not a given's
  module _ (k : ℕ) (l : 1 ≤ k) (m : k ≤ length ns) (g : (name_at ns k).is_given ≡ false) where
    entry_value_lem : is_value (sizes_in ns state) (part state k) ≡ true
    unfolding value_number
    entry_value_lem = test_fine (is_value (sizes_in ns state) (part state k)) (rw g at (((state_well ns state).0 s).others k l m))

module _ (doc state dict : List ℕ) (s : state_of (document_names (tree_of doc)) state ≡ Readable) (k : ℕ) (l : 1 ≤ k) (m : k ≤ length (document_names (tree_of doc)))
    (E : Dictionary) (H : Held doc dict E) where
  abbrev ns : List Name
  ns = document_names (tree_of doc)

  recording : Recording E (name_at ns k)
  recording = every_at ns (document_recorded (tree_of doc) H.room E (accepted_says doc H.room H.work E H.checked).passes) (k - 1) (omega arith)

  pub given_number_lem : None ≡ role_of (name_at ns k) → 0 ≡ type_number E ns state k
  unfolding role_of type_number
  given_number_lem e = go (name_at ns k).is_given refl
    where
      go : (b : Bool) → (name_at ns k).is_given ≡ b → 0 ≡ type_number E ns state k
      go true g = rw g
      go false g = let h = rw g at e in cc

  pub declared_number : Words state → (i : ℕ) → Some i ≡ role_of (name_at ns k) → (w : List ℕ) → w ≡ part state k → (r : Bool) → TestedValue dict i w r → cond r 0 42 ≡ type_number E ns state k
  unfolding role_of type_number recorded_words RecordedAs
  declared_number ws i e w u r t = go (name_at ns k).is_given refl
    where
      go : (b : Bool) → (name_at ns k).is_given ≡ b → cond r 0 42 ≡ type_number E ns state k
      go true g = let h = rw g at e in cc
      go false g =
          let R : RecordedAs false E (name_at ns k).identifier = rw g at recording in
          let h = R.0 in
          let v = value_of (sizes_in ns state) (part state k) in
          let x = entry_value_lem ns state s k l m g in
          let o = rw g at e in
          let j : i ≡ (name_at ns k).identifier = cc in
          let f = formed_in E (name_at ns k).identifier 0 h (subst FormedAnswer H.checked (check_formed doc H.room H.work)) R.1 in
          let y = t.told E v h H.holds (value_read (sizes_in ns state) (part state k) (words_part state k ws) x ∙ sym u) (omega (arith, ap length u, value_short (sizes_in ns state) (part state k) x)) (ap (λ (z : ℕ). name_in z E) j ∙ R.1) f R.2 in
          rw (g, R.1) (ap (λ (b : Bool). cond b 0 42) y)
