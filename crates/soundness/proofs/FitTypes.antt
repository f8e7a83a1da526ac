-- The fit call by `Has`: every name of an accepted document's state has a recorded type, well formed and of size 32 at most.
use mathlib.Core.Path.{◌≡◌, refl, ap, sym, subst, ◌∙◌}
use mathlib.Core.Logic.{◌↔◌}
use mathlib.Core.List.{List}
use mathlib.Core.Bool.{Bool, true, false, cond}
use Prim.Native.Nat.{ℕ, ◌-◌, ◌≤◌, ◌<◌}
use native.Mathlib.Omega.{arith}
use native.Mathlib.Decide.{dec_lt}
use lib.ListN.{length}
use Rattle.layout.specs.Layout.{part}
use Rattle.reader_rules.specs.Decode.{tree_of}
use Rattle.reader_rules.specs.Refusals.{Readable, Refused}
use Rattle.values.specs.Typed.{is_of}
use Rattle.types_rules.specs.Types.{Ty}
use Rattle.checker_rules.specs.Dictionary.{Dictionary, of_global, name_in}
use Rattle.checker_rules.specs.Check.{Answer, accepted, refused, check_of}
use Rattle.checker_rules.specs.WellFormed.{FormedDictionary, FormedAnswer}
use Rattle.checker_rules.proofs.CheckRight.{accepted_says}
use Rattle.checker_rules.proofs.FormedCheck.{check_formed}
use Rattle.checker_rules.proofs.CheckNumbers.{same_number, check_numbers}
use Rattle.states_rules.specs.Names.{Name, document_names}
use Rattle.states_rules.specs.Decode.{value_of}
use Rattle.states_rules.specs.States.{name_at, sizes_in}
use Rattle.evaluator_rules.specs.Claims.{WellFormedState}
use Rattle.evaluator_rules.proofs.StatePlace.{state_ill, state_well}
use Rattle.fitter_rules.specs.HasType.{Has}
use Rattle.fitter_rules.specs.Fit.{recorded_words, type_number}
use Rattle.fitter_rules.specs.Recorded.{EntryFits, StateFits}
use Rattle.fitter_rules.specs.Claims.{FitFinds, unchecked, ill_formed, mistyped, fits}
use Rattle.fitter_rules.proofs.FitFindings.{fit_finds, number_right}
use Rattle.soundness.specs.FitTypes.{FirstUnfit, FitByTypes}
use Rattle.soundness.proofs.EachName.{every_at}
use Rattle.soundness.proofs.RecordedNames.{RecordedAs, formed_in, document_recorded}

no_answer : {A : Type 0} (E : Dictionary) (n p : ℕ) → accepted E ≡ refused n p → A
no_answer E n p e = let z : ◌≡◌ {A = ℕ} 0 1 = cc in absurd (omega arith)

same_dictionary : (D E : Dictionary) → accepted D ≡ accepted E → D ≡ E
same_dictionary D E e = cc

same_place : (n p m q : ℕ) → refused n p ≡ refused m q → p ≡ q
same_place n p m q e = cc

-- the number of an entry is 0 or 42
data Zero42 : ℕ → Type 0 where
  is_zero : Zero42 0
  is42 : Zero42 42

conds : (b c : Bool) → Zero42 (cond b 0 (cond c 0 42))
conds true c = is_zero
conds false true = is_zero
conds false false = is42

given_zero : (b c : Bool) → b ≡ true → ◌≡◌ {A = ℕ} (cond b 0 (cond c 0 42)) 0
given_zero true c e = refl
given_zero false c e = let z : ◌≡◌ {A = ℕ} 0 1 = cc in absurd (omega arith)

not_given : (b c : Bool) → ◌≡◌ {A = ℕ} (cond b 0 (cond c 0 42)) 42 → b ≡ false
not_given true c e = absurd (omega arith)
not_given false c e = refl

module _ (doc state : List ℕ) (d w : ℕ) (E : Dictionary) (check : check_of doc d w ≡ accepted E) where
  abbrev ns : List Name
  ns = document_names (tree_of doc)

  formed : FormedDictionary E
  formed = subst FormedAnswer check (check_formed doc d w)

  recording : (k : ℕ) → 1 ≤ k → k ≤ length ns → RecordedAs (name_at ns k).is_given E (name_at ns k).identifier
  recording k l h =
      let e : k - 1 < length ns = omega arith in
      every_at ns (document_recorded (tree_of doc) d E (accepted_says doc d w E check).passes) (k - 1) e

  -- what 42's test says of entry k
  abbrev passes : ℕ → Bool
  passes k = is_of (value_of (sizes_in ns state) (part state k)) (recorded_words (name_in (name_at ns k).identifier E))

  number : (k : ℕ) → Zero42 (type_number E ns state k)
  unfolding type_number
  number k = conds (name_at ns k).is_given (passes k)

  size_zero : (k : ℕ) → (name_at ns k).is_given ≡ true → type_number E ns state k ≡ 0
  unfolding type_number
  size_zero k e = given_zero (name_at ns k).is_given (passes k) e

  value_42 : (k : ℕ) → type_number E ns state k ≡ 42 → (name_at ns k).is_given ≡ false
  unfolding type_number
  value_42 k e = not_given (name_at ns k).is_given (passes k) e

  -- the type of an entry that is no Given's
  record Typed (k : ℕ) : Type 0 where
    type : Ty
    recorded : name_in (name_at ns k).identifier E ≡ of_global 0 type
    tested : (type_number E ns state k ≡ 0) ↔ Has (value_of (sizes_in ns state) (part state k)) type

  typed : (k : ℕ) → 1 ≤ k → k ≤ length ns → (name_at ns k).is_given ≡ false → Typed k
  unfolding RecordedAs
  typed k l h e =
      let r : RecordedAs false E (name_at ns k).identifier = subst (λ (b : Bool). RecordedAs b E (name_at ns k).identifier) e (recording k l h) in
      record { type = r.0; recorded = r.1; tested = number_right E ns state k 0 r.0 e r.1 (formed_in E (name_at ns k).identifier 0 r.0 formed r.1) r.2 }

  one_type : (i : ℕ) (g h : Ty) → name_in i E ≡ of_global 0 g → name_in i E ≡ of_global 0 h → g ≡ h
  one_type i g h e f = cc

  zero_fits : (k : ℕ) → 1 ≤ k → k ≤ length ns → type_number E ns state k ≡ 0 → EntryFits E ns state k
  zero_fits k l h z e = let t = typed k l h e in (t.type, t.recorded, t.tested.0 z)

  fits_zero : (k : ℕ) → 1 ≤ k → k ≤ length ns → EntryFits E ns state k → type_number E ns state k ≡ 0
  fits_zero k l h f = either (name_at ns k).is_given refl
    where
      either : (b : Bool) → (name_at ns k).is_given ≡ b → type_number E ns state k ≡ 0
      either true e = size_zero k e
      either false e =
          let t = typed k l h e in
          let v = f e in
          t.tested.1 (subst (λ (x : Ty). Has (value_of (sizes_in ns state) (part state k)) x) (one_type (name_at ns k).identifier v.0 t.type v.1 t.recorded) v.2)

  not_zero : (k : ℕ) → (type_number E ns state k ≡ 0 → ⊥) → type_number E ns state k ≡ 42
  not_zero k z = either (type_number E ns state k) (number k) refl
    where
      either : (n : ℕ) → Zero42 n → type_number E ns state k ≡ n → type_number E ns state k ≡ 42
      either _ is_zero e = absurd (z e)
      either _ is42 e = e

  -- where the check accepts, the fit's findings in their order give one answer
  fits_one : (a : Answer) → FitFinds doc state d w ns a → WellFormedState ns state → ((k : ℕ) → 1 ≤ k → k ≤ length ns → type_number E ns state k ≡ 0) → a ≡ accepted E
  fits_one _ (unchecked {n = n} {p = p} c) f z = no_answer E n p (sym check ∙ c)
  fits_one _ (ill_formed {p = p} c i) f z = absurd (let e : Readable ≡ Refused 41 p = sym ((state_well ns state).1 f) ∙ (state_ill ns state 41 p).1 (refl, i) in let x : ◌≡◌ {A = ℕ} 0 1 = cc in omega arith)
  fits_one _ (mistyped {E = D} {k = k} c g l h n b) f z = absurd (let e = same_dictionary D E (sym c ∙ check) in let x = z k l h in let y : type_number E ns state k ≡ 42 = subst (λ (X : Dictionary). type_number X ns state k ≡ 42) e n in omega arith)
  fits_one _ (fits c g n) f z = sym c ∙ check

  mistyped_one : (k : ℕ) (a : Answer) → FitFinds doc state d w ns a → WellFormedState ns state → 1 ≤ k → k ≤ length ns → type_number E ns state k ≡ 42 → ((j : ℕ) → 1 ≤ j → j < k → type_number E ns state j ≡ 0) → a ≡ refused 42 k
  mistyped_one k _ (unchecked {n = n} {p = p} c) f l h n42 b = no_answer E n p (sym check ∙ c)
  mistyped_one k _ (ill_formed {p = p} c i) f l h n42 b = absurd (let e : Readable ≡ Refused 41 p = sym ((state_well ns state).1 f) ∙ (state_ill ns state 41 p).1 (refl, i) in let x : ◌≡◌ {A = ℕ} 0 1 = cc in omega arith)
  mistyped_one k _ (mistyped {E = D} {k = i} c g l' h' n b') f l h n42 b =
      let e = same_dictionary D E (sym c ∙ check) in
      let here : type_number E ns state i ≡ 42 = subst (λ (X : Dictionary). type_number X ns state i ≡ 42) e n in
      let low : (j : ℕ) → 1 ≤ j → j < i → type_number E ns state j ≡ 0 = subst (λ (X : Dictionary). (j : ℕ) → 1 ≤ j → j < i → type_number X ns state j ≡ 0) e b' in
      let up : i < k → ⊥ = λ s. (let q = b i l' s in omega arith) in
      let down : k < i → ⊥ = λ s. (let q = low k l s in omega arith) in
      ap (λ (j : ℕ). refused 42 j) (same i k up down)
    where
      same : (i k : ℕ) → (i < k → ⊥) → (k < i → ⊥) → i ≡ k
      same i k up down = elim (dec_lt i k) [ yes p ↦ absurd (up p) | no p ↦ elim (dec_lt k i) [ yes q ↦ absurd (down q) | no q ↦ omega arith ] ]
  mistyped_one k _ (fits {E = D} c g n) f l h n42 b =
      absurd (let e = same_dictionary D E (sym c ∙ check) in let y : type_number E ns state k ≡ 0 = subst (λ (X : Dictionary). type_number X ns state k ≡ 0) e (n k l h) in omega arith)

-- what an answer of the fit call says, the check having accepted with E
module _ (doc state : List ℕ) (d w : ℕ) (E : Dictionary) where
  accepted_fits : (a : Answer) → FitFinds doc state d w (document_names (tree_of doc)) a → a ≡ accepted E
      → (check_of doc d w ≡ accepted E) × WellFormedState (document_names (tree_of doc)) state × StateFits E (document_names (tree_of doc)) state
  accepted_fits _ (unchecked {n = n} {p = p} c) e = no_answer E n p (sym e)
  accepted_fits _ (ill_formed {p = p} c i) e = no_answer E 41 p (sym e)
  accepted_fits _ (mistyped {k = k} c f l h n b) e = no_answer E 42 k (sym e)
  accepted_fits _ (fits {E = D} c f n) e =
      let s = same_dictionary D E e in
      let check : check_of doc d w ≡ accepted E = c ∙ e in
      let zeros : (k : ℕ) → 1 ≤ k → k ≤ length (document_names (tree_of doc)) → type_number E (document_names (tree_of doc)) state k ≡ 0 = subst (λ (X : Dictionary). (k : ℕ) → 1 ≤ k → k ≤ length (document_names (tree_of doc)) → type_number X (document_names (tree_of doc)) state k ≡ 0) s n in
      (check, f, record { entry = λ k l h. zero_fits doc state d w E check k l h (zeros k l h) })

  refused_fits : check_of doc d w ≡ accepted E → (k : ℕ) (a : Answer) → FitFinds doc state d w (document_names (tree_of doc)) a → a ≡ refused 42 k
      → WellFormedState (document_names (tree_of doc)) state × FirstUnfit E (document_names (tree_of doc)) state k
  refused_fits check k _ (unchecked {n = n} {p = p} c) e = no_answer E n p (sym check ∙ c)
  refused_fits check k _ (ill_formed {p = p} c i) e = absurd (let n = same_number 41 p 42 k e in omega arith)
  refused_fits check k _ (mistyped {E = D} {k = i} c f l h n b) e =
      let ns = document_names (tree_of doc) in
      let s = same_dictionary D E (sym c ∙ check) in
      let p : i ≡ k = same_place 42 i 42 k e in
      let from : 1 ≤ k = omega arith in
      let to : k ≤ length ns = omega arith in
      let n42 : type_number E ns state k ≡ 42 = subst (λ (X : Dictionary). type_number X ns state k ≡ 42) s (subst (λ (j : ℕ). type_number D ns state j ≡ 42) p n) in
      let low : (j : ℕ) → 1 ≤ j → j < k → type_number E ns state j ≡ 0 = subst (λ (X : Dictionary). (j : ℕ) → 1 ≤ j → j < k → type_number X ns state j ≡ 0) s (subst (λ (x : ℕ). (j : ℕ) → 1 ≤ j → j < x → type_number D ns state j ≡ 0) p b) in
      let v = value_42 doc state d w E check k n42 in
      let t = typed doc state d w E check k from to v in (
        f,
        record {
          from = from;
          to = to;
          value = v;
          type = t.type;
          recorded = t.recorded;
          unfit = λ x. (let z = t.tested.1 x in omega arith);
          before = λ j q r. zero_fits doc state d w E check j q (omega arith) (low j q r);
        },
      )
  refused_fits check k _ (fits {E = D} c f n) e = no_answer D 42 k e

  first_unfit : check_of doc d w ≡ accepted E → (k : ℕ) → FirstUnfit E (document_names (tree_of doc)) state k → type_number E (document_names (tree_of doc)) state k ≡ 42
  first_unfit check k f =
      let t = typed doc state d w E check k f.from f.to f.value in
      let ns = document_names (tree_of doc) in
      not_zero doc state d w E check k
      (λ z. f.unfit (subst (λ (x : Ty). Has (value_of (sizes_in ns state) (part state k)) x) (one_type doc state d w E check (name_at ns k).identifier t.type f.type t.recorded f.recorded) (t.tested.0 z)))

-- 42 comes after the check's acceptance: no number of the check is over 38
mistyped_fits : (doc state : List ℕ) (d w k : ℕ) (a : Answer) → FitFinds doc state d w (document_names (tree_of doc)) a → a ≡ refused 42 k
    → (E : Dictionary) × (check_of doc d w ≡ accepted E) × WellFormedState (document_names (tree_of doc)) state × FirstUnfit E (document_names (tree_of doc)) state k
mistyped_fits doc state d w k _ (unchecked {n = n} {p = p} c) e = absurd (let z = same_number n p 42 k e in let l = check_numbers doc d w n p c in omega arith)
mistyped_fits doc state d w k _ (ill_formed {p = p} c i) e = absurd (let n = same_number 41 p 42 k e in omega arith)
mistyped_fits doc state d w k _ (mistyped {E = E} {k = j} c f l h n b) e = let r = refused_fits doc state d w E c k (refused 42 j) (mistyped {k = j} c f l h n b) e in (E, c, r.0, r.1)
mistyped_fits doc state d w k _ (fits {E = E} c f n) e = no_answer E 42 k e

pub fit_by_types : FitByTypes
fit_by_types = record {
  accepts = λ doc state d w E. (
    λ e. accepted_fits doc state d w E _ (fit_finds doc state d w) e,
    λ h. fits_one doc state d w E h.0 _ (fit_finds doc state d w) h.1 (λ k l t. fits_zero doc state d w E h.0 k l t (h.2.entry k l t)),
  );
  mistyped = λ doc state d w k. (
    λ e. mistyped_fits doc state d w k _ (fit_finds doc state d w) e,
    λ h. mistyped_one doc state d w h.0 h.1 k _ (fit_finds doc state d w) h.2 h.3.from h.3.to (first_unfit doc state d w h.0 h.1 k h.3)
        (λ j q r. fits_zero doc state d w h.0 h.1 j q (let t = h.3.to in omega arith) (h.3.before j q r)),
  );
}
