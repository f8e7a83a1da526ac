-- The fit call finds the check's refusal, then 41, then 42 at the first entry whose value is not of its recorded type; otherwise it accepts.
use Rattle.std.specs.Prelude.{Err}
use mathlib.Core.Path.{◌≡◌, refl, sym, ap, subst, ◌∙◌}
use mathlib.Core.Bool.{Bool, true, false, cond, false≢true}
use mathlib.Core.Logic.{◌↔◌}
use mathlib.Core.List.{List}
use Prim.Native.Nat.{ℕ, ◌+◌, ◌≤◌, ◌<◌}
use native.Mathlib.Omega.{arith}
use lib.ListN.{length}
use Rattle.layout.specs.Layout.{part}
use Rattle.reader_rules.specs.Findings.{scan}
use Rattle.reader_rules.specs.Decode.{tree_of}
use Rattle.reader_rules.specs.Refusals.{Finding, Readable, Refused}
use Rattle.reader_rules.proofs.Scan.{scan_none}
use Rattle.values.specs.Typed.{is_of}
use Rattle.types_rules.specs.Types.{Ty, size}
use Rattle.types_rules.specs.Formed.{WellFormed as Formed}
use Rattle.types_rules.specs.Words.{words}
use Rattle.checker_rules.specs.Dictionary.{Dictionary, of_global, name_in}
use Rattle.checker_rules.specs.Check.{Answer, accepted, refused, check_of}
use Rattle.states_rules.specs.Names.{Name, document_names}
use Rattle.states_rules.specs.Decode.{value_of}
use Rattle.states_rules.specs.States.{name_at, sizes_in, state_of}
use Rattle.evaluator_rules.specs.Claims.{WellFormedState}
use Rattle.evaluator_rules.proofs.StatePlace.{scan_found, state_ill, state_well}
use Rattle.fitter_rules.specs.Fit.{recorded_words, type_number, fit_types, fit_state, fit_checked, fit_of}
use Rattle.fitter_rules.specs.HasType.{Has}
use Rattle.fitter_rules.specs.Claims.{FitFinds, unchecked, ill_formed, mistyped, fits}
use Rattle.fitter_rules.proofs.OfType.{of_type}

one_number : (b c : Bool) (x : ℕ) → cond b 0 (cond c 0 42) ≡ x → (x ≡ 0 → ⊥) → x ≡ 42
one_number true c x e z = absurd (z (sym e))
one_number false true x e z = absurd (z (sym e))
one_number false false x e z = sym e

type_number_lem : (E : Dictionary) (ns : List Name) (state : List ℕ) (k x : ℕ) → type_number E ns state k ≡ x → (x ≡ 0 → ⊥) → x ≡ 42
unfolding type_number
type_number_lem E ns state k x e z = one_number (name_at ns k).is_given (is_of (value_of (sizes_in ns state) (part state k)) (recorded_words (name_in (name_at ns k).identifier E))) x e z

passes_zero : (c : Bool) → (◌≡◌ {A = ℕ} (cond c 0 42) 0) ↔ (c ≡ true)
passes_zero true = (λ e. refl, λ e. refl)
passes_zero false = (λ e. absurd (omega arith), λ e. absurd (false≢true e))

-- 42 is not at an entry exactly where its value is of the type that the dictionary records for its name
pub number_right : (E : Dictionary) (ns : List Name) (state : List ℕ) (k p : ℕ) (g : Ty) → (name_at ns k).is_given ≡ false → name_in (name_at ns k).identifier E ≡ of_global p g → Formed g → size g ≤ 32 →
    (type_number E ns state k ≡ 0) ↔ Has (value_of (sizes_in ns state) (part state k)) g
unfolding type_number recorded_words
number_right E ns state k p g b e w l =
    let v = value_of (sizes_in ns state) (part state k) in
    let z = passes_zero (is_of v (words g)) in
    let h = of_type v g w l in
    rw (b, e) (λ x. h.0 (z.0 x), λ x. z.1 (h.1 x))

module _ (doc state : List ℕ) (d w : ℕ) (ns : List Name) where
  types_finds : (E : Dictionary) → check_of doc d w ≡ accepted E → WellFormedState ns state → (r : Finding) → scan (type_number E ns state) 1 (length ns) ≡ r → FitFinds doc state d w ns (fit_types r E)
  unfolding fit_types
  types_finds E c f Readable e = fits c f (λ k p q. scan_none (type_number E ns state) 1 (length ns) e k p (omega arith))
  types_finds E c f (Err err) e =
      let h = scan_found (type_number E ns state) 1 (length ns) err.number err.place e in
      let v = type_number_lem E ns state err.place err.number h.number h.not_zero in
      let l = h.from in
      let b = h.before in
      subst (λ (x : ℕ). FitFinds doc state d w ns (refused x err.place)) (sym v) (mistyped {k = err.place} c f l (omega arith) (h.number ∙ v) (λ j x y. h.none j x y))

  state_finds : (E : Dictionary) → check_of doc d w ≡ accepted E → (r : Finding) → state_of ns state ≡ r → FitFinds doc state d w ns (fit_state r E ns state)
  unfolding fit_state
  state_finds E c Readable e = types_finds E c ((state_well ns state).0 e) _ refl
  state_finds E c (Err err) e =
      let h = (state_ill ns state err.number err.place).0 e in
      subst (λ (x : ℕ). FitFinds doc state d w ns (refused x err.place)) (sym h.0) (ill_formed c h.1)

  check_finds : (a : Answer) → check_of doc d w ≡ a → FitFinds doc state d w ns (fit_checked a ns state)
  unfolding fit_checked
  check_finds (accepted E) c = state_finds E c _ refl
  check_finds (refused n p) c = unchecked c

pub fit_finds : (doc state : List ℕ) (d w : ℕ) → FitFinds doc state d w (document_names (tree_of doc)) (fit_of doc state d w)
unfolding fit_of
fit_finds doc state d w = check_finds doc state d w (document_names (tree_of doc)) (check_of doc d w) refl
