-- What the fit call finds, and leaves, after the check.
use Rattle.std.specs.Prelude.{Err}
use mathlib.Core.Path.{◌≡◌, refl, sym, ap, ◌∙◌}
use mathlib.Core.List.{List, ◌++◌}
use Prim.Native.Nat.{ℕ, ◌-◌}
use native.Mathlib.Omega.{arith}
use lib.ListN.{length, replicate}
use Rattle.reader_rules.specs.Findings.{scan}
use Rattle.reader_rules.specs.Reading.{read_of}
use Rattle.reader_rules.specs.Decode.{tree_of}
use Rattle.reader_rules.specs.Refusals.{Finding, Readable, Accepted, Refused}
use Rattle.checker_rules.specs.Dictionary.{Dictionary, dictionary_words, dictionary_length}
use Rattle.checker_rules.specs.Check.{Answer, accepted, refused, check_of}
use Rattle.checker_rules.specs.Areas.{answer_finding, dictionary_after, CheckCall}
use Rattle.checker_rules.proofs.Recorded.{accepted_fits}
use Rattle.checker_rules.proofs.CheckRight.{accepted_says}
use Rattle.states_rules.specs.Names.{Name, document_names}
use Rattle.states_rules.specs.States.{state_of}
use Rattle.fitter_rules.specs.Fit.{type_number, fit_types, fit_state, fit_checked, fit_of}
use Rattle.fitter_rules.specs.Areas.{FitCall}
use Rattle.fitter_types.specs.Held.{Held}

not_rejected : {A : Type 0} (n p : ℕ) → Accepted ≡ Refused n p → A
not_rejected n p e = let z : ◌≡◌ {A = ℕ} 0 1 = cc in absurd (omega arith)

-- ---- 41, then 42
said_types : (r : Finding) (E : Dictionary) → r ≡ answer_finding (fit_types r E)
unfolding answer_finding fit_types
said_types Readable E = refl
said_types (Err err) E = refl

module _ (ns : List Name) (state : List ℕ) (E : Dictionary) where
  pub readable_finding : state_of ns state ≡ Readable → (r : Finding) → r ≡ scan (type_number E ns state) 1 (length ns)
      → r ≡ answer_finding (fit_state (state_of ns state) E ns state)
  unfolding fit_state
  readable_finding s r e = rw s (said_types r E ∙ ap (λ (x : Finding). answer_finding (fit_types x E)) e)

  pub refused_finding : (n p : ℕ) → state_of ns state ≡ Refused n p → Refused n p ≡ answer_finding (fit_state (state_of ns state) E ns state)
  unfolding fit_state answer_finding
  refused_finding n p s = rw s refl

  -- an accepting answer has the dictionary of the check
  types_keep : (r : Finding) → Accepted ≡ answer_finding (fit_types r E) → fit_types r E ≡ accepted E
  unfolding fit_types answer_finding
  types_keep Readable e = refl
  types_keep (Err err) e = not_rejected err.number err.place e

  state_keeps : (r : Finding) → Accepted ≡ answer_finding (fit_state r E ns state) → fit_state r E ns state ≡ accepted E
  unfolding fit_state answer_finding
  state_keeps Readable e = types_keep (scan (type_number E ns state) 1 (length ns)) e
  state_keeps (Err err) e = not_rejected err.number err.place e

  -- a refusing one leaves zeros
  refused_after : (a : Answer) (n p d : ℕ) → Refused n p ≡ answer_finding a → dictionary_after a d ≡ replicate d 0
  unfolding answer_finding dictionary_after
  refused_after (accepted D) n p d e = not_rejected n p (sym e)
  refused_after (refused f m) n p d e = refl

-- ---- what the check leaves
record Accepting (doc dict : List ℕ) (d w : ℕ) : Type 0 where
  dictionary : Dictionary
  checked : check_of doc d w ≡ accepted dictionary
  held : Held doc dict dictionary

accepting : {doc dict work : List ℕ} {d w : ℕ} → CheckCall doc d w Accepted dict work → length dict ≡ d → Accepting doc dict d w
unfolding answer_finding dictionary_after
accepting {doc} {dict} {d = d} {w} c e = go (check_of doc d w) refl
  where
    go : (a : Answer) → check_of doc d w ≡ a → Accepting doc dict d w
    go (accepted E) q =
        let l = accepted_fits doc d w E q in
        let laid : dict ≡ dictionary_words E ++ replicate (d - dictionary_length E) 0 = c.recorded ∙ ap (λ (a : Answer). dictionary_after a d) q in
        record { dictionary = E; checked = q; held = record { room = d; work = w; checked = q; holds = record { fits = omega arith; laid = laid ∙ ap (λ (n : ℕ). dictionary_words E ++ replicate (n - dictionary_length E) 0) (sym e) } } }
    go (refused n p) q = not_rejected n p (c.finding ∙ ap answer_finding q)

pub accepted_readable : {doc dict work : List ℕ} {d w : ℕ} → CheckCall doc d w Accepted dict work → length dict ≡ d → read_of doc ≡ Readable
accepted_readable {doc} {d = d} {w} c e = let a = accepting c e in (accepted_says doc d w a.dictionary a.checked).read

-- ---- the fit call
after_check : (doc state : List ℕ) (d w : ℕ) (E : Dictionary) → check_of doc d w ≡ accepted E
    → fit_of doc state d w ≡ fit_state (state_of (document_names (tree_of doc)) state) E (document_names (tree_of doc)) state
unfolding fit_of fit_checked
after_check doc state d w E q = rw q refl

unchecked : (doc state : List ℕ) (d w n p : ℕ) → Refused n p ≡ answer_finding (check_of doc d w) → fit_of doc state d w ≡ check_of doc d w
unfolding fit_of fit_checked answer_finding
unchecked doc state d w n p e = go (check_of doc d w) e
  where
    go : (a : Answer) → Refused n p ≡ answer_finding a → fit_checked a (document_names (tree_of doc)) state ≡ a
    go (accepted E) e = not_rejected n p (sym e)
    go (refused f m) e = refl

as_checked : {doc state dict work : List ℕ} {d w : ℕ} {f : Finding} → fit_of doc state d w ≡ check_of doc d w → CheckCall doc d w f dict work → FitCall doc state d w f dict work
as_checked q c = record { finding = rw q c.finding; recorded = rw q c.recorded; cleared = c.cleared }

abbrev pub Says : List ℕ → List ℕ → List ℕ → Finding → Type 0
Says doc state dict f = (E : Dictionary) → Held doc dict E → f ≡ answer_finding (fit_state (state_of (document_names (tree_of doc)) state) E (document_names (tree_of doc)) state)

pub fit_accepted : {doc state dict work : List ℕ} {d w : ℕ} → CheckCall doc d w Accepted dict work → length dict ≡ d → Says doc state dict Accepted → FitCall doc state d w Accepted dict work
fit_accepted {doc} {state} {d = d} {w} c e s =
    let a = accepting c e in
    let E = a.dictionary in
    let ns = document_names (tree_of doc) in
    as_checked (after_check doc state d w E a.checked ∙ state_keeps ns state E (state_of ns state) (s E a.held) ∙ sym a.checked) c

pub fit_refused : {doc state dict work after : List ℕ} {d w n p : ℕ} → CheckCall doc d w Accepted dict work → length dict ≡ d → Says doc state dict (Refused n p) → after ≡ replicate d 0
    → FitCall doc state d w (Refused n p) after work
fit_refused {doc} {state} {d = d} {w} {n} {p} c e s z =
    let a = accepting c e in
    let E = a.dictionary in
    let ns = document_names (tree_of doc) in
    let q = after_check doc state d w E a.checked in
    let f = s E a.held in
    record { finding = rw q f; recorded = rw q (z ∙ sym (refused_after ns state E (fit_state (state_of ns state) E ns state) n p d f)); cleared = c.cleared }

pub fit_unchecked : {doc state dict work : List ℕ} {d w n p : ℕ} → CheckCall doc d w (Refused n p) dict work → FitCall doc state d w (Refused n p) dict work
fit_unchecked {doc} {state} {d = d} {w} {n} {p} c = as_checked (unchecked doc state d w n p c.finding) c
