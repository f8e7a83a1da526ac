-- THE CALL'S FINDINGS: reading's goes first; 27 comes exactly where a readable document has more words than the output area; else it is written.
use Rattle.std.specs.Prelude.{Err}
use mathlib.Core.Path.{◌≡◌, refl, sym}
use mathlib.Core.Bool.{Bool, true, false, cond}
use mathlib.Core.List.{List}
use mathlib.Core.Logic.{◌↔◌}
use Prim.Native.Nat.{ℕ, ◌≤◌, ◌<◌}
use native.Mathlib.Omega.{arith}
use lib.Dec.{ltb}
use lib.ListN.{length}
use borrow.Author.Tests.{lt-ltb, le-ltb, ltb-true, ltb-false}
use Rattle.reader_rules.specs.Findings.{and_then}
use Rattle.reader_rules.specs.Reading.{read_of}
use Rattle.reader_rules.specs.Refusals.{Finding, Readable, Refused}
use Rattle.reader_rules.proofs.Scan.{never, same_refusal, then_none}
use Rattle.reader_rules.proofs.ReadNumbers.{read_number}
use Rattle.canonical_rules.specs.Call.{canonical_words, canonical_check_of}
use Rattle.canonical_rules.proofs.CanonicalParts.{length_same}

pub reading_first : (doc : List ℕ) (m number place : ℕ) → read_of doc ≡ Refused number place → canonical_check_of doc m ≡ Refused number place
unfolding canonical_check_of
reading_first doc m number place e = rw e refl

-- what is left after reading
short : (b : Bool) → cond b (Refused 27 0) Readable ≡ Refused 27 0 → b ≡ true
short true e = refl
short false e = never 27 0 (sym e)

enough : (b : Bool) → cond b (Refused 27 0) Readable ≡ Readable → b ≡ false
enough true e = never 27 0 e
enough false e = refl

module _ (doc : List ℕ) (m : ℕ) where
  pub short_exactly : (canonical_check_of doc m ≡ Refused 27 0) ↔ ((read_of doc ≡ Readable) × (m < length doc))
  unfolding canonical_check_of
  short_exactly = (
    λ e. go (read_of doc) refl e,
    λ h. let n = length_same doc h.0 in let l = h.1 in rw (h.0, lt-ltb m (length (canonical_words doc)) (omega (arith, n, l))) refl,
  )
    where
      go : (r : Finding) → read_of doc ≡ r → and_then r (cond (ltb m (length (canonical_words doc))) (Refused 27 0) Readable) ≡ Refused 27 0 → (r ≡ Readable) × (m < length doc)
      go Readable q e = (refl, let n = length_same doc q in let l = ltb-true m (length (canonical_words doc)) (short _ e) in omega (arith, n, l))
      go (Err err) q e = let l = read_number doc err.number err.place q in let z = (same_refusal err.number err.place 27 0 e).0 in absurd (omega (arith, l, z))

  pub written_exactly : (canonical_check_of doc m ≡ Readable) ↔ ((read_of doc ≡ Readable) × (length doc ≤ m))
  unfolding canonical_check_of
  written_exactly = (
    λ e.
        let h = then_none (read_of doc) _ e in
        let n = length_same doc h.0 in
        let l = ltb-false m (length (canonical_words doc)) (enough _ h.1) in
        (h.0, omega (arith, n, l)),
    λ h. let n = length_same doc h.0 in let l = h.1 in rw (h.0, le-ltb m (length (canonical_words doc)) (omega (arith, n, l))) refl,
  )
