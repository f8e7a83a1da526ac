-- The call's promise after each way that it ends.
use mathlib.Core.Path.{◌≡◌, sym, ap, ◌∙◌}
use mathlib.Core.List.{List, ◌++◌}
use Prim.Native.Nat.{ℕ, ◌+◌, ◌-◌, ◌≤◌, ◌<◌}
use native.Mathlib.Omega.{arith}
use lib.ListN.{length, drop, replicate, length-replicate}
use lib.Seq.{sets, sets-eq}
use Rattle.words.proofs.Lists.{zeros_dropped}
use Rattle.reader_rules.specs.Reading.{read_of}
use Rattle.reader_rules.specs.Refusals.{Finding, Readable, Refused}
use Rattle.canonical_rules.specs.Call.{canonical_words, canonical_check_of, output_after, CanonicalCall}
use Rattle.canonical_rules.proofs.CanonicalParts.{length_same}
use Rattle.canonical_rules.proofs.CallFindings.{reading_first, short_exactly, written_exactly}

-- an area of zeros with the result
area_written : (result : List ℕ) (m : ℕ) → length result ≤ m → sets (replicate m 0) 0 result ≡ result ++ replicate (m - length result) 0
area_written result m l =
    let n = length-replicate {A = ℕ} m 0 in
    let e : 0 + length result ≡ length result = omega arith in
    sets-eq result (replicate m 0) 0 (omega (arith, l, n)) ∙ ap (λ x. result ++ x) (ap (λ j. drop j (replicate m 0)) e ∙ zeros_dropped (length result) m)

decided : (doc : List ℕ) (m : ℕ) (r : Finding) (output : List ℕ) → canonical_check_of doc m ≡ r → output ≡ output_after r (canonical_words doc) m → CanonicalCall doc m r output
decided doc m r output e p = record { finding = sym e; written = p ∙ ap (λ x. output_after x (canonical_words doc) m) (sym e) }

pub call_refused : (doc : List ℕ) (m number place : ℕ) (output : List ℕ) → read_of doc ≡ Refused number place → output ≡ replicate m 0 → CanonicalCall doc m (Refused number place) output
unfolding output_after
call_refused doc m number place output e p = decided doc m (Refused number place) output (reading_first doc m number place e) p

module _ (doc : List ℕ) (read : read_of doc ≡ Readable) (m : ℕ) (output : List ℕ) where
  pub call_short : m < length doc → output ≡ replicate m 0 → CanonicalCall doc m (Refused 27 0) output
  unfolding output_after
  call_short l p = decided doc m (Refused 27 0) output ((short_exactly doc m).1 (read, l)) p

  pub call_written : length doc ≤ m → output ≡ sets (replicate m 0) 0 (canonical_words doc) → CanonicalCall doc m Readable output
  unfolding output_after
  call_written l p =
      let n = length_same doc read in
      decided doc m Readable output ((written_exactly doc m).1 (read, l)) (p ∙ area_written (canonical_words doc) m (omega (arith, n, l)))
