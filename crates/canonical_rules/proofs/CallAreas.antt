-- WHAT THE CALL WRITES: the result stands at the beginning of its area, and areas of one length are equal exactly where the trees are the same.
use mathlib.Core.Path.{◌≡◌, refl, sym, ap, ◌∙◌}
use mathlib.Core.List.{List, ◌++◌}
use mathlib.Core.Logic.{◌↔◌}
use Prim.Native.Nat.{ℕ, ◌+◌, ◌*◌, ◌-◌, ◌≤◌}
use native.Mathlib.Omega.{arith}
use lib.ListN.{length, get_or, take, replicate, get_or-append}
use lib.Seq.{take_at}
use Rattle.words.specs.Loops.{total}
use Rattle.layout.specs.Layout.{count, length_at}
use Rattle.reader_rules.specs.Reading.{read_of}
use Rattle.reader_rules.specs.Refusals.{Readable}
use Rattle.reader_rules.specs.Decode.{tree_of}
use Rattle.reader_rules.proofs.Accepted.{readable}
use Rattle.reader_rules.proofs.Occurrences.{total_same}
use Rattle.canonical_rules.specs.MapNodes.{Same}
use Rattle.canonical_rules.specs.Call.{canonical_words, output_after, CanonicalCall}
use Rattle.canonical_rules.proofs.CanonicalParts.{pairs_total, length_same}
use Rattle.canonical_rules.proofs.CanonicalReadable.{canonical_readable}
use Rattle.canonical_rules.proofs.OneCoding.{one_coding}
use Rattle.canonical_rules.proofs.CallFindings.{written_exactly}

-- the number of words that count and pairs tell
abbrev extent : List ℕ → ℕ
extent w = 1 + 2 * count w + total (length_at w) 1 (count w)

-- of a readable document it is that of its words, whatever follows them
module _ (w rest : List ℕ) (read : read_of w ≡ Readable) where
  before : (j : ℕ) → j ≤ count w → get_or (w ++ rest) (2 * j) 0 ≡ get_or w (2 * j) 0
  before j l = let r = (readable w read).nodes.laid.room in get_or-append w rest 0 (2 * j) (omega (arith, r, l))

  told : extent (w ++ rest) ≡ length w
  told =
      let c : count (w ++ rest) ≡ count w = before 0 (omega arith) in
      ap (λ n. 1 + 2 * n + total (length_at (w ++ rest)) 1 n) c
      ∙ ap (λ t. 1 + 2 * count w + t) (total_same (length_at (w ++ rest)) (length_at w) 1 (count w) (λ j p q. before j (omega arith)))
      ∙ pairs_total w read

-- so readable words with anything after them are equal only where the words are
words_alone : (v w x y : List ℕ) → read_of v ≡ Readable → read_of w ≡ Readable → v ++ x ≡ w ++ y → v ≡ w
words_alone v w x y p q e =
    let n : length v ≡ length w = sym (told v x p) ∙ ap extent e ∙ told w y q in
    sym (take_at v x (length v) refl) ∙ ap (take (length v)) e ∙ take_at w y (length v) (sym n)

module _ (doc : List ℕ) (m : ℕ) (output : List ℕ) (call : CanonicalCall doc m Readable output) where
  pub written_read : read_of doc ≡ Readable
  written_read = ((written_exactly doc m).0 (sym call.finding)).0

  written_area : output ≡ canonical_words doc ++ replicate (m - length (canonical_words doc)) 0
  unfolding output_after
  written_area = call.written ∙ ap (λ r. output_after r (canonical_words doc) m) (sym call.finding)

  pub written_words : take (length doc) output ≡ canonical_words doc
  written_words = ap (take (length doc)) written_area ∙ take_at (canonical_words doc) _ (length doc) (length_same doc written_read)

pub areas_same : (doc dup : List ℕ) (m : ℕ) (output other : List ℕ) → CanonicalCall doc m Readable output → CanonicalCall dup m Readable other
    → Same (tree_of doc) (tree_of dup) ↔ (output ≡ other)
areas_same doc dup m output other c d = (
  λ s. let e = (one_coding (tree_of doc) (tree_of dup)).0 s in written_area doc m output c ∙ ap (λ w. w ++ replicate (m - length w) 0) e ∙ sym (written_area dup m other d),
  λ e.
      (one_coding (tree_of doc) (tree_of dup)).1
      (words_alone (canonical_words doc) (canonical_words dup) _ _ (canonical_readable doc (written_read doc m output c)) (canonical_readable dup (written_read dup m other d))
      (sym (written_area doc m output c) ∙ e ∙ written_area dup m other d)),
)
