-- CHECK, FIT AND RUN COMMUTE WITH RENUMBERING: readable documents with the same tree answer alike. So a readable document's canonical words keep all of it.
use mathlib.Core.Path.{◌≡◌, refl, ap, sym, ◌∙◌, subst}
use mathlib.Core.List.{List}
use Prim.Native.Nat.{ℕ, ◌<◌}
use lib.ListN.{length, get_or, take}
use Rattle.reader_rules.specs.Reading.{read_of}
use Rattle.reader_rules.specs.Refusals.{Readable}
use Rattle.reader_rules.specs.TreeNumbers.{node_numbers}
use Rattle.reader_rules.specs.Decode.{tree_of}
use Rattle.checker_rules.specs.Check.{Answer, accepted, refused, check_of}
use Rattle.checker_rules.specs.Areas.{dictionary_after}
use Rattle.canonical_rules.specs.MapNodes.{Same}
use Rattle.canonical_rules.specs.Positions.{corresponding}
use Rattle.canonical_rules.specs.Canonical.{canonical_of}
use Rattle.canonical_rules.specs.Call.{CanonicalCall}
use Rattle.canonical_rules.proofs.CanonicalRead.{canonical_read}
use Rattle.canonical_rules.proofs.CanonicalParts.{numbered_order, count_same, length_same}
use Rattle.canonical_rules.proofs.CanonicalReadable.{canonical_readable}
use Rattle.canonical_rules.proofs.OneCoding.{canonical_same}
use Rattle.canonical_rules.proofs.CallAreas.{written_read, written_words}
use Rattle.canonical_answers.specs.MapAnswers.{map_answer}
use Rattle.canonical_answers.specs.Rewritten.{Agrees, Rewritten}
use Rattle.canonical_answers.proofs.SameChecks.{zero_stays, checks_agree}
use Rattle.canonical_answers.proofs.SameRuns.{trees_renumbered, runs_agree}
use Rattle.canonical_answers.proofs.SameFits.{states_agree, fits_agree}

area_stays : (f : ℕ → ℕ) (a : Answer) (d : ℕ) → dictionary_after (map_answer f a) d ≡ dictionary_after a d
unfolding map_answer dictionary_after
area_stays f (accepted D) d = refl
area_stays f (refused e m) d = refl

pub dictionaries_agree : (doc dup : List ℕ) → read_of doc ≡ Readable → read_of dup ≡ Readable → Same (tree_of doc) (tree_of dup)
    → (d w : ℕ) → dictionary_after (check_of dup d w) d ≡ dictionary_after (check_of doc d w) d
dictionaries_agree doc dup read reread same d w =
    ap (λ a. dictionary_after a d) (checks_agree doc dup read reread same d w) ∙ area_stays (corresponding doc dup) (check_of doc d w) d

pub documents_agree : (doc dup : List ℕ) → read_of doc ≡ Readable → read_of dup ≡ Readable → Same (tree_of doc) (tree_of dup) → Agrees doc dup
documents_agree doc dup read reread same =
    record {
      nodes = trees_renumbered doc dup read reread same;
      no_node = zero_stays doc dup read reread same;
      check = checks_agree doc dup read reread same;
      dictionary = dictionaries_agree doc dup read reread same;
      state = states_agree doc dup read reread same;
      fit = fits_agree doc dup read reread same;
      run = runs_agree doc dup read reread same;
    }

pub rewritten : (doc : List ℕ) → read_of doc ≡ Readable → Rewritten doc (canonical_of (tree_of doc))
rewritten doc read =
    let new = canonical_of (tree_of doc) in
    let r : read_of new ≡ Readable = canonical_readable doc read in
    let s : Same (tree_of doc) (tree_of new) = sym (canonical_same (tree_of doc)) in
    record {
      readable = r;
      same = s;
      order = λ i h. ap (λ t. get_or (node_numbers t) i 0) (canonical_read (tree_of doc)) ∙ numbered_order doc read i (subst (λ n. i < n) (count_same doc read) h);
      tree = canonical_read (tree_of doc);
      nodes = count_same doc read;
      words = length_same doc read;
      answers = documents_agree doc new read r s;
    }

-- what the call writes
pub call_rewritten : (doc : List ℕ) (m : ℕ) (output : List ℕ) → CanonicalCall doc m Readable output → Rewritten doc (take (length doc) output)
call_rewritten doc m output call = subst (Rewritten doc) (sym (written_words doc m output call)) (rewritten doc (written_read doc m output call))
