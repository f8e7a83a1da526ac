-- What it means that a document is readable: each finding, at each node, is absent.
use mathlib.Core.Path.{◌≡◌}
use mathlib.Core.Bool.{true, ◌&&◌}
use mathlib.Core.List.{List}
use Prim.Native.Nat.{ℕ, ◌-◌, ◌≤◌, ◌<◌}
use native.Mathlib.Omega.{arith}
use lib.Dec.{leb, ltb, eqb}
use lib.ListN.{length, get_or}
use borrow.Author.Tests.{leb-true, ltb-true, eqb-true, lt-ltb, le-ltb}
use Rattle.words.specs.Loops.{every}
use Rattle.words.proofs.Loops.{and_left, and_right, every_at}
use Rattle.layout.specs.Layout.{count, laid_out, part}
use Rattle.layout.proofs.Laws.{Laid, laid, part_length}
use Rattle.reader_rules.specs.Kinds.{cell, listed, sort_at, count_ok, count_in, of_sort, is_node_sort}
use Rattle.reader_rules.specs.Nodes.{document_form, kind_at, uses}
use Rattle.reader_rules.specs.Findings.{plain_words, lower_at, lower_nodes, node_number, use_number}
use Rattle.reader_rules.specs.Repeats.{repeat_number}
use Rattle.reader_rules.specs.Limits.{limit_number}
use Rattle.reader_rules.specs.Reading.{lowest, read_of}
use Rattle.reader_rules.specs.Refusals.{Readable}
use Rattle.reader_rules.proofs.Scan.{scan_none, then_none, cond_none, cond_zero}

-- findings 12 to 14 absent at node k
pub record Sound (doc : List ℕ) (k : ℕ) : Type 0 where
  pub listed : listed (kind_at doc k) ≡ true
  pub counted : count_ok (part doc k) ≡ true
  pub plain : plain_words (part doc k) ≡ true
  pub lower : lower_nodes doc k (part doc k) ≡ true

sound_of : (doc : List ℕ) (k : ℕ) → node_number doc k ≡ 0 → Sound doc k
sound_of doc k e =
    let a = cond_zero (listed (kind_at doc k)) _ 12 (omega arith) e in
    let b = cond_zero (count_ok (part doc k)) _ 13 (omega arith) a.1 in
    let d = cond_zero (plain_words (part doc k)) _ 13 (omega arith) b.1 in
    let f = cond_zero (lower_nodes doc k (part doc k)) _ 14 (omega arith) d.1 in
    record { listed = a.0; counted = b.0; plain = d.0; lower = f.0 }

-- what holds after findings 11 to 14
pub record Nodes (doc : List ℕ) : Type 0 where
  pub laid : Laid document_form doc
  pub node : (k : ℕ) → 1 ≤ k → k ≤ count doc → Sound doc k

pub nodes_sound : (doc : List ℕ) → laid_out document_form doc ≡ true → lowest doc (node_number doc) ≡ Readable → Nodes doc
nodes_sound doc l e =
    record {
      laid = laid document_form doc l;
      node = λ k p q. sound_of doc k (scan_none (node_number doc) 1 (count doc) e k p (omega arith));
    }

pub record Document (doc : List ℕ) : Type 0 where
  pub nodes : Nodes doc
  pub used : (k : ℕ) → 1 ≤ k → k ≤ count doc → use_number doc k ≡ 0
  pub unrepeated : (k : ℕ) → 1 ≤ k → k ≤ count doc → repeat_number doc k ≡ 0
  pub within : (k : ℕ) → 1 ≤ k → k ≤ count doc → limit_number doc k ≡ 0

pub readable : (doc : List ℕ) → read_of doc ≡ Readable → Document doc
unfolding read_of
readable doc e =
    let a = cond_none (laid_out document_form doc) _ 11 0 e in
    let b = then_none (lowest doc (node_number doc)) _ a.1 in
    let d = then_none (lowest doc (use_number doc)) _ b.1 in
    let f = then_none (lowest doc (repeat_number doc)) _ d.1 in
    record {
      nodes = nodes_sound doc a.0 b.0;
      used = λ k p q. scan_none (use_number doc) 1 (count doc) d.0 k p (omega arith);
      unrepeated = λ k p q. scan_none (repeat_number doc) 1 (count doc) f.0 k p (omega arith);
      within = λ k p q. scan_none (limit_number doc) 1 (count doc) f.1 k p (omega arith);
    }

-- an operand that is a node: a lower node of its sort
pub record Operand (doc : List ℕ) (k v s : ℕ) : Type 0 where
  pub some : 1 ≤ v
  pub below : v < k
  pub sort : of_sort s (kind_at doc v) ≡ true

operand_of : (doc : List ℕ) (k s v : ℕ) → (leb 1 v && (ltb v k && of_sort s (kind_at doc v))) ≡ true → Operand doc k v s
operand_of doc k s v e =
    let b = and_right (leb 1 v) _ e in
    record { some = leb-true 1 v (and_left (leb 1 v) _ e); below = ltb-true v k (and_left (ltb v k) _ b); sort = and_right (ltb v k) _ b }

pub operand : (doc : List ℕ) (k i : ℕ) → Sound doc k → 1 ≤ i → i < length (part doc k) → is_node_sort (sort_at (part doc k) i) ≡ true
    → Operand doc k (get_or (part doc k) i 0) (sort_at (part doc k) i)
operand doc k i s p q h =
    operand_of doc k _ _ (rw h at (every_at (lower_at doc k (part doc k)) 1 (length (part doc k) - 1) s.lower i p (omega arith)))

-- every node has its kind among its words
pub some_words : (doc : List ℕ) (k : ℕ) → Laid document_form doc → 1 ≤ k → k ≤ count doc → 1 ≤ length (part doc k)
some_words doc k l p q = let e = l.pair k p q in let g = e.long in rw (part_length 1 doc k p e) g

-- a node has at least as many operands as its row's first column says
pub least_operands : (doc : List ℕ) (k : ℕ) → Sound doc k → 1 ≤ length (part doc k) → cell (kind_at doc k) 0 < length (part doc k)
unfolding count_in
least_operands doc k s m =
    let c : leb (cell (kind_at doc k) 0) (length (part doc k) - 1) ≡ true = and_left _ _ (and_left _ _ s.counted) in
    omega (arith, leb-true (cell (kind_at doc k) 0) (length (part doc k) - 1) c)

-- finding 15 absent: the last node is the Document, and every other is used once
pub record Once (doc : List ℕ) : Type 0 where
  pub last : kind_at doc (count doc) ≡ 1
  pub once : (k : ℕ) → 1 ≤ k → k < count doc → uses doc k ≡ 1

use_none : (doc : List ℕ) (k : ℕ) → use_number doc k ≡ 0 → k < count doc → uses doc k ≡ 1
unfolding use_number
use_none doc k e q = eqb-true _ _ (cond_zero (eqb (uses doc k) 1) _ 15 (omega arith) (rw (lt-ltb k (count doc) q) at e)).0

use_last : (doc : List ℕ) → use_number doc (count doc) ≡ 0 → kind_at doc (count doc) ≡ 1
unfolding use_number
use_last doc e =
    let n = count doc in
    eqb-true _ _ (cond_zero (eqb (kind_at doc n) 1) 0 15 (omega arith) (rw (le-ltb n n (omega arith)) at e)).0

pub uses_once : (doc : List ℕ) → 1 ≤ count doc → lowest doc (use_number doc) ≡ Readable → Once doc
uses_once doc s e =
    let none = scan_none (use_number doc) 1 (count doc) e in
    record {
      last = use_last doc (none (count doc) s (omega arith));
      once = λ k p q. use_none doc k (none k p (omega arith)) q;
    }

-- the same of a readable document
pub last_document : (doc : List ℕ) → Document doc → kind_at doc (count doc) ≡ 1
last_document doc d = use_last doc (d.used (count doc) d.nodes.laid.some (omega arith))

pub used_once : (doc : List ℕ) → Document doc → (k : ℕ) → 1 ≤ k → k < count doc → uses doc k ≡ 1
used_once doc d k p q = use_none doc k (d.used k p (omega arith)) q
