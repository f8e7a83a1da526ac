-- What the limits leave to the paths down from a node: at each operand one node less, and inside a Text one Text less.
use mathlib.Core.Path.{◌≡◌, refl}
use mathlib.Core.Bool.{false}
use mathlib.Core.List.{List}
use Prim.Native.Nat.{ℕ, ◌-◌, ◌≤◌}
use native.Mathlib.Omega.{arith}
use lib.Dec.{eqb}
use Rattle.layout.specs.Layout.{count}
use Rattle.reader_rules.specs.Nodes.{kind_at}
use Rattle.reader_rules.specs.Limits.{texts_among, nodes_left, texts_left}
use Rattle.reader_rules.specs.Reading.{read_of}
use Rattle.reader_rules.specs.Refusals.{Readable}
use Rattle.reader_rules.specs.Promise.{At, Lower}
use Rattle.reader_rules.proofs.Accepted.{readable}
use Rattle.reader_rules.proofs.DepthLaws.{operand_ancestors, ancestors_last}
use Rattle.reader_rules.proofs.WithinLimits.{within_limits}

-- node k itself is within the limits
module _ (doc : List ℕ) (s k : ℕ) (h : At doc s k) where
  pub node_left : 1 ≤ nodes_left doc k
  unfolding nodes_left
  node_left = let d = (within_limits doc (readable doc h.read) k h.some h.most).deep in omega arith

  pub text_left : kind_at doc k ≡ 10 → 1 ≤ texts_left doc k
  unfolding texts_left
  text_left e = let d = (within_limits doc (readable doc h.read) k h.some h.most).nested e in omega arith

module _ (doc : List ℕ) (k : ℕ) (m : k ≤ count doc) where
  pub nodes_next : (s v : ℕ) → Lower doc k s v → nodes_left doc v ≡ nodes_left doc k - 1
  unfolding nodes_left
  nodes_next s v l = rw (operand_ancestors doc k s v m l) (omega arith)

  pub texts_same : eqb (kind_at doc k) 10 ≡ false → (s v : ℕ) → Lower doc k s v → texts_left doc v ≡ texts_left doc k
  unfolding texts_left texts_among
  texts_same e s v l = rw (operand_ancestors doc k s v m l, e) (omega arith)

  pub texts_next : kind_at doc k ≡ 10 → (s v : ℕ) → Lower doc k s v → texts_left doc v ≡ texts_left doc k - 1
  unfolding texts_left texts_among
  texts_next e s v l = rw (operand_ancestors doc k s v m l, e) (omega arith)

-- the whole of both at the Document
pub all_left : (doc : List ℕ) → read_of doc ≡ Readable → (nodes_left doc (count doc) ≡ 12) × (texts_left doc (count doc) ≡ 4)
unfolding nodes_left texts_left texts_among
all_left doc r = rw (ancestors_last doc r) (refl, refl)
