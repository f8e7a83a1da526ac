-- The nodes above an operand are its node and the nodes above this; so an operand lies one node deeper.
use mathlib.Core.Path.{◌≡◌, refl, sym, ap, ◌∙◌}
use mathlib.Core.Bool.{Bool, true, false, cond}
use mathlib.Core.List.{List, [], ◌∷◌}
use Prim.Native.Nat.{ℕ, zero, suc, ◌+◌, ◌≤◌}
use native.Mathlib.Omega.{arith}
use lib.Dec.{eqb}
use borrow.Author.Tests.{ne_eqb, eqb-false}
use Rattle.words.specs.Loops.{has}
use Rattle.layout.specs.Layout.{count}
use Rattle.reader_rules.specs.Nodes.{children, parent, above, ancestors}
use Rattle.reader_rules.specs.Limits.{depth}
use Rattle.reader_rules.specs.Reading.{read_of}
use Rattle.reader_rules.specs.Refusals.{Readable}
use Rattle.reader_rules.specs.Promise.{Lower}
use Rattle.reader_rules.proofs.Accepted.{Nodes, Document, readable, used_once}
use Rattle.reader_rules.proofs.Parents.{child_lower, parent_only, parent_most, parent_rises}

above_next : (doc : List ℕ) (n k a : ℕ) → parent doc k ≡ a → (a ≡ 0 → ⊥) → above doc (suc n) k ≡ a ∷ above doc n a
unfolding above
above_next doc n k a e z = rw (e, ne_eqb a 0 z)

-- no node lies above the last
above_last : (doc : List ℕ) → Nodes doc → (n k : ℕ) → count doc ≤ k → above doc n k ≡ []
unfolding above
above_last doc s zero k h = refl
above_last doc s (suc n) k h = go (eqb (parent doc k) 0) (eqb-false (parent doc k) 0)
  where
    go : (b : Bool) → (b ≡ false → parent doc k ≡ 0 → ⊥) → cond b [] (parent doc k ∷ above doc n (parent doc k)) ≡ []
    go true f = refl
    go false f = absurd (omega (arith, parent_rises doc s k (f refl), parent_most doc k))

-- as many steps up as there are higher nodes meet all that lie above
above_any : (doc : List ℕ) → Nodes doc → (n m k : ℕ) → count doc ≤ n + k → count doc ≤ m + k → above doc n k ≡ above doc m k
unfolding above
above_any doc s zero m k p q = sym (above_last doc s m k (omega arith))
above_any doc s (suc n) zero k p q = above_last doc s (suc n) k (omega arith)
above_any doc s (suc n) (suc m) k p q = go (eqb (parent doc k) 0) (eqb-false (parent doc k) 0) (λ l. above_any doc s n m (parent doc k) (omega arith) (omega arith))
  where
    go : (b : Bool) → (b ≡ false → parent doc k ≡ 0 → ⊥) → (suc k ≤ parent doc k → above doc n (parent doc k) ≡ above doc m (parent doc k))
        → cond b [] (parent doc k ∷ above doc n (parent doc k)) ≡ cond b [] (parent doc k ∷ above doc m (parent doc k))
    go true f g = refl
    go false f g = ap (◌∷◌ (parent doc k)) (g (parent_rises doc s k (f refl)))

-- a child's parent is the node that has it
module _ (doc : List ℕ) (d : Document doc) (k v : ℕ) (p : 1 ≤ k) (q : k ≤ count doc) (e : has v (children doc k) ≡ true) where
  pub child_parent : parent doc v ≡ k
  child_parent =
      let c = child_lower doc d.nodes k v p q e in
      parent_only doc v (used_once doc d v c.0 (omega arith)) k p q e

  pub ancestors_child : ancestors doc v ≡ k ∷ ancestors doc k
  ancestors_child =
      let f = d.nodes.laid.few in
      above_next doc 1023 v k child_parent (omega arith) ∙ ap (◌∷◌ k) (above_any doc d.nodes 1023 1024 k (omega arith) (omega arith))

-- the same of an operand
module _ (doc : List ℕ) (k s v : ℕ) (m : k ≤ count doc) (l : Lower doc k s v) where
  pub operand_parent : parent doc v ≡ k
  operand_parent = let b = l.below in child_parent doc (readable doc l.at.read) k v (omega arith) m l.child

  pub operand_ancestors : ancestors doc v ≡ k ∷ ancestors doc k
  operand_ancestors = let b = l.below in ancestors_child doc (readable doc l.at.read) k v (omega arith) m l.child

  pub deeper : depth doc v ≡ suc (depth doc k)
  deeper = rw operand_ancestors (omega arith)

-- the last node is the Document, and none lies above it
pub ancestors_last : (doc : List ℕ) → read_of doc ≡ Readable → ancestors doc (count doc) ≡ []
ancestors_last doc r = above_last doc (readable doc r).nodes 1024 (count doc) (omega arith)
