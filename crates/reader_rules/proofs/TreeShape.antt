-- Laws of the tree that all kinds share: a node by its maker, with operands that are lower nodes.
use mathlib.Core.Path.{◌≡◌, refl, sym, ap, subst, ◌∙◌}
use mathlib.Core.Bool.{Bool, true, ◌&&◌}
use mathlib.Core.Logic.{⊎_elim}
use mathlib.Core.List.{List}
use Prim.Native.Nat.{ℕ, zero, suc, ◌+◌, ◌-◌, ◌≤◌, ◌<◌}
use native.Mathlib.Omega.{arith}
use native.Mathlib.Numerals.{add-one}
use native.Mathlib.Nat.{eq-or-lt_of_le}
use lib.ListN.{get_or}
use borrow.Author.Tests.{ltb-true, lt-ltb}
use Rattle.words.proofs.Loops.{and_left, and_right, turn, none_left_lem}
use Rattle.layout.specs.Layout.{part}
use Rattle.reader_rules.specs.Kinds.{is_node_sort, counts}
use Rattle.reader_rules.specs.Nodes.{kind_at, operand_at}
use Rattle.reader_rules.specs.Promise.{At, Lower}
use Rattle.reader_rules.specs.LowerNodes.{lower}
use Rattle.reader_rules.specs.Decode.{Node, no_node, gather, make_at, node_at}
use Rattle.reader_rules.proofs.LowerNodes.{meaning_eq}
use Rattle.reader_rules.proofs.Operands.{pair_kind, one_kind, first_of, pair_of}

-- a fact at each of the m numbers from i on
abbrev pub AllFrom : (ℕ → Type 0) → ℕ → ℕ → Type 0
AllFrom P i zero = Unit {0}
AllFrom P i (suc m) = P i × AllFrom P (suc i) m

pub all_at : (P : ℕ → Type 0) (i m : ℕ) → AllFrom P i m → (j : ℕ) → i ≤ j → j < i + m → P j
all_at P i zero h j p q = absurd (omega arith)
all_at P i (suc m) h j p q = ⊎_elim (λ e. subst P e h.0) (λ l. all_at P (suc i) m h.1 j l (omega arith)) (eq-or-lt_of_le p)

-- such facts in a row: first ▹ second ▹ .. ▹ tt
infixr 15 ◌▹◌
abbrev pub ◌▹◌ : {A B : Type 0} → A → B → A × B
a ▹ b = (a, b)

-- What a law gives: one operand a, two operands a and b, or each operand from i to e - 1; and the tree.
pub record One (doc : List ℕ) (k s a : ℕ) (Tree : Type 0) : Type 0 where
  pub first : Lower doc k s a
  pub tree : Tree

pub record Two (doc : List ℕ) (k s₁ s₂ a b : ℕ) (Tree : Type 0) : Type 0 where
  pub left : Lower doc k s₁ a
  pub right : Lower doc k s₂ b
  pub tree : Tree

pub record Each (doc : List ℕ) (k s i e : ℕ) (Tree : Type 0) : Type 0 where
  pub each : (j : ℕ) → i ≤ j → j < e → (v : ℕ) → v ≡ operand_at doc k j → Lower doc k s v
  pub tree : Tree

-- one turn of a loop over operands, that is at i and ends before e
module _ {A : Type 0} (f : ℕ → A → A) (w : List ℕ) (e i : ℕ) (z : A) where
  pub gather_go : i < e → gather f w i (e - i) z ≡ f (get_or w i 0) (gather f w (i + 1) (e - (i + 1)) z)
  unfolding gather
  gather_go h = rw (turn e i h, gather, add-one i)

  pub gather_end : e ≤ i → gather f w i (e - i) z ≡ z
  unfolding gather
  gather_end h = rw (none_left_lem e i h)

pub gather_same : {A : Type 0} (f g : ℕ → A → A) (w : List ℕ) (i m : ℕ) (z : A)
    → ((j : ℕ) → i ≤ j → j < i + m → f (get_or w j 0) ≡ g (get_or w j 0)) → gather f w i m z ≡ gather g w i m z
unfolding gather
gather_same f g w i zero z h = refl
gather_same f g w i (suc m) z h =
    rw (h i (omega arith) (omega arith)) (ap (g (get_or w i 0)) (gather_same f g w (suc i) m z (λ j p q. h j (omega arith) (omega arith))))

-- what holds of the end, and with each operand, holds of the operands gathered
pub gather_keeps : {A : Type 0} (P : A → Type 0) (f : ℕ → A → A) (w : List ℕ) (z : A) → P z → (i m : ℕ)
    → ((j : ℕ) → i ≤ j → j < i + m → (y : A) → P y → P (f (get_or w j 0) y)) → P (gather f w i m z)
unfolding gather
gather_keeps P f w z p i zero h = p
gather_keeps P f w z p i (suc m) h =
    h i (omega arith) (omega arith) (gather f w (suc i) m z) (gather_keeps P f w z p (suc i) m (λ j a b. h j (omega arith) (omega arith)))

-- tests on a kind's row, with sorts that are nodes'
abbrev pub one_node : ℕ → ℕ → Bool
one_node s q = is_node_sort s && one_kind s q

abbrev pub two_nodes : ℕ → ℕ → ℕ → Bool
two_nodes s₁ s₂ q = is_node_sort s₁ && (is_node_sort s₂ && pair_kind s₁ s₂ q)

module _ (doc : List ℕ) (k : ℕ) where
  -- the nodes below k
  abbrev pub sub : ℕ → Node
  sub = lower no_node k (node_at doc)

  pub sub_lower : (s v : ℕ) → Lower doc k s v → sub v ≡ node_at doc v
  sub_lower s v h = rw (lt-ltb v k h.below)

  -- what is seen of a node is seen of its making
  pub seen : {X : Type 0} (p : Node → X) → p (node_at doc k) ≡ p (make_at doc k sub)
  unfolding node_at
  seen p = ap p (meaning_eq no_node (make_at doc) k)

  -- what holds of a node's making holds of the node
  pub as_made : (P : Node → Type 0) → P (make_at doc k sub) → P (node_at doc k)
  as_made P = subst P (sym (seen (λ n. n)))

module _ (doc : List ℕ) (s k : ℕ) (h : At doc s k) {X : Type 0} (p : Node → X) where
  pub one_law : (g : Node → X) → ((below : ℕ → Node) → p (make_at doc k below) ≡ g (below (operand_at doc k 1)))
      → (t : ℕ) → one_node t (kind_at doc k) ≡ true
      → (a : ℕ) → a ≡ operand_at doc k 1 → One doc k t a (p (node_at doc k) ≡ g (node_at doc a))
  one_law g e t r a x =
      let o = first_of doc s k h t (and_right (is_node_sort t) _ r) (ltb-true counts t (and_left (is_node_sort t) _ r)) in
      rw x (record { first = o; tree = seen doc k p ∙ e (sub doc k) ∙ ap g (sub_lower doc k t (operand_at doc k 1) o) })

  pub two_law : (g : Node → Node → X) → ((below : ℕ → Node) → p (make_at doc k below) ≡ g (below (operand_at doc k 1)) (below (operand_at doc k 2)))
      → (t₁ t₂ : ℕ) → two_nodes t₁ t₂ (kind_at doc k) ≡ true
      → (a b : ℕ) → a ≡ operand_at doc k 1 → b ≡ operand_at doc k 2 → Two doc k t₁ t₂ a b (p (node_at doc k) ≡ g (node_at doc a) (node_at doc b))
  two_law g e t₁ t₂ r a b x y =
      let r' = and_right (is_node_sort t₁) _ r in
      let o =
      pair_of doc s k h t₁ t₂ (and_right (is_node_sort t₂) _ r') (ltb-true counts t₁ (and_left (is_node_sort t₁) _ r)) (ltb-true counts t₂ (and_left (is_node_sort t₂) _ r'))
      in
      rw (x, y) (record {
        left = o.0;
        right = o.1;
        tree =
            seen doc k p ∙ e (sub doc k)
            ∙ ap (λ (n : Node). g n (sub doc k (operand_at doc k 2))) (sub_lower doc k t₁ (operand_at doc k 1) o.0)
            ∙ ap (g (node_at doc (operand_at doc k 1))) (sub_lower doc k t₂ (operand_at doc k 2) o.1);
      })

-- a list of operands that are lower nodes
pub lower_gather : {A : Type 0} (doc : List ℕ) (k s i m : ℕ) (p : Node → A → A) (z : A)
    → ((j : ℕ) → i ≤ j → j < i + m → Lower doc k s (operand_at doc k j))
    → gather (λ j. p (sub doc k j)) (part doc k) i m z ≡ gather (λ j. p (node_at doc j)) (part doc k) i m z
lower_gather doc k s i m p z h =
    gather_same (λ j. p (sub doc k j)) (λ j. p (node_at doc j)) (part doc k) i m z (λ j a b. ap p (sub_lower doc k s (operand_at doc k j) (h j a b)))
