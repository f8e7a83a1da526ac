-- Children and parents: where every node is used once, a child's parent is the node that has it.
use mathlib.Core.Path.{◌≡◌, refl, sym, ap, ◌∙◌}
use mathlib.Core.Bool.{Bool, true, false, ◌&&◌, ◌||◌, cond, false≢true}
use mathlib.Core.List.{List, ◌∷◌}
use mathlib.Core.Logic.{◌⊎◌, inl, inr}
use Prim.Native.Nat.{ℕ, zero, suc, ◌+◌, ◌-◌, ◌≤◌, ◌<◌}
use native.Mathlib.Omega.{arith}
use native.Mathlib.Nat.{eq-or-lt_of_le}
use lib.Dec.{eqb}
use lib.ListN.{length, get_or}
use borrow.Author.Tests.{eqb-true, eq-eqb}
use Rattle.words.specs.Loops.{some, joined, has, occurrences}
use Rattle.words.proofs.Loops.{and_left, and_right}
use Rattle.words.proofs.Lists.{occurrences_append, has_joined, joined_last, has_once, once_has, some_at, some_true}
use Rattle.layout.specs.Layout.{count, part}
use Rattle.reader_rules.specs.Kinds.{sort_at, is_node_sort}
use Rattle.reader_rules.specs.Nodes.{nodes_among, children, uses, parent_among, parent}
use Rattle.reader_rules.proofs.Accepted.{Nodes, operand}

-- operand j of the words w is the node v
abbrev pub names_at : List ℕ → ℕ → ℕ → Bool
names_at w v j = is_node_sort (sort_at w j) && eqb (get_or w j 0) v

has_among : (w : List ℕ) (v i m : ℕ) → has v (nodes_among w i m) ≡ some (names_at w v) i m
unfolding has nodes_among some
has_among w v i zero = refl
has_among w v i (suc m) = go (is_node_sort (sort_at w i)) (has_among w v (suc i) m)
  where
    go : (b : Bool) → has v (nodes_among w (suc i) m) ≡ some (names_at w v) (suc i) m
        → has v (cond b (get_or w i 0 ∷ nodes_among w (suc i) m) (nodes_among w (suc i) m)) ≡ ((b && eqb (get_or w i 0) v) || some (names_at w v) (suc i) m)
    go true h = ap (λ (x : Bool). eqb (get_or w i 0) v || x) h
    go false h = h

-- a child is an operand, and back
pub record Child (doc : List ℕ) (k v : ℕ) : Type 0 where
  pub place : ℕ
  pub some : 1 ≤ place
  pub most : place < length (part doc k)
  pub sort : is_node_sort (sort_at (part doc k) place) ≡ true
  pub word : get_or (part doc k) place 0 ≡ v

pub child_place : (doc : List ℕ) (k v : ℕ) → has v (children doc k) ≡ true → Child doc k v
unfolding children
child_place doc k v e =
    let w = part doc k in
    let h = some_at (names_at w v) 1 (length w - 1) (sym (has_among w v 1 (length w - 1)) ∙ e) in
    record {
      place = h.0;
      some = h.1;
      most = omega (arith, h.2);
      sort = and_left (is_node_sort (sort_at w h.0)) _ h.3;
      word = eqb-true _ _ (and_right (is_node_sort (sort_at w h.0)) _ h.3);
    }

pub place_child : (doc : List ℕ) (k i : ℕ) → 1 ≤ i → i < length (part doc k) → is_node_sort (sort_at (part doc k) i) ≡ true
    → has (get_or (part doc k) i 0) (children doc k) ≡ true
unfolding children
place_child doc k i p q s =
    let w = part doc k in
    let e : names_at w (get_or w i 0) i ≡ true = rw (s, eq-eqb (get_or w i 0) (get_or w i 0) refl) refl in
    has_among w (get_or w i 0) 1 (length w - 1) ∙ some_true (names_at w (get_or w i 0)) 1 (length w - 1) i p (omega arith) e

-- a child is a lower node
pub child_lower : (doc : List ℕ) → Nodes doc → (k v : ℕ) → 1 ≤ k → k ≤ count doc → has v (children doc k) ≡ true → (1 ≤ v) × (v < k)
child_lower doc n k v p q e =
    let c = child_place doc k v e in
    let o = operand doc k c.place (n.node k p q) c.some c.most c.sort in
    rw (← c.word) (o.some, o.below)

module _ (doc : List ℕ) (k : ℕ) where
  up_to : ℕ → ℕ
  up_to m = occurrences k (joined (children doc) 1 m)

  up_to_next : (m : ℕ) → up_to (suc m) ≡ up_to m + occurrences k (children doc (suc m))
  unfolding up_to
  up_to_next m =
      let e : 1 + m ≡ suc m = omega arith in
      rw (joined_last (children doc) 1 m, e) (occurrences_append k (joined (children doc) 1 m) (children doc (suc m)))

  -- a use by one of the first m nodes is counted
  up_to_some : (m t : ℕ) → 1 ≤ t → t ≤ m → has k (children doc t) ≡ true → 1 ≤ up_to m
  unfolding up_to
  up_to_some m t p q e =
      has_once k (joined (children doc) 1 m) (has_joined k (children doc) 1 m ∙ some_true (λ j. has k (children doc j)) 1 m t p (omega arith) e)

  among_some : (m : ℕ) → 1 ≤ up_to m → (1 ≤ parent_among doc k m) × (has k (children doc (parent_among doc k m)) ≡ true)
  unfolding parent_among up_to joined occurrences
  among_some zero h = absurd (omega arith)
  among_some (suc m) h = go (has k (children doc (suc m))) refl (λ l. among_some m l)
    where
      go : (b : Bool) → has k (children doc (suc m)) ≡ b → (1 ≤ up_to m → (1 ≤ parent_among doc k m) × (has k (children doc (parent_among doc k m)) ≡ true))
          → (1 ≤ cond b (suc m) (parent_among doc k m)) × (has k (children doc (cond b (suc m) (parent_among doc k m))) ≡ true)
      go true e f = (omega arith, e)
      go false e f = f (later (occurrences k (children doc (suc m))) refl)
        where
          later : (n : ℕ) → occurrences k (children doc (suc m)) ≡ n → 1 ≤ up_to m
          later zero x = omega (arith, up_to_next m, x)
          later (suc n) x = absurd (false≢true (sym e ∙ once_has k (children doc (suc m)) (omega (arith, x))))

  among_only : (m t : ℕ) → up_to m ≤ 1 → 1 ≤ t → t ≤ m → has k (children doc t) ≡ true → parent_among doc k m ≡ t
  unfolding parent_among
  among_only zero t u p q e = absurd (omega arith)
  among_only (suc m) t u p q e = go (has k (children doc (suc m))) refl (λ l. among_only m t (omega (arith, up_to_next m)) p l e) (eq-or-lt_of_le q)
    where
      go : (b : Bool) → has k (children doc (suc m)) ≡ b → (t ≤ m → parent_among doc k m ≡ t) → (t ≡ suc m) ⊎ (t < suc m) → cond b (suc m) (parent_among doc k m) ≡ t
      go true x f (inl s) = sym s
      go true x f (inr l) = absurd (omega (arith, up_to_next m, up_to_some m t p (omega arith) e, has_once k (children doc (suc m)) x))
      go false x f (inl s) = absurd (false≢true (sym x ∙ ap (λ (j : ℕ). has k (children doc j)) (sym s) ∙ e))
      go false x f (inr l) = f (omega arith)

  pub parent_some : uses doc k ≡ 1 → (1 ≤ parent doc k) × (has k (children doc (parent doc k)) ≡ true)
  unfolding uses parent up_to
  parent_some e = among_some (count doc) (omega (arith, e))

  pub parent_only : uses doc k ≡ 1 → (t : ℕ) → 1 ≤ t → t ≤ count doc → has k (children doc t) ≡ true → parent doc k ≡ t
  unfolding uses parent up_to
  parent_only e t p q h = among_only (count doc) t (omega (arith, e)) p q h

  among_most : (m : ℕ) → parent_among doc k m ≤ m
  unfolding parent_among
  among_most zero = omega arith
  among_most (suc m) = go (has k (children doc (suc m))) (among_most m)
    where
      go : (b : Bool) → parent_among doc k m ≤ m → cond b (suc m) (parent_among doc k m) ≤ suc m
      go true h = omega arith
      go false h = omega arith

  pub parent_most : parent doc k ≤ count doc
  unfolding parent
  parent_most = among_most (count doc)

-- a parent has a higher number
pub parent_above : (doc : List ℕ) → Nodes doc → (k : ℕ) → uses doc k ≡ 1 → k < parent doc k
parent_above doc n k e =
    let p = parent_some doc k e in
    (child_lower doc n (parent doc k) k p.0 (parent_most doc k) p.1).1

-- whoever has a parent is lower than it, also where nothing is known of uses
among_has : (doc : List ℕ) (k m : ℕ) → (parent_among doc k m ≡ 0 → ⊥) → has k (children doc (parent_among doc k m)) ≡ true
unfolding parent_among
among_has doc k zero h = absurd (h refl)
among_has doc k (suc m) h = go (has k (children doc (suc m))) refl (λ z. among_has doc k m z) h
  where
    go : (b : Bool) → has k (children doc (suc m)) ≡ b → ((parent_among doc k m ≡ 0 → ⊥) → has k (children doc (parent_among doc k m)) ≡ true)
        → (cond b (suc m) (parent_among doc k m) ≡ 0 → ⊥) → has k (children doc (cond b (suc m) (parent_among doc k m))) ≡ true
    go true e f z = e
    go false e f z = f z

pub parent_rises : (doc : List ℕ) → Nodes doc → (k : ℕ) → (parent doc k ≡ 0 → ⊥) → k < parent doc k
unfolding parent
parent_rises doc n k h =
    (child_lower doc n (parent_among doc k (count doc)) k (omega arith) (among_most doc k (count doc)) (among_has doc k (count doc) h)).1
