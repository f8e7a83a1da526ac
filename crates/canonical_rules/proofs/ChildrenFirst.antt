-- A node's operands stand before it among the numbers of a tree; the last number is the Document's.
use mathlib.Core.Path.{◌≡◌, refl, ap, sym, ◌∙◌, subst}
use mathlib.Core.Bool.{Bool, true, false, cond, ◌||◌, false≢true}
use mathlib.Core.List.{List, [], ◌∷◌, ◌++◌, append_assoc}
use Prim.Native.Nat.{ℕ, zero, suc, ◌≤◌, ◌<◌}
use native.Mathlib.Omega.{arith}
use lib.Dec.{eqb}
use lib.ListN.{length, length-append}
use borrow.Author.Tests.{eqb-true, eq-eqb, ne_eqb}
use Rattle.words.specs.Loops.{has}
use Rattle.layout.specs.Layout.{count}
use Rattle.reader_rules.specs.Nodes.{children}
use Rattle.reader_rules.specs.Reading.{read_of}
use Rattle.reader_rules.specs.Refusals.{Readable}
use Rattle.reader_rules.specs.Below.{flat, numbers_at}
use Rattle.reader_rules.proofs.Accepted.{Document, readable}
use Rattle.reader_rules.proofs.Parents.{child_lower}
use Rattle.reader_rules.proofs.TreeChildren.{numbers_at_lem}
use Rattle.reader_rules.proofs.TreeNodes.{tree_numbers}
use Rattle.canonical_rules.specs.Positions.{index_of, Distinct}
use Rattle.words.proofs.Lists.{has_append}
use Rattle.canonical_rules.proofs.Lists.{has_first, has_later, has_left, has_right}
use Rattle.canonical_rules.proofs.SameTrees.{readable_distinct}
use Rattle.canonical_rules.proofs.CanonicalParts.{old_nodes, new_number, new_in, nodes_counted, range_node}

-- where m stands after a list that lacks it
pub index_after : (m : ℕ) (A B : List ℕ) → Distinct (A ++ (m ∷ B)) → index_of m (A ++ (m ∷ B)) ≡ length A
unfolding index_of
index_after m [] B d = ap (λ b. cond b 0 (suc (index_of m B))) (eq-eqb m m refl)
index_after m (x ∷ A) B d =
    ap (λ b. cond b 0 (suc (index_of m (A ++ (m ∷ B))))) (ne_eqb x m (λ e. false≢true (sym d.0 ∙ ap (λ z. has z (A ++ (m ∷ B))) e ∙ has_right m A (m ∷ B) (has_first m B))))
    ∙ ap suc (index_after m A B d.1)

pub index_before : (x : ℕ) (A B : List ℕ) → has x A ≡ true → index_of x (A ++ B) < length A
unfolding index_of has
index_before x [] B h = absurd (false≢true h)
index_before x (y ∷ A) B h = go (λ k. index_before x A B k) (eqb y x) h
  where
    go : (has x A ≡ true → index_of x (A ++ B) < length A) → (b : Bool) → (b || has x A) ≡ true → cond b 0 (suc (index_of x (A ++ B))) < suc (length A)
    go r true k = omega arith
    go r false k = omega (arith, r k)

-- x stands before m
pub record Before (x m : ℕ) (l : List ℕ) : Type 0 where
  pub front : List ℕ
  pub back : List ℕ
  pub whole : l ≡ front ++ (m ∷ back)
  pub there : has x front ≡ true

before_left : (x m : ℕ) (p l : List ℕ) → Before x m l → Before x m (p ++ l)
before_left x m p l b =
    record {
      front = p ++ b.front;
      back = b.back;
      whole = ap (λ z. p ++ z) b.whole ∙ sym (append_assoc p b.front (m ∷ b.back));
      there = has_right x p b.front b.there;
    }

before_right : (x m : ℕ) (l s : List ℕ) → Before x m l → Before x m (l ++ s)
before_right x m l s b =
    record {
      front = b.front;
      back = b.back ++ s;
      whole = ap (λ z. z ++ s) b.whole ∙ append_assoc b.front (m ∷ b.back) s;
      there = b.there;
    }

flat_has : (x c : ℕ) (F : ℕ → List ℕ) (cs : List ℕ) → has c cs ≡ true → has x (F c) ≡ true → has x (flat F cs) ≡ true
unfolding flat has
flat_has x c F [] h k = absurd (false≢true h)
flat_has x c F (y ∷ cs) h k = go (λ q. flat_has x c F cs q k) (eqb y c) refl h
  where
    go : (has c cs ≡ true → has x (flat F cs) ≡ true) → (b : Bool) → eqb y c ≡ b → (b || has c cs) ≡ true → has x (F y ++ flat F cs) ≡ true
    go r true e q = has_left x (F y) (flat F cs) (ap (λ z. has x (F z)) (eqb-true y c e) ∙ k)
    go r false e q = has_right x (F y) (flat F cs) (r q)

before_flat : (x m c : ℕ) (F : ℕ → List ℕ) (cs : List ℕ) → has c cs ≡ true → Before x m (F c) → Before x m (flat F cs)
unfolding flat has
before_flat x m c F [] h k = absurd (false≢true h)
before_flat x m c F (y ∷ cs) h k = go (λ q. before_flat x m c F cs q k) (eqb y c) refl h
  where
    go : (has c cs ≡ true → Before x m (flat F cs)) → (b : Bool) → eqb y c ≡ b → (b || has c cs) ≡ true → Before x m (F y ++ flat F cs)
    go r true e q = before_right x m (F y) (flat F cs) (subst (λ z. Before x m (F z)) (sym (eqb-true y c e)) k)
    go r false e q = before_left x m (F y) (flat F cs) (r q)

flat_from : (m : ℕ) (F : ℕ → List ℕ) (cs : List ℕ) → has m (flat F cs) ≡ true → (c : ℕ) × (has c cs ≡ true) × (has m (F c) ≡ true)
unfolding flat has
flat_from m F [] h = absurd (false≢true h)
flat_from m F (y ∷ cs) h = go (λ q. flat_from m F cs q) (has m (F y)) refl (sym (has_append m (F y) (flat F cs)) ∙ h)
  where
    go : (has m (flat F cs) ≡ true → (c : ℕ) × (has c cs ≡ true) × (has m (F c) ≡ true)) → (b : Bool) → has m (F y) ≡ b → (b || has m (flat F cs)) ≡ true → (c : ℕ) × (has c (y ∷ cs) ≡ true) × (has m (F c) ≡ true)
    go r true e q = (y, has_first y cs, e)
    go r false e q = let s = r q in (s.0, has_later y s.0 cs s.1, s.2)

module _ (doc : List ℕ) (d : Document doc) where
  own_number : (k : ℕ) → 1 ≤ k → k ≤ count doc → has k (numbers_at doc k) ≡ true
  own_number k p q = rw (numbers_at_lem doc k (d.nodes.node k p q)) (has_right k (flat (numbers_at doc) (children doc k)) (k ∷ []) (has_first k []))

  single : (m k : ℕ) → has m (k ∷ []) ≡ true → k ≡ m
  unfolding has
  single m k h = go (eqb k m) refl h
    where
      go : (b : Bool) → eqb k m ≡ b → (b || false) ≡ true → k ≡ m
      go true e q = eqb-true k m e
      go false e q = absurd (false≢true q)

  children_before : (n k : ℕ) → k < n → 1 ≤ k → k ≤ count doc → (m x : ℕ) → has m (numbers_at doc k) ≡ true → has x (children doc m) ≡ true → Before x m (numbers_at doc k)
  children_before zero k l p q m x h c = absurd (omega arith)
  children_before (suc n) k l p q m x h c =
      let e = numbers_at_lem doc k (d.nodes.node k p q) in
      let A = flat (numbers_at doc) (children doc k) in
      subst (λ z. Before x m z) (sym e) (go (has m A) refl (sym (has_append m A (k ∷ [])) ∙ ap (has m) (sym e) ∙ h)
      (λ v y. let b = child_lower doc d.nodes k v p q y in children_before n v (omega (arith, b.1)) b.0 (omega (arith, b.1)) m x))
    where
      go : (b : Bool) → has m (flat (numbers_at doc) (children doc k)) ≡ b → (b || has m (k ∷ [])) ≡ true
          → ((v : ℕ) → has v (children doc k) ≡ true → has m (numbers_at doc v) ≡ true → has x (children doc m) ≡ true → Before x m (numbers_at doc v))
          → Before x m (flat (numbers_at doc) (children doc k) ++ (k ∷ []))
      go true e s r =
          let t = flat_from m (numbers_at doc) (children doc k) e in
          before_right x m (flat (numbers_at doc) (children doc k)) (k ∷ []) (before_flat x m t.0 (numbers_at doc) (children doc k) t.1 (r t.0 t.1 t.2 c))
      go false e s r =
          let y = single m k s in
          let c' = subst (λ z. has x (children doc z) ≡ true) (sym y) c in
          let b = child_lower doc d.nodes k x p q c' in
          record {
            front = flat (numbers_at doc) (children doc k);
            back = [];
            whole = ap (λ z. flat (numbers_at doc) (children doc k) ++ (z ∷ [])) y;
            there = flat_has x x (numbers_at doc) (children doc k) c' (own_number x b.0 (omega (arith, b.1)));
          }

module _ (doc : List ℕ) (read : read_of doc ≡ Readable) where
  -- an operand's new number is lower
  pub child_new : (k x : ℕ) → 1 ≤ k → k ≤ count doc → has x (children doc k) ≡ true → new_number doc read x < new_number doc read k
  child_new k x p q c =
      let d = readable doc read in
      let some = d.nodes.laid.some in
      let l = old_nodes doc read in
      let e : l ≡ numbers_at doc (count doc) = tree_numbers doc read in
      let r = child_lower doc d.nodes k x p q c in
      let m = range_node doc read k p q in
      let b = children_before doc d (suc (count doc)) (count doc) (omega arith) some (omega arith) k x (subst (λ z. has k z ≡ true) e m) c in
      let w : l ≡ b.front ++ (k ∷ b.back) = e ∙ b.whole in
      let i : index_of k l ≡ length b.front = ap (index_of k) w ∙ index_after k b.front b.back (subst Distinct w (readable_distinct doc read)) in
      let j : index_of x l < length b.front = subst (λ z. index_of x z < length b.front) (sym w) (index_before x b.front (k ∷ b.back) b.there) in
      let u = new_in doc read k p q in
      let v = new_in doc read x r.0 (omega (arith, r.1)) in
      omega (arith, u, v, i, j)

  -- the Document is the last
  pub last_new : new_number doc read (count doc) ≡ count doc
  last_new =
      let d = readable doc read in
      let some = d.nodes.laid.some in
      let N = count doc in
      let l = old_nodes doc read in
      let A = flat (numbers_at doc) (children doc N) in
      let w : l ≡ A ++ (N ∷ []) = tree_numbers doc read ∙ numbers_at_lem doc N (d.nodes.node N some (omega arith)) in
      let i : index_of N l ≡ length A = ap (index_of N) w ∙ index_after N A [] (subst Distinct w (readable_distinct doc read)) in
      let n = nodes_counted doc read in
      let a = ap length w ∙ length-append A (N ∷ []) in
      let u = new_in doc read N some (omega arith) in
      omega (arith, u, i, n, a)
