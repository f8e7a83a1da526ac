-- Which operands of a node are its children, by shape.
use mathlib.Core.Path.{◌≡◌, refl, sym, ◌∙◌}
use mathlib.Core.Bool.{Bool, true, false, ◌&&◌, cond, not}
use mathlib.Core.List.{List, [], ◌∷◌, ◌++◌, append-nil, append_assoc}
use Prim.Native.Nat.{ℕ, zero, suc, ◌+◌, ◌-◌, ◌≤◌, ◌<◌}
use native.Mathlib.Omega.{arith}
use lib.Dec.{eqb}
use lib.ListN.{length, get_or}
use borrow.Author.Tests.{eqb-true, not-true}
use Rattle.words.proofs.Loops.{and_left, and_right}
use Rattle.layout.specs.Layout.{part}
use Rattle.reader_rules.specs.Kinds.{cell, sort_at, sort_in, is_node_sort}
use Rattle.reader_rules.specs.Nodes.{kind_at, operand_at, nodes_among, children}
use Rattle.reader_rules.specs.Promise.{At}
use Rattle.reader_rules.specs.Decode.{gather}
use Rattle.reader_rules.specs.Below.{flat, numbers_at}
use Rattle.reader_rules.proofs.Accepted.{readable}
use Rattle.reader_rules.proofs.Operands.{cond_same}
use Rattle.reader_rules.proofs.TreeShape.{AllFrom, all_at}
use Rattle.reader_rules.proofs.TreeCounts.{at_least, at_most}
use Rattle.reader_rules.proofs.TreeChildren.{numbers_at_lem}

pub among_none : (w : List ℕ) (i m : ℕ) → ((j : ℕ) → i ≤ j → j < i + m → is_node_sort (sort_at w j) ≡ false) → nodes_among w i m ≡ []
unfolding nodes_among
among_none w i zero h = refl
among_none w i (suc m) h = rw (h i (omega arith) (omega arith)) (among_none w (suc i) m (λ j p q. h j (omega arith) (omega arith)))

pub among_split : (w : List ℕ) (i m n : ℕ) → nodes_among w i (m + n) ≡ nodes_among w i m ++ nodes_among w (i + m) n
unfolding nodes_among
among_split w i zero n =
    let a : 0 + n ≡ n = omega arith in
    let b : i + 0 ≡ i = omega arith in
    rw (a, b)
among_split w i (suc m) n =
    let a : suc m + n ≡ suc (m + n) = omega arith in
    let b : i + suc m ≡ suc i + m = omega arith in
    rw (a, b, nodes_among) (go (is_node_sort (sort_at w i)) (among_split w (suc i) m n))
  where
    go : (b : Bool) → nodes_among w (suc i) (m + n) ≡ nodes_among w (suc i) m ++ nodes_among w (suc i + m) n
        → cond b (get_or w i 0 ∷ nodes_among w (suc i) (m + n)) (nodes_among w (suc i) (m + n))
        ≡ cond b (get_or w i 0 ∷ nodes_among w (suc i) m) (nodes_among w (suc i) m) ++ nodes_among w (suc i + m) n
    go true e = rw e
    go false e = e

-- the numbers of a list whose operands are nodes: `num` counts the list, one more entry at a time
pub gathered : {A : Type 0} (num : A → List ℕ) (f : ℕ → A → A) (g : ℕ → List ℕ) (w : List ℕ) (i m : ℕ) (z : A)
    → ((j : ℕ) → i ≤ j → j < i + m → is_node_sort (sort_at w j) ≡ true)
    → ((j : ℕ) → i ≤ j → j < i + m → (y : A) → num (f (get_or w j 0) y) ≡ g (get_or w j 0) ++ num y)
    → num (gather f w i m z) ≡ flat g (nodes_among w i m) ++ num z
unfolding gather nodes_among flat
gathered num f g w i zero z s h = refl
gathered num f g w i (suc m) z s h =
    rw (s i (omega arith) (omega arith)) (h i (omega arith) (omega arith) (gather f w (suc i) m z)
    ∙ rw (gathered num f g w (suc i) m z (λ j p q. s j (omega arith) (omega arith)) (λ j p q. h j (omega arith) (omega arith)))
    (sym (append_assoc (g (get_or w i 0)) (flat g (nodes_among w (suc i) m)) (num z))))

-- tests on a kind: one operand, a node; two operands, both nodes
abbrev pub one_child : ℕ → Bool
one_child q = not (eqb q 12) && (eqb (cell q 0) 1 && (eqb (cell q 1) 2 && is_node_sort (sort_in q 1 0 1)))

abbrev pub two_children : ℕ → Bool
two_children q = not (eqb q 12) && (eqb (cell q 0) 2 && (eqb (cell q 1) 3 && (is_node_sort (sort_in q 2 0 1) && is_node_sort (sort_in q 2 0 2))))

-- only in an Include does the third operand say where sorts change
any_count : (q n a i : ℕ) → eqb q 12 ≡ false → sort_in q n a i ≡ sort_in q n 0 i
unfolding sort_in
any_count q n a i e = rw e

-- a node's numbers by its children
module _ (doc : List ℕ) (s k : ℕ) (h : At doc s k) where
  pub by_children : (l : List ℕ) → children doc k ≡ l → (x : List ℕ) → x ≡ flat (numbers_at doc) l → x ++ (k ∷ []) ≡ numbers_at doc k
  by_children l c x e = rw (e, ← c) (sym (numbers_at_lem doc k ((readable doc h.read).nodes.node k h.some h.most)))

  -- a kind with c operands and no other number
  pub exactly : (q c : ℕ) → kind_at doc k ≡ q → cell q 0 ≡ c → cell q 1 ≡ suc c → length (part doc k) ≡ suc c
  exactly q c e a b =
      let m = at_least doc s k h in
      let n = at_most doc s k h in
      let m' : c < length (part doc k) = rw (e, a) at m in
      let n' : length (part doc k) ≤ suc c = rw (e, b) at n in
      omega arith

  module _ (q : ℕ) (e : kind_at doc k ≡ q) where
    -- no child among c operands
    pub leaf_numbers : (c : ℕ) → cell q 0 ≡ c → cell q 1 ≡ suc c → AllFrom (λ j. is_node_sort (sort_in q c (operand_at doc k 3) j) ≡ false) 1 c
        → k ∷ [] ≡ numbers_at doc k
    unfolding children flat
    leaf_numbers c a b f =
        let d : length (part doc k) - 1 ≡ c = omega (arith, exactly q c e a b) in
        let g = all_at (λ j. is_node_sort (sort_in q c (operand_at doc k 3) j) ≡ false) 1 c f in
        by_children [] (rw d (among_none (part doc k) 1 c (λ j x y. rw (e, d) (g j x y)))) [] refl

    -- one operand, a child; two operands, both children
    pub one_numbers : one_child q ≡ true → (x : List ℕ) → x ≡ numbers_at doc (operand_at doc k 1) → x ++ (k ∷ []) ≡ numbers_at doc k
    unfolding children nodes_among flat
    one_numbers r x y =
        let c = and_right (not (eqb q 12)) _ r in
        let d = and_right (eqb (cell q 0) 1) _ c in
        let f = any_count q 1 (operand_at doc k 3) 1 (not-true _ (and_left (not (eqb q 12)) _ r)) in
        let g : is_node_sort (sort_in q 1 0 1) ≡ true = and_right (eqb (cell q 1) 2) _ d in
        let l = exactly q 1 e (eqb-true _ _ (and_left (eqb (cell q 0) 1) _ c)) (eqb-true _ _ (and_left (eqb (cell q 1) 2) _ d)) in
        by_children (operand_at doc k 1 ∷ []) (rw (l, l, e, f, g)) x (y ∙ sym (append-nil (numbers_at doc (operand_at doc k 1))))

    pub two_numbers : two_children q ≡ true
        → (x y : List ℕ) → x ≡ numbers_at doc (operand_at doc k 1) → y ≡ numbers_at doc (operand_at doc k 2) → (x ++ y) ++ (k ∷ []) ≡ numbers_at doc k
    unfolding children nodes_among flat
    two_numbers r x y u v =
        let z = not-true _ (and_left (not (eqb q 12)) _ r) in
        let c = and_right (not (eqb q 12)) _ r in
        let d = and_right (eqb (cell q 0) 2) _ c in
        let m = and_right (eqb (cell q 1) 3) _ d in
        let f₁ = any_count q 2 (operand_at doc k 3) 1 z in
        let f₂ = any_count q 2 (operand_at doc k 3) 2 z in
        let g₁ : is_node_sort (sort_in q 2 0 1) ≡ true = and_left (is_node_sort (sort_in q 2 0 1)) _ m in
        let g₂ : is_node_sort (sort_in q 2 0 2) ≡ true = and_right (is_node_sort (sort_in q 2 0 1)) _ m in
        let l = exactly q 2 e (eqb-true _ _ (and_left (eqb (cell q 0) 2) _ c)) (eqb-true _ _ (and_left (eqb (cell q 1) 3) _ d)) in
        by_children (operand_at doc k 1 ∷ operand_at doc k 2 ∷ []) (rw (l, l, e, f₁, f₂, g₁, g₂)) (x ++ y) (rw (u, v, append-nil (numbers_at doc (operand_at doc k 2))))

-- more than one operand: the first, and the others
module _ (doc : List ℕ) (k : ℕ) (g : 2 ≤ length (part doc k)) where
  pub first_child : is_node_sort (sort_at (part doc k) 1) ≡ true → children doc k ≡ operand_at doc k 1 ∷ nodes_among (part doc k) 2 (length (part doc k) - 2)
  unfolding children nodes_among
  first_child f = let m : length (part doc k) - 1 ≡ suc (length (part doc k) - 2) = omega arith in rw (m, f)

  pub first_plain : is_node_sort (sort_at (part doc k) 1) ≡ false → children doc k ≡ nodes_among (part doc k) 2 (length (part doc k) - 2)
  unfolding children nodes_among
  first_plain f = let m : length (part doc k) - 1 ≡ suc (length (part doc k) - 2) = omega arith in rw (m, f)

among_one : (w : List ℕ) (j : ℕ) → is_node_sort (sort_at w j) ≡ true → nodes_among w j 1 ≡ get_or w j 0 ∷ []
unfolding nodes_among
among_one w j e = rw e

-- 4 and 5: the last operand is the only child
pub last_child : (doc : List ℕ) (k i : ℕ) → length (part doc k) ≡ i + 1 → 1 ≤ i
    → ((j : ℕ) → 1 ≤ j → j < i → is_node_sort (sort_at (part doc k) j) ≡ false) → is_node_sort (sort_at (part doc k) i) ≡ true → children doc k ≡ operand_at doc k i ∷ []
unfolding children
last_child doc k i l p f g =
    let w = part doc k in
    let m : length w - 1 ≡ (i - 1) + 1 = omega arith in
    let n : 1 + (i - 1) ≡ i = omega arith in
    rw m (among_split w 1 (i - 1) 1 ∙ rw (among_none w 1 (i - 1) (λ j a b. f j a (omega arith)), n) (among_one w i g))

-- 12: the a operands after the third, of those before n
pub middle_children : (w : List ℕ) (a r : ℕ) → nodes_among w 1 3 ≡ [] → ((j : ℕ) → 4 + a ≤ j → is_node_sort (sort_at w j) ≡ false) → nodes_among w 1 (3 + (a + r)) ≡ nodes_among w 4 a
middle_children w a r e f =
    among_split w 1 3 (a + r)
    ∙ rw (e, among_split w 4 a r, among_none w (4 + a) r (λ j p q. f j p)) (append-nil (nodes_among w 4 a))

-- the sort of an operand, where a row gives one sort to all, or none of its sorts is a node's
pub same_sort : (b₁ b₂ b₃ : Bool) (t : ℕ) → cond b₁ (cond b₂ t (cond b₃ t t)) (cond b₂ t (cond b₃ t t)) ≡ t
same_sort b₁ b₂ b₃ t = rw (cond_same b₃ t, cond_same b₂ t) (cond_same b₁ t)

pub no_node : (b₁ b₂ : Bool) (x y z : ℕ) → is_node_sort x ≡ false → is_node_sort y ≡ false → is_node_sort z ≡ false → is_node_sort (cond b₁ x (cond b₂ y z)) ≡ false
no_node true b₂ x y z e f g = e
no_node false true x y z e f g = f
no_node false false x y z e f g = g
