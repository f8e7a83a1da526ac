-- Laws of positions: a list's numbers to their places, counted from 1, and back.
use mathlib.Core.Path.{◌≡◌, refl, ap, sym, ◌∙◌, subst}
use mathlib.Core.Bool.{Bool, true, false, cond, ◌||◌, false≢true}
use mathlib.Core.List.{List, [], ◌∷◌, map}
use Prim.Native.Nat.{ℕ, zero, suc, ◌+◌, ◌-◌, ◌≤◌, ◌<◌}
use native.Mathlib.Omega.{arith}
use lib.Dec.{ltb, eqb}
use lib.ListN.{length, get_or, length-map}
use lib.Seq.{ext_get_or}
use borrow.Author.Tests.{eqb-true, eq-eqb, ne_eqb, lt-ltb, le-ltb, ltb-true, ltb-false}
use Rattle.words.specs.Loops.{has, occurrences}
use Rattle.canonical_rules.specs.Positions.{index_of, Distinct, carry, InjectiveOn}
use Rattle.words.proofs.Lists.{has_once}
use Rattle.canonical_rules.proofs.Lists.{has_first, has_later, map_at, Along, along_from}
use Rattle.canonical_rules.proofs.Renumbered.{Gives, Places}

pub index_found : (l : List ℕ) (n : ℕ) → index_of n l < length l → get_or l (index_of n l) 0 ≡ n
unfolding index_of
index_found [] n h = absurd (omega arith)
index_found (x ∷ l) n h = go (λ k. index_found l n k) (eqb x n) refl h
  where
    go : (index_of n l < length l → get_or l (index_of n l) 0 ≡ n) → (b : Bool) → eqb x n ≡ b → cond b 0 (suc (index_of n l)) < suc (length l) → get_or (x ∷ l) (cond b 0 (suc (index_of n l))) 0 ≡ n
    go r true e k = eqb-true x n e
    go r false e k = r (omega arith)

pub has_index : (l : List ℕ) (n : ℕ) → has n l ≡ true → index_of n l < length l
unfolding index_of has
has_index [] n h = absurd (false≢true h)
has_index (x ∷ l) n h = go (λ k. has_index l n k) (eqb x n) h
  where
    go : (has n l ≡ true → index_of n l < length l) → (b : Bool) → (b || has n l) ≡ true → cond b 0 (suc (index_of n l)) < suc (length l)
    go r true k = omega arith
    go r false k = omega (arith, r k)

pub index_has : (l : List ℕ) (n : ℕ) → index_of n l < length l → has n l ≡ true
unfolding index_of has
index_has [] n h = absurd (omega arith)
index_has (x ∷ l) n h = go (λ k. index_has l n k) (eqb x n) h
  where
    go : (index_of n l < length l → has n l ≡ true) → (b : Bool) → cond b 0 (suc (index_of n l)) < suc (length l) → (b || has n l) ≡ true
    go r true k = refl
    go r false k = r (omega arith)

pub has_at : (l : List ℕ) (i : ℕ) → i < length l → has (get_or l i 0) l ≡ true
has_at [] i h = absurd (omega arith)
has_at (x ∷ l) zero h = has_first x l
has_at (x ∷ l) (suc i) h = has_later x (get_or l i 0) l (has_at l i (omega arith))

apart : (l : List ℕ) (x y : ℕ) → has x l ≡ false → has y l ≡ true → x ≡ y → ⊥
apart l x y p q e = false≢true (sym p ∙ ap (λ z. has z l) e ∙ q)

pub index_at : (l : List ℕ) → Distinct l → (i : ℕ) → i < length l → index_of (get_or l i 0) l ≡ i
unfolding index_of
index_at [] d i h = absurd (omega arith)
index_at (x ∷ l) d zero h = ap (λ b. cond b 0 (suc (index_of x l))) (eq-eqb x x refl)
index_at (x ∷ l) d (suc i) h =
    ap (λ b. cond b 0 (suc (index_of (get_or l i 0) l))) (ne_eqb x (get_or l i 0) (apart l x (get_or l i 0) d.0 (has_at l i (omega arith))))
    ∙ ap suc (index_at l d.1 i (omega arith))

-- To the places from 1 on, and back; numbers that do not stand in the list go past the places, c further.
module _ (c : ℕ) (l : List ℕ) where
  pub to_place : ℕ → ℕ
  to_place n = cond (ltb (index_of n l) (length l)) (suc (index_of n l)) (suc (c + (length l + n)))

  pub from_place : ℕ → ℕ
  from_place m = cond (ltb (length l) m) (m - suc (c + length l)) (get_or l (m - 1) 0)

  pub place_in : (n : ℕ) → index_of n l < length l → to_place n ≡ suc (index_of n l)
  unfolding to_place
  place_in n h = ap (λ b. cond b (suc (index_of n l)) (suc (c + (length l + n)))) (lt-ltb _ _ h)

  pub place_out : (n : ℕ) → length l ≤ index_of n l → to_place n ≡ suc (c + (length l + n))
  unfolding to_place
  place_out n h = ap (λ b. cond b (suc (index_of n l)) (suc (c + (length l + n)))) (le-ltb _ _ h)

  pub from_in : (m : ℕ) → m ≤ length l → from_place m ≡ get_or l (m - 1) 0
  unfolding from_place
  from_in m h = ap (λ b. cond b (m - suc (c + length l)) (get_or l (m - 1) 0)) (le-ltb _ _ h)

  pub from_out : (m : ℕ) → length l < m → from_place m ≡ m - suc (c + length l)
  unfolding from_place
  from_out m h = ap (λ b. cond b (m - suc (c + length l)) (get_or l (m - 1) 0)) (lt-ltb _ _ h)

  pub place_some : (n : ℕ) → to_place n ≡ 0 → ⊥
  unfolding to_place
  place_some n e = go (ltb (index_of n l) (length l)) e
    where
      go : (b : Bool) → cond b (suc (index_of n l)) (suc (c + (length l + n))) ≡ 0 → ⊥
      go true k = omega (arith, k)
      go false k = omega (arith, k)

  less_one : (i : ℕ) → suc i - 1 ≡ i
  less_one i = omega arith

  pub place_back : (n : ℕ) → from_place (to_place n) ≡ n
  place_back n = go (ltb (index_of n l) (length l)) refl
    where
      go : (b : Bool) → ltb (index_of n l) (length l) ≡ b → from_place (to_place n) ≡ n
      go true e =
          let h = ltb-true _ _ e in
          ap from_place (place_in n h) ∙ from_in (suc (index_of n l)) h ∙ ap (λ i. get_or l i 0) (less_one (index_of n l)) ∙ index_found l n h
      go false e =
          let h = ltb-false _ _ e in
          ap from_place (place_out n h) ∙ from_out (suc (c + (length l + n))) (omega arith) ∙ past c (length l) n
        where
          past : (a b n : ℕ) → suc (a + (b + n)) - suc (a + b) ≡ n
          past a b n = omega arith

  pub places : Distinct l → Along (Places to_place) 1 l
  places d = along_from (Places to_place) 0 l 1 (λ i h. place_in (get_or l i 0) (subst (λ z. z < length l) (sym (index_at l d i h)) h) ∙ ap suc (index_at l d i h) ∙ one_more i)
    where
      one_more : (i : ℕ) → suc i ≡ 1 + i
      one_more i = omega arith

  pub gives : Along (Gives from_place) 1 l
  gives = along_from (Gives from_place) 0 l 1 (λ i h. from_in (1 + i) (omega arith) ∙ ap (λ z. get_or l z 0) (one_less i))
    where
      one_less : (i : ℕ) → 1 + i - 1 ≡ i
      one_less i = omega arith

pub carry_in : (l m : List ℕ) (n : ℕ) → index_of n l < length l → carry l m n ≡ get_or m (index_of n l) 0
unfolding carry
carry_in l m n h = ap (λ b. cond b (get_or m (index_of n l) 0) n) (lt-ltb _ _ h)

pub carry_out : (l m : List ℕ) (n : ℕ) → length l ≤ index_of n l → carry l m n ≡ n
unfolding carry
carry_out l m n h = ap (λ b. cond b (get_or m (index_of n l) 0) n) (le-ltb _ _ h)

-- to the places of one list and back from those of the other
pub carried : (c : ℕ) (l m : List ℕ) → length l ≡ length m → (n : ℕ) → from_place c m (to_place c l n) ≡ carry l m n
carried c l m q n = go (ltb (index_of n l) (length l)) refl
  where
    go : (b : Bool) → ltb (index_of n l) (length l) ≡ b → from_place c m (to_place c l n) ≡ carry l m n
    go true e =
        let h = ltb-true _ _ e in
        ap (from_place c m) (place_in c l n h) ∙ from_in c m (suc (index_of n l)) (omega arith) ∙ ap (λ i. get_or m i 0) (less (index_of n l)) ∙ sym (carry_in l m n h)
      where
        less : (i : ℕ) → suc i - 1 ≡ i
        less i = omega arith
    go false e =
        let h = ltb-false _ _ e in
        ap (from_place c m) (place_out c l n h) ∙ from_out c m (suc (c + (length l + n))) (omega arith) ∙ past ∙ sym (carry_out l m n h)
      where
        past : suc (c + (length l + n)) - suc (c + length m) ≡ n
        past = omega arith

-- each number of the list goes to the number in its place
carry_all : (l m : List ℕ) → Distinct l → length l ≡ length m → (i : ℕ) → i < length l → carry l m (get_or l i 0) ≡ get_or m i 0
carry_all l m d q i h =
    let e = index_at l d i h in
    carry_in l m (get_or l i 0) (subst (λ z. z < length l) (sym e) h) ∙ ap (λ z. get_or m z 0) e

pub carry_map : (l m : List ℕ) → Distinct l → length l ≡ length m → map (carry l m) l ≡ m
carry_map l m d q =
    ext_get_or 0 (map (carry l m) l) m (length-map l (carry l m) ∙ q)
    (λ i h. let k : i < length l = subst (λ z. i < z) (length-map l (carry l m)) h in map_at (carry l m) l i 0 0 k ∙ carry_all l m d q i k)

-- back again
pub carry_back : (l m : List ℕ) → Distinct m → length l ≡ length m → (n : ℕ) → has n l ≡ true → carry m l (carry l m n) ≡ n
carry_back l m d q n h =
    let k = has_index l n h in
    let j = subst (λ z. index_of n l < z) q k in
    let e = index_at m d (index_of n l) j in
    ap (carry m l) (carry_in l m n k)
    ∙ carry_in m l (get_or m (index_of n l) 0) (subst (λ z. z < length m) (sym e) j)
    ∙ ap (λ z. get_or l z 0) e
    ∙ index_found l n k

pub carry_injective : (l m : List ℕ) → Distinct m → length l ≡ length m → InjectiveOn l (carry l m)
carry_injective l m d q n k a b e = sym (carry_back l m d q n a) ∙ ap (carry m l) e ∙ carry_back l m d q k b

-- a function that is injective on the list is a carrying
pub carry_of : (f : ℕ → ℕ) (l : List ℕ) (n : ℕ) → has n l ≡ true → carry l (map f l) n ≡ f n
carry_of f l n h = let k = has_index l n h in carry_in l (map f l) n k ∙ map_at f l (index_of n l) 0 0 k ∙ ap f (index_found l n k)

has_mapped : (f : ℕ → ℕ) (l : List ℕ) (y : ℕ) → has y (map f l) ≡ true → (n : ℕ) × (has n l ≡ true) × (f n ≡ y)
unfolding has
has_mapped f [] y h = absurd (false≢true h)
has_mapped f (x ∷ l) y h = go (λ k. has_mapped f l y k) (eqb (f x) y) refl h
  where
    go : (has y (map f l) ≡ true → (n : ℕ) × (has n l ≡ true) × (f n ≡ y)) → (b : Bool) → eqb (f x) y ≡ b → (b || has y (map f l)) ≡ true → (n : ℕ) × ((eqb x n || has n l) ≡ true) × (f n ≡ y)
    go q true e k = (x, has_first x l, eqb-true (f x) y e)
    go q false e k = let r = q k in (r.0, has_later x r.0 l r.1, r.2)

pub distinct_map : (f : ℕ → ℕ) (l : List ℕ) → Distinct l → InjectiveOn l f → Distinct (map f l)
distinct_map f [] d j = tt
distinct_map f (x ∷ l) d j = (none (has (f x) (map f l)) refl, distinct_map f l d.1 (λ n m a b e. j n m (has_later x n l a) (has_later x m l b) e))
  where
    none : (b : Bool) → has (f x) (map f l) ≡ b → b ≡ false
    none true e = let r = has_mapped f l (f x) e in absurd (apart l x r.0 d.0 r.1 (j x r.0 (has_first x l) (has_later x r.0 l r.1) (sym r.2)))
    none false e = refl

-- each at most once
pub once_distinct : (l : List ℕ) → ((k : ℕ) → occurrences k l ≤ 1) → Distinct l
unfolding occurrences
once_distinct [] h = tt
once_distinct (x ∷ l) h = (go (has x l) refl, once_distinct l (λ k. le_trans_plus (cond (eqb x k) 1 0) (occurrences k l) (h k)))
  where
    le_trans_plus : (a b : ℕ) → a + b ≤ 1 → b ≤ 1
    le_trans_plus a b k = omega arith

    go : (b : Bool) → has x l ≡ b → b ≡ false
    go true e =
        let k : cond (eqb x x) 1 0 + occurrences x l ≤ 1 = h x in
        let m : 1 + occurrences x l ≤ 1 = subst (λ b. cond b 1 0 + occurrences x l ≤ 1) (eq-eqb x x refl) k in
        absurd (omega (arith, has_once x l e))
    go false e = refl
