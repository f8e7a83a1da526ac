-- The canonical words of a readable document pass findings 12 to 15: what holds of a node holds of its new number.
use mathlib.Core.Path.{◌≡◌, refl, ap, ap₂, sym, ◌∙◌}
use mathlib.Core.Bool.{Bool, true, false, cond, ◌&&◌}
use mathlib.Core.List.{List, [], ◌∷◌, map}
use Prim.Native.Nat.{ℕ, zero, suc, ◌+◌, ◌-◌, ◌≤◌, ◌<◌}
use native.Mathlib.Omega.{arith}
use native.Mathlib.Decide.{dec_lt, ℕ_discrete}
use lib.Dec.{leb, ltb, eqb}
use lib.ListN.{length, get_or, get_or-eq_default}
use borrow.Author.Tests.{leb-true, le-leb, eqb-true, eq-eqb, ne_eqb, lt-ltb, le-ltb, ltb-true}
use Rattle.words.specs.Loops.{occurrences, total, every, joined}
use Rattle.words.proofs.Loops.{and_left, and_right, every_at}
use Rattle.words.proofs.Lists.{occurrences_append}
use Rattle.layout.specs.Layout.{count, part}
use Rattle.reader_rules.specs.Kinds.{cell, listed, sort_in, sort_at, count_row, count_by, count_in, count_ok, plain_ok, of_sort, between, is_node_sort, counts}
use Rattle.reader_rules.specs.Nodes.{kind_at, nodes_among, children, uses}
use Rattle.reader_rules.specs.Findings.{plain_at, plain_words, lower_ok, lower_at, lower_nodes, use_number}
use Rattle.reader_rules.specs.Reading.{read_of}
use Rattle.reader_rules.specs.Refusals.{Readable}
use Rattle.reader_rules.proofs.Accepted.{Sound, Document, readable, operand, used_once, last_document, some_words}
use Rattle.reader_rules.proofs.Scan.{cond_zero}
use Rattle.reader_rules.proofs.TreeShape.{all_at}
use Rattle.reader_rules.proofs.Occurrences.{sum_of, total_same}
use Rattle.reader_rules.proofs.Parents.{place_child}
use Rattle.canonical_rules.specs.RowMap.{map_row}
use Rattle.canonical_rules.proofs.Lists.{occurrences_map, Along}
use Rattle.canonical_rules.proofs.Renumbered.{Places}
use Rattle.canonical_rules.proofs.Positions.{places, place_some}
use Rattle.canonical_rules.proofs.SameTrees.{readable_distinct}
use Rattle.canonical_rules.proofs.RowMaps.{row_length, row_kind, row_at}
use Rattle.canonical_rules.proofs.CanonicalParts.{old_nodes, new_number, canonical, node_sum, nodes_counted, new_range, new_injective, count_same, part_new}
use Rattle.canonical_rules.proofs.ChildrenFirst.{child_new, last_new}

pub below_other : (a b : ℕ) → a ≤ b → (a ≡ b → ⊥) → a < b
below_other a b l n = omega arith

pub every_of : (f : ℕ → Bool) (i m : ℕ) → ((j : ℕ) → i ≤ j → j < i + m → f j ≡ true) → every f i m ≡ true
unfolding every
every_of f i zero h = refl
every_of f i (suc m) h = rw (h i (omega arith) (omega arith)) (every_of f (suc i) m (λ j p q. h j (omega arith) (omega arith)))

-- only in an Include does the third operand say where sorts change
any_count : (q n a i : ℕ) → eqb q 12 ≡ false → sort_in q n a i ≡ sort_in q n 0 i
unfolding sort_in
any_count q n a i e = rw e

include_third : (n a : ℕ) → is_node_sort (sort_in 12 n a 3) ≡ false
unfolding sort_in cell
include_third n a = refl

-- A ROW AND ITS MAPPING have the same sorts, and the same plain words.
module _ (f : ℕ → ℕ) (v : List ℕ) where
  third_same : (q : ℕ) → get_or v 0 0 ≡ q → eqb q 12 ≡ true → get_or (map_row f v) 3 0 ≡ get_or v 3 0
  third_same q e t = go (dec_lt 3 (length v))
    where
      go : Dec (3 < length v) → get_or (map_row f v) 3 0 ≡ get_or v 3 0
      go (yes l) =
          row_at f v 3 (omega arith) l
          ∙ ap (λ b. cond b (f (get_or v 3 0)) (get_or v 3 0)) (ap (λ z. is_node_sort (sort_in z (length v - 1) (get_or v 3 0) 3)) (e ∙ eqb-true q 12 t) ∙ include_third (length v - 1) (get_or v 3 0))
      go (no l) =
          let n = row_length f v in
          get_or-eq_default (map_row f v) 0 {n = 3} (omega (arith, n)) ∙ sym (get_or-eq_default v 0 {n = 3} (omega arith))

  pub sort_same : (j : ℕ) → sort_at (map_row f v) j ≡ sort_at v j
  sort_same j =
      let k = row_kind f v in
      let n = row_length f v in
      ap₂ (λ q m. sort_in q (m - 1) (get_or (map_row f v) 3 0) j) k n ∙ go (eqb (get_or v 0 0) 12) refl
    where
      go : (b : Bool) → eqb (get_or v 0 0) 12 ≡ b → sort_in (get_or v 0 0) (length v - 1) (get_or (map_row f v) 3 0) j ≡ sort_in (get_or v 0 0) (length v - 1) (get_or v 3 0) j
      go true e = ap (λ a. sort_in (get_or v 0 0) (length v - 1) a j) (third_same (get_or v 0 0) refl e)
      go false e = any_count (get_or v 0 0) (length v - 1) (get_or (map_row f v) 3 0) j e ∙ sym (any_count (get_or v 0 0) (length v - 1) (get_or v 3 0) j e)

  pub node_word : (j : ℕ) → 1 ≤ j → j < length v → is_node_sort (sort_at v j) ≡ true → get_or (map_row f v) j 0 ≡ f (get_or v j 0)
  node_word j p q e = row_at f v j p q ∙ ap (λ b. cond b (f (get_or v j 0)) (get_or v j 0)) e

  pub plain_word : (j : ℕ) → 1 ≤ j → j < length v → is_node_sort (sort_at v j) ≡ false → get_or (map_row f v) j 0 ≡ get_or v j 0
  plain_word j p q e = row_at f v j p q ∙ ap (λ b. cond b (f (get_or v j 0)) (get_or v j 0)) e

  -- the operands that are nodes
  among_mapped : (m i : ℕ) → 1 ≤ i → i + m ≤ length v → nodes_among (map_row f v) i m ≡ map f (nodes_among v i m)
  unfolding nodes_among
  among_mapped zero i p q = refl
  among_mapped (suc m) i p q =
      ap (λ b. cond b (get_or (map_row f v) i 0 ∷ nodes_among (map_row f v) (suc i) m) (nodes_among (map_row f v) (suc i) m)) (ap is_node_sort (sort_same i))
      ∙ go (is_node_sort (sort_at v i)) refl (among_mapped m (suc i) (omega arith) (omega arith))
    where
      go : (b : Bool) → is_node_sort (sort_at v i) ≡ b → nodes_among (map_row f v) (suc i) m ≡ map f (nodes_among v (suc i) m)
          → cond b (get_or (map_row f v) i 0 ∷ nodes_among (map_row f v) (suc i) m) (nodes_among (map_row f v) (suc i) m) ≡ map f (cond b (get_or v i 0 ∷ nodes_among v (suc i) m) (nodes_among v (suc i) m))
      go true e r = ap₂ (λ x l. x ∷ l) (node_word i p (omega arith) e) r
      go false e r = r

  pub count_ok_lem : 1 ≤ length v → (between 4 (get_or v 0 0) 5 ≡ true → get_or (map_row f v) 2 0 ≡ get_or v 2 0) → count_ok v ≡ true → count_ok (map_row f v) ≡ true
  unfolding count_by
  count_ok_lem l two h =
      let k = row_kind f v in
      let n = row_length f v in
      ap₂ (λ q m. count_in q (m - 1) (get_or (map_row f v) 2 0) (get_or (map_row f v) 3 0)) k n
      ∙ ap (λ z. count_row (get_or v 0 0) (length v - 1) && z) (go (eqb (get_or v 0 0) 12) refl)
      ∙ h
    where
      rest : (b : Bool) → (b ≡ true → get_or (map_row f v) 2 0 ≡ get_or v 2 0) → cond b (eqb (length v - 1) (get_or (map_row f v) 2 0 + 3)) true ≡ cond b (eqb (length v - 1) (get_or v 2 0 + 3)) true
      rest true e = ap (λ p. eqb (length v - 1) (p + 3)) (e refl)
      rest false e = refl

      go : (b : Bool) → eqb (get_or v 0 0) 12 ≡ b → count_by (get_or v 0 0) (length v - 1) (get_or (map_row f v) 2 0) (get_or (map_row f v) 3 0) ≡ count_by (get_or v 0 0) (length v - 1) (get_or v 2 0) (get_or v 3 0)
      go true e = rw (e) (ap (λ a. leb (a + 3) (length v - 1) && (eqb (Prim.Native.Nat.◌%◌ (length v - 1 - (a + 3)) 2) 0 && leb (length v - 1 - (a + 3)) 12)) (third_same (get_or v 0 0) refl e))
      go false e = rw (e) (rest (between 4 (get_or v 0 0) 5) two)

-- a node sort has no range
plain_node : (s v : ℕ) → is_node_sort s ≡ true → plain_ok s v ≡ true
unfolding plain_ok
plain_node s v e =
    let l = ltb-true counts s e in
    rw (ne_eqb s 1 (λ z. omega arith), ne_eqb s 2 (λ z. omega arith), ne_eqb s 3 (λ z. omega arith), ne_eqb s 4 (λ z. omega arith), ne_eqb s 5 (λ z. omega arith)) refl

second_plain : (q n a : ℕ) → 4 ≤ q → q ≤ 5 → 3 ≤ n → is_node_sort (sort_in q n a 2) ≡ false
second_plain q n a l u p = all_at (λ q. is_node_sort (sort_in q n a 2) ≡ false) 4 2 (at4, (at5, tt)) q l (omega arith)
  where
    at4 : is_node_sort (sort_in 4 n a 2) ≡ false
    at4 = unfold sort_in cell in rw (ne_eqb 2 n (λ z. omega arith)) refl

    at5 : is_node_sort (sort_in 5 n a 2) ≡ false
    at5 = unfold sort_in cell in rw (ne_eqb 2 n (λ z. omega arith)) refl

pub occurrences_joined : (x : ℕ) (g : ℕ → List ℕ) (i m : ℕ) → occurrences x (joined g i m) ≡ total (λ j. occurrences x (g j)) i m
unfolding joined total occurrences
occurrences_joined x g i zero = refl
occurrences_joined x g i (suc m) = occurrences_append x (g i) (joined g (suc i) m) ∙ ap (λ n. occurrences x (g i) + n) (occurrences_joined x g (suc i) m)

along_total : (h G : ℕ → ℕ) (l : List ℕ) (o : ℕ) → Along (Places h) o l → sum_of (λ k. G (h k)) l ≡ total G o (length l)
unfolding sum_of total
along_total h G [] o a = refl
along_total h G (x ∷ l) o a = ap₂ (λ y z. G y + z) a.0 (along_total h G l (suc o) a.1)

module _ (doc : List ℕ) (read : read_of doc ≡ Readable) where
  d : Document doc
  d = readable doc read

  -- a sum over all nodes may go by old numbers
  pub new_total : (G : ℕ → ℕ) → total G 1 (count doc) ≡ total (λ k. G (new_number doc read k)) 1 (count doc)
  unfolding new_number
  new_total G =
      ap (total G 1) (sym (nodes_counted doc read))
      ∙ sym (along_total (new_number doc read) G (old_nodes doc read) 1 (places 0 (old_nodes doc read) (readable_distinct doc read)))
      ∙ node_sum doc read (λ k. G (new_number doc read k))

  module _ (k : ℕ) (p : 1 ≤ k) (q : k ≤ count doc) where
    pub kind_new : kind_at (canonical doc read) (new_number doc read k) ≡ kind_at doc k
    kind_new = ap (λ w. get_or w 0 0) (part_new doc read k p q) ∙ row_kind (new_number doc read) (part doc k)

    pub children_new : children (canonical doc read) (new_number doc read k) ≡ map (new_number doc read) (children doc k)
    unfolding children
    children_new =
        let f = new_number doc read in
        let v = part doc k in
        let l = some_words doc k d.nodes.laid p q in
        ap (λ w. nodes_among w 1 (length w - 1)) (part_new doc read k p q)
        ∙ ap (λ m. nodes_among (map_row f v) 1 (m - 1)) (row_length f v)
        ∙ among_mapped f v (length v - 1) 1 (omega arith) (omega (arith, l))

  module _ (k : ℕ) (p : 1 ≤ k) (q : k ≤ count doc) where
    pub uses_new : uses (canonical doc read) (new_number doc read k) ≡ uses doc k
    unfolding uses
    uses_new =
        let f = new_number doc read in
        let c = canonical doc read in
        ap (λ m. occurrences (f k) (joined (children c) 1 m)) (count_same doc read)
        ∙ occurrences_joined (f k) (children c) 1 (count doc)
        ∙ new_total (λ i. occurrences (f k) (children c i))
        ∙ total_same (λ j. occurrences (f k) (children c (f j))) (λ j. occurrences k (children doc j)) 1 (count doc)
        (λ j a b. ap (occurrences (f k)) (children_new j a (omega arith)) ∙ occurrences_map f (new_injective doc read) k (children doc j))
        ∙ sym (occurrences_joined k (children doc) 1 (count doc))

  pub new_some : (k : ℕ) → new_number doc read k ≡ 0 → ⊥
  unfolding new_number
  new_some k e = place_some 0 (old_nodes doc read) k e

  -- 12, 13, 14
  module _ (k : ℕ) (p : 1 ≤ k) (q : k ≤ count doc) where
    s : Sound doc k
    s = d.nodes.node k p q

    long : 1 ≤ length (part doc k)
    long = some_words doc k d.nodes.laid p q

    -- 4 and 5: the parameter count
    pub defined_long : between 4 (kind_at doc k) 5 ≡ true → length (part doc k) ≡ get_or (part doc k) 2 0 + 4
    unfolding count_by
    defined_long e =
        let u : kind_at doc k ≤ 5 = leb-true (kind_at doc k) 5 (and_right (leb 4 (kind_at doc k)) _ e) in
        let x = and_right (count_row (kind_at doc k) (length (part doc k) - 1)) _ s.counted in
        let y = rw (ne_eqb (kind_at doc k) 12 (λ z. omega arith), e) at x in
        omega (arith, eqb-true (length (part doc k) - 1) (get_or (part doc k) 2 0 + 3) y, long)

    pub three : between 4 (kind_at doc k) 5 ≡ true → 4 ≤ length (part doc k)
    three e = let l = defined_long e in omega (arith, l)

    pub two_plain : between 4 (kind_at doc k) 5 ≡ true → get_or (map_row (new_number doc read) (part doc k)) 2 0 ≡ get_or (part doc k) 2 0
    two_plain e =
        let l : 4 ≤ kind_at doc k = leb-true 4 (kind_at doc k) (and_left (leb 4 (kind_at doc k)) _ e) in
        let u : kind_at doc k ≤ 5 = leb-true (kind_at doc k) 5 (and_right (leb 4 (kind_at doc k)) _ e) in
        let t = three e in
        plain_word (new_number doc read) (part doc k) 2 (omega arith) (omega arith) (second_plain (kind_at doc k) (length (part doc k) - 1) (get_or (part doc k) 3 0) l u (omega arith))

    plain_new : (j : ℕ) → 1 ≤ j → j < length (part doc k) → plain_at (map_row (new_number doc read) (part doc k)) j ≡ true
    plain_new j a b = ap (λ t. plain_ok t (get_or (map_row (new_number doc read) (part doc k)) j 0)) (sort_same (new_number doc read) (part doc k) j) ∙ go (is_node_sort (sort_at (part doc k) j)) refl
      where
        go : (c : Bool) → is_node_sort (sort_at (part doc k) j) ≡ c → plain_ok (sort_at (part doc k) j) (get_or (map_row (new_number doc read) (part doc k)) j 0) ≡ true
        go true e = plain_node (sort_at (part doc k) j) _ e
        go false e = ap (plain_ok (sort_at (part doc k) j)) (plain_word (new_number doc read) (part doc k) j a b e) ∙ every_at (plain_at (part doc k)) 1 (length (part doc k) - 1) s.plain j a (omega arith)

    lower_new : (j : ℕ) → 1 ≤ j → j < length (part doc k) → lower_at (canonical doc read) (new_number doc read k) (map_row (new_number doc read) (part doc k)) j ≡ true
    lower_new j a b =
        ap (λ t. lower_ok (canonical doc read) (new_number doc read k) t (get_or (map_row (new_number doc read) (part doc k)) j 0)) (sort_same (new_number doc read) (part doc k) j)
        ∙ go (is_node_sort (sort_at (part doc k) j)) refl
      where
        t : ℕ
        t = sort_at (part doc k) j

        x : ℕ
        x = get_or (part doc k) j 0

        go : (c : Bool) → is_node_sort (sort_at (part doc k) j) ≡ c
            → (let y = get_or (map_row (new_number doc read) (part doc k)) j 0 in cond c (leb 1 y && (ltb y (new_number doc read k) && of_sort (sort_at (part doc k) j) (kind_at (canonical doc read) y))) true ≡ true)
        go true e =
            let o = operand doc k j s a b e in
            let r = new_range doc read x o.some (omega (arith, o.below)) in
            let h = child_new doc read k x p q (place_child doc k j a b e) in
            ap (λ y. leb 1 y && (ltb y (new_number doc read k) && of_sort t (kind_at (canonical doc read) y))) (node_word (new_number doc read) (part doc k) j a b e)
            ∙ rw (le-leb 1 (new_number doc read x) r.0, lt-ltb (new_number doc read x) (new_number doc read k) h) (ap (of_sort t) (kind_new x o.some (omega (arith, o.below))) ∙ o.sort)
        go false e = refl

    pub sound_new : Sound (canonical doc read) (new_number doc read k)
    sound_new =
        let f = new_number doc read in
        let v = part doc k in
        let e = part_new doc read k p q in
        let n = row_length f v in
        record {
          listed = ap listed (kind_new k p q) ∙ s.listed;
          counted = ap count_ok e ∙ count_ok_lem f v long two_plain s.counted;
          plain = ap plain_words e ∙ every_of (plain_at (map_row f v)) 1 (length (map_row f v) - 1) (λ j a b. plain_new j a (omega (arith, n, long)));
          lower = ap (lower_nodes (canonical doc read) (f k)) e ∙ every_of (lower_at (canonical doc read) (f k) (map_row f v)) 1 (length (map_row f v) - 1) (λ j a b. lower_new j a (omega (arith, n, long)));
        }

    -- 15
    kind_one : eqb (kind_at doc k) 1 ≡ eqb k (count doc)
    unfolding use_number
    kind_one = go (ℕ_discrete k (count doc))
      where
        go : Dec (k ≡ count doc) → eqb (kind_at doc k) 1 ≡ eqb k (count doc)
        go (yes e) = ap (λ z. eqb (kind_at doc z) 1) e ∙ ap (λ z. eqb z 1) (last_document doc d) ∙ sym (eq-eqb k (count doc) e)
        go (no n) =
            let l : k < count doc = below_other k (count doc) q n in
            let u : use_number doc k ≡ 0 = d.used k p q in
            not_one_lem (eqb (kind_at doc k) 1) (cond_zero (eqb (uses doc k) 1) _ 15 (omega arith) (unfold use_number in (rw (lt-ltb k (count doc) l) at u))).1 ∙ sym (ne_eqb k (count doc) n)
          where
            not_one_lem : (b : Bool) → ◌≡◌ {A = ℕ} (cond b 15 0) 0 → b ≡ false
            not_one_lem true e = absurd (omega (arith, e))
            not_one_lem false e = refl

    pub used_new : use_number (canonical doc read) (new_number doc read k) ≡ 0
    unfolding use_number
    used_new =
        let f = new_number doc read in
        let c = canonical doc read in
        ap₂ (λ m z. cond (ltb (f k) m) (cond (eqb (uses c (f k)) 1) (cond (eqb z 1) 15 0) 15) (cond (eqb z 1) 0 15)) (count_same doc read) (kind_new k p q)
        ∙ ap₂ (λ u b. cond (ltb (f k) (count doc)) (cond (eqb u 1) (cond b 15 0) 15) (cond b 0 15)) (uses_new k p q) kind_one
        ∙ go (ℕ_discrete k (count doc))
      where
        go : Dec (k ≡ count doc) → ◌≡◌ {A = ℕ} (cond (ltb (new_number doc read k) (count doc)) (cond (eqb (uses doc k) 1) (cond (eqb k (count doc)) 15 0) 15) (cond (eqb k (count doc)) 0 15)) 0
        go (yes e) =
            let h : new_number doc read k ≡ count doc = ap (new_number doc read) e ∙ last_new doc read in
            rw (le-ltb (new_number doc read k) (count doc) (omega (arith, h)), eq-eqb k (count doc) e) refl
        go (no n) =
            let r = new_range doc read k p q in
            let x : new_number doc read k ≡ count doc → ⊥ = λ z. n (new_injective doc read k (count doc) (z ∙ sym (last_new doc read))) in
            let l : new_number doc read k < count doc = below_other (new_number doc read k) (count doc) r.1 x in
            let m : k < count doc = below_other k (count doc) q n in
            rw (lt-ltb (new_number doc read k) (count doc) l, ne_eqb k (count doc) n, eq-eqb (uses doc k) 1 (used_once doc d k p m)) refl
