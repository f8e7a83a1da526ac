-- The canonical words of a readable document are laid out (11), and parents and ancestors go with the new numbers.
use mathlib.Core.Path.{◌≡◌, refl, ap, ap₂, sym, ◌∙◌, subst}
use mathlib.Core.Bool.{Bool, true, false, cond, ◌&&◌}
use mathlib.Core.List.{List, [], ◌∷◌, map}
use Prim.Native.Nat.{ℕ, zero, suc, ◌+◌, ◌-◌, ◌≤◌, ◌<◌}
use native.Mathlib.Omega.{arith}
use native.Mathlib.Decide.{dec_lt, ℕ_discrete}
use lib.Dec.{leb, eqb}
use lib.ListN.{length, get_or, take, drop, drop_of_length-le}
use lib.Seq.{drop-cons}
use borrow.Author.Tests.{eqb-true, eqb-false, eq-eqb, ne_eqb, leb-true}
use Rattle.words.specs.Loops.{has}
use Rattle.words.proofs.Loops.{and_left, and_right}
use Rattle.words.proofs.Lists.{take_rest}
use Rattle.layout.specs.Layout.{count, part, laid_out}
use Rattle.layout.proofs.Laws.{part_zero, laid}
use Rattle.reader_rules.specs.Kinds.{cell, sort_in, sort_at, between, is_node_sort, identifiers}
use Rattle.reader_rules.specs.Nodes.{document_form, kind_at, operand_at, children, parent, above}
use Rattle.reader_rules.specs.Repeats.{first_operand, declared, is_axiom_decl, globals, declared_in, parameters, schemas}
use Rattle.reader_rules.specs.Reading.{read_of}
use Rattle.reader_rules.specs.Refusals.{Readable}
use Rattle.reader_rules.specs.Decode.{tree_of}
use Rattle.reader_rules.proofs.Accepted.{Sound, Nodes, Document, readable, used_once, last_document, some_words}
use Rattle.reader_rules.proofs.Occurrences.{AllIn, all_in_has}
use Rattle.reader_rules.proofs.TreeShape.{all_at}
use Rattle.reader_rules.proofs.TreeAmong.{same_sort, no_node}
use Rattle.reader_rules.proofs.Parents.{parent_some, parent_only, parent_most, parent_rises}
use Rattle.canonical_rules.specs.Numbered.{number_document}
use Rattle.canonical_rules.specs.RowMap.{map_row}
use Rattle.layout.specs.Rows.{lay_out}
use Rattle.canonical_rules.specs.Canonical.{document_rows, canonical_of}
use Rattle.canonical_rules.proofs.Lists.{has_map}
use Rattle.canonical_rules.proofs.RowMaps.{row_length}
use Rattle.layout.proofs.LaidRows.{Long, rows_laid}
use Rattle.canonical_rules.proofs.CanonicalParts.{old_nodes, new_number, canonical, node_range, new_range, every_new, new_injective, canonical_rows, rows_counted, count_same, part_new, length_same}
use Rattle.canonical_rules.proofs.CanonicalNodes.{below_other, plain_word, kind_new, children_new, uses_new, sound_new, three, two_plain, defined_long, new_some}
use Rattle.canonical_rules.proofs.ChildrenFirst.{last_new}

at_least_one : (n : ℕ) → (n ≡ 0 → ⊥) → 1 ≤ n
at_least_one n z = omega arith

long_map : (F : ℕ → List ℕ) (l : List ℕ) → AllIn (λ k. 1 ≤ length (F k)) l → Long 1 (map F l)
long_map F [] h = tt
long_map F (x ∷ l) h = (h.0, long_map F l h.1)

-- plain words of a row, by place
pub slice_plain : (f : ℕ → ℕ) (v : List ℕ) (m i : ℕ) → 1 ≤ i → ((j : ℕ) → i ≤ j → j < i + m → j < length v → is_node_sort (sort_at v j) ≡ false) → take m (drop i (map_row f v)) ≡ take m (drop i v)
slice_plain f v zero i p h = refl
slice_plain f v (suc m) i p h = go (λ z. slice_plain f v m (suc i) (omega arith) z) (dec_lt i (length v))
  where
    go : (((j : ℕ) → suc i ≤ j → j < suc i + m → j < length v → is_node_sort (sort_at v j) ≡ false) → take m (drop (suc i) (map_row f v)) ≡ take m (drop (suc i) v)) → Dec (i < length v)
        → take (suc m) (drop i (map_row f v)) ≡ take (suc m) (drop i v)
    go r (yes l) =
        let n = row_length f v in
        ap (take (suc m)) (drop-cons (map_row f v) i 0 (omega (arith, n, l)))
        ∙ ap₂ (λ x y. x ∷ y) (plain_word f v i p l (h i (omega arith) (omega arith) l)) (r (λ j a b c. h j (omega arith) (omega arith) c))
        ∙ ap (take (suc m)) (sym (drop-cons v i 0 l))
    go r (no l) =
        let n = row_length f v in
        ap (take (suc m)) (drop_of_length-le (map_row f v) {i = i} (omega (arith, n, l)) ∙ sym (drop_of_length-le v {i = i} (omega (arith, l))))

pub drop_plain : (f : ℕ → ℕ) (v : List ℕ) (i : ℕ) → 1 ≤ i → ((j : ℕ) → i ≤ j → j < length v → is_node_sort (sort_at v j) ≡ false) → drop i (map_row f v) ≡ drop i v
drop_plain f v i p h =
    sym (take_rest (map_row f v) i) ∙ ap (λ n. take n (drop i (map_row f v))) (row_length f v) ∙ slice_plain f v (length v) i p (λ j a b c. h j a c) ∙ take_rest v i

given_plain : (n a j : ℕ) → is_node_sort (sort_in 2 n a j) ≡ false
unfolding sort_in cell
given_plain n a j = ap is_node_sort (same_sort (eqb j n) (eqb j 1) (eqb j 2) identifiers)

decl_plain : (n a j : ℕ) → 2 ≤ j → is_node_sort (sort_in 11 n a j) ≡ false
unfolding sort_in cell
decl_plain n a j p = rw (ne_eqb j 1 (λ z. omega arith)) (ap is_node_sort (same_sort (eqb j n) false (eqb j 2) identifiers))

defined_plain : (q n a j : ℕ) → 4 ≤ q → q ≤ 5 → (j ≡ n → ⊥) → is_node_sort (sort_in q n a j) ≡ false
defined_plain q n a j l u z = all_at (λ q. is_node_sort (sort_in q n a j) ≡ false) 4 2 (at4, (at5, tt)) q l (omega arith)
  where
    at4 : is_node_sort (sort_in 4 n a j) ≡ false
    at4 = unfold sort_in cell in rw (ne_eqb j n z) (no_node (eqb j 1) (eqb j 2) 2 5 1 refl refl refl)

    at5 : is_node_sort (sort_in 5 n a j) ≡ false
    at5 = unfold sort_in cell in rw (ne_eqb j n z) (no_node (eqb j 1) (eqb j 2) 1 5 1 refl refl refl)

pub cond_cong : {A : Type 0} (b : Bool) {x x' y y' : A} → (b ≡ true → x ≡ x') → (b ≡ false → y ≡ y') → cond b x y ≡ cond b x' y'
cond_cong true p q = p refl
cond_cong false p q = q refl

module _ (doc : List ℕ) (read : read_of doc ≡ Readable) where
  d : Document doc
  d = readable doc read

  -- 11
  pub laid_new : laid_out document_form (canonical doc read) ≡ true
  unfolding canonical_of
  laid_new =
      let F : ℕ → List ℕ = λ k. map_row (new_number doc read) (part doc k) in
      let ws = document_rows (number_document (tree_of doc)) in
      let n = rows_counted doc read in
      let l = d.nodes.laid in
      let some = l.some in
      let few = l.few in
      let short = l.short in
      let e : length (lay_out ws) ≡ length doc = length_same doc read in
      rows_laid document_form ws
      (subst (Long 1) (sym (canonical_rows doc read)) (long_map F (old_nodes doc read)
      (all_in_has (λ k. 1 ≤ length (F k)) (old_nodes doc read) (λ k h. let r = node_range doc read k h in let m = some_words doc k l r.0 r.1 in let y = row_length (new_number doc read) (part doc k) in omega (arith, m, y)))))
      (omega (arith, n, some)) (omega (arith, n, few)) (omega (arith, e, short))

  pub nodes_new : Nodes (canonical doc read)
  nodes_new =
      record {
        laid = laid document_form (canonical doc read) laid_new;
        node = λ i p q.
            let o = every_new doc read i p (subst (λ z. i ≤ z) (count_same doc read) q) in
            subst (λ z. Sound (canonical doc read) z) o.new (sound_new doc read o.old o.some o.most);
      }

  -- parents: 0 stays, and a node goes to its new number
  unfoldable pub new_parent : ℕ → ℕ
  new_parent p = cond (eqb p 0) 0 (new_number doc read p)

  pub parent_zero : (p : ℕ) → p ≡ 0 → new_parent p ≡ 0
  unfolding new_parent
  parent_zero p e = ap (λ b. cond b 0 (new_number doc read p)) (eq-eqb p 0 e)

  pub parent_node : (p : ℕ) → 1 ≤ p → new_parent p ≡ new_number doc read p
  unfolding new_parent
  parent_node p h = ap (λ b. cond b 0 (new_number doc read p)) (ne_eqb p 0 (λ z. omega arith))

  no_parent : (doc : List ℕ) → Nodes doc → (k : ℕ) → k ≡ count doc → parent doc k ≡ 0
  no_parent doc n k e = go (ℕ_discrete (parent doc k) 0)
    where
      go : Dec (parent doc k ≡ 0) → parent doc k ≡ 0
      go (yes z) = z
      go (no z) = let a = parent_rises doc n k z in let b = parent_most doc k in absurd (omega (arith, a, b, e))

  module _ (k : ℕ) (p : 1 ≤ k) (q : k ≤ count doc) where
    -- the node above k, where k is not the Document
    pub parent_some_node : k < count doc → (1 ≤ parent doc k) × (parent doc k ≤ count doc)
    parent_some_node l = ((parent_some doc k (used_once doc d k p l)).0, parent_most doc k)

    pub parent_new : parent (canonical doc read) (new_number doc read k) ≡ new_parent (parent doc k)
    parent_new = go (ℕ_discrete k (count doc))
      where
        go : Dec (k ≡ count doc) → parent (canonical doc read) (new_number doc read k) ≡ new_parent (parent doc k)
        go (yes e) =
            no_parent (canonical doc read) nodes_new (new_number doc read k) (ap (new_number doc read) e ∙ last_new doc read ∙ sym (count_same doc read))
            ∙ sym (parent_zero (parent doc k) (no_parent doc d.nodes k e))
        go (no n) =
            let l = below_other k (count doc) q n in
            let u = used_once doc d k p l in
            let s = parent_some doc k u in
            let m = parent_most doc k in
            let r = new_range doc read (parent doc k) s.0 m in
            parent_only (canonical doc read) (new_number doc read k) (uses_new doc read k p q ∙ u) (new_number doc read (parent doc k)) r.0 (subst (λ z. new_number doc read (parent doc k) ≤ z) (sym (count_same doc read)) r.1)
            (ap (has (new_number doc read k)) (children_new doc read (parent doc k) s.0 m) ∙ has_map (new_number doc read) (new_injective doc read) k (children doc (parent doc k)) ∙ s.1)
            ∙ sym (parent_node (parent doc k) s.0)

    pub kind_above : kind_at (canonical doc read) (new_parent (parent doc k)) ≡ kind_at doc (parent doc k)
    kind_above = go (ℕ_discrete (parent doc k) 0)
      where
        go : Dec (parent doc k ≡ 0) → kind_at (canonical doc read) (new_parent (parent doc k)) ≡ kind_at doc (parent doc k)
        go (yes z) =
            ap (kind_at (canonical doc read)) (parent_zero (parent doc k) z) ∙ ap (λ w. get_or w 0 0) (part_zero (canonical doc read) ∙ sym (part_zero doc)) ∙ ap (kind_at doc) (sym z)
        go (no z) = let h = at_least_one (parent doc k) z in ap (kind_at (canonical doc read)) (parent_node (parent doc k) h) ∙ kind_new doc read (parent doc k) h (parent_most doc k)

  -- ancestors
  pub above_new : (n k : ℕ) → 1 ≤ k → k ≤ count doc → above (canonical doc read) n (new_number doc read k) ≡ map (new_number doc read) (above doc n k)
  unfolding above
  above_new zero k p q = refl
  above_new (suc n) k p q = ap (λ z. cond (eqb z 0) [] (z ∷ above (canonical doc read) n z)) (parent_new k p q) ∙ go (λ j a b. above_new n j a b) (ℕ_discrete (parent doc k) 0)
    where
      go : ((j : ℕ) → 1 ≤ j → j ≤ count doc → above (canonical doc read) n (new_number doc read j) ≡ map (new_number doc read) (above doc n j)) → Dec (parent doc k ≡ 0)
          → (let z = new_parent (parent doc k) in cond (eqb z 0) [] (z ∷ above (canonical doc read) n z) ≡ map (new_number doc read) (cond (eqb (parent doc k) 0) [] (parent doc k ∷ above doc n (parent doc k))))
      go r (yes e) = rw (parent_zero (parent doc k) e, eq-eqb (parent doc k) 0 e) refl
      go r (no e) =
          let h = at_least_one (parent doc k) e in
          let x = new_range doc read (parent doc k) h (parent_most doc k) in
          rw (parent_node (parent doc k) h, ne_eqb (new_number doc read (parent doc k)) 0 (λ z. omega (arith, x, z)), ne_eqb (parent doc k) 0 e) (ap (λ l. new_number doc read (parent doc k) ∷ l) (r (parent doc k) h (parent_most doc k)))

  pub above_range : (n k : ℕ) → AllIn (λ a. (1 ≤ a) × (a ≤ count doc)) (above doc n k)
  unfolding above
  above_range zero k = tt
  above_range (suc n) k = go (eqb (parent doc k) 0) refl (above_range n (parent doc k))
    where
      go : (b : Bool) → eqb (parent doc k) 0 ≡ b → AllIn (λ a. (1 ≤ a) × (a ≤ count doc)) (above doc n (parent doc k)) → AllIn (λ a. (1 ≤ a) × (a ≤ count doc)) (cond b [] (parent doc k ∷ above doc n (parent doc k)))
      go true e r = tt
      go false e r = ((at_least_one (parent doc k) (eqb-false (parent doc k) 0 e), parent_most doc k), r)

  -- WHAT A NODE WRITES is what its new number writes.
  module _ (k : ℕ) (p : 1 ≤ k) (q : k ≤ count doc) where
    plain_from : (i : ℕ) → 1 ≤ i → ((j : ℕ) → i ≤ j → is_node_sort (sort_at (part doc k) j) ≡ false) → drop i (part (canonical doc read) (new_number doc read k)) ≡ drop i (part doc k)
    plain_from i a h = ap (drop i) (part_new doc read k p q) ∙ drop_plain (new_number doc read) (part doc k) i a (λ j b c. h j b)

    first_new : between 4 (kind_at doc k) 5 ≡ true → first_operand (canonical doc read) (new_number doc read k) ≡ first_operand doc k
    first_new e =
        let l : 4 ≤ kind_at doc k = leb-true 4 (kind_at doc k) (and_left (leb 4 (kind_at doc k)) _ e) in
        let u : kind_at doc k ≤ 5 = leb-true (kind_at doc k) 5 (and_right (leb 4 (kind_at doc k)) _ e) in
        let t = three doc read k p q e in
        ap (λ w. take 1 (drop 1 w)) (part_new doc read k p q)
        ∙ slice_plain (new_number doc read) (part doc k) 1 1 (omega arith) (λ j a b c. defined_plain (kind_at doc k) (length (part doc k) - 1) (get_or (part doc k) 3 0) j l u (λ z. omega (arith, t, z)))

    declared_new : kind_at doc k ≡ 11 → declared (canonical doc read) (new_number doc read k) ≡ declared doc k
    declared_new e = plain_from 2 (omega arith) (λ j a. ap (λ r. is_node_sort (sort_in r (length (part doc k) - 1) (get_or (part doc k) 3 0) j)) e ∙ decl_plain (length (part doc k) - 1) (get_or (part doc k) 3 0) j a)

    -- a Decl is no Document
    pub decl_lower : kind_at doc k ≡ 11 → k < count doc
    decl_lower e = go (ℕ_discrete k (count doc))
      where
        go : Dec (k ≡ count doc) → k < count doc
        go (yes z) = let x = last_document doc d in let y : kind_at doc k ≡ 1 = ap (kind_at doc) z ∙ x in absurd (omega (arith, e, y))
        go (no z) = omega arith

    axiom_new : is_axiom_decl (canonical doc read) (new_number doc read k) ≡ is_axiom_decl doc k
    unfolding is_axiom_decl
    axiom_new = ap (λ z. eqb z 11 && eqb (kind_at (canonical doc read) (parent (canonical doc read) (parent (canonical doc read) (new_number doc read k)))) 3) (kind_new doc read k p q) ∙ go (eqb (kind_at doc k) 11) refl
      where
        go : (b : Bool) → eqb (kind_at doc k) 11 ≡ b → (b && eqb (kind_at (canonical doc read) (parent (canonical doc read) (parent (canonical doc read) (new_number doc read k)))) 3) ≡ (b && eqb (kind_at doc (parent doc (parent doc k))) 3)
        go false e = refl
        go true e =
            let l = decl_lower (eqb-true (kind_at doc k) 11 e) in
            let r = parent_some_node k p q l in
            ap (λ z. eqb z 3)
            (ap (λ z. kind_at (canonical doc read) (parent (canonical doc read) z)) (parent_new k p q ∙ parent_node (parent doc k) r.0)
            ∙ ap (kind_at (canonical doc read)) (parent_new (parent doc k) r.0 r.1)
            ∙ kind_above (parent doc k) r.0 r.1)

    pub globals_new : globals (canonical doc read) (new_number doc read k) ≡ globals doc k
    unfolding globals
    globals_new =
        ap₂ (λ z b. cond (eqb z 2) (drop 1 (part (canonical doc read) (new_number doc read k))) (cond (eqb z 5) (first_operand (canonical doc read) (new_number doc read k)) (cond b (declared (canonical doc read) (new_number doc read k)) []))) (kind_new doc read k p q) axiom_new
        ∙ cond_cong (eqb (kind_at doc k) 2)
        (λ e. plain_from 1 (omega arith) (λ j a. ap (λ r. is_node_sort (sort_in r (length (part doc k) - 1) (get_or (part doc k) 3 0) j)) (eqb-true (kind_at doc k) 2 e) ∙ given_plain (length (part doc k) - 1) (get_or (part doc k) 3 0) j))
        (λ n. cond_cong (eqb (kind_at doc k) 5)
        (λ e. first_new (ap (λ z. between 4 z 5) (eqb-true (kind_at doc k) 5 e)))
        (λ m. cond_cong (is_axiom_decl doc k) (λ e. declared_new (axiom_kind e)) (λ y. refl)))
      where
        axiom_kind : is_axiom_decl doc k ≡ true → kind_at doc k ≡ 11
        axiom_kind e = unfold is_axiom_decl in eqb-true (kind_at doc k) 11 (and_left (eqb (kind_at doc k) 11) _ e)

    pub schemas_new : schemas (canonical doc read) (new_number doc read k) ≡ schemas doc k
    unfolding schemas
    schemas_new =
        ap (λ z. cond (eqb z 4) (first_operand (canonical doc read) (new_number doc read k)) []) (kind_new doc read k p q)
        ∙ cond_cong (eqb (kind_at doc k) 4) (λ e. first_new (ap (λ z. between 4 z 5) (eqb-true (kind_at doc k) 4 e))) (λ n. refl)

    pub parameters_new : parameters (canonical doc read) (new_number doc read k) ≡ parameters doc k
    unfolding parameters
    parameters_new =
        ap (λ z. cond (between 4 z 5) (take (operand_at (canonical doc read) (new_number doc read k) 2) (drop 3 (part (canonical doc read) (new_number doc read k)))) []) (kind_new doc read k p q)
        ∙ cond_cong (between 4 (kind_at doc k) 5) both (λ n. refl)
      where
        both : between 4 (kind_at doc k) 5 ≡ true → take (operand_at (canonical doc read) (new_number doc read k) 2) (drop 3 (part (canonical doc read) (new_number doc read k))) ≡ take (operand_at doc k 2) (drop 3 (part doc k))
        both e =
            let l : 4 ≤ kind_at doc k = leb-true 4 (kind_at doc k) (and_left (leb 4 (kind_at doc k)) _ e) in
            let u : kind_at doc k ≤ 5 = leb-true (kind_at doc k) 5 (and_right (leb 4 (kind_at doc k)) _ e) in
            let t = defined_long doc read k p q e in
            ap (λ w. take (get_or w 2 0) (drop 3 w)) (part_new doc read k p q)
            ∙ ap (λ n. take n (drop 3 (map_row (new_number doc read) (part doc k)))) (two_plain doc read k p q e)
            ∙ slice_plain (new_number doc read) (part doc k) (operand_at doc k 2) 3 (omega arith) (λ j a b c. defined_plain (kind_at doc k) (length (part doc k) - 1) (get_or (part doc k) 3 0) j l u (λ z. omega (arith, t, z)))

    -- the Decls of a Text t, which is a node or 0
    pub declared_in_new : (t : ℕ) → declared_in (canonical doc read) (new_parent t) (new_number doc read k) ≡ declared_in doc t k
    unfolding declared_in
    declared_in_new t =
        ap (λ z. cond (eqb z 11 && eqb (parent (canonical doc read) (new_number doc read k)) (new_parent t)) (declared (canonical doc read) (new_number doc read k)) []) (kind_new doc read k p q)
        ∙ go (eqb (kind_at doc k) 11) refl
      where
        same : (a b : ℕ) → 1 ≤ a → eqb (new_parent a) (new_parent b) ≡ eqb a b
        same a b l = test (ℕ_discrete a b)
          where
            test : Dec (a ≡ b) → eqb (new_parent a) (new_parent b) ≡ eqb a b
            test (yes e) = eq-eqb (new_parent a) (new_parent b) (ap new_parent e) ∙ sym (eq-eqb a b e)
            test (no n) = ne_eqb (new_parent a) (new_parent b) (λ z. n (apart (ℕ_discrete b 0) z)) ∙ sym (ne_eqb a b n)
              where
                apart : Dec (b ≡ 0) → new_parent a ≡ new_parent b → a ≡ b
                apart (yes y) z = let w : new_number doc read a ≡ 0 = sym (parent_node a l) ∙ z ∙ parent_zero b y in absurd (new_some doc read a w)
                apart (no y) z = new_injective doc read a b (sym (parent_node a l) ∙ z ∙ parent_node b (at_least_one b y))

        go : (c : Bool) → eqb (kind_at doc k) 11 ≡ c → cond (c && eqb (parent (canonical doc read) (new_number doc read k)) (new_parent t)) (declared (canonical doc read) (new_number doc read k)) [] ≡ cond (c && eqb (parent doc k) t) (declared doc k) []
        go false e = refl
        go true e =
            let h = eqb-true (kind_at doc k) 11 e in
            let r = parent_some_node k p q (decl_lower h) in
            ap₂ (λ b l. cond b l []) (ap (λ z. eqb z (new_parent t)) (parent_new k p q) ∙ same (parent doc k) t r.0) (declared_new h)
