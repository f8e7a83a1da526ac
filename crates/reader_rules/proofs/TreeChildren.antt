-- The nodes of a readable document, each with those below it: every node stands once below the last.
use mathlib.Core.Path.{◌≡◌, refl, ap, ◌∙◌}
use mathlib.Core.Bool.{Bool, true, false, ◌&&◌, cond}
use mathlib.Core.List.{List, [], ◌∷◌, ◌++◌}
use Prim.Native.Nat.{ℕ, zero, suc, ◌+◌, ◌*◌, ◌-◌, ◌≤◌, ◌<◌}
use native.Mathlib.Omega.{arith}
use native.Mathlib.Decide.{dec_le}
use native.Mathlib.Nat.{one-mul}
use lib.Dec.{leb, ltb, eqb}
use lib.ListN.{length, get_or}
use borrow.Author.Tests.{leb-true, ltb-true, eq-eqb, ne_eqb, lt-ltb, le-leb, lt-leb}
use Rattle.words.proofs.Lists.{occurrences_append}
use Rattle.words.specs.Loops.{every, total, joined, occurrences}
use Rattle.words.proofs.Loops.{and_left, and_right}
use Rattle.layout.specs.Layout.{count, part}
use Rattle.reader_rules.specs.Kinds.{is_node_sort, sort_at, of_sort, between}
use Rattle.reader_rules.specs.Nodes.{kind_at, nodes_among, children, uses}
use Rattle.reader_rules.specs.Findings.{lower_at}
use Rattle.reader_rules.specs.LowerNodes.{lower}
use Rattle.reader_rules.specs.Below.{flat, numbers_at}
use Rattle.reader_rules.proofs.LowerNodes.{meaning_eq}
use Rattle.reader_rules.proofs.Accepted.{Sound, Document, used_once}
use Rattle.reader_rules.proofs.Occurrences.{AllIn, all_in_joined, all_in_map, sum_of, flat_same, occurrences_flat}
use Rattle.reader_rules.proofs.Occurrences.{sum_joined, total_same, total_add, total_last, total_none, total_one, sum_count}

abbrev Below : ℕ → ℕ → Type 0
Below k v = (1 ≤ v) × (v < k)

among_below : (doc : List ℕ) (k : ℕ) (w : List ℕ) (i m : ℕ) → every (lower_at doc k w) i m ≡ true → AllIn (Below k) (nodes_among w i m)
unfolding every nodes_among
among_below doc k w i zero e = tt
among_below doc k w i (suc m) e =
    go (is_node_sort (sort_at w i)) (and_left (lower_at doc k w i) _ e) (among_below doc k w (suc i) m (and_right (lower_at doc k w i) _ e))
  where
    v : ℕ
    v = get_or w i 0

    go : (b : Bool) → cond b (leb 1 v && (ltb v k && of_sort (sort_at w i) (kind_at doc v))) true ≡ true → AllIn (Below k) (nodes_among w (suc i) m)
        → AllIn (Below k) (cond b (v ∷ nodes_among w (suc i) m) (nodes_among w (suc i) m))
    go true f h = ((leb-true 1 v (and_left (leb 1 v) _ f), ltb-true v k (and_left (ltb v k) _ (and_right (leb 1 v) _ f))), h)
    go false f h = h

-- the children of a node are lower nodes
children_below : (doc : List ℕ) (k : ℕ) → Sound doc k → AllIn (Below k) (children doc k)
unfolding children
children_below doc k s = among_below doc k (part doc k) 1 (length (part doc k) - 1) s.lower

pub numbers_at_lem : (doc : List ℕ) (k : ℕ) → Sound doc k → numbers_at doc k ≡ flat (numbers_at doc) (children doc k) ++ (k ∷ [])
unfolding numbers_at
numbers_at_lem doc k s =
    meaning_eq [] (λ j sub. flat sub (children doc j) ++ (j ∷ [])) k
    ∙ ap (λ (l : List ℕ). l ++ (k ∷ []))
    (flat_same (lower [] k (numbers_at doc)) (numbers_at doc) (children doc k)
    (all_in_map (Below k) (λ v. lower [] k (numbers_at doc) v ≡ numbers_at doc v) (children doc k) (λ v b. rw (lt-ltb v k b.1)) (children_below doc k s)))

module _ (doc : List ℕ) (d : Document doc) (x : ℕ) where
  -- how often x stands below node k, and at it
  abbrev times : ℕ → ℕ
  times k = occurrences x (numbers_at doc k)

  abbrev mark : ℕ → ℕ
  mark k = cond (eqb k x) 1 0

  abbrev N : ℕ
  N = count doc

  times_at : (k : ℕ) → 1 ≤ k → k ≤ N → times k ≡ sum_of times (children doc k) + mark k
  unfolding occurrences
  times_at k p q =
      rw (numbers_at_lem doc k (d.nodes.node k p q)) (occurrences_append x (flat (numbers_at doc) (children doc k)) (k ∷ []) ∙ rw (occurrences_flat x (numbers_at doc) (children doc k)) (omega arith))

  total_mark : total mark 1 N ≡ cond (between 1 x N) 1 0
  total_mark = go (dec_le 1 x) (dec_le x N)
    where
      go : Dec (1 ≤ x) → Dec (x ≤ N) → total mark 1 N ≡ cond (between 1 x N) 1 0
      go (yes p) (yes q) = total_one mark x 1 N p (omega arith) (λ j n. rw (ne_eqb j x n)) ∙ rw (eq-eqb x x refl, le-leb 1 x p, le-leb x N q)
      go (no p) q = total_none mark 1 N (λ j a b. rw (ne_eqb j x (omega arith))) ∙ rw (lt-leb 1 x (omega arith))
      go (yes p) (no q) = total_none mark 1 N (λ j a b. rw (ne_eqb j x (omega arith))) ∙ rw (le-leb 1 x p, lt-leb x N (omega arith))

  -- the operands of all nodes are all nodes but the last
  used_sum : sum_of times (joined (children doc) 1 N) ≡ total times 1 (N - 1)
  unfolding uses
  used_sum =
      sum_count times J 1 (N - 1)
      (all_in_joined (λ v. (1 ≤ v) × (v < 1 + (N - 1))) (children doc) 1 N
      (λ j p q. all_in_map (Below j) (λ v. (1 ≤ v) × (v < 1 + (N - 1))) (children doc j) (λ v b. (b.0, omega arith)) (children_below doc j (d.nodes.node j p (omega arith)))))
      ∙ total_same (λ v. occurrences v J * times v) times 1 (N - 1) (λ v p q. rw (used_once doc d v p (omega arith)) (one-mul (times v)))
    where
      J : List ℕ
      J = joined (children doc) 1 N

  pub once : occurrences x (numbers_at doc (count doc)) ≡ cond (between 1 x (count doc)) 1 0
  once =
      let a = total_same times (λ k. sum_of times (children doc k) + mark k) 1 N (λ k p q. times_at k p (omega arith)) in
      let b = total_add (λ k. sum_of times (children doc k)) mark 1 N in
      let e = sum_joined times (children doc) 1 N in
      let f = used_sum in
      let g = total_mark in
      let l = total_last times N d.nodes.laid.some in
      omega arith
