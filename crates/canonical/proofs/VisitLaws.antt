-- A node visited, operand by operand.
use mathlib.Core.Path.{◌≡◌, refl, sym, ap, ap₂, ◌∙◌, subst}
use mathlib.Core.Bool.{true, false, cond}
use mathlib.Core.List.{List, [], ◌∷◌, ◌++◌}
use Prim.Native.Nat.{ℕ, suc, ◌+◌, ◌-◌, ◌≤◌, ◌<◌}
use native.Mathlib.Omega.{arith}
use lib.ListN.{length, get_or, set, length-append}
use lib.Seq.{sets}
use Rattle.words.proofs.Lists.{sets_append}
use Rattle.words.proofs.Loops.{turn, none_left_lem}
use Rattle.layout.specs.Layout.{part}
use Rattle.reader_rules.specs.Kinds.{sort_at, is_node_sort}
use Rattle.reader_rules.specs.Nodes.{nodes_among, children}
use Rattle.reader_rules.specs.Below.{flat, numbers_at}
use Rattle.reader_rules.proofs.Accepted.{readable, operand}
use Rattle.reader_rules.proofs.TreeChildren.{numbers_at_lem}
use Rattle.canonical.specs.Order.{Visit}

-- the numbers at and below the operands of w that are nodes, from operand i to operand n
unfoldable pub numbers_from : List ℕ → List ℕ → ℕ → ℕ → List ℕ
numbers_from doc w n i = flat (numbers_at doc) (nodes_among w i (n + 1 - i))

from_next : (doc w : List ℕ) (n i : ℕ) → i < n + 1
    → numbers_from doc w n i ≡ flat (numbers_at doc) (cond (is_node_sort (sort_at w i)) (get_or w i 0 ∷ nodes_among w (suc i) (n + 1 - (i + 1))) (nodes_among w (suc i) (n + 1 - (i + 1))))
unfolding numbers_from nodes_among
from_next doc w n i l = ap (λ m. flat (numbers_at doc) (nodes_among w i m)) (turn (n + 1) i l)

-- Operands from i on are to be visited, their numbers from `end` on: `whole` is the table with all of them, up to `last`.
pub record Left (doc w : List ℕ) (n i end : ℕ) (order whole : List ℕ) (last : ℕ) : Type 0 where
  pub left : whole ≡ sets order end (numbers_from doc w n i)
  pub ends : last ≡ end + length (numbers_from doc w n i)

module _ (doc w : List ℕ) (n i end : ℕ) (order whole : List ℕ) (last : ℕ) (l : i < n + 1) (h : Left doc w n i end order whole last) where
  pub left_plain : is_node_sort (sort_at w i) ≡ false → Left doc w n (i + 1) end order whole last
  unfolding numbers_from
  left_plain e =
      let s : suc i ≡ i + 1 = omega arith in
      let q : numbers_from doc w n i ≡ numbers_from doc w n (i + 1) = from_next doc w n i l ∙ rw (e, s) refl in
      record { left = h.left ∙ ap (sets order end) q; ends = h.ends ∙ ap (λ x. end + length x) q }

  module _ (v : ℕ) (e : is_node_sort (sort_at w i) ≡ true) (g : v ≡ get_or w i 0) where
    node_first : numbers_from doc w n i ≡ numbers_at doc v ++ numbers_from doc w n (i + 1)
    unfolding numbers_from flat
    node_first = let s : suc i ≡ i + 1 = omega arith in from_next doc w n i l ∙ rw (e, s, ← g) refl

    -- the node is visited: the table and where its numbers end are then
    pub left_node : (next : List ℕ) (to : ℕ) → next ≡ sets order end (numbers_at doc v) → to ≡ end + length (numbers_at doc v) → Left doc w n (i + 1) to next whole last
    left_node next to p q =
        let a = ap length node_first ∙ length-append (numbers_at doc v) (numbers_from doc w n (i + 1)) in
        let b = h.ends in
        record {
          left =
              h.left
              ∙ ap (sets order end) node_first
              ∙ sets_append order end (numbers_at doc v) (numbers_from doc w n (i + 1))
              ∙ ap₂ (λ l j. sets l j (numbers_from doc w n (i + 1))) (sym p) (sym q);
          ends = omega (arith, a, b, q);
        }

    pub node_room : end + length (numbers_at doc v) ≤ last
    node_room =
        let a = ap length node_first ∙ length-append (numbers_at doc v) (numbers_from doc w n (i + 1)) in
        let b = h.ends in
        omega (arith, a, b)

pub left_end : (doc w : List ℕ) (n i end : ℕ) (order whole : List ℕ) (last : ℕ) → n + 1 ≤ i → Left doc w n i end order whole last → (order ≡ whole) × (end ≡ last)
unfolding numbers_from nodes_among flat
left_end doc w n i end order whole last l h =
    let e : numbers_from doc w n i ≡ [] = ap (λ m. flat (numbers_at doc) (nodes_among w i m)) (none_left_lem (n + 1) i l) in
    (sym (h.left ∙ ap (sets order end) e), sym (h.ends ∙ ap (λ x. end + length x) e ∙ nothing end))
  where
    nothing : (end : ℕ) → end + 0 ≡ end
    nothing end = omega arith

-- at the first operand
pub left_start : (doc w : List ℕ) (n at : ℕ) (order : List ℕ) → Left doc w n 1 at order (sets order at (numbers_from doc w n 1)) (at + length (numbers_from doc w n 1))
left_start doc w n at order = record { left = refl; ends = refl }

-- A node of a readable document.
module _ (doc : List ℕ) (k at : ℕ) (v : Visit doc k at) (w : List ℕ) (e : w ≡ part doc k) (n : ℕ) (c : n ≡ length w - 1) where
  pub whole_node : numbers_at doc k ≡ numbers_from doc w n 1 ++ (k ∷ [])
  unfolding numbers_from children
  whole_node =
      numbers_at_lem doc k ((readable doc v.read).nodes.node k v.some v.most)
      ∙ ap₂ (λ x m. flat (numbers_at doc) (nodes_among x 1 m) ++ (k ∷ [])) (sym e) (ap (λ x. length x - 1) (sym e) ∙ sym c ∙ one_less n)
    where
      one_less : (n : ℕ) → n ≡ n + 1 - 1
      one_less n = omega arith

  pub visit_length : length (numbers_at doc k) ≡ length (numbers_from doc w n 1) + 1
  visit_length = ap length whole_node ∙ length-append (numbers_from doc w n 1) (k ∷ [])

  -- an operand that is a node may be visited
  pub operand_visit : (i end last : ℕ) (order whole : List ℕ) → 1 ≤ i → i < n + 1 → Left doc w n i end order whole last → last ≡ at + length (numbers_from doc w n 1)
      → (x : ℕ) → is_node_sort (sort_at w i) ≡ true → x ≡ get_or w i 0 → (x < k) × Visit doc x end
  operand_visit i end last order whole p q h t x s g =
      let m = ap length e in
      let s' : is_node_sort (sort_at (part doc k) i) ≡ true = subst (λ y. is_node_sort (sort_at y i) ≡ true) e s in
      let o = operand doc k i ((readable doc v.read).nodes.node k v.some v.most) p (omega (arith, m, q, c)) s' in
      let g' : x ≡ get_or (part doc k) i 0 = g ∙ ap (λ y. get_or y i 0) e in
      let r = node_room doc w n i end order whole last q h x s g in
      let b = o.below in
      let y = o.some in
      let z = visit_length in
      let u = v.room in
      let j = v.most in (
        omega (arith, g', b),
        record { read = v.read; some = omega (arith, g', y); most = omega (arith, g', b, j); room = omega (arith, r, t, z, u) },
      )

  -- the table when the node itself is written
  pub visited : (order last : List ℕ) (end : ℕ) → last ≡ sets order at (numbers_from doc w n 1) → end ≡ at + length (numbers_from doc w n 1)
      → (set last end k ≡ sets order at (numbers_at doc k)) × (end + 1 ≡ at + length (numbers_at doc k))
  visited order last end p q = (
    ap₂ (λ l j. set l j k) p q ∙ sym (sets_append order at (numbers_from doc w n 1) (k ∷ [])) ∙ ap (sets order at) (sym whole_node),
    let z = visit_length in omega (arith, q, z),
  )
